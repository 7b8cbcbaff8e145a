use Rattle.std.proofs.Common.{◌<◌, ◌∙◌, length, ap, sym, subst, Some, arith}
use Rattle.std.proofs.lemmas.Option.{get_or_from_slice_get}
use Rattle.listener_set.specs.Numbers.{is_in}
use Rattle.word_runner.proofs.Starting.{HasTaken, gathered-by, taken-above}
use Rattle.word_runner.proofs.standing.started.Goals as goal
use Rattle.word_runner.proofs.standing.started.Goals.{in-Some-start_of+then-nr-lt-WORKER_LIMIT, in-Some-start_of+else-nr-lt-WORKER_LIMIT, in_default-start_of}

pub loop-place-preserved : goal.loop-place-preserved
loop-place-preserved c =
    let ns = c.loop-place.started in
    let entries = c.args.log.now.entries in
    let place = c.loop-place.place in
    let e = c.get.result in
    let within : place < length entries = omega (arith, c.loop-place-test.true, c.len-place-end.ensures.count) in
    let more = c.match-start_of.started in
    gathered-by c.after.inside.generation entries ns more place e c.start_of.result within (sym (get_or_from_slice_get entries place e e c.get.ensures)) c.start_of.ensures
    (elim c.match-start_of.branch [
      | in-Some-start_of+then-nr-lt-WORKER_LIMIT w ↦ subst (λ o. HasTaken o ns more) (sym w.in-Some-start_of.is) (λ k lt. ap (λ xs. is_in xs k) (w.started-is ∙ w.add.ensures))
      | in-Some-start_of+else-nr-lt-WORKER_LIMIT w ↦ subst (λ o. HasTaken o ns more) (sym w.in-Some-start_of.is) (subst (λ xs. HasTaken (Some w.in-Some-start_of.nr) ns xs) (sym w.started-is) (taken-above ns w.in-Some-start_of.nr w.if-nr-lt-WORKER_LIMIT.false))
      | in_default-start_of w ↦ subst (λ o. HasTaken o ns more) (sym w.in_default-start_of.is) w.started-is
    ])
    c.loop-place.invariant
