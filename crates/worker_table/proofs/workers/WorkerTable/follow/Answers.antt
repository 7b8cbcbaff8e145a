use Rattle.std.proofs.Common.{◌≡◌, refl, sym, ◌∙◌, ap, Bool, true, false, cond, None, Some, arith}
use Rattle.std.specs.Bool.{then_some}
use Rattle.listener_set.specs.Numbers.{is_in}
use Rattle.worker_table.specs.Beats.{kept_beat, last_beat}
use Rattle.worker_table.proofs.PlaceLemmas.{AreNumbers-places}
use Rattle.worker_table.proofs.Loops.{Follows-none, Follows-more, Follows-all}
use Rattle.worker_table.proofs.workers.WorkerTable.follow.Goals as goal
use Rattle.worker_table.proofs.workers.WorkerTable.follow.Goals.{then-has, else-has}

then_some_is : {A : Type 0} (b : Bool) (a : A) → then_some b a ≡ cond b (Some a) None
then_some_is true a = refl
then_some_is false a = refl

pub loop-nr-init : goal.loop-nr-init
loop-nr-init c =
    let numbers = AreNumbers-places c.self.inside.places c.args.self.now c.self.invariant c.self.view_is in
    Follows-none c.args.self.now c.args.ready.now c.args.started.now numbers.rising

pub loop-nr-preserved : goal.loop-nr-preserved
loop-nr-preserved c =
    let nr = c.loop-nr.nr in
    let started = c.args.started.now in
    let kept : c.if-has.beat ≡ kept_beat c.loop-nr.self started nr =
    elim c.if-has.branch [
      | then-has w ↦ w.beat-is ∙ ap (λ b. cond b None (last_beat c.loop-nr.self nr)) (sym (sym c.has.ensures ∙ w.if-has.true))
      | else-has w ↦ w.beat-is ∙ w.last_beat-beat.ensures ∙ ap (λ b. cond b None (last_beat c.loop-nr.self nr)) (sym (sym c.has.ensures ∙ w.if-has.false))
    ] in
    let place : c.then_some.result ≡ cond (is_in c.args.ready.now nr) (Some c.if-has.beat) None = c.then_some.ensures ∙ then_some_is c.has-in-loop-nr.result c.if-has.beat ∙ ap (λ b. cond b (Some c.if-has.beat) None) c.has-in-loop-nr.ensures in
    Follows-more c.args.self.now c.args.ready.now started nr c.loop-nr.self c.set.new.self c.if-has.beat c.then_some.result c.loop-nr.invariant kept place c.set.ensures

pub returns : goal.returns
returns c =
    let numbers = AreNumbers-places c.self.inside.places c.args.self.now c.self.invariant c.self.view_is in
    Follows-all c.args.self.now c.args.ready.now c.args.started.now c.loop-nr.nr c.loop-nr.self numbers c.len-len.ensures.numbers (omega arith) c.loop-nr.invariant
