use Rattle.std.proofs.Common.{◌≡◌, ◌<◌, ◌+◌, List, drop, length, sym, ap, ◌∙◌, arith}
use Rattle.std.proofs.lemmas.Option.{get_or_from_slice_get}
use Rattle.handover_text.specs.Reading.{handed_by}
use Rattle.vocabulary.specs.declared.names.Name.{Name}
use Rattle.definitions.specs.Calls.{Stepped, after_exits, step_with}
use Rattle.definitions.specs.Run.{Moment}
use Rattle.kernel_model.specs.Pattern.{moment_at}
use Rattle.life_account.specs.declared.opened.TablePlace.{TablePlace}
use Rattle.life_account.specs.Tables.{after_table}
use Rattle.life_account.proofs.Calling.{after_calls, calls-next}
use Rattle.life_account.proofs.following.follow_run.Goals as goal

pub loop-number-preserved : goal.loop-number-preserved
loop-number-preserved c =
    let run = c.args.run.now in
    let handed = handed_by run.text.now in
    let pattern = moment_at run.pattern.now in
    let entries = run.log.now.entries in
    let n = c.loop-number.number in
    let t = c.loop-number.kernel.table in
    let kept = c.loop-number.kept.items in
    let e = c.get-entry.result in
    let place : TablePlace = record { word = run.word; call = n } in
    let inside : n < length entries = omega (arith, c.loop-number-test.true, c.len-number-end.ensures.count) in
    let at = sym (get_or_from_slice_get entries n e e c.get-entry.ensures) in
    let next = calls-next run.counts run.word handed pattern n t entries e kept inside at in
    let exits = ap (λ (m : Moment). m.exits) c.moment-moment.ensures in
    let fate = ap (λ (m : Moment). m.fate) c.moment-moment.ensures in
    let middle = c.let_exit.ensures.table ∙ ap (λ (es : List Name). after_exits es t) exits in
    let table = ap (λ (s : Stepped). s.table) c.call.ensures.step ∙ (λ i. (step_with handed e.by e.call (fate i) (middle i)).table) in
    let left = c.pass-in-loop-number.ensures ∙ (λ i. after_table run.counts place (middle i) (c.pass.ensures i)) in
    record {
      room = omega (arith, c.loop-number.invariant.room, c.let_exit.ensures.room, c.call.ensures.room);
      passed = c.loop-number.invariant.passed ∙ next ∙ (λ i. after_calls run.counts run.word handed pattern (n + 1) (sym table i) (drop (n + 1) entries) (sym left i));
    }
