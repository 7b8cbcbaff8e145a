use Rattle.std.proofs.Common.{◌++◌, List, true, false, map, sym, ap, ◌∙◌}
use Rattle.std.proofs.lemmas.List.{append-nil}
use Rattle.std.specs.List.{filter}
use Rattle.explorer.specs.declared.events.Mishap.{Mishap}
use Rattle.explorer.specs.declared.events.Mishap.TheVariants.{Fail}
use Rattle.vocabulary.specs.Fates.{all_fates}
use Rattle.explorer.specs.Events.{takes_effect}
use Rattle.vocabulary.specs.declared.calls.Fate.TheVariants.{InUse}
use Rattle.explorer.proofs.Listing.{passes-next}
use Rattle.explorer.proofs.effects.add_fates.Goals as goal
use Rattle.explorer.proofs.effects.add_fates.Goals.{then-branch+in_ok-push, else-branch}
use Rattle.handover_text.specs.Reading.{handed_by}

pub loop-fate-preserved : goal.loop-fate-preserved
loop-fate-preserved c =
    let test = takes_effect (handed_by c.args.text.now) c.args.by c.args.call.now c.args.kernel.now.table in
    let all : List Mishap = c.args.mishaps.now.items ++ map Fail (filter test all_fates) in
    elim c.if-branch.branch [
      | then-branch+in_ok-push w ↦
          passes-next Fail test all_fates c.loop-fate.fate-index InUse true c.loop-fate.mishaps.items c.if-branch.mishaps.items all c.loop-fate-test.true (sym w.if-branch.true ∙ c.in_ok-takes_effect.ensures) (ap (λ ms. ms.items) w.mishaps-is ∙ w.in_ok-push.ensures) c.loop-fate.invariant
      | else-branch w ↦
          passes-next Fail test all_fates c.loop-fate.fate-index InUse false c.loop-fate.mishaps.items c.if-branch.mishaps.items all c.loop-fate-test.true (sym w.if-branch.false ∙ c.in_ok-takes_effect.ensures) (ap (λ ms. ms.items) w.mishaps-is ∙ sym (append-nil c.loop-fate.mishaps.items)) c.loop-fate.invariant
    ]
