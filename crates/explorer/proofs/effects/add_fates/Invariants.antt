use Rattle.handover_text.specs.Reading.{handed_by}
use Rattle.std.proofs.Common.{◌≡◌, ◌++◌, map, drop}
use Rattle.std.specs.List.{filter}
use Rattle.explorer.specs.declared.events.Mishap.TheVariants.{Fail}
use Rattle.vocabulary.specs.Fates.{all_fates}
use Rattle.explorer.specs.Events.{takes_effect}
use Rattle.explorer.proofs.effects.add_fates.Given as goal

abbrev pub invariant-loop-fate : goal.invariant-loop-fate
invariant-loop-fate l =
    let test = takes_effect (handed_by l.text) l.by l.call l.kernel.table in
    l.mishaps.items ++ map Fail (filter test (drop l.fate-index all_fates)) ≡ l.fn.mishaps.items ++ map Fail (filter test all_fates)
