use Rattle.std.proofs.Common.{ap, ◌∙◌, unwrap_or, length, rules, tests}
use Rattle.std.specs.Ordering.{is_le}
use Rattle.std.specs.List.{position_or_len}
use Rattle.std.proofs.lemmas.Iterator.{YieldsList-from_slice}
use Rattle.std.proofs.lemmas.Iterator.Search.{position_from_yields_List}
use Rattle.std.proofs.lemmas.List.Sums.{prefix_len-le-length}
use Rattle.kernel_service.specs.Services.{generation_cmp}
use Rattle.kernel_service.specs.declared.counts.Count.{Count}
use Rattle.kernel_service.proofs.Services.{unwrap-position}
use Rattle.kernel_service.proofs.counts.count_place.Goals as goal

pub returns-clause-place : goal.returns-clause-place
returns-clause-place c =
    let xs = c.args.counts.now in
    let test = λ (e : Count). is_le (generation_cmp c.args.generation e.generation) in
    let found = position_from_yields_List test _ _ c.position.result c.position.ensures.ran (YieldsList-from_slice xs cc) (λ x b q k. search (rules, tests)) in
    c.unwrap_or.ensures ∙ ap (λ o. unwrap_or o (length xs)) found ∙ unwrap-position (position_or_len test xs) (length xs) (prefix_len-le-length _ xs)
