use Rattle.std.proofs.Common.{sym, ◌∙◌, rules, tests}
use Rattle.std.proofs.lemmas.Iterator.Consumers.{YieldsList-from_first}
use Rattle.std.proofs.lemmas.Iterator.Search.{any_from_yields_List}
use Rattle.definitions.specs.Table.{has_address}
use Rattle.call_laws.specs.Pieces.{is_live_with}
use Rattle.kernel_rows.specs.Seen.{seen_holder}
use Rattle.kernel_rows.proofs.Lists.{list_any-map}
use Rattle.kernel_model.proofs.service.is_offered.Goals as goal

pub returns : goal.returns
returns c =
    let addresses = c.args.addresses.now in
    let test = is_live_with (has_address c.args.address.now) in
    any_from_yields_List (λ h. test (seen_holder addresses h)) _ _ _ c.any.ensures.ran (YieldsList-from_first (λ x. x.now) (λ s. s) c.args.holders.now.items c.iter.ensures) (λ x b q k. search (rules, tests))
    ∙ sym (list_any-map test (seen_holder addresses) c.args.holders.now.items)
