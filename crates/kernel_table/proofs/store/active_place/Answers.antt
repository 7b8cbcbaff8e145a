use Rattle.std.proofs.Common.{sym, ◌∙◌, rules, tests, []}
use Rattle.std.proofs.lemmas.Iterator.Consumers.{YieldsList-from_first}
use Rattle.std.proofs.lemmas.Iterator.Search.{position_from_yields_List}
use Rattle.definitions.specs.Table.{is_active, is_worker}
use Rattle.kernel_rows.specs.declared.process.Row.TheVariants.{Foreign}
use Rattle.kernel_rows.specs.Seen.{seen_holder}
use Rattle.kernel_rows.proofs.Lists.{list_any-map}
use Rattle.kernel_rows.proofs.Lone.{none-found}
use Rattle.kernel_table.proofs.store.active_place.Goals as goal

pub returns-clause-none : goal.returns-clause-none
returns-clause-none c = λ none addresses.
    let name = c.args.name in
    let test = is_worker is_active name.parent name.generation name.nr in
    let found = position_from_yields_List (λ h. test (seen_holder addresses h)) _ _ c.position.result c.position.ensures.ran (YieldsList-from_first (λ x. x.now) (λ s. s) c.args.holders.now.items c.iter.ensures) (λ x b q k. search (rules, tests)) in
    list_any-map test (seen_holder addresses) c.args.holders.now.items
    ∙ none-found (λ h. test (seen_holder addresses h)) c.args.holders.now.items (record { row = Foreign 0; holds = [] }) (sym found ∙ none)
