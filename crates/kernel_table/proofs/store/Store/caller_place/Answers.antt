use Rattle.std.proofs.Common.{[], ◌∷◌, is_some, sym, ◌∙◌, rules, tests}
use Rattle.std.proofs.lemmas.Iterator.Consumers.{YieldsList-from_first}
use Rattle.std.proofs.lemmas.Iterator.Search.{position_from_yields_List}
use Rattle.definitions.specs.Table.{live_master}
use Rattle.kernel_rows.specs.declared.process.Holder.{Holder}
use Rattle.kernel_rows.specs.declared.process.Row.TheVariants.{Foreign}
use Rattle.kernel_rows.specs.Seen.{seen_holder}
use Rattle.kernel_rows.proofs.Lone.{none-found}
use Rattle.kernel_table.proofs.Masters.{none-lives}
use Rattle.kernel_table.proofs.store.Store.caller_place.Goals as goal

pub returns-clause-none : goal.returns-clause-none
returns-clause-none c = λ none.
    let s = c.args.self.now in
    let test = λ (h : Holder). is_some (live_master c.args.image (seen_holder s.addresses.items h ∷ [])) in
    let found = position_from_yields_List test _ _ c.position.result c.position.ensures.ran (YieldsList-from_first (λ x. x.now) (λ s. s) s.holders.items c.iter.ensures) (λ x b q k. search (rules, tests)) in
    none-lives c.args.image s.addresses.items s.holders.items (none-found test s.holders.items (record { row = Foreign 0; holds = [] }) (sym found ∙ none))
