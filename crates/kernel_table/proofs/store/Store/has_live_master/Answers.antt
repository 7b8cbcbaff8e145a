use Rattle.std.proofs.Common.{sym, ◌∙◌, rules, tests}
use Rattle.std.proofs.lemmas.Iterator.Consumers.{YieldsList-from_first}
use Rattle.std.proofs.lemmas.Iterator.Search.{any_from_yields_List}
use Rattle.call_laws.specs.Pieces.{is_live_master}
use Rattle.kernel_rows.specs.Seen.{seen_holder}
use Rattle.kernel_rows.proofs.Lists.{list_any-map}
use Rattle.kernel_table.proofs.store.Store.has_live_master.Goals as goal

pub returns : goal.returns
returns c =
    let s = c.args.self.now in
    any_from_yields_List (λ h. is_live_master c.args.number (seen_holder s.addresses.items h)) _ _ _ c.any.ensures.ran (YieldsList-from_first (λ x. x.now) (λ s. s) s.holders.items c.iter.ensures) (λ x b q k. search (rules, tests))
    ∙ sym (list_any-map (is_live_master c.args.number) (seen_holder s.addresses.items) s.holders.items)
