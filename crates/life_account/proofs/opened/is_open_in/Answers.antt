use Rattle.std.proofs.Common.{◌==◌, ℕ, List, sym, ◌∙◌, rules, tests}
use Rattle.std.specs.Prelude.{◌&&◌, bytes_eq}
use Rattle.std.specs.List.{list_any}
use Rattle.std.proofs.lemmas.Iterator.Consumers.{YieldsList-from_first}
use Rattle.std.proofs.lemmas.Iterator.Search.{any_from_yields_List}
use Rattle.definitions.specs.Table.{Hold, is_live_where}
use Rattle.kernel_rows.specs.Seen.{seen_holder}
use Rattle.kernel_rows.proofs.Lists.{list_any-map}
use Rattle.life_account.proofs.opened.is_open_in.Goals as goal

pub returns : goal.returns
returns c =
    let addresses = c.args.addresses.now in
    let test = is_live_where (λ (n : ℕ) (hs : List Hold). list_any (λ (h : Hold). bytes_eq h.address c.args.address.now && (h.socket == c.args.socket)) hs) in
    any_from_yields_List (λ h. test (seen_holder addresses h)) _ _ _ c.any.ensures.ran (YieldsList-from_first (λ x. x.now) (λ s. s) c.args.holders.now.items c.iter.ensures) (λ x b q k. search (rules, tests))
    ∙ sym (list_any-map test (seen_holder addresses) c.args.holders.now.items)
