use Rattle.std.proofs.Common.{◌==◌, sym, ◌∙◌, rules, tests}
use Rattle.std.specs.Prelude.{◌&&◌, bytes_eq}
use Rattle.std.proofs.lemmas.Iterator.Consumers.{YieldsList-from_first}
use Rattle.std.proofs.lemmas.Iterator.Search.{any_from_yields_List}
use Rattle.definitions.specs.Table.{Hold}
use Rattle.kernel_rows.specs.Holds.{seen_hold}
use Rattle.kernel_rows.proofs.Lists.{list_any-map}
use Rattle.life_account.proofs.opened.has_socket.Goals as goal

pub returns : goal.returns
returns c =
    let addresses = c.args.addresses.now in
    let test = λ (h : Hold). bytes_eq h.address c.args.address.now && (h.socket == c.args.socket) in
    any_from_yields_List (λ p. test (seen_hold addresses p)) _ _ _ c.any.ensures.ran (YieldsList-from_first (λ x. x) (λ s. s) c.args.holds.now c.iter.ensures.pairs) (λ x b q k. search (rules, tests))
    ∙ sym (list_any-map test (seen_hold addresses) c.args.holds.now)
