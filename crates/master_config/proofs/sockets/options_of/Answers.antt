use Rattle.std.proofs.Common.{◌≡◌, ◌<◌, ◌∙◌, ℕ, List, true, ap, arith, IsAscii}
use Rattle.std.proofs.lemmas.Bool.Decides.{nat_tests}
use Rattle.std.proofs.lemmas.Str.{IsUtf8-from_ascii}
use Rattle.std.proofs.lemmas.Str.Ascii.{IsAscii-from_all}
use Rattle.std.specs.Char.{is_ascii_graphic}
use Rattle.std.specs.List.{AllPass}
use Rattle.toml.specs.Data.{get_member}
use Rattle.toml.specs.View.{table_view}
use Rattle.toml.proofs.Views.{table_get}
use Rattle.master_config.proofs.sockets.options_of.Goals as goal

graphic_small : (byte : ℕ) → is_ascii_graphic byte ≡ true → byte < 128
graphic_small byte h = grind (arith, nat_tests)

graphic_ascii : (text : List ℕ) → AllPass is_ascii_graphic text → IsAscii text
graphic_ascii text h = IsAscii-from_all text (λ k d inside. graphic_small _ (h k d inside))

pub returns : goal.returns
returns c =
    table_get c.get.result c.in-Ok.text.now c.args.sockets.now.entries c.get.ensures.value
    ∙ ap (λ name. get_member name (table_view c.args.sockets.now)) (c.in-Ok.ensures.cases.0 ∙ c.bytes.ensures.text)

pub unreachable-requires : goal.unreachable-requires
unreachable-requires c =
    let ascii : IsAscii c.bytes.result.now = rw c.bytes.ensures.text (graphic_ascii c.args.address.now c.bytes.ensures.graphic) in
    c.in-Err.ensures.cases.0 (IsUtf8-from_ascii c.bytes.result.now ascii)
