use Rattle.std.proofs.Common.{◌≡◌, ◌++◌, [], ◌∷◌, length, drop, refl, ap, ◌∙◌, arith}
use Rattle.std.specs.Net.Text.{hex}
use Rattle.ipv6_text.proofs.GroupTexts.{length-hex, to_the_end, put_behind}
use Rattle.ipv6_text.proofs.groups.put_group.Goals as goal

pub returns-clause-text : goal.returns-clause-text
unfolding hex
returns-clause-text c =
    let whole = to_the_end c.leading_zeros.result c.hex_digit.result c.hex_digit-2.result c.hex_digit-3.result c.hex_digit-4.result c.leading_zeros.ensures.some in
    let digits : drop c.leading_zeros.result (c.hex_digit.result ∷ c.hex_digit-2.result ∷ c.hex_digit-3.result ∷ c.hex_digit-4.result ∷ []) ≡ hex c.args.group = rw (c.leading_zeros.ensures.value, c.hex_digit.ensures, c.hex_digit-2.ensures, c.hex_digit-3.ensures, c.hex_digit-4.ensures) refl in
    let short = length-hex c.args.group in
    let same = whole ∙ digits in
    put_behind c.args.out.now _ _ c.put.result (omega (arith, short, ap length same)) c.put.ensures.fits c.put.ensures.text
    ∙ ap (λ bytes. c.args.out.now ++ bytes) same

pub returns-clause-short : goal.returns-clause-short
returns-clause-short c = length-hex c.args.group
