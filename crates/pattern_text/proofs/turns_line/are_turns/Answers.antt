use Rattle.std.proofs.Common.{◌≡◌, ◌<◌, ◌∙◌, length, arith}
use Rattle.std.proofs.lemmas.Bool.Decides.{nat_tests}
use Rattle.pattern_text.proofs.TurnLetters.{no-letters, some-letters}
use Rattle.pattern_text.proofs.turns_line.are_turns.Goals as goal

pub returns-then-is_empty : goal.returns-then-is_empty
returns-then-is_empty c =
    let none : length c.args.letters.now ≡ 0 = grind (arith, nat_tests) in
    no-letters c.args.letters.now none

pub returns : goal.returns
returns c =
    let some : 0 < length c.args.letters.now = grind (arith, nat_tests) in
    c.are_letters.ensures ∙ some-letters c.args.letters.now some
