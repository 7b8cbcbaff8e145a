use Rattle.std.proofs.Common.{◌≡◌, ◌<◌, ◌≤◌, ◌∙◌, length, arith}
use Rattle.std.proofs.lemmas.Bool.Decides.{nat_tests}
use Rattle.toml.specs.View.{array_view}
use Rattle.master_config.specs.Values.{texts_of}
use Rattle.master_config.proofs.Trees.{length-texts_of}
use Rattle.master_config.proofs.Rules.{no_command, long_command, short_command}
use Rattle.master_config.proofs.command.is_command.Goals as goal

pub returns-then-is_empty : goal.returns-then-is_empty
returns-then-is_empty c =
    let v = c.args.items.now in
    let none : length (texts_of (array_view v)) ≡ 0 = grind (arith, nat_tests, length-texts_of v.items, v.ok.0) in
    no_command (texts_of (array_view v)) none

pub returns-then-len-le-MOST_ARGUMENTS : goal.returns-then-len-le-MOST_ARGUMENTS
returns-then-len-le-MOST_ARGUMENTS c =
    let v = c.args.items.now in
    let some : 0 < length (texts_of (array_view v)) = grind (arith, nat_tests, length-texts_of v.items, v.ok.0) in
    let few : length (texts_of (array_view v)) ≤ 16 = omega (arith, length-texts_of v.items, v.ok.0) in
    c.are_arguments.ensures ∙ short_command (texts_of (array_view v)) some few

pub returns-else-len-le-MOST_ARGUMENTS : goal.returns-else-len-le-MOST_ARGUMENTS
returns-else-len-le-MOST_ARGUMENTS c =
    let v = c.args.items.now in
    let many : 16 < length (texts_of (array_view v)) = omega (arith, length-texts_of v.items, v.ok.0) in
    grind (arith, nat_tests, long_command (texts_of (array_view v)) many)
