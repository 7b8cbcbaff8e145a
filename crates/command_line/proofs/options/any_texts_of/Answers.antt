use Rattle.std.proofs.Common.{◌≡◌, List, Option, [], sym, ◌∙◌, ap, rules}
use Rattle.std.specs.Prelude.{unwrap_or}
use Rattle.clap.specs.Words.{found_of}
use Rattle.clap.specs.Walk.{texts, Text}
use Rattle.clap.proofs.WalkLemmas.{raw_values-rows}
use Rattle.command_line.proofs.options.any_texts_of.Goals as goal

pub returns-in-None : goal.returns-in-None
returns-in-None c =
    let empty : c.new.result.items ≡ [] = search rules in
    ap texts empty ∙ ap (λ (given : Option (List Text)). unwrap_or given []) (c.in-None.ensures ∙ raw_values-rows (found_of c.args.found.now) c.args.id.now)

pub returns-in_ok-collect-in-Some : goal.returns-in_ok-collect-in-Some
returns-in_ok-collect-in-Some c =
    let given = c.in-Some.ensures ∙ raw_values-rows (found_of c.args.found.now) c.args.id.now in
    let same : c.in-Some.given.now ≡ c.in_ok-collect-in-Some.field-0.items = search rules in
    sym (ap texts same) ∙ ap (λ (x : Option (List Text)). unwrap_or x []) given
