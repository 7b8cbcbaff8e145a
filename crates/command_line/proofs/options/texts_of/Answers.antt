use Rattle.std.proofs.Common.{◌≡◌, sym, ◌∙◌, ap, Some, rules}
use Rattle.clap.specs.Words.{found_of}
use Rattle.clap.specs.Walk.{texts}
use Rattle.clap.proofs.WalkLemmas.{raw_values-rows}
use Rattle.command_line.proofs.options.texts_of.Goals as goal

pub returns-in_default-clause-usage : goal.returns-in_default-clause-usage
returns-in_default-clause-usage c usage values finds =
    let none = c.in_default.ensures ∙ raw_values-rows (found_of c.args.found.now) c.args.id.now ∙ finds in
    cc

pub returns-clause-found : goal.returns-clause-found
returns-clause-found c =
    let given = c.in-Some.ensures ∙ raw_values-rows (found_of c.args.found.now) c.args.id.now in
    let same : c.in-Some.given.now ≡ c.in_ok-collect.field-0.items = search rules in
    sym given ∙ ap (λ words. Some (texts words)) same
