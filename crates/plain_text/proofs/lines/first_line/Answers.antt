use Rattle.std.proofs.Common.{◌∷◌, ◌<◌, length, sym, subst, ◌∙◌}
use Rattle.plain_text.specs.Lines.{lines_of}
use Rattle.plain_text.proofs.LineTexts.{lines_around, behind_shorter}
use Rattle.plain_text.proofs.lines.first_line.Goals as goal

pub returns-clause-line : goal.returns-clause-line
returns-clause-line c =
    lines_around c.args.text.now c.requires
    ∙ (λ i. sym c.around.ensures.before i ∷ lines_of (sym c.around.ensures.behind i))

pub returns-clause-shorter : goal.returns-clause-shorter
returns-clause-shorter c = subst (λ rest. length rest < length c.args.text.now) (sym c.around.ensures.behind) (behind_shorter c.args.text.now c.requires)
