use Rattle.command_line.proofs.commands.words.Goals as goal

pub returns-clause-rule : goal.returns-clause-rule
returns-clause-rule c = c.several.ensures.rule
