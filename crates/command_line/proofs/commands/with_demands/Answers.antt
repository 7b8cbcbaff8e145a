use Rattle.std.proofs.Common.{codes}
use Rattle.command_line.specs.Arguments.{option_rule}
use Rattle.command_line.proofs.Apps.{ends, more}
use Rattle.command_line.proofs.commands.with_demands.Goals as goal

pub returns-clause-app : goal.returns-clause-app
returns-clause-app c =
    ends (more (option_rule (codes "least"))) c.in_ok-command.command c.with_option-2.result _ c.in_ok-command.ensures.app c.with_option-2.ensures.app
