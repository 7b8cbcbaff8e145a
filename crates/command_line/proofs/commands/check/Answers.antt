use Rattle.std.proofs.Common.{codes}
use Rattle.command_line.specs.Arguments.{flag_rule}
use Rattle.command_line.proofs.Apps.{ends_with, follows, more}
use Rattle.command_line.proofs.commands.check.Goals as goal

pub returns-clause-app : goal.returns-clause-app
returns-clause-app c =
    let known0 = follows (more (flag_rule (codes "json"))) c.named-command.result c.in_ok-command.command _ c.named-command.ensures.app c.in_ok-command.ensures.app in
    ends_with c.in_ok-command.command c.with_argument.result c.several.result _ _ known0 c.several.ensures.rule c.with_argument.ensures.app
