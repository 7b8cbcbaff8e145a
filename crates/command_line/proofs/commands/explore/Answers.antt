use Rattle.command_line.specs.Arguments.{with_demands, with_list, with_runs}
use Rattle.command_line.proofs.Apps.{ends_with, follows}
use Rattle.command_line.proofs.commands.explore.Goals as goal

pub returns-clause-app : goal.returns-clause-app
returns-clause-app c =
    let listed = follows with_list c.named-command.result c.in_ok-command.command _ c.named-command.ensures.app c.in_ok-command.ensures.app in
    let run = follows with_runs c.in_ok-command.command c.in_ok-command-2.command _ listed c.in_ok-command-2.ensures.app in
    let asked = follows with_demands c.in_ok-command-2.command c.in_ok-with_demands.field-0 _ run c.in_ok-with_demands.ensures.app in
    ends_with c.in_ok-with_demands.field-0 c.with_argument.result c.word.result _ _ asked c.word.ensures.rule c.with_argument.ensures.app
