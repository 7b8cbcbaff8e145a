use Rattle.command_line.specs.Arguments.{with_children, with_readers, with_words}
use Rattle.command_line.proofs.Apps.{ends, follows}
use Rattle.command_line.proofs.commands.program.Goals as goal

pub returns : goal.returns
returns c =
    let worded = follows with_words c.bare.result c.in_ok-with_words.field-0 _ c.bare.ensures c.in_ok-with_words.ensures in
    let parents = follows with_children c.in_ok-with_words.field-0 c.in_ok-with_children.field-0 _ worded c.in_ok-with_children.ensures in
    ends with_readers c.in_ok-with_children.field-0 c.with_readers.result _ parents c.with_readers.ensures
