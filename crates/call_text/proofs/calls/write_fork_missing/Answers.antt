use Rattle.std.specs.Prelude.{codes}
use Rattle.plain_text.proofs.KeptTexts.{two_on}
use Rattle.call_text.specs.CallText.{missing_text, group_part}
use Rattle.call_text.proofs.calls.write_fork_missing.Goals as goal

pub returns : goal.returns
returns g c =
    rw (← c.crew.view_is, ← two_on g.S.Sink.most (g.S.Sink.text c.args.out.now) (missing_text (codes "fork ") c.crew.inside.generation) (group_part c.crew.inside.posts), ← c.in_ok-write_missing.ensures, ← c.group_part.ensures, ← c.as_bytes.ensures.value)
    c.put.ensures
