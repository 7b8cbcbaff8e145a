use Rattle.std.proofs.Common.{◌++◌}
use Rattle.std.specs.Prelude.{codes}
use Rattle.plain_text.proofs.KeptTexts.{three_on}
use Rattle.call_text.specs.SetText.{set_text}
use Rattle.call_text.specs.CallText.{worker_text}
use Rattle.call_text.proofs.calls.write_fork.Goals as goal

pub returns-in_ok-put-in-Some-clause-text : goal.returns-in_ok-put-in-Some-clause-text
returns-in_ok-put-in-Some-clause-text g c =
    rw (c.in-Some.is, ← three_on g.S.Sink.most (g.S.Sink.text c.args.out.now) (codes "fork " ++ worker_text c.args.generation c.args.nr) (codes " fds ") (set_text c.in-Some.set), ← c.in_ok-write_named.ensures.text, ← c.in_ok-put-in-Some.ensures, ← c.numbers.ensures.numbers)
    c.write_set.ensures.text
