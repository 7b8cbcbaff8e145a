use Rattle.std.proofs.Common.{sym}
use Rattle.std.proofs.lemmas.Result.{on_ok_weaker}
use Rattle.certifier.specs.Turns.{used_in}
use Rattle.certifier.proofs.Turns.{append-none}
use Rattle.certifier.proofs.Nexts.{uses-one, uses-none}
use Rattle.certifier.proofs.turns_used.TurnsUsed.follow.Goals as goal

pub returns-then-takes_turns-clause-used : goal.returns-then-takes_turns-clause-used
returns-then-takes_turns-clause-used c =
    on_ok_weaker c.add.result
    (uses-one c.args.walk.now c.args.turn (used_in c.args.self.now) (used_in c.add.new.self) (c.takes_turns.ensures.both c.if-takes_turns.true)) c.add.ensures.used

pub returns-else-takes_turns-clause-used : goal.returns-else-takes_turns-clause-used
returns-else-takes_turns-clause-used c =
    let used = used_in c.args.self.now in
    uses-none c.args.walk.now c.args.turn used (c.takes_turns.ensures.alone c.if-takes_turns.false) (sym (append-none used))
