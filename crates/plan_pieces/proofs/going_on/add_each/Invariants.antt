use Rattle.std.proofs.Common.{drop}
use Rattle.plan_pieces.specs.Pieces.{made_calls}
use Rattle.plan_pieces.proofs.Added.{Added}
use Rattle.plan_pieces.proofs.going_on.add_each.Given as goal

abbrev pub invariant-loop-i : goal.invariant-loop-i
invariant-loop-i l = Added l.fn.draft l.draft l.by l.fn.rest l.next (drop l.i (made_calls l.calls))
