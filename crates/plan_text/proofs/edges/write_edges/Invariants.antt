use Rattle.std.proofs.Common.{◌≡◌, ◌++◌, [], take, drop}
use Rattle.plan_text.specs.PlanText.{texts_of}
use Rattle.plan_text.specs.Graph.{written}
use Rattle.plan_text.proofs.edges.write_edges.Given as goal

abbrev pub invariant-loop-place : goal.invariant-loop-place
invariant-loop-place l =
    l.out.items ++ texts_of (written l.form l.step l.replies) l.step (take l.place l.replies) (drop l.place l.replies)
    ≡ l.fn.out.items ++ texts_of (written l.form l.step l.replies) l.step [] l.replies
