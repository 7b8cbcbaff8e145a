use Rattle.std.proofs.Common.{sym, ◌∙◌}
use Rattle.std.proofs.lemmas.List.{at_drop_all}
use Rattle.child_edge.specs.Each.{stops_each}
use Rattle.child_edge.proofs.Turning.{stops_child-turn, stops_child-pass, goes-both, goes-into}
use Rattle.child_edge.proofs.each.stop_each.Goals as goal
use Rattle.child_edge.proofs.each.stop_each.Goals.{then-means, else-means}

pub loop-worker-init : goal.loop-worker-init
loop-worker-init g c = λ rest last a h. h

pub loop-worker-preserved : goal.loop-worker-preserved
loop-worker-preserved g c =
    elim c.if-means.branch [
      | then-means w ↦ λ rest. rw w.family-is (goes-both _ _ _ _ _ _ (c.loop-worker.invariant rest) (stops_child-turn c.args.who _ _ _ _ _ c.loop-worker-test.true (sym c.means.ensures ∙ w.if-means.true) w.stop.ensures rest))
      | else-means w ↦ λ rest. rw w.family-is (goes-both _ _ _ _ _ _ (c.loop-worker.invariant rest) (stops_child-pass c.args.who _ _ _ _ c.loop-worker-test.true (sym c.means.ensures ∙ w.if-means.false) rest))
    ]

pub returns : goal.returns
returns g c = λ rest. goes-into _ _ _ _ _ (at_drop_all (λ ws. stops_each c.args.who ws rest) c.args.workers.now c.loop-worker.worker-index c.loop-worker-test.false) (c.loop-worker.invariant rest)
