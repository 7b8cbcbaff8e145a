use Rattle.std.proofs.Common.{sym, ◌∙◌, ◌<◌, length, arith}
use Rattle.child_edge.proofs.Turning.{beats-pass, beats-turn, beats-end}
use Rattle.child_edge.proofs.each.beat_each.Goals as goal
use Rattle.child_edge.proofs.each.beat_each.Goals.{then-means, else-means}

pub loop-at-init : goal.loop-at-init
loop-at-init g c = λ rest. rw c.none-numbers.ensures (λ last a h. h)

pub loop-at-preserved : goal.loop-at-preserved
loop-at-preserved g c =
    let inside : c.loop-at.at < length c.loop-at.workers = omega (arith, c.loop-at.auto.workers) in
    elim c.if-means.branch [
      | then-means w ↦ λ rest. rw (w.family-is, w.workers-is, w.numbers-is) (beats-turn c.args.now _ _ _ _ _ _ _ _ _ _ _ rest inside (sym c.means.ensures ∙ w.if-means.true) (c.loop-at.invariant rest) w.hear_beat-beat.ensures w.beaten.ensures w.with_beat.ensures)
      | else-means w ↦ λ rest. rw (w.family-is, w.workers-is, w.numbers-is) (beats-pass c.args.now _ _ _ _ _ _ _ rest inside (sym c.means.ensures ∙ w.if-means.false) (c.loop-at.invariant rest))
    ]

pub returns : goal.returns
returns g c = λ rest. beats-end c.args.now _ _ _ _ _ _ (λ ws numbers. rest (ws, numbers)) (omega (arith, c.loop-at.auto.workers, c.loop-at-test.false)) (c.loop-at.invariant (λ ws numbers. rest (ws, numbers)))
