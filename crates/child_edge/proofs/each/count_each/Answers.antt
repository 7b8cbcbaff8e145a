use Rattle.std.proofs.Common.{sym, ◌∙◌, arith}
use Rattle.child_edge.proofs.Turning.{counts-pass, counts-stay, counts-out, counts-end}
use Rattle.child_edge.proofs.each.count_each.Goals as goal

pub loop-at-preserved-then-not-means : goal.loop-at-preserved-then-not-means
loop-at-preserved-then-not-means g c =
    record {
      within = omega arith;
      goes = λ rest. counts-pass c.args.who c.loop-at.workers.items c.loop-at.at _ _ _ _ rest (omega (arith, c.loop-at.workers.ok.0)) c.index.ensures (sym c.means.ensures ∙ c.if-not-means.true) (c.loop-at.invariant.goes rest);
      spare = c.loop-at.invariant.spare;
    }

pub loop-at-preserved-then-is_there : goal.loop-at-preserved-then-is_there
loop-at-preserved-then-is_there g c =
    record {
      within = omega arith;
      goes = λ rest. counts-stay c.args.who c.loop-at.workers.items c.loop-at.at _ _ _ _ _ _ rest (omega (arith, c.loop-at.workers.ok.0)) c.index.ensures (sym c.means.ensures ∙ c.if-not-means.false) c.if-is_there.true (c.loop-at.invariant.goes rest) c.is_there.ensures;
      spare = c.loop-at.invariant.spare;
    }

pub loop-at-preserved : goal.loop-at-preserved
loop-at-preserved g c =
    record {
      within = omega arith;
      goes = λ rest. rw c.remove.ensures.items (counts-out c.args.who c.loop-at.workers.items c.loop-at.at _ _ _ _ _ _ rest (omega (arith, c.loop-at.workers.ok.0)) c.index.ensures (sym c.means.ensures ∙ c.if-not-means.false) c.if-is_there.false (c.loop-at.invariant.goes rest) c.is_there.ensures);
      spare = omega arith;
    }

pub returns-clause-left : goal.returns-clause-left
returns-clause-left g c = λ rest. counts-end c.args.who _ _ _ _ _ rest (omega (arith, c.loop-at.workers.ok.0)) (c.loop-at.invariant.goes rest)
