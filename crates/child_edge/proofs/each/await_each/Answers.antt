use Rattle.std.proofs.Common.{sym, ◌∙◌, arith}
use Rattle.child_edge.proofs.Turning.{awaits_child-pass, awaits_child-out, awaits_child-late, awaits_child-end}
use Rattle.child_edge.proofs.each.await_each.Goals as goal

pub loop-at-preserved-then-not-means : goal.loop-at-preserved-then-not-means
loop-at-preserved-then-not-means g c =
    record {
      within = omega arith;
      goes = λ rest. awaits_child-pass c.args.who c.loop-at.workers.items c.loop-at.at _ _ _ _ rest (omega (arith, c.loop-at.workers.ok.0)) c.index.ensures (sym c.means.ensures ∙ c.if-not-means.true) (c.loop-at.invariant.goes rest);
      spare = c.loop-at.invariant.spare;
    }

pub loop-at-preserved : goal.loop-at-preserved
loop-at-preserved g c =
    record {
      within = omega arith;
      goes = λ rest. rw c.remove.ensures.items (awaits_child-out c.args.who c.loop-at.workers.items c.loop-at.at _ _ _ _ _ _ rest (omega (arith, c.loop-at.workers.ok.0)) c.index.ensures (sym c.means.ensures ∙ c.if-not-means.false) c.if-is_gone.true (c.loop-at.invariant.goes rest) c.is_gone.ensures);
      spare = omega arith;
    }

pub returns-else-is_gone-clause-left : goal.returns-else-is_gone-clause-left
returns-else-is_gone-clause-left g c = λ rest.
    awaits_child-late c.args.who c.loop-at.workers.items c.loop-at.at _ _ _ _ _ _ (λ left late. rest (left, late)) (omega (arith, c.loop-at.workers.ok.0)) c.index.ensures (sym c.means.ensures ∙ c.if-not-means.false) c.if-is_gone.false (c.loop-at.invariant.goes (λ left late. rest (left, late))) c.is_gone.ensures

pub returns-clause-left : goal.returns-clause-left
returns-clause-left g c = λ rest. awaits_child-end c.args.who _ _ _ _ _ (λ left late. rest (left, late)) (omega (arith, c.loop-at.workers.ok.0)) (c.loop-at.invariant.goes (λ left late. rest (left, late)))
