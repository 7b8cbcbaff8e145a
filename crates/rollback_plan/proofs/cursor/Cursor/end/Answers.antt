use Rattle.std.proofs.Common.{inl, inr, sym, ◌∙◌, ap}
use Rattle.rollback_plan.proofs.CursorTrees.{end_there, end_is}
use Rattle.rollback_plan.proofs.cursor.Cursor.end.Goals as goal

pub returns-in-Beside : goal.returns-in-Beside
returns-in-Beside c =
    let me = c.args.self.now in
    let plan = me.plan.now in
    λ turns. sym (ap end_there c.in-Beside.is) ∙ end_is plan.steps.items plan.parts me.at turns plan.leads_on me.within

pub returns-in-Before : goal.returns-in-Before
returns-in-Before c =
    let me = c.args.self.now in
    let plan = me.plan.now in
    λ turns. c.end_behind.ensures ∙ (elim c.in-Before.is [ inl e ↦ sym (ap end_there e) | inr e ↦ sym (ap end_there e) ] ∙ end_is plan.steps.items plan.parts me.at turns plan.leads_on me.within)
