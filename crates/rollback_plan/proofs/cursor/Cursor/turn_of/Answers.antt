use Rattle.std.proofs.Common.{[], ◌∷◌, refl, sym, ◌∙◌}
use Rattle.std.proofs.lemmas.Bool.{eqb-true, eq-eqb, false≢true}
use Rattle.definitions.specs.Plans.{Old}
use Rattle.rollback_plan.specs.Cursors.{rest_under}
use Rattle.rollback_plan.proofs.Apart.{shown_by, none_begins}
use Rattle.rollback_plan.proofs.cursor.Cursor.turn_of.Goals as goal

pub returns-then-eq : goal.returns-then-eq
returns-then-eq c = λ turns begun both.
    let me = c.args.self.now in
    let plan = me.plan.now in
    let s = c.in-Some.step.now in
    (shown_by plan.steps.items plan.parts me.at turns c.args.by s plan.leads_on me.within me.apart (c.in-Some.ensures.some.first (Old ∷ []) (λ _. refl)) begun both).old (sym (eqb-true s.by c.args.by (sym c.eq.ensures ∙ c.if-eq.true)))

pub returns-else-eq : goal.returns-else-eq
returns-else-eq c = λ turns begun both.
    let me = c.args.self.now in
    let plan = me.plan.now in
    let s = c.in-Some.step.now in
    (shown_by plan.steps.items plan.parts me.at turns c.args.by s plan.leads_on me.within me.apart (c.in-Some.ensures.some.first (Old ∷ []) (λ _. refl)) begun both).new
    (λ own. absurd (false≢true (sym c.if-eq.false ∙ (c.eq.ensures ∙ eq-eqb s.by c.args.by (sym own)))))

pub returns-in-None : goal.returns-in-None
returns-in-None c = λ turns begun both. absurd (none_begins (rest_under c.args.self.now turns) c.args.by (c.in-None.ensures.none turns) begun)
