use Rattle.std.proofs.Common.{sym, ◌∙◌}
use Rattle.std.proofs.lemmas.Bool.{eqb-true, eq-eqb, false≢true}
use Rattle.plan_walk.specs.Rests.{rest_in}
use Rattle.rollback_plan.specs.Bounds.{lacked_in}
use Rattle.certifier.proofs.Asking.{asked-same, asked-too, asked-left}
use Rattle.certifier.proofs.replay.asks.Goals as goal

pub returns-then-eq : goal.returns-then-eq
returns-then-eq c = λ turns first.
    let e = c.args.entry.now in
    let w = c.args.walk.now in
    let rest = rest_in w.rest turns in
    let one = c.in-Some.ensures.some turns first e.answer in
    let by = eqb-true c.in-Some.due.by e.by (sym c.if-eq.ensures) in (
      λ same. asked-too rest (lacked_in w.bound) _ e one by (c.is_same_call.ensures.0 same),
      λ asks. c.is_same_call.ensures.1 (asked-same rest (lacked_in w.bound) _ e one asks).1,
    )

pub returns-else-eq : goal.returns-else-eq
returns-else-eq c = λ turns first.
    let e = c.args.entry.now in
    let w = c.args.walk.now in
    let rest = rest_in w.rest turns in
    let one = c.in-Some.ensures.some turns first e.answer in (
      λ same. absurd (false≢true (sym c.if-eq.false ∙ same)),
      λ asks. c.eq.ensures ∙ eq-eqb c.in-Some.due.by e.by (asked-same rest (lacked_in w.bound) _ e one asks).0,
    )

pub returns-in-None : goal.returns-in-None
returns-in-None c = λ turns first.
    let w = c.args.walk.now in (
      λ same. absurd (false≢true same),
      λ asks. absurd (asked-left (rest_in w.rest turns) (lacked_in w.bound) c.args.entry.now asks (c.in-None.ensures.none turns)),
    )
