use Rattle.std.proofs.Common.{◌≡◌, Option, Some, IfSome, true, sym, ◌∙◌, ap, subst, option_map}
use Rattle.call_laws.specs.Pieces.{among}
use Rattle.definitions.specs.Run.{reply_of}
use Rattle.plan_steps.specs.declared.step.PlanEdge.{PlanEdge}
use Rattle.plan_steps.specs.Steps.{edge_for, is_within}
use Rattle.rollback_plan.specs.Cursors.{led_to, left_after}
use Rattle.rollback_plan.specs.Masters.{leads_apart}
use Rattle.rollback_plan.proofs.PlanTrees.{found_has}
use Rattle.rollback_plan.proofs.cursor.Cursor.follow.Goals as goal

pub led-requires-clause-within : goal.led-requires-clause-within
led-requires-clause-within c =
    let steps = c.args.self.now.plan.now.steps.items in
    let s = c.in_ok-step.step.now in
    subst (λ (r : Option PlanEdge). IfSome r (λ e. is_within steps e.next ≡ true)) (sym c.edge.ensures ∙ c.in_ok-edge.was)
    (found_has (λ e. among e.replies.now c.reply_to.result) (λ e. is_within steps e.next) s.edges.items c.in_ok-step.ensures.some.within)

pub led-requires-clause-apart : goal.led-requires-clause-apart
led-requires-clause-apart c =
    let me = c.args.self.now in
    let steps = me.plan.now.steps.items in
    let s = c.in_ok-step.step.now in
    subst (λ (r : Option PlanEdge). IfSome r (λ e. leads_apart steps me.at c.args.turn e.next ≡ true)) (sym c.edge.ensures ∙ c.in_ok-edge.was)
    (found_has (λ e. among e.replies.now c.reply_to.result) (λ e. leads_apart steps me.at c.args.turn e.next) s.edges.items c.in_ok-step.ensures.some.apart)

pub returns : goal.returns
returns c = λ turns e.
    let me = c.args.self.now in
    let s = c.in_ok-step.step.now in
    let found : edge_for s.edges.items (reply_of s.set c.args.answer.now) ≡ Some c.in_ok-edge.edge =
    sym (c.edge.ensures ∙ (ap (edge_for s.edges.items) c.reply_to.ensures ∙ ap (λ set. edge_for s.edges.items (reply_of set c.args.answer.now)) c.set.ensures)) ∙ c.in_ok-edge.was in
    c.in_ok-step.ensures.some.leads turns c.args.answer.now e
    ∙ (ap (option_map (λ x. (x.note, led_to me c.args.turn x.next (left_after me turns)))) found ∙ ap (λ t. Some (c.in_ok-edge.edge.note, t)) (sym (c.led.ensures (left_after me turns))))
