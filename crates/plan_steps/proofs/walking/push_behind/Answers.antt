use Rattle.std.proofs.Common.{◌++◌, map, refl, sym, ◌∙◌, ap}
use Rattle.std.proofs.lemmas.List.{map_push, append-nil}
use Rattle.std.proofs.lemmas.Iterator.Adapters.{YieldsList-from_rev_slice}
use Rattle.std.proofs.lemmas.Iterator.Consumers.{YieldsList-end}
use denote.Ref.{Bor}
use Rattle.plan_steps.specs.declared.step.PlanEdge.{PlanEdge}
use Rattle.plan_steps.specs.declared.step.Next.TheVariants.{To}
use Rattle.plan_steps.specs.Numbering.{places_behind}
use Rattle.plan_steps.proofs.Walks.{behind_more, behind_none, places_behind-reverse}
use Rattle.plan_steps.proofs.walking.push_behind.Goals as goal

pub loop-edge-preserved : goal.loop-edge-preserved
loop-edge-preserved c =
    c.in_ok-push.ensures.items
    ∙ (behind_more c.args.waiting.now.items c.loop-edge.waiting.items (map (λ (e : Bor PlanEdge). e.now) c.loop-edge.yielded) c.in-Some.edge.now (To c.in-To.place) c.in-To.is c.loop-edge.invariant
    ∙ ap (λ es. c.args.waiting.now.items ++ places_behind es) (sym (map_push (λ (e : Bor PlanEdge). e.now) c.loop-edge.yielded c.in-Some.edge)))

pub loop-edge-preserved-in_default : goal.loop-edge-preserved-in_default
loop-edge-preserved-in_default c =
    let next = c.in-Some.edge.now.next in
    sym (append-nil c.loop-edge.waiting.items)
    ∙ (ap (λ ps. c.loop-edge.waiting.items ++ ps) (sym (behind_none next c.in_default.not-To))
    ∙ (behind_more c.args.waiting.now.items c.loop-edge.waiting.items (map (λ (e : Bor PlanEdge). e.now) c.loop-edge.yielded) c.in-Some.edge.now next refl c.loop-edge.invariant
    ∙ ap (λ es. c.args.waiting.now.items ++ places_behind es) (sym (map_push (λ (e : Bor PlanEdge). e.now) c.loop-edge.yielded c.in-Some.edge))))

pub returns : goal.returns
returns c =
    let all = YieldsList-end (YieldsList-from_rev_slice c.args.edges.now cc) c.loop-edge.yielded _ c.loop-edge.yielded_by _ _ c.in-None.is c.next.ensures.steps in
    c.loop-edge.invariant ∙ ap (λ ps. c.args.waiting.now.items ++ ps) (ap places_behind all.0 ∙ places_behind-reverse c.args.edges.now)
