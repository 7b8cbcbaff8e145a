use Rattle.std.proofs.Common.{false, ◌∙◌, ap, length, arith, reverse, not}
use Rattle.listener_set.specs.Numbers.{lacks, is_in}
use Rattle.plan_steps.specs.Fit.{is_fit}
use Rattle.reload_planner.proofs.Sets.{change_is, filter_few, length-below}
use Rattle.reload_planner.proofs.Fitness.{change_fit}
use Rattle.reload_planner.proofs.workers.plan_workers.Goals as goal

pub finish-requires-clause-fit : goal.finish-requires-clause-fit
finish-requires-clause-fit c =
    let s = c.args.scene.now in
    ap (is_fit false) c.in_ok-first.ensures.made.is ∙ change_fit s.by s.crew s.ready s.rounds c.below-all.result c.deref.result.now (reverse c.deref-2.result.now)

pub returns-clause-tree : goal.returns-clause-tree
returns-clause-tree c =
    let s = c.args.scene.now in
    let is = change_is s.by s.crew s.ready s.rounds c.args.wanted c.below-all.result c.deref.result.now c.deref-2.result.now c.below-all.ensures
    (c.deref.ensures.value ∙ (c.in_ok-starts.ensures.items ∙ (c.minus.ensures ∙ ap (λ ks. lacks ks s.ready) c.below-all.ensures)))
    (c.deref-2.ensures.value ∙ (c.in_ok-quits.ensures.items ∙ (c.minus-2.ensures ∙ ap (lacks s.ready) c.below-all.ensures))) in
    λ turns. c.in_ok-finish.ensures.tree turns ∙ (c.in_ok-first.ensures.made.is ∙ is)

pub returns-clause-few : goal.returns-clause-few
returns-clause-few c =
    let s = c.args.scene.now in
    let all = c.below-all.result in
    let fresh = ap length (c.deref.ensures.value ∙ (c.in_ok-starts.ensures.items ∙ c.minus.ensures)) in
    let surplus = ap length (c.deref-2.ensures.value ∙ (c.in_ok-quits.ensures.items ∙ c.minus-2.ensures)) in
    omega (arith, c.in_ok-finish.ensures.few, c.in_ok-first.ensures.count, ap length c.new-draft.ensures.none, fresh, surplus, filter_few (λ k. not (is_in s.ready k)) all, filter_few (λ k. not (is_in all k)) s.ready, ap length c.below-all.ensures, length-below c.args.wanted)
