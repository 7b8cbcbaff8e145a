use Rattle.std.proofs.Common.{false, ◌∙◌, ap, length, arith, not}
use Rattle.listener_set.specs.Numbers.{lacks, is_in}
use Rattle.plan_steps.specs.Fit.{is_fit}
use Rattle.reload_planner.proofs.Sets.{repair_is, late_few, filter_few, length-below}
use Rattle.reload_planner.proofs.Fitness.{repair_fit}
use Rattle.reload_planner.proofs.mending.plan_mend.Goals as goal

pub finish-requires-clause-fit : goal.finish-requires-clause-fit
finish-requires-clause-fit c =
    let s = c.args.scene.now in
    ap (is_fit false) c.in_ok-first.ensures.made.is ∙ repair_fit s.by s.crew s.rounds c.below-all.result c.deref.result.now c.deref-2.result.now

pub returns-clause-tree : goal.returns-clause-tree
returns-clause-tree c =
    let s = c.args.scene.now in
    let is = repair_is s.by s.crew s.ready s.rounds c.args.overdue.now c.args.wanted c.below-all.result c.deref.result.now c.deref-2.result.now c.below-all.ensures
    (c.deref.ensures.value ∙ (c.in_ok-kills.ensures.items ∙ (c.minus-2.ensures ∙ ap (lacks c.args.overdue.now) c.minus.ensures)))
    (c.deref-2.ensures.value ∙ (c.in_ok-starts.ensures.items ∙ (c.minus-4.ensures ∙ (ap (lacks c.below-all.result) c.minus-3.ensures ∙ ap (λ ks. lacks ks (lacks s.ready c.args.overdue.now)) c.below-all.ensures)))) in
    λ turns. c.in_ok-finish.ensures.tree turns ∙ (c.in_ok-first.ensures.made.is ∙ is)

pub returns-clause-few : goal.returns-clause-few
returns-clause-few c =
    let s = c.args.scene.now in
    let all = c.below-all.result in
    let late = c.in_ok-kills.ensures.items ∙ (c.minus-2.ensures ∙ ap (lacks c.args.overdue.now) c.minus.ensures) in
    let fresh = ap length (c.deref-2.ensures.value ∙ (c.in_ok-starts.ensures.items ∙ c.minus-4.ensures)) in
    omega (
      arith,
      c.in_ok-finish.ensures.few,
      c.in_ok-first.ensures.count,
      ap length c.new-draft.ensures.none,
      fresh,
      ap length c.deref.ensures.value,
      ap length c.in_ok-kills.ensures.items,
      late_few c.args.wanted s.ready c.args.overdue.now c.minus-2.result c.requires.ready c.in_ok-kills.ensures.numbers (c.minus-2.ensures ∙ ap (lacks c.args.overdue.now) c.minus.ensures),
      filter_few (λ k. not (is_in c.minus-3.result k)) all,
      ap length c.below-all.ensures,
      length-below c.args.wanted,
    )
