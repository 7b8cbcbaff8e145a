use Rattle.std.proofs.Common.{[], ◌≡◌, ◌-◌, ◌+◌, ℕ, get_or, ◌∙◌, ap, subst, arith}
use Rattle.std.proofs.lemmas.Option.{slice_get-get_or}
use Rattle.plan_steps.specs.declared.step.Place.{Place}
use Rattle.rollback_plan.specs.Drafts.{IsMade, tree_at}
use Rattle.rollback_plan.proofs.DraftTrees.{keeps_on, made_kept}
use Rattle.definitions.specs.Plans.{either}
use Rattle.plan_pieces.proofs.attempting.add_attempts.Goals as goal

pub loop-i-preserved : goal.loop-i-preserved
loop-i-preserved c =
    let ways = c.args.ways_back.now in
    let i : ℕ = c.loop-i.i - 1 in
    let call = c.get.result in
    let before = c.loop-i.invariant in
    let on : c.loop-i.i ≡ i + 1 = omega arith in
    record {
      made = λ back tree made trees.
          let next = (before.made back tree made trees).is ∙ ap tree on in
          let way : Place = get_or ways i (record { 0 = 0 }) in
          let there = made_kept c.args.draft.now c.loop-i.draft way (back i) before.keeps (made.made i way (slice_get-get_or ways i (record { 0 = 0 }) (omega (arith, c.requires.each)))) in
          let is = ap (λ t. either c.args.by call [] t (tree_at c.loop-i.draft way)) next ∙ (ap (either c.args.by call [] (tree (i + 1))) there.is ∙ trees.each i call c.get.ensures) in
          subst (IsMade c.add_attempt.new.draft c.in_ok-next.next) is c.in_ok-next.ensures.made;
      below = c.in_ok-next.ensures.made.below;
      count = omega (arith, before.count, c.in_ok-next.ensures.grows.count);
      keeps = keeps_on c.args.draft.now c.loop-i.draft c.add_attempt.new.draft before.keeps c.in_ok-next.ensures.grows.keeps;
    }

pub returns-clause-made : goal.returns-clause-made
returns-clause-made c = λ back tree made trees.
    subst (λ i. IsMade c.loop-i.draft c.loop-i.next (tree i)) (let none : c.loop-i.i ≡ 0 = omega arith in none) (c.loop-i.invariant.made back tree made trees)
