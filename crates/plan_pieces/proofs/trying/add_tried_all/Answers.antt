use Rattle.std.proofs.Common.{◌≡◌, ◌-◌, ◌+◌, ℕ, drop, subst, arith}
use Rattle.definitions.specs.Plans.{tries_all}
use Rattle.plan_steps.specs.Steps.{tree_among}
use Rattle.plan_steps.specs.Batches.{calls_of}
use Rattle.rollback_plan.specs.Drafts.{trees_of, LeadsTo}
use Rattle.rollback_plan.proofs.DraftTrees.{keeps_on, plain_kept}
use Rattle.plan_pieces.proofs.TriedTrees.{tried_more}
use Rattle.plan_pieces.proofs.trying.add_tried_all.Goals as goal

pub add_tried-requires-clause-rest : goal.add_tried-requires-clause-rest
add_tried-requires-clause-rest c = c.loop-i.invariant.made.plain

pub add_tried-requires-clause-back : goal.add_tried-requires-clause-back
add_tried-requires-clause-back c = plain_kept c.args.draft.now c.loop-i.draft c.args.back c.loop-i.invariant.keeps c.requires.back

pub loop-i-preserved : goal.loop-i-preserved
loop-i-preserved c =
    let calls = calls_of c.args.calls.now in
    let i : ℕ = c.loop-i.i - 1 in
    let before = c.loop-i.invariant in
    let next = subst (λ j. LeadsTo c.loop-i.draft c.loop-i.next (tries_all c.args.by (drop j calls) (tree_among 0 (trees_of c.args.draft.now) c.args.rest) (tree_among 0 (trees_of c.args.draft.now) c.args.back))) (let on : c.loop-i.i ≡ i + 1 = omega arith in on) before.made in
    record {
      made = tried_more c.args.by calls i c.get.result c.args.draft.now c.loop-i.draft c.add_tried.new.draft c.args.rest c.args.back c.loop-i.next c.in_ok-add_tried.field-0 c.none-none.result c.get.ensures c.none-none.ensures before.keeps c.requires.back next c.in_ok-add_tried.ensures.made;
      count = omega (arith, before.count, c.in_ok-add_tried.ensures.count);
      keeps = keeps_on c.args.draft.now c.loop-i.draft c.add_tried.new.draft before.keeps c.in_ok-add_tried.ensures.keeps;
    }
