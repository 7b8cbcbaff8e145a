use Rattle.std.proofs.Common.{◌+◌, ◌∙◌, ap, subst, arith}
use Rattle.definitions.specs.Plans.{does, then_edge}
use Rattle.plan_steps.specs.Batches.{calls_of}
use Rattle.rollback_plan.specs.Back.{told_back}
use Rattle.rollback_plan.specs.Drafts.{IsMade, tree_at}
use Rattle.rollback_plan.proofs.DraftTrees.{keeps_on}
use Rattle.rollback_plan.proofs.BackTrees.{told_more, made_more}
use Rattle.reload_planner.proofs.back.add_told.Goals as goal

pub loop-i-preserved : goal.loop-i-preserved
loop-i-preserved c =
    let by = c.args.by in
    let calls = calls_of c.args.calls.now in
    let i = c.loop-i.i in
    let rest = tree_at c.args.draft.now c.args.rest in
    let before = c.loop-i.invariant in
    let is = ap (λ t. does by c.get.result (then_edge t)) before.last.is ∙
    told_more by calls rest i c.get.result c.get.ensures in
    let made : IsMade c.call.new.self c.in_ok-next.next (told_back by calls rest (i + 1)) = subst
    (IsMade c.call.new.self c.in_ok-next.next) is c.in_ok-next.ensures.made in
    record {
      all = made_more c.loop-i.draft c.call.new.self c.loop-i.places.items c.push-in-loop-i.new.self.items
          c.in_ok-next.next i (told_back by calls rest) c.in_ok-next.ensures.keeps before.all
          c.in_ok-push-2.ensures.items made;
      last = made;
      count = omega (arith, before.count, c.in_ok-next.ensures.count);
      keeps = keeps_on c.args.draft.now c.loop-i.draft c.call.new.self before.keeps c.in_ok-next.ensures.keeps;
    }
