use Rattle.std.proofs.Common.{◌&&◌, ◌∙◌, ap, subst, arith}
use Rattle.std.proofs.lemmas.Result.{IfOk-weaker}
use Rattle.definitions.specs.Calls.{Census}
use Rattle.definitions.specs.Plans.{asks, either}
use Rattle.rollback_plan.specs.Drafts.{tree_at, IsMade}
use Rattle.rollback_plan.proofs.DraftTrees.{keeps_on, longer, at_kept}
use Rattle.reload_planner.specs.Changes.{on_tree}
use Rattle.reload_planner.proofs.last.add_trial.Goals as goal

pub add_question-requires-clause-back : goal.add_question-requires-clause-back
add_question-requires-clause-back c =
    omega (arith, c.requires, longer c.args.draft.now c.add_on.new.draft c.in_ok-on.ensures.grows.keeps)

pub add_count-requires-clause-short : goal.add_count-requires-clause-short
add_count-requires-clause-short c =
    let keeps = keeps_on c.args.draft.now c.add_on.new.draft c.add_question.new.draft c.in_ok-on.ensures.grows.keeps
    c.in_ok-asking.ensures.grows.keeps in
    omega (arith, c.requires, longer c.args.draft.now c.add_question.new.draft keeps)

pub returns-clause-made : goal.returns-clause-made
returns-clause-made c =
    let u = c.args.renewal.now in
    let asked = u.asked && c.args.first in
    let undone = c.args.undone in
    let there = tree_at c.args.draft.now undone in
    let on = on_tree u.by u.old u.new u.left.now u.rounds u.dropped.now u.wanted in
    let d1 = c.add_on.new.draft in
    let d2 = c.add_question.new.draft in
    let keeps = keeps_on c.args.draft.now d1 d2 c.in_ok-on.ensures.grows.keeps c.in_ok-asking.ensures.grows.keeps in
    let back1 = at_kept c.args.draft.now d1 undone c.in_ok-on.ensures.grows.keeps c.requires in
    let back2 = at_kept c.args.draft.now d2 undone keeps c.requires in
    let asking = c.in_ok-asking.ensures.made.is
    ∙ (ap (λ b. asks b u.by 1 (tree_at d1 c.in_ok-on.on) (tree_at d1 undone)) c.is_due-is_due.ensures.due
    ∙ (ap (λ t. asks asked u.by 1 t (tree_at d1 undone)) c.in_ok-on.ensures.made.is ∙
    ap (asks asked u.by 1 on) back1)) in
    let is = ap (λ t. either u.by (Census u.new.generation) u.wanted t (tree_at d2 undone)) asking
    ∙ ap (either u.by (Census u.new.generation) u.wanted (asks asked u.by 1 on there)) back2 in
    IfOk-weaker c.add_count.result _ _ (λ place made. subst (IsMade c.add_count.new.draft place) is made)
    c.add_count.ensures.made
