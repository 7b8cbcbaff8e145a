use Rattle.std.proofs.Common.{length, get_or, reverse, take, ◌&&◌, ◌∙◌, ap, subst, arith}
use Rattle.std.proofs.lemmas.List.{take_all}
use Rattle.std.proofs.lemmas.Option.{slice_get-get_or}
use Rattle.std.proofs.lemmas.Result.{IfOk-weaker}
use Rattle.definitions.specs.Run.{Tree}
use Rattle.definitions.specs.Plans.{asks, awaits_gone, starts}
use Rattle.call_laws.specs.Pieces.{quits}
use Rattle.plan_steps.specs.declared.step.Place.{Place}
use Rattle.rollback_plan.specs.Drafts.{IsMade, tree_at}
use Rattle.rollback_plan.proofs.DraftTrees.{keeps_on, at_kept}
use Rattle.rollback_plan.proofs.BackTrees.{all_kept}
use Rattle.plan_pieces.proofs.Places.{places_kept, place_at}
use Rattle.reload_planner.proofs.steps.add_wave.Goals as goal

pub add_question-requires-clause-back : goal.add_question-requires-clause-back
add_question-requires-clause-back c =
    let ways = c.args.ways_back.now in
    let n = length c.args.wave.now.starts.now in
    let undone : Place = get_or ways n (record { 0 = 0 }) in
    place_at c.add_leaving.new.draft ways n undone (places_kept c.args.draft.now c.add_leaving.new.draft ways
    c.in_ok-leaving.ensures.grows.keeps c.requires.ways)
    (slice_get-get_or ways n (record { 0 = 0 }) (omega (arith, c.requires.each)))

pub add_starts-requires-clause-ways : goal.add_starts-requires-clause-ways
add_starts-requires-clause-ways c =
    let keeps = keeps_on c.args.draft.now c.add_leaving.new.draft c.add_question.new.draft
    c.in_ok-leaving.ensures.grows.keeps c.in_ok-asking.ensures.grows.keeps in
    places_kept c.args.draft.now c.add_question.new.draft c.args.ways_back.now keeps c.requires.ways

pub returns-clause-made : goal.returns-clause-made
returns-clause-made c =
    let u = c.args.renewal.now in
    let w = c.args.wave.now in
    let fresh = w.starts.now in
    let n = length fresh in
    let asked = u.asked && w.first in
    let rest = tree_at c.args.draft.now c.args.rest in
    let leaving = quits u.by u.old.generation (reverse w.quits.now)
    (awaits_gone u.by u.old.generation (reverse w.quits.now) rest) in
    let keeps = keeps_on c.args.draft.now c.add_leaving.new.draft c.add_question.new.draft
    c.in_ok-leaving.ensures.grows.keeps c.in_ok-asking.ensures.grows.keeps in
    IfOk-weaker c.add_starts.result _ _
    (λ place made bad ways.
    let undone : Place = get_or c.args.ways_back.now n (record { 0 = 0 }) in
    let back = ways.made n undone (slice_get-get_or c.args.ways_back.now n (record { 0 = 0 })
    (omega (arith, c.requires.each))) in
    let all = ap (λ xs. bad (reverse xs)) (take_all n fresh (omega arith)) in
    let there = at_kept c.args.draft.now c.add_leaving.new.draft undone c.in_ok-leaving.ensures.grows.keeps
    back.below ∙ (back.is ∙ all) in
    let asking = c.in_ok-asking.ensures.made.is
    ∙ (ap (λ b. asks b u.by 1 (tree_at c.add_leaving.new.draft c.in_ok-leaving.leaving)
    (tree_at c.add_leaving.new.draft undone)) c.is_due-is_due.ensures.due
    ∙ (ap (λ t. asks asked u.by 1 t (tree_at c.add_leaving.new.draft undone)) c.in_ok-leaving.ensures.made.is ∙
    ap (asks asked u.by 1 leaving) there)) in
    subst (λ (t : Tree). IsMade c.add_starts.new.draft place (starts u.by u.new fresh t bad)) asking
    (made bad (all_kept c.args.draft.now c.add_question.new.draft c.args.ways_back.now n
    (λ i. bad (reverse (take i fresh))) keeps ways)))
    c.add_starts.ensures.made
