use Rattle.std.proofs.Common.{◌≡◌, List, true, length, reverse, take, sym, ◌∙◌, ap, subst, arith}
use Rattle.std.proofs.lemmas.List.{take_all}
use Rattle.std.proofs.lemmas.Result.{IfOk-weaker}
use Rattle.definitions.specs.Table.{Address}
use Rattle.vocabulary.specs.declared.plans.Side.TheVariants.{Old}
use Rattle.definitions.specs.Plans.{settle}
use Rattle.plan_steps.specs.declared.step.Place.{Place}
use Rattle.rollback_plan.specs.Drafts.{are_places}
use Rattle.rollback_plan.specs.Back.{AreMade, closes_back}
use Rattle.rollback_plan.proofs.BackTrees.{all_kept, way_there}
use Rattle.plan_pieces.proofs.Places.{made_places}
use Rattle.definitions.specs.Plans.{in_steps, closes_opened}
use Rattle.reload_planner.specs.Trees.{last_tree}
use Rattle.reload_planner.proofs.reloading.add_renewal.Goals as goal

pub add_steps-requires : goal.add_steps-requires
add_steps-requires c =
    let u = c.args.renewal.now in
    let added = c.args.added.now in
    let closed = closes_opened u.by u.old c.args.ready.now u.rounds in
    (way_there c.back.new.self c.in_ok-ways_back.ways_back.opened.items (length added)
    (λ i. closed (reverse (take i added))) c.index-closed.result.now c.in_ok-ways_back.ensures.opened
    c.index-closed.ensures).below

pub add_opens-requires-clause-ways : goal.add_opens-requires-clause-ways
add_opens-requires-clause-ways c =
    let u = c.args.renewal.now in
    let opened = c.in_ok-ways_back.ways_back.opened.items in
    let settled = settle u.by u.old c.args.ready.now Old u.rounds in
    subst (λ (places : List Place). are_places c.add_steps.new.draft places ≡ true) (sym c.deref.ensures.value)
    (made_places c.add_steps.new.draft opened _ _ (all_kept c.back.new.self c.add_steps.new.draft opened _
    (closes_back u.by c.args.added.now settled) c.in_ok-begun.ensures.grows.keeps c.in_ok-ways_back.ensures.opened))

pub returns-clause-made : goal.returns-clause-made
returns-clause-made c =
    let u = c.args.renewal.now in
    let added = c.args.added.now in
    let opened = c.in_ok-ways_back.ways_back.opened.items in
    let closed = closes_opened u.by u.old c.args.ready.now u.rounds in
    let last = last_tree u.asked u.by u.old u.new u.last.now u.left.now u.rounds u.dropped.now u.wanted in
    let ways = c.in_ok-ways_back.ensures.opened in
    let there = way_there c.back.new.self opened (length added) (λ i. closed (reverse (take i added)))
    c.index-closed.result.now ways c.index-closed.ensures in
    let all = there.is ∙ ap (λ (xs : List Address). closed (reverse xs))
    (take_all (length added) added (omega arith)) in
    let begun = c.in_ok-begun.ensures.made.is ∙ ap (in_steps u.asked true u.by u.old u.new c.args.steps.now last) all in
    let kept = all_kept c.back.new.self c.add_steps.new.draft opened (length added)
    (λ i. closed (reverse (take i added))) c.in_ok-begun.ensures.grows.keeps ways in
    IfOk-weaker c.add_opens.result _ _
    (λ place made.
    made (λ xs. in_steps u.asked true u.by u.old u.new c.args.steps.now last (closed xs)) closed
    (subst (λ (places : List Place). AreMade c.add_steps.new.draft places (length added)
    (λ i. closed (reverse (take i added)))) (sym c.deref.ensures.value) kept)
    (sym begun))
    c.add_opens.ensures.made
