use Rattle.std.proofs.Common.{◌≡◌, List, length, not, reverse, take, true, ◌&&◌, sym, ◌∙◌, ap, subst}
use Rattle.std.proofs.lemmas.Result.{IfOk-weaker}
use Rattle.definitions.specs.Run.{Tree}
use Rattle.definitions.specs.Calls.{Census}
use Rattle.definitions.specs.Plans.{asks, either, starts}
use Rattle.plan_steps.specs.declared.step.Place.{Place}
use Rattle.rollback_plan.specs.Drafts.{tree_at, are_places, IsMade}
use Rattle.rollback_plan.specs.Back.{AreMade}
use Rattle.rollback_plan.proofs.BackTrees.{all_kept}
use Rattle.plan_pieces.proofs.Places.{made_places}
use Rattle.reload_planner.specs.Changes.{on_tree}
use Rattle.definitions.specs.Plans.{quits_new}
use Rattle.reload_planner.proofs.Ways.{all_undone}
use Rattle.reload_planner.proofs.last.add_last.Goals as goal

pub add_trial-requires : goal.add_trial-requires
add_trial-requires c =
    let u = c.args.renewal.now in
    let bad = quits_new u.by u.new (not c.args.first) u.last.now (tree_at c.args.draft.now c.args.back) in
    (all_undone c.add_ways.new.draft c.in_ok-ways.ways.items u.last.now bad c.index-undone.result.now
    c.in_ok-ways.ensures.made
    c.index-undone.ensures).below

pub add_starts-requires-clause-ways : goal.add_starts-requires-clause-ways
add_starts-requires-clause-ways c =
    subst (λ (places : List Place). are_places c.add_trial.new.draft places ≡ true) (sym c.deref.ensures.value)
    (made_places c.add_trial.new.draft c.in_ok-ways.ways.items _ _
    (all_kept c.add_ways.new.draft c.add_trial.new.draft c.in_ok-ways.ways.items _ _
    c.in_ok-counting.ensures.grows.keeps c.in_ok-ways.ensures.made))

pub returns-clause-made : goal.returns-clause-made
returns-clause-made c =
    let u = c.args.renewal.now in
    let last = u.last.now in
    let asked = u.asked && c.args.first in
    let on = on_tree u.by u.old u.new u.left.now u.rounds u.dropped.now u.wanted in
    let bad = quits_new u.by u.new (not c.args.first) last (tree_at c.args.draft.now c.args.back) in
    let undone : Place = c.index-undone.result.now in
    let there = all_undone c.add_ways.new.draft c.in_ok-ways.ways.items last bad undone c.in_ok-ways.ensures.made
    c.index-undone.ensures in
    let counting = c.in_ok-counting.ensures.made.is
    ∙ ap (λ t. either u.by (Census u.new.generation) u.wanted (asks asked u.by 1 on t) t) there.is in
    let ways = all_kept c.add_ways.new.draft c.add_trial.new.draft c.in_ok-ways.ways.items (length last)
    (λ i. bad (reverse (take i last)))
    c.in_ok-counting.ensures.grows.keeps c.in_ok-ways.ensures.made in
    IfOk-weaker c.add_starts.result _ _
    (λ place made.
    subst (λ (t : Tree). IsMade c.add_starts.new.draft place (starts u.by u.new last t bad)) counting
    (made bad (subst (λ (places : List Place). AreMade c.add_trial.new.draft places (length last)
    (λ i. bad (reverse (take i last)))) (sym c.deref.ensures.value) ways)))
    c.add_starts.ensures.made
