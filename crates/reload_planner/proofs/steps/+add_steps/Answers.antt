use Rattle.std.proofs.Common.{◌≡◌, ◌+◌, ◌*◌, ℕ, cond, arith, List, length, not, reverse, take, true, false, ◌&&◌}
use Rattle.std.proofs.Common.{sym, ◌∙◌, ap, subst}
use Rattle.std.proofs.lemmas.Result.{IfOk-weaker}
use Rattle.definitions.specs.Run.{Tree}
use Rattle.definitions.specs.Plans.{starts_any}
use Rattle.plan_steps.specs.declared.step.Place.{Place}
use Rattle.rollback_plan.specs.Drafts.{tree_at, are_places, IsMade}
use Rattle.rollback_plan.specs.Back.{AreMade}
use Rattle.rollback_plan.proofs.DraftTrees.{keeps_on}
use Rattle.rollback_plan.proofs.BackTrees.{all_kept}
use Rattle.plan_pieces.proofs.Places.{made_places}
use Rattle.definitions.specs.Plans.{Step, quits_new, in_steps}
use Rattle.reload_planner.specs.Trees.{last_tree, wave_tree, moved}
use Rattle.reload_planner.proofs.Ways.{all_undone, grown, grown-refused}
use Rattle.reload_planner.proofs.steps.+add_steps.Goals as goal

pub add_starts_any-requires : goal.add_starts_any-requires
add_starts_any-requires t c =
    let u = c.args.renewal.now in
    let fresh = c.deref.result.now in
    let bad = quits_new u.by u.new (not c.args.first) fresh (tree_at c.args.draft.now c.args.back) in
    (all_undone c.add_ways.new.draft c.in_ok-ways.ways.items fresh bad c.index-undone.result.now
    c.in_ok-ways.ensures.made c.index-undone.ensures).below

pub add_wave-requires-clause-ways : goal.add_wave-requires-clause-ways
add_wave-requires-clause-ways t c =
    let keeps = keeps_on c.add_ways.new.draft c.add_starts_any.new.draft c.add_steps.new.draft
    c.in_ok-taken_back.ensures.keeps c.in_ok-next.ensures.grows.keeps in
    subst (λ (places : List Place). are_places c.add_steps.new.draft places ≡ true) (sym c.deref-3.ensures.value)
    (made_places c.add_steps.new.draft c.in_ok-ways.ways.items _ _
    (all_kept c.add_ways.new.draft c.add_steps.new.draft c.in_ok-ways.ways.items _ _ keeps
    c.in_ok-ways.ensures.made))

pub returns-clause-made : goal.returns-clause-made
returns-clause-made t c =
    let u = c.args.renewal.now in
    let by = u.by in
    let first = c.args.first in
    let back = tree_at c.args.draft.now c.args.back in
    let fresh = c.deref.result.now in
    let leaving = c.deref-2.result.now in
    let more = c.in-Some.more.now in
    let bad = quits_new by u.new (not first) fresh back in
    let last = last_tree u.asked by u.old u.new u.last.now u.left.now u.rounds u.dropped.now u.wanted in
    let there = all_undone c.add_ways.new.draft c.in_ok-ways.ways.items fresh bad c.index-undone.result.now
    c.in_ok-ways.ensures.made c.index-undone.ensures in
    let taken = c.in_ok-taken_back.ensures.made.is ∙ ap (starts_any by u.old leaving) there.is in
    let next = c.in_ok-next.ensures.made.is ∙ ap (in_steps u.asked false by u.old u.new more last) taken in
    let keeps = keeps_on c.add_ways.new.draft c.add_starts_any.new.draft c.add_steps.new.draft
    c.in_ok-taken_back.ensures.keeps c.in_ok-next.ensures.grows.keeps in
    let ways = all_kept c.add_ways.new.draft c.add_steps.new.draft c.in_ok-ways.ways.items (length fresh)
    (λ i. bad (reverse (take i fresh))) keeps c.in_ok-ways.ensures.made in
    let f = c.deref.ensures.value ∙ (c.in_ok-starts.ensures.items ∙ ap (λ (s : Step). s.starts) c.step.view_is) in
    let l = c.deref-2.ensures.value ∙ (c.in_ok-quits.ensures.items ∙ ap (λ (s : Step). s.quits) c.step.view_is) in
    let shape : wave_tree (u.asked && first) by u.old u.new fresh leaving
    (in_steps u.asked false by u.old u.new more last (starts_any by u.old leaving (bad (reverse fresh)))) bad
    ≡ in_steps u.asked first by u.old u.new c.args.steps.now last back =
    (λ i. wave_tree (u.asked && first) by u.old u.new (f i) (l i)
    (in_steps u.asked false by u.old u.new more last (starts_any by u.old (l i)
    (quits_new by u.new (not first) (f i) back (reverse (f i)))))
    (quits_new by u.new (not first) (f i) back))
    ∙ ap (λ (xs : List Step). in_steps u.asked first by u.old u.new xs last back) (sym c.in-Some.ensures.cases.0) in
    IfOk-weaker c.add_wave.result _ _
    (λ place made.
    subst (IsMade c.add_wave.new.draft place) shape
    (subst (λ (t : Tree). IsMade c.add_wave.new.draft place
    (wave_tree (u.asked && first) by u.old u.new fresh leaving t bad)) next
    (made bad (subst (λ (places : List Place). AreMade c.add_steps.new.draft places (length fresh)
    (λ i. bad (reverse (take i fresh)))) (sym c.deref-3.ensures.value) ways))))
    c.add_wave.ensures.made

pub returns-in_err-taken_back-clause-grows : goal.returns-in_err-taken_back-clause-grows
returns-in_err-taken_back-clause-grows t c =
    let u = c.args.renewal.now in
    let fresh = length c.deref.result.now in
    let leaving = length c.deref-2.result.now in
    let more = c.in-Some.more.now in
    let f = c.deref.ensures.value ∙ (c.in_ok-starts.ensures.items ∙ ap (λ (s : Step). s.starts) c.step.view_is) in
    let l = c.deref-2.ensures.value ∙ (c.in_ok-quits.ensures.items ∙ ap (λ (s : Step). s.quits) c.step.view_is) in
    let all : moved c.args.steps.now ≡ fresh + leaving + moved more =
    ap moved c.in-Some.ensures.cases.0 ∙ (λ i. length (sym f i) + length (sym l i) + moved more) in
    let rest : ℕ = 6 * length u.last.now + (1 + 4 * u.rounds) + length u.dropped.now + length u.left.now + 1 in
    let total : ℕ = 6 * moved c.args.steps.now + 6 * length u.last.now + (1 + 4 * u.rounds) + length u.dropped.now +
    length u.left.now + 1 + cond c.args.first 1 0 in
    grown-refused c.args.draft.now c.add_ways.new.draft c.add_starts_any.new.draft
    c.from_residual-in_err-taken_back.result c.in_err-taken_back.field-0.0
    (3 * fresh) (3 * leaving) total
    (keeps_on c.args.draft.now c.add_ways.new.draft c.add_starts_any.new.draft c.in_ok-ways.ensures.grows.keeps
    c.in_err-taken_back.ensures.keeps)
    c.in_ok-ways.ensures.grows.count (omega (arith, all)) c.in_err-taken_back.ensures.too_large
    c.from_residual-in_err-taken_back.ensures.1

pub returns-in_err-next-clause-grows : goal.returns-in_err-next-clause-grows
returns-in_err-next-clause-grows t c =
    let u = c.args.renewal.now in
    let fresh = length c.deref.result.now in
    let leaving = length c.deref-2.result.now in
    let more = c.in-Some.more.now in
    let f = c.deref.ensures.value ∙ (c.in_ok-starts.ensures.items ∙ ap (λ (s : Step). s.starts) c.step.view_is) in
    let l = c.deref-2.ensures.value ∙ (c.in_ok-quits.ensures.items ∙ ap (λ (s : Step). s.quits) c.step.view_is) in
    let all : moved c.args.steps.now ≡ fresh + leaving + moved more =
    ap moved c.in-Some.ensures.cases.0 ∙ (λ i. length (sym f i) + length (sym l i) + moved more) in
    let rest : ℕ = 6 * length u.last.now + (1 + 4 * u.rounds) + length u.dropped.now + length u.left.now + 1 in
    let total : ℕ = 6 * moved c.args.steps.now + 6 * length u.last.now + (1 + 4 * u.rounds) + length u.dropped.now +
    length u.left.now + 1 + cond c.args.first 1 0 in
    let keeps = keeps_on c.args.draft.now c.add_ways.new.draft c.add_starts_any.new.draft
    c.in_ok-ways.ensures.grows.keeps c.in_ok-taken_back.ensures.keeps in
    grown-refused c.args.draft.now c.add_starts_any.new.draft c.add_steps.new.draft
    c.from_residual-in_err-next.result c.in_err-next.field-0.0
    (3 * fresh + 3 * leaving) (6 * moved more + rest) total
    (keeps_on c.args.draft.now c.add_starts_any.new.draft c.add_steps.new.draft keeps c.in_err-next.ensures.grows.keeps)
    (omega (arith, c.in_ok-ways.ensures.grows.count, c.in_ok-taken_back.ensures.count)) (omega (arith, all))
    (λ large. omega (arith, c.in_err-next.ensures.grows.too_large large)) c.from_residual-in_err-next.ensures.1

pub returns-clause-grows : goal.returns-clause-grows
returns-clause-grows t c =
    let u = c.args.renewal.now in
    let fresh = length c.deref.result.now in
    let leaving = length c.deref-2.result.now in
    let more = c.in-Some.more.now in
    let f = c.deref.ensures.value ∙ (c.in_ok-starts.ensures.items ∙ ap (λ (s : Step). s.starts) c.step.view_is) in
    let l = c.deref-2.ensures.value ∙ (c.in_ok-quits.ensures.items ∙ ap (λ (s : Step). s.quits) c.step.view_is) in
    let all : moved c.args.steps.now ≡ fresh + leaving + moved more =
    ap moved c.in-Some.ensures.cases.0 ∙ (λ i. length (sym f i) + length (sym l i) + moved more) in
    let rest : ℕ = 6 * length u.last.now + (1 + 4 * u.rounds) + length u.dropped.now + length u.left.now + 1 in
    let total : ℕ = 6 * moved c.args.steps.now + 6 * length u.last.now + (1 + 4 * u.rounds) + length u.dropped.now +
    length u.left.now + 1 + cond c.args.first 1 0 in
    let keeps = keeps_on c.args.draft.now c.add_ways.new.draft c.add_starts_any.new.draft
    c.in_ok-ways.ensures.grows.keeps c.in_ok-taken_back.ensures.keeps in
    grown c.args.draft.now c.add_steps.new.draft c.add_wave.new.draft c.add_wave.result
    (3 * fresh + 3 * leaving + (6 * moved more + rest)) (3 * fresh + 3 * leaving + cond c.args.first 1 0) total
    (keeps_on c.args.draft.now c.add_starts_any.new.draft c.add_steps.new.draft keeps c.in_ok-next.ensures.grows.keeps)
    (omega (
      arith,
      c.in_ok-ways.ensures.grows.count,
      c.in_ok-taken_back.ensures.count,
      c.in_ok-next.ensures.grows.count,
    )) (omega (arith, all))
    c.add_wave.ensures.grows
