-- A reload in steps can be run: each step has an edge for each reply, and a worker is named only after a short census.
use Rattle.std.proofs.Common.{◌≡◌, ℕ, Bool, true, false, not, ◌&&◌, List, [], ◌∷◌, reverse, refl}
use Rattle.listener_set.specs.declared.generation.Generation.{Generation}
use Rattle.vocabulary.specs.declared.plans.Side.TheVariants.{Old, Target}
use Rattle.definitions.specs.Table.{Address}
use Rattle.definitions.specs.Calls.{Census}
use Rattle.definitions.specs.Master.{Crew}
use Rattle.definitions.specs.Run.{Tree}
use Rattle.definitions.specs.Plans.{asks, awaits_gone, either, starts}
use Rattle.call_laws.specs.Pieces.{quits}
use Rattle.plan_steps.specs.Fit.{is_fit}
use Rattle.plan_pieces.proofs.Fitness.{settle_fit, quits_fit, closes_fit, awaits_gone_fit, awaits_fit, forks_fit}
use Rattle.plan_pieces.proofs.Fitness.{starts_any_fit, opens_fit}
use Rattle.plan_pieces.proofs.TriedFitness.{IsFit}
use Rattle.reload_planner.specs.Changes.{on_tree}
use Rattle.definitions.specs.Plans.{Step, quits_new, taken_back, in_steps, closes_opened}
use Rattle.reload_planner.specs.Trees.{last_tree, renewed_tree}

starts-fit : (by : ℕ) (crew : Crew) (ks : List ℕ) (ok : Tree) (bad : List ℕ → Tree) → IsFit ok →
    ((forked : List ℕ) → IsFit (bad forked)) →
    IsFit (starts by crew ks ok bad)
starts-fit by crew ks ok bad h e short =
    forks_fit by crew ks [] _ _ short (λ forked. awaits_fit by crew.generation ks ok (bad forked) short (h short)
    (e forked short)) (λ forked. e forked short)

asks-fit : (asked : Bool) (by question : ℕ) (on back : Tree) → IsFit on → IsFit back →
    IsFit (asks asked by question on back)
asks-fit true by question on back h e short = rw (h short, e short) refl
asks-fit false by question on back h e short = h short

census-fit : (by : ℕ) (g : Generation) (set : List ℕ) (full short_tree : Tree) → IsFit full → IsFit short_tree →
    IsFit (either by (Census g) set full short_tree)
census-fit by g set full short_tree h e short = rw (h false, e true) refl

on-fit : (by : ℕ) (old new : Crew) (leaving : List ℕ) (rounds : ℕ) (dropped : List Address) (wanted : List ℕ) →
    IsFit (on_tree by old new leaving rounds dropped wanted)
on-fit by old new leaving rounds dropped wanted short =
    quits_fit by old.generation (reverse leaving) _ short
    (closes_fit by dropped _ short (settle_fit by new wanted Target rounds short))

closed-fit : (by : ℕ) (old : Crew) (ready : List ℕ) (rounds : ℕ) (opened : List Address) →
    IsFit (closes_opened by old ready rounds opened)
closed-fit by old ready rounds opened short = closes_fit by opened _ short (settle_fit by old ready Old rounds short)

quits-new-fit : (by : ℕ) (new : Crew) (waits : Bool) (numbers : List ℕ) (back : Tree) (forked : List ℕ) → IsFit back →
    IsFit (quits_new by new waits numbers back forked)
quits-new-fit by new true numbers back forked h short =
    quits_fit by new.generation forked _ short (awaits_gone_fit by new.generation (reverse numbers) back short
    (h short))
quits-new-fit by new false numbers back forked h short = quits_fit by new.generation forked back short (h short)

last-fit : (asked : Bool) (by : ℕ) (old new : Crew) (numbers left : List ℕ) (rounds : ℕ) (dropped : List Address)
    (wanted : List ℕ)
    (first : Bool) (back : Tree) → IsFit back → IsFit (last_tree asked by old new numbers left rounds dropped wanted
    first back)
last-fit asked by old new numbers left rounds dropped wanted first back h =
    let undone = λ (forked : List ℕ). quits-new-fit by new (not first) numbers back forked h in
    let bad = quits_new by new (not first) numbers back in
    let on = on_tree by old new left rounds dropped wanted in
    starts-fit by new numbers
    (either by (Census new.generation) wanted (asks (asked && first) by 1 on (bad (reverse numbers)))
    (bad (reverse numbers))) bad
    (census-fit by new.generation wanted (asks (asked && first) by 1 on (bad (reverse numbers))) (bad (reverse numbers))
    (asks-fit (asked && first) by 1 on (bad (reverse numbers)) (on-fit by old new left rounds dropped wanted)
    (undone (reverse numbers)))
    (undone (reverse numbers)))
    undone

steps-fit : (asked first : Bool) (by : ℕ) (old new : Crew) (steps : List Step) (last : Bool → Tree → Tree)
    (back : Tree) →
    ((b : Bool) (t : Tree) → IsFit t → IsFit (last b t)) → IsFit back →
    IsFit (in_steps asked first by old new steps last back)
steps-fit asked first by old new [] last back all h = all first back h
steps-fit asked first by old new (step ∷ steps) last back all h =
    let undone = λ (forked : List ℕ). quits-new-fit by new (not first) step.starts back forked h in
    let taken = λ (short : Bool). starts_any_fit by old step.quits _ short (undone (reverse step.starts) short) in
    let later = in_steps asked false by old new steps last (taken_back by old new (not first) step back) in
    let rest = steps-fit asked false by old new steps last (taken_back by old new (not first) step back) all taken in
    let bad = quits_new by new (not first) step.starts back in
    let leave = quits by old.generation (reverse step.quits)
    (awaits_gone by old.generation (reverse step.quits) later) in
    let leaves : IsFit leave = λ short. quits_fit by old.generation (reverse step.quits) _ short
    (awaits_gone_fit by old.generation (reverse step.quits) later short (rest short)) in
    starts-fit by new step.starts (asks (asked && first) by 1 leave (bad (reverse step.starts))) bad
    (asks-fit (asked && first) by 1 leave (bad (reverse step.starts)) leaves (undone (reverse step.starts)))
    undone

pub renewed-fit : (asked : Bool) (by : ℕ) (old new : Crew) (ready : List ℕ) (rounds : ℕ)
    (added dropped : List Address) (wanted : List ℕ)
    (steps : List Step) (last left : List ℕ) →
    is_fit false (renewed_tree asked by old new ready rounds added dropped wanted steps last left) ≡ true
renewed-fit asked by old new ready rounds added dropped wanted steps last left =
    opens_fit by added [] _ _ false
    (λ opened. steps-fit asked true by old new steps (last_tree asked by old new last left rounds dropped wanted)
    (closes_opened by old ready rounds opened)
    (λ b t h. last-fit asked by old new last left rounds dropped wanted b t h)
    (closed-fit by old ready rounds opened) false)
    (λ opened. closed-fit by old ready rounds opened false)
