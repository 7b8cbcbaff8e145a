use Rattle.std.proofs.Common.{length, get_or, reverse, sym, ◌∙◌, ap, arith}
use Rattle.std.proofs.lemmas.List.{take_all}
use Rattle.std.proofs.lemmas.Option.{slice_get-get_or}
use Rattle.std.proofs.lemmas.Result.{IfOk-weaker}
use Rattle.listener_set.specs.declared.generation.Generation.{Generation}
use Rattle.definitions.specs.Master.{Crew}
use Rattle.definitions.specs.Plans.{awaits}
use Rattle.plan_steps.specs.declared.step.Place.{Place}
use Rattle.rollback_plan.specs.Drafts.{tree_at}
use Rattle.rollback_plan.proofs.BackTrees.{all_kept}
use Rattle.plan_pieces.proofs.AttemptTrees.{forks_attempted}
use Rattle.plan_pieces.proofs.Places.{places_kept}
use Rattle.plan_pieces.proofs.starting.add_starts.Goals as goal

pub add_attempts-requires-clause-ways : goal.add_attempts-requires-clause-ways
add_attempts-requires-clause-ways c = places_kept c.args.draft.now c.add_awaits.new.draft c.args.ways_back.now c.in_ok-waits.ensures.grows.keeps c.requires.ways

pub returns-clause-made : goal.returns-clause-made
returns-clause-made c =
    let by = c.args.by in
    let crew = c.args.crew.now in
    let g = crew.generation in
    let ks = c.args.numbers.now in
    let ok = tree_at c.args.draft.now c.args.rest in
    let here = ap (λ (k : Crew). k.generation) c.crew.view_is in
    IfOk-weaker c.add_attempts.result _ _
    (λ place made bad ways.
    let n = length ks in
    let failed : Place = get_or c.args.ways_back.now n (record { 0 = 0 }) in
    let back = ways.made n failed (slice_get-get_or c.args.ways_back.now n (record { 0 = 0 }) (omega (arith, c.requires.each))) in
    let all = ap (λ xs. bad (reverse xs)) (take_all n ks (omega arith)) in
    made _ _
    (all_kept c.args.draft.now c.add_awaits.new.draft c.args.ways_back.now n _ c.in_ok-waits.ensures.grows.keeps ways)
    (forks_attempted by crew ks _ (λ forked. awaits by g ks ok (bad forked)) bad
    (sym (c.in_ok-waits.ensures.made.is ∙ (ap (λ (h : Generation). awaits by h ks ok (tree_at c.args.draft.now failed)) here ∙ ap (awaits by g ks ok) (back.is ∙ all))))))
    c.add_attempts.ensures.made
