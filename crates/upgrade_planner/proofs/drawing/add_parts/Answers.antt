use Rattle.std.proofs.Common.{ℕ, ◌+◌, ◌*◌, length, ◌∙◌, ap, subst, arith}
use Rattle.definitions.specs.Calls.{Census, WritePid}
use Rattle.definitions.specs.Run.{Tree}
use Rattle.definitions.specs.Plans.{old_part, pid_calls, relieve, tries, tries_all}
use Rattle.rollback_plan.specs.Drafts.{IsMade, tree_at}
use Rattle.rollback_plan.proofs.DraftTrees.{keeps_on, made_kept, at_kept}
use Rattle.upgrade_planner.specs.Trees.{old_image, new_image, way_back}
use Rattle.upgrade_planner.proofs.Growing.{Grown, all_grown, grown, grown_on, refused_grown, within}
use Rattle.upgrade_planner.proofs.drawing.add_parts.Goals as goal

pub returns-in_err-staying-clause-grows : goal.returns-in_err-staying-clause-grows
returns-in_err-staying-clause-grows c =
    let u = c.args.upgrade.now in
    let on : ℕ = 4 * u.rounds + 6 * length u.old.numbers + 6 in
    let own : ℕ = 2 * length u.coming.now + length u.dropped.now + length u.added.now + 1 in
    let relief = grown c.args.draft.now c.add_relief.new.draft c.in_ok-relief.relief on c.in_ok-relief.ensures.grows in
    let ready = grown_on c.args.draft.now c.add_relief.new.draft c.add_takeover.new.draft on 2 relief (grown c.add_relief.new.draft c.add_takeover.new.draft c.in_ok-ready.ready 2 c.in_ok-ready.ensures.grows) in
    let coming = grown_on c.args.draft.now c.add_takeover.new.draft c.add_new_part.new.draft (on + 2) own ready (grown c.add_takeover.new.draft c.add_new_part.new.draft c.in_ok-coming.coming own c.in_ok-coming.ensures.grows) in
    refused_grown c.args.draft.now c.add_new_part.new.draft c.mending.new.self c.in_err-staying.field-0.0 c.from_residual-in_err-staying.result (on + 2 + own) (1 + 4 * u.rounds)
    (8 * u.rounds + 6 * length u.old.numbers + 2 * length u.coming.now + length u.dropped.now + length u.added.now + 10) coming (within _ _ _ (1 + 4 * u.rounds) c.in_err-staying.ensures.grows) c.from_residual-in_err-staying.ensures.1 (omega arith)

pub returns-clause-grows : goal.returns-clause-grows
returns-clause-grows c =
    let u = c.args.upgrade.now in
    let on : ℕ = 4 * u.rounds + 6 * length u.old.numbers + 6 in
    let own : ℕ = 2 * length u.coming.now + length u.dropped.now + length u.added.now + 1 in
    let relief = grown c.args.draft.now c.add_relief.new.draft c.in_ok-relief.relief on c.in_ok-relief.ensures.grows in
    let ready = grown_on c.args.draft.now c.add_relief.new.draft c.add_takeover.new.draft on 2 relief (grown c.add_relief.new.draft c.add_takeover.new.draft c.in_ok-ready.ready 2 c.in_ok-ready.ensures.grows) in
    let coming = grown_on c.args.draft.now c.add_takeover.new.draft c.add_new_part.new.draft (on + 2) own ready (grown c.add_takeover.new.draft c.add_new_part.new.draft c.in_ok-coming.coming own c.in_ok-coming.ensures.grows) in
    let staying : Grown c.add_new_part.new.draft c.mending.new.self (1 + 4 * u.rounds) = record { keeps = c.in_ok-staying.ensures.grows.keeps; count = omega (arith, c.in_ok-staying.ensures.grows.count) } in
    all_grown c.args.draft.now c.mending.new.self _ (on + 2 + own + (1 + 4 * u.rounds)) (8 * u.rounds + 6 * length u.old.numbers + 2 * length u.coming.now + length u.dropped.now + length u.added.now + 10)
    (grown_on c.args.draft.now c.add_new_part.new.draft c.mending.new.self (on + 2 + own) (1 + 4 * u.rounds) coming staying) (omega arith)

pub returns-clause-made : goal.returns-clause-made
returns-clause-made c =
    let u = c.args.upgrade.now in
    let d0 = c.args.draft.now in
    let d1 = c.add_relief.new.draft in
    let d2 = c.add_takeover.new.draft in
    let d3 = c.add_new_part.new.draft in
    let d4 = c.mending.new.self in
    let k1 = c.in_ok-relief.ensures.grows.keeps in
    let k3 = c.in_ok-coming.ensures.grows.keeps in
    let k4 = c.in_ok-staying.ensures.grows.keeps in
    let k34 = keeps_on d2 d3 d4 k3 k4 in
    let k24 = keeps_on d1 d2 d4 c.in_ok-ready.ensures.grows.keeps k34 in
    let on = relieve u.attended (old_image u) u.old.crew u.new.crew u.old.numbers u.rounds u.path u.workers in
    let over = λ (rest back : Tree). tries_all (new_image u) (pid_calls u.path WritePid) (tries (new_image u) (Census u.new.crew.generation) u.new.numbers rest back) back in
    let goes_on = c.in_ok-relief.ensures.made.is in
    let goes_back = at_kept d0 d1 c.args.back.stopped k1 c.requires.stopped.below ∙ c.requires.stopped.is in
    let ready = subst (IsMade d2 c.in_ok-ready.ready) (ap (λ t. over t (tree_at d1 c.args.back.stopped)) goes_on ∙ ap (over on) goes_back) c.in_ok-ready.ensures.made in
    let staying = subst (λ (by : ℕ). IsMade d4 c.in_ok-staying.staying (old_part by u.old.crew u.old.numbers u.rounds)) c.master.ensures c.in_ok-staying.ensures.made in
    record {
      new = made_kept d3 d4 c.in_ok-coming.coming _ k4 c.in_ok-coming.ensures.made;
      old = staying;
      ready = made_kept d2 d4 c.in_ok-ready.ready _ k34 ready;
      back = made_kept d0 d4 c.args.back.stopped (way_back u) (keeps_on d0 d1 d4 k1 k24) c.requires.stopped;
    }
