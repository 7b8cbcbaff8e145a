-- An upgrade that stands in a draft can be finished in parts.
use Rattle.std.proofs.Common.{◌≡◌, ◌<◌, false, List, length, refl, ◌∙◌, ap, arith}
use Rattle.std.specs.Prelude.{nat_lt}
use Rattle.std.proofs.lemmas.Bool.{lt-ltb}
use Rattle.definitions.specs.Plans.{Turn, graft, pid_calls, relieve, upgrade_tree, only_in}
use Rattle.call_laws.specs.Lengths.{upgrade_length}
use Rattle.definitions.specs.Run.{Tree, Ends, JoinReady, JoinBack}
use Rattle.plan_steps.specs.Fit.{is_fit}
use Rattle.definitions.specs.Calls.{Census, WritePid}
use Rattle.definitions.specs.Table.{Address}
use Rattle.plan_steps.specs.declared.step.Place.{Place}
use Rattle.plan_steps.specs.Steps.{at_place}
use Rattle.plan_steps.specs.Stretches.{AreParts, ends_at, ends_new, ends_old, is_last, is_onward, longest_at, longest_of, to_split}
use Rattle.plan_steps.specs.Woven.{woven_at, part_end}
use Rattle.plan_steps.proofs.StepTrees.{length-trees}
use Rattle.rollback_plan.specs.declared.draft.Draft.{Draft}
use Rattle.rollback_plan.specs.Drafts.{steps_in, IsMade, AreFit}
use Rattle.rollback_plan.proofs.DraftTrees.{at_place_is}
use Rattle.upgrade_planner.specs.Trees.{old_image, new_image, way_back, coming_calls, coming_part, staying_part, taking_over, beginning, IsDrawn}
use Rattle.upgrade_planner.specs.declared.upgrade.Upgrade.{Upgrade}
use Rattle.upgrade_planner.specs.declared.drawing.Drawn.{Drawn}
use Rattle.upgrade_planner.proofs.Endings.{IsLast, beginning_onward, from_last, old_part_end, relieve_last, tries_all_end, tries_end}
use Rattle.upgrade_planner.proofs.Fitness.{beginning_fit, coming_fit, from_fit, old_part_fit, taking_over_fit}
use Rattle.upgrade_planner.proofs.Lengths.{begun_leads}
use Rattle.upgrade_planner.proofs.Upgrades.{woven_is, length_is}

-- the tree at a place of a draft
stands : (d : Draft) (place : Place) (tree : Tree) → IsMade d place tree → at_place (steps_in d) place.0 ≡ tree
stands d place tree made = at_place_is (steps_in d) place ∙ made.is

low : (d : Draft) (place : Place) (tree : Tree) → IsMade d place tree → place.0 < length (steps_in d)
low d place tree made = omega (arith, made.below, length-trees (steps_in d))

taking_over_last : (u : Upgrade) → IsLast (taking_over u)
taking_over_last u =
    let heir = new_image u in
    let on = relieve u.attended (old_image u) u.old.crew u.new.crew u.old.numbers u.rounds u.path u.workers in
    let back = from_last (old_image u) heir u.old.crew u.old.numbers u.rounds u.path in
    tries_all_end is_last heir (pid_calls u.path WritePid) _ (way_back u)
    (tries_end is_last heir (Census u.new.crew.generation) u.new.numbers on (way_back u) (relieve_last u.attended (old_image u) u.old.crew u.new.crew u.old.numbers u.rounds u.path u.workers) back) back

pub drawn_parts : (d : Draft) (u : Upgrade) (drawn : Drawn) → IsDrawn d u drawn → AreParts (steps_in d) drawn.first.0 drawn.parts
drawn_parts d u drawn is =
    let by = old_image u in
    let p = drawn.parts in
    let first = stands d drawn.first (beginning u) is.first in
    record {
      splits = is.splits;
      low = (low d p.new _ is.parts.new, low d p.old _ is.parts.old, low d p.ready _ is.parts.ready, low d p.back _ is.parts.back);
      begins = ap (λ t. nat_lt 0 (to_split t)) first ∙ lt-ltb 0 (to_split (beginning u)) (begun_leads by (new_image u) u.old.crew u.old.numbers u.rounds u.path u.note);
      before = ap (ends_at is_onward) first ∙ beginning_onward by (new_image u) u.old.crew u.old.numbers u.rounds u.path u.note;
      new = ap (ends_at ends_new) (stands d p.new _ is.parts.new) ∙ tries_all_end ends_new (new_image u) (coming_calls u.new.crew u.dropped.now u.added.now u.coming.now) (Ends JoinReady) (Ends JoinBack) refl refl;
      old = ap (ends_at ends_old) (stands d p.old _ is.parts.old) ∙ old_part_end by u.old.crew u.old.numbers u.rounds;
      ready = ap (ends_at is_last) (stands d p.ready _ is.parts.ready) ∙ taking_over_last u;
      back = ap (ends_at is_last) (stands d p.back _ is.parts.back) ∙ from_last by (new_image u) u.old.crew u.old.numbers u.rounds u.path;
    }

pub drawn_fit : (d : Draft) (u : Upgrade) (drawn : Drawn) → IsDrawn d u drawn → AreFit d drawn.first drawn.parts
drawn_fit d u drawn is =
    record {
      before = ap (is_fit false) is.first.is ∙ beginning_fit (old_image u) (new_image u) u.old.crew u.old.numbers u.rounds u.path u.note false;
      new = ap (is_fit false) is.parts.new.is ∙ coming_fit u false;
      old = ap (is_fit false) is.parts.old.is ∙ old_part_fit (old_image u) u.old.crew u.old.numbers u.rounds false;
      ready = ap (is_fit false) is.parts.ready.is ∙ taking_over_fit u false;
      back = ap (is_fit false) is.parts.back.is ∙ from_fit (old_image u) (new_image u) u.old.crew u.old.numbers u.rounds u.path false;
    }

-- the tree at its places, woven, is the one of the definition
pub drawn_tree : (d : Draft) (u : Upgrade) (drawn : Drawn) (held wanted : List Address) → IsDrawn d u drawn →
    u.dropped.now ≡ only_in held wanted → u.added.now ≡ only_in wanted held → (turns : List Turn)
    → woven_at (steps_in d) drawn.first.0 drawn.parts turns
    ≡ upgrade_tree u.attended
    (old_image u) u.old.crew u.new.crew u.old.numbers u.rounds u.path u.note held wanted u.workers turns
drawn_tree d u drawn held wanted is dropped added turns =
    let p = drawn.parts in
    let first = stands d drawn.first (beginning u) is.first in
    let new = stands d p.new (coming_part u) is.parts.new in
    let old = stands d p.old (staying_part u) is.parts.old in
    let ready = stands d p.ready (taking_over u) is.parts.ready in
    let back = stands d p.back (way_back u) is.parts.back in
    (λ i. graft (part_end (ready i) (back i) (new i) (old i) turns) (first i)) ∙ woven_is u held wanted dropped added turns

-- and it is as long
pub drawn_length : (d : Draft) (u : Upgrade) (drawn : Drawn) (held wanted : List Address) → IsDrawn d u drawn →
    u.dropped.now ≡ only_in held wanted → u.added.now ≡ only_in wanted held
    → longest_at (steps_in d) drawn.first.0 drawn.parts
    ≡ upgrade_length u.attended
    (old_image u) u.old.crew u.new.crew u.old.numbers u.rounds u.path u.note held wanted u.workers
drawn_length d u drawn held wanted is dropped added =
    let p = drawn.parts in
    let first = stands d drawn.first (beginning u) is.first in
    let new = stands d p.new (coming_part u) is.parts.new in
    let old = stands d p.old (staying_part u) is.parts.old in
    let ready = stands d p.ready (taking_over u) is.parts.ready in
    let back = stands d p.back (way_back u) is.parts.back in
    (λ i. longest_of (first i) (new i) (old i) (ready i) (back i)) ∙ length_is u held wanted dropped added
