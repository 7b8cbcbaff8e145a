-- Whose steps the parts of an upgrade are.
use Rattle.std.proofs.Common.{◌≡◌, ◌≢◌, ◌+◌, ℕ, zero, suc, ◌==◌, Bool, true, List, [], ◌∷◌, refl, arith}
use Rattle.std.proofs.lemmas.Bool.Decides.{nat_tests}
use Rattle.vocabulary.specs.declared.plans.End.TheVariants.{JoinReady, JoinBack}
use Rattle.definitions.specs.Calls.{Call}
use Rattle.definitions.specs.Master.{Crew}
use Rattle.definitions.specs.Run.{Tree, Ends}
use Rattle.definitions.specs.Plans.{tries_all, old_part}
use Rattle.rollback_plan.specs.Masters.{all_by, are_apart}
use Rattle.rollback_plan.proofs.Apart.{apart_by}
use Rattle.upgrade_planner.specs.declared.upgrade.Upgrade.{Upgrade}
use Rattle.rollback_plan.specs.declared.draft.Draft.{Draft}
use Rattle.rollback_plan.specs.Drafts.{tree_at}
use Rattle.upgrade_planner.specs.declared.drawing.Drawn.{Drawn}
use Rattle.upgrade_planner.specs.Trees.{old_image, new_image, coming_calls, coming_part, staying_part, IsDrawn}

-- what a master tries is its own, as far as what follows is
tries-by : (test : ℕ → Bool) (by : ℕ) (calls : List Call) (rest back : Tree) → test by ≡ true →
    all_by test rest ≡ true → all_by test back ≡ true → all_by test (tries_all by calls rest back) ≡ true
tries-by test by [] rest back own h k = h
tries-by test by (call ∷ calls) rest back own h k = let more = tries-by test by calls rest back own h k in rw (own, more, k) refl

-- and so is what the old master mends
mends-by : (test : ℕ → Bool) (by : ℕ) (crew : Crew) (ready : List ℕ) (rounds : ℕ) → test by ≡ true → all_by test (old_part by crew ready rounds) ≡ true
mends-by test by crew ready zero own = rw own refl
mends-by test by crew ready (suc rounds) own = let more = mends-by test by crew ready rounds own in rw (own, more) refl

pub parts-apart : (u : Upgrade) → new_image u ≡ old_image u + 1 → are_apart (coming_part u) (staying_part u) ≡ true
parts-apart u next =
    apart_by (new_image u) (old_image u) (coming_part u) (staying_part u) (λ same. absurd (omega (arith, next, same)))
    (tries-by (λ image. image == new_image u) (new_image u) (coming_calls u.new.crew u.dropped.now u.added.now u.coming.now) (Ends JoinReady) (Ends JoinBack) (itself (new_image u)) refl refl)
    (mends-by (λ image. image == old_image u) (old_image u) u.old.crew u.old.numbers u.rounds (itself (old_image u)))
  where
    itself : (image : ℕ) → (image == image) ≡ true
    itself image = grind (arith, nat_tests)

-- No master has steps in both parts of an upgrade that stands in a draft.
pub drawn_apart : (d : Draft) (u : Upgrade) (drawn : Drawn) → IsDrawn d u drawn → new_image u ≡ old_image u + 1 →
    are_apart (tree_at d drawn.parts.new) (tree_at d drawn.parts.old) ≡ true
drawn_apart d u drawn made next = rw (made.parts.new.is, made.parts.old.is) (parts-apart u next)
