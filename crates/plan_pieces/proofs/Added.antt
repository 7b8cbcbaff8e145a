-- Calls that stand in a draft, one after another.
use Rattle.std.proofs.Common.{◌≡◌, ℕ, ◌+◌, ◌<◌, ◌≤◌, List, ◌∷◌, Result, Ok, Err, IsErrAnd, IsErrOf, length, ◌∙◌, ap, subst, arith}
use Rattle.definitions.specs.Calls.{Call}
use Rattle.rollback_plan.specs.declared.draft.Draft.{Draft}
use Rattle.rollback_plan.specs.declared.draft.DraftRefusal.{DraftRefusal}
use Rattle.rollback_plan.specs.declared.draft.DraftRefusal.TheVariants.{TooLarge}
use Rattle.rollback_plan.specs.declared.draft.TheConstants.{MOST_STEPS}
use Rattle.plan_steps.specs.declared.step.Place.{Place}
use Rattle.rollback_plan.specs.Drafts.{trees_of, tree_at, IsMade, Keeps, Grows}
use Rattle.rollback_plan.proofs.DraftTrees.{keeps_on}
use Rattle.plan_pieces.specs.Pieces.{anyway, anyway_steps, all_anyway}
use Rattle.plan_pieces.proofs.Batches.{all_steps}

-- these calls were added before the rest
pub record Added (old new : Draft) (by : ℕ) (rest next : Place) (calls : List Call) : Type 0 where
  pub made : IsMade new next (all_anyway by calls (tree_at old rest))
  pub count : length (trees_of new) ≡ length (trees_of old) + all_steps calls
  pub keeps : Keeps old new

-- one call more
pub added_more : (old mid new : Draft) (by : ℕ) (rest next place : Place) (call : Call) (calls : List Call) →
    Added old mid by rest next calls → IsMade new place (anyway by call (tree_at mid next))
    → length (trees_of new) ≡ length (trees_of mid) + anyway_steps call → Keeps mid new → Added old new by rest place (call ∷ calls)
added_more old mid new by rest next place call calls before made count keeps =
    record {
      made = record { below = made.below; is = made.is ∙ ap (anyway by call) before.made.is };
      count = omega (arith, count, before.count);
      keeps = keeps_on old mid new before.keeps keeps;
    }

-- a call that is refused after others
pub refused : (old mid new : Draft) (by : ℕ) (rest next : Place) (calls : List Call) (m n : ℕ) (e : DraftRefusal)
    (r : Result Place DraftRefusal) → Added old mid by rest next calls → all_steps calls + m ≤ n
    → Grows {T = Place} mid new (Err e) m → IsErrAnd r (λ d. d ≡ e) → IsErrOf r TooLarge → MOST_STEPS < length (trees_of old) + n
refused old mid new by rest next calls m n e (Ok place) before low grows none is = absurd none
refused old mid new by rest next calls m n e (Err d) before low grows same is =
    let far = grows.too_large (subst (λ (x : DraftRefusal). IsErrOf {T = Place} (Err x) TooLarge) same is) in
    omega (arith, far, before.count, low)
