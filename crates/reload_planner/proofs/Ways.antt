-- The places of ways back, and what stands there.
use Rattle.std.proofs.Common.{◌≡◌, ℕ, ◌+◌, ◌<◌, ◌≤◌, Result, Ok, Err, IsErrAnd, IsErrOf, List, length, take}
use Rattle.std.proofs.Common.{reverse, get_or, subst, arith}
use Rattle.std.proofs.lemmas.List.{take_all}
use Rattle.definitions.specs.Run.{Tree}
use Rattle.rollback_plan.specs.declared.draft.Draft.{Draft}
use Rattle.plan_steps.specs.declared.step.Place.{Place}
use Rattle.rollback_plan.specs.declared.draft.DraftRefusal.{DraftRefusal}
use Rattle.rollback_plan.specs.declared.draft.DraftRefusal.TheVariants.{TooLarge}
use Rattle.rollback_plan.specs.declared.draft.TheConstants.{MOST_STEPS}
use Rattle.rollback_plan.specs.Drafts.{trees_of, tree_at, IsMade, Keeps, GrowsWithin}
use Rattle.rollback_plan.specs.Back.{AreMade}
use Rattle.rollback_plan.proofs.DraftTrees.{made_kept, keeps_on}
use Rattle.rollback_plan.proofs.BackTrees.{way_there}

-- the way that undoes all
pub all_undone : (d : Draft) (ways : List Place) (ks : List ℕ) (bad : List ℕ → Tree) (place : Place) →
    AreMade d ways (length ks) (λ i. bad (reverse (take i ks))) → place ≡ get_or ways (length ks) place →
    IsMade d place (bad (reverse ks))
all_undone d ways ks bad place made is =
    subst (λ (xs : List ℕ). IsMade d place (bad (reverse xs))) (take_all (length ks) ks (omega arith))
    (way_there d ways (length ks) (λ i. bad (reverse (take i ks))) place made is)

-- what stands at a place, in a draft that has more
pub still : (old new : Draft) (place : Place) (tree : Tree) → Keeps old new → IsMade old place tree →
    tree_at new place ≡ tree
still old new place tree keeps made = (made_kept old new place tree keeps made).is

---- What is added behind what was added before

pub grown : (old mid new : Draft) (result : Result Place DraftRefusal) (n more total : ℕ) → Keeps old mid →
    length (trees_of mid) ≤ length (trees_of old) + n → n + more ≤ total → GrowsWithin {T = Place} mid new result more →
    GrowsWithin {T = Place} old new result total
grown old mid new (Ok place) n more total keeps few le grows =
    record {
      count = omega (arith, grows.count, few, le);
      keeps = keeps_on old mid new keeps grows.keeps;
      too_large = λ is. omega (arith, grows.too_large is, few, le);
    }
grown old mid new (Err e) n more total keeps few le grows =
    record {
      count = tt;
      keeps = keeps_on old mid new keeps grows.keeps;
      too_large = λ is. omega (arith, grows.too_large is, few, le);
    }

pub grown-refused : (old mid new : Draft) (result : Result Place DraftRefusal) (e : DraftRefusal) (n more total : ℕ)
    → Keeps old new →
    length (trees_of mid) ≤ length (trees_of old) + n → n + more ≤ total →
    (IsErrOf {T = Place} (Err e) TooLarge → MOST_STEPS < length (trees_of mid) + more) → IsErrAnd result (λ d. d ≡ e) →
    GrowsWithin {T = Place} old new result total
grown-refused old mid new (Ok place) e n more total keeps few le far is = absurd is
grown-refused old mid new (Err d) e n more total keeps few le far is =
    record {
      count = tt;
      keeps = keeps;
      too_large = λ large.
          let past = far (subst (λ (x : DraftRefusal). IsErrOf {T = Place} (Err x) TooLarge) is large) in
          omega (arith, past, few, le);
    }
