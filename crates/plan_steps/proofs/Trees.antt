-- The tree behind an edge, among more trees.
use Rattle.std.proofs.Common.{◌≡◌, ℕ, zero, suc, ◌-◌, ◌<◌, true, List, [], ◌∷◌, ◌++◌, length, refl, ap, arith, Some, slice_get, unwrap_or}
use Rattle.std.proofs.lemmas.Bool.{ltb-true}
use Rattle.vocabulary.specs.declared.plans.End.TheVariants.{Done}
use Rattle.definitions.specs.Run.{Tree, Ends}
use Rattle.plan_steps.specs.declared.step.Next.{Next}
use Rattle.plan_steps.specs.declared.step.Next.TheVariants.{To, Over, Both}
use Rattle.plan_steps.specs.Steps.{tree_among, is_below}

pub slice_get-append : {X : Type 0} (xs ys : List X) (k : ℕ) → k < length xs → slice_get (xs ++ ys) k ≡ slice_get xs k
slice_get-append [] ys k h = absurd (omega arith)
slice_get-append (x ∷ xs) ys zero h = refl
slice_get-append (x ∷ xs) ys (suc k) h = slice_get-append xs ys k (omega arith)

pub slice_get-seam : {X : Type 0} (xs : List X) (y : X) (ys : List X) → slice_get (xs ++ y ∷ ys) (length xs) ≡ Some y
slice_get-seam [] y ys = refl
slice_get-seam (x ∷ xs) y ys = slice_get-seam xs y ys

-- the tree behind an edge among more trees
pub tree_more : (trees more : List Tree) (next : Next) → is_below (length trees) next ≡ true → tree_among 0 (trees ++ more) next ≡ tree_among 0 trees next
tree_more trees more (Over end) h = refl
tree_more trees more (Both new old) h = refl
tree_more trees more (To place) h = ap (λ o. unwrap_or o (Ends Done)) (slice_get-append trees more (place.0 - 0) (omega (arith, ltb-true place.0 (length trees) h)))
