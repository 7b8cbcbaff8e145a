-- The ways back to a settle.
use Rattle.std.specs.Prelude.{◌≡◌, ℕ, ◌+◌, List, [], ◌∷◌, Some, length, slice_get, reverse, take}
use Rattle.listener_set.specs.declared.generation.Generation.{Generation}
use Rattle.definitions.specs.Table.{Address}
use Rattle.definitions.specs.Calls.{Call}
use Rattle.definitions.specs.Run.{Tree}
use Rattle.definitions.specs.Plans.{tells}
use Rattle.call_laws.specs.Pieces.{quits, closes}
use Rattle.plan_steps.specs.declared.step.Place.{Place}
use Rattle.rollback_plan.specs.declared.draft.Draft.{Draft}
use Rattle.rollback_plan.specs.Drafts.{IsMade}

-- Make the first i of these calls, the last of them first.
abbrev pub told_back : ℕ → List Call → Tree → ℕ → Tree
told_back by calls rest i = tells by (reverse (take i calls)) rest

-- Quit the first i of these numbers, the last of them first.
abbrev pub quits_back : ℕ → Generation → List ℕ → Tree → ℕ → Tree
quits_back by g numbers rest i = quits by g (reverse (take i numbers)) rest

-- Close the first i of these addresses, the last of them first.
abbrev pub closes_back : ℕ → List Address → Tree → ℕ → Tree
closes_back by addresses rest i = closes by (reverse (take i addresses)) rest

-- the i-th of these places, of 0 to n, is where the i-th tree stands
pub record AreMade (d : Draft) (places : List Place) (n : ℕ) (tree : ℕ → Tree) : Type 0 where
  pub count : length places ≡ n + 1
  pub made : (i : ℕ) (place : Place) → slice_get places i ≡ Some place → IsMade d place (tree i)
