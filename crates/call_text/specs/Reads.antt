-- Readers that accept the texts of values and nothing else.
use Rattle.std.specs.Prelude.{◌≡◌, ℕ, List, Option, Some, IfSome}

-- What was read of a text: a value within its range that has this text; and each such value is read.
pub record Reads {A : Type 0} (IsWithin : A → Type 0) (text_of : A → List ℕ) (text : List ℕ) (outcome : Option A) : Type 0 where
  pub found : IfSome outcome (λ v. IsWithin v × (text ≡ text_of v))
  pub only : (v : A) → IsWithin v → text ≡ text_of v → outcome ≡ Some v
