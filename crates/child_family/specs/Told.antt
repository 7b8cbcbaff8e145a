-- The calls of a family, as a list.
use Rattle.std.specs.Prelude.{◌≡◌, ℕ, Bool, List, [], ◌∷◌, ◌++◌, Option, Some, IfSome, Result}
pub use Rattle.child_family.specs.declared.role.Role.{Role}
pub use Rattle.child_family.specs.declared.role.Role.TheVariants.{Worker, Master}
pub use Rattle.child_family.specs.declared.role.StartFault.{StartFault}
pub use Rattle.child_family.specs.declared.role.StartFault.TheVariants as fault
use Rattle.child_family.specs.declared.role.Heard.{Heard}
use Rattle.child_family.specs.declared.role.Heard.TheVariants.{Line, Ended, TooLong}

-- what a child was heard to say: a line, a line that is too long, or nothing more
pub data Hearing : Type 0 where
  line : List ℕ → Hearing
  too_long : Hearing
  ended : Hearing

-- by what `hear` gave, and the line that it filled
abbrev pub heard_of : Heard → List ℕ → Hearing
heard_of Line text = line text
heard_of TooLong text = too_long
heard_of Ended text = ended

-- one call, with its answer
pub data Told : Type 0 where
  started_child : Role → Result ℕ StartFault → Told
  said : ℕ → List ℕ → Bool → Told
  heard : ℕ → Hearing → Told
  stopped_child : ℕ → Told
  awaited_child : ℕ → Bool → Told
  wrote_file : List ℕ → List ℕ → Bool → Told
  renamed_file : List ℕ → List ℕ → Bool → Told
  removed_file : List ℕ → Bool → Told

-- Where the family tells its calls, it told them before too, and this one after those. One that could not keep a call in mind
-- tells none from then on.
pub record Tells (old new : Option (List Told)) (call : Told) : Type 0 where
  pub told : IfSome new (λ ys. (xs : List Told) × (old ≡ Some xs) × (ys ≡ xs ++ call ∷ []))
