-- Conversations with children.
use Rattle.std.specs.Prelude.{◌≡◌, ℕ, Bool, List, [], ◌∷◌, ◌++◌, Option, Some, IfSome, Result}
use Rattle.child_family.specs.Told.{Told, Hearing, Role, StartFault, started_child, said, heard, stopped_child, awaited_child, wrote_file, renamed_file, removed_file}

-- A conversation: its end, with what comes of it; or one call of a family, and what follows each of its answers.
pub data Talk (A : Type 0) : Type 0 where
  ends : A → Talk A
  starts_child : Role → (Result ℕ StartFault → Talk A) → Talk A
  says : ℕ → List ℕ → (Bool → Talk A) → Talk A
  hears : ℕ → (Hearing → Talk A) → Talk A
  stops_child : ℕ → Talk A → Talk A
  awaits_child : ℕ → (Bool → Talk A) → Talk A
  writes_file : List ℕ → List ℕ → (Bool → Talk A) → Talk A
  renames_file : List ℕ → List ℕ → (Bool → Talk A) → Talk A
  removes_file : List ℕ → (Bool → Talk A) → Talk A

-- These calls with their answers are the conversation to its end, and this comes of it.
abbrev pub IsHeld : {A : Type 0} → Talk A → List Told → A → Type 0
IsHeld (ends a) ts b = (ts ≡ []) × (b ≡ a)
IsHeld (starts_child role then) ts b =
    (r : Result ℕ StartFault) × (more : List Told) × (ts ≡ started_child role r ∷ more) × IsHeld (then r) more b
IsHeld (says id text then) ts b =
    (r : Bool) × (more : List Told) × (ts ≡ said id text r ∷ more) × IsHeld (then r) more b
IsHeld (hears id then) ts b =
    (r : Hearing) × (more : List Told) × (ts ≡ heard id r ∷ more) × IsHeld (then r) more b
IsHeld (stops_child id then) ts b = (more : List Told) × (ts ≡ stopped_child id ∷ more) × IsHeld then more b
IsHeld (awaits_child id then) ts b =
    (r : Bool) × (more : List Told) × (ts ≡ awaited_child id r ∷ more) × IsHeld (then r) more b
IsHeld (writes_file path text then) ts b =
    (r : Bool) × (more : List Told) × (ts ≡ wrote_file path text r ∷ more) × IsHeld (then r) more b
IsHeld (renames_file from to then) ts b =
    (r : Bool) × (more : List Told) × (ts ≡ renamed_file from to r ∷ more) × IsHeld (then r) more b
IsHeld (removes_file path then) ts b =
    (r : Bool) × (more : List Told) × (ts ≡ removed_file path r ∷ more) × IsHeld (then r) more b

-- Where the family tells its calls, those between the two moments are the conversation, and this comes of it.
pub record Held {A : Type 0} (old new : Option (List Told)) (talk : Talk A) (a : A) : Type 0 where
  pub told : IfSome new (λ ys. (xs ts : List Told) × (old ≡ Some xs) × (ys ≡ xs ++ ts) × IsHeld talk ts a)

-- Whatever conversation follows: what was told between the two moments was the beginning of this one.
abbrev pub Begins : {A : Type 0} → Option (List Told) → Option (List Told) → (Talk A → Talk A) → Type 0
Begins {A} old new talk = (last : Option (List Told)) (rest : Talk A) (a : A) → Held new last rest a → Held old last (talk rest) a
