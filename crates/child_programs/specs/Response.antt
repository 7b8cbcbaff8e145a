-- What a program does at a line.
use Rattle.std.specs.Prelude.{⊤, ◌≡◌, ℕ, ◌<◌, ◌⊎◌, List, [], ◌∷◌, ◌++◌, Option, Some, None, length}
use Rattle.child_programs.specs.declared.hearing.Reaction.{Reaction}
use Rattle.child_programs.specs.declared.hearing.Reaction.TheVariants.{Quiet, Says, Leaves, Fails}

-- Nothing is said; an answer is said; it is said, and the program ends with status 0; or the program ends with status 1.
pub data Response : Type 0 where
  quiet : Response
  says : List ℕ → Response
  leaves : List ℕ → Response
  fails : Response

-- by what is to be done, and the line that has the answer
abbrev pub response_of : Reaction → List ℕ → Response
response_of Quiet text = quiet
response_of Says text = says text
response_of Leaves text = leaves text
response_of Fails text = fails

-- An answer leaves room for its newline.
abbrev pub HasRoom : Response → Type 0
HasRoom quiet = ⊤
HasRoom (says text) = length text < 4096
HasRoom (leaves text) = length text < 4096
HasRoom fails = ⊤

-- The exit status where the program ends then, 1 where it can't write its answer. `wrote` says of a text that it was written, and
-- nothing else.
abbrev pub IsActed : Response → Option ℕ → (List ℕ → Type 0) → Type 0
IsActed quiet status wrote = (status ≡ None) × wrote []
IsActed (says text) status wrote = ((status ≡ None) × wrote (text ++ 10 ∷ [])) ⊎ (status ≡ Some 1)
IsActed (leaves text) status wrote = ((status ≡ Some 0) × wrote (text ++ 10 ∷ [])) ⊎ (status ≡ Some 1)
IsActed fails status wrote = (status ≡ Some 1) × wrote []
