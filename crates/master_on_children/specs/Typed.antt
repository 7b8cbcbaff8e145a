-- The lines that an operator types.
use Rattle.std.specs.Prelude.{ℕ, ◌≡◌, List, [], ◌∷◌, Option, Some, None, Result, Err, ⊤}
use Rattle.control_words.specs.Words.{reading}
use Rattle.control_words.specs.declared.words.Word.{Word}
use Rattle.control_words.specs.declared.refusal.WordRefusal.{WordRefusal}
use Rattle.control_words.specs.declared.refusal.WordRefusal.TheVariants.{Unknown}
use Rattle.child_family.specs.Told.{Hearing, line, too_long, ended}
use Rattle.child_processes.specs.NextLine.{line_in, rest_in}

-- a line as it was read: a word, or why it is none
abbrev pub Typed : Type 0
Typed = Result Word WordRefusal

-- What an input told, as a line that is read: one of more than 4,096 bytes is no word. At the end there is none.
abbrev pub typed : Hearing → Option Typed
typed (line text) = Some (reading text)
typed too_long = Some (Err Unknown)
typed ended = None

-- the first of the lines that wait, and the others
abbrev pub first_of : List Typed → Option Typed
first_of [] = None
first_of (first ∷ others) = Some first

abbrev pub others_of : List Typed → List Typed
others_of [] = []
others_of (first ∷ others) = others

-- These are the next lines of the bytes, one after another, and these bytes are left.
abbrev pub AreTyped : List ℕ → List Typed → List ℕ → Type 0
AreTyped bytes [] left = left ≡ bytes
AreTyped bytes (first ∷ lines) left = (typed (line_in bytes) ≡ Some first) × AreTyped (rest_in bytes) lines left

-- The same, where the bytes of an input are known.
abbrev pub AreRead : Option (List ℕ) → List Typed → Option (List ℕ) → Type 0
AreRead None lines new = ⊤
AreRead (Some bytes) lines None = ⊥
AreRead (Some bytes) lines (Some left) = AreTyped bytes lines left

-- Where the bytes were known, none are left.
abbrev pub IsWhole : Option (List ℕ) → Option (List ℕ) → Type 0
IsWhole None new = ⊤
IsWhole (Some bytes) new = new ≡ Some []
