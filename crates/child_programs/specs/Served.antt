-- What a program on pipes hears of its input, and how it ends.
use Rattle.std.specs.Prelude.{ℕ, ◌≡◌, ◌⊎◌, Bool, true, false, List, [], ◌∷◌, Option, Some, None, IfSome}
use Rattle.std.specs.Io.KnownBytes.{Appends}
use Rattle.child_family.specs.Told.{Hearing, line, too_long, ended}
use Rattle.child_processes.specs.NextLine.{heard_in, left_in}
use Rattle.child_programs.specs.Response.{Response, IsActed}

-- What a program hears: a line that is too long as an empty one, and none at the end.
abbrev pub told_by : Hearing → Option (List ℕ)
told_by (line text) = Some text
told_by too_long = Some []
told_by ended = None

-- whether there was one, and its text
abbrev pub if_more : Bool → List ℕ → Option (List ℕ)
if_more true text = Some text
if_more false text = None

-- Where the bytes of an input are known, this is the next line that is heard of them, and the others are left. At their end there is
-- none.
abbrev pub IsNextLine : Option (List ℕ) → Option (List ℕ) → Option (List ℕ) → Type 0
IsNextLine unread next left = IfSome unread (λ bytes. (next ≡ told_by (heard_in bytes)) × (left ≡ Some (left_in bytes)))

-- These are the next lines, one after another.
abbrev pub AreNextLines : Option (List ℕ) → List (List ℕ) → Option (List ℕ) → Type 0
AreNextLines unread [] left = left ≡ unread
AreNextLines unread (first ∷ lines) left = (mid : Option (List ℕ)) × IsNextLine unread (Some first) mid × AreNextLines mid lines left

module _ {H : Type 0} (hears : H → List ℕ → H → Response → Type 0) where
  -- A line was heard, and what came of it was done: what is said goes behind what was said before.
  abbrev pub IsObeyed : H → Option (List ℕ) → List ℕ → Option ℕ → H → Option (List ℕ) → Type 0
  IsObeyed old before text status new after = (r : Response) × hears old text new r × IsActed r status (λ said. Appends before after said)

  -- These lines were, one after another, and the program went on.
  abbrev pub AreObeyed : H → Option (List ℕ) → List (List ℕ) → H → Option (List ℕ) → Type 0
  AreObeyed old before [] new after = (new ≡ old) × (after ≡ before)
  AreObeyed old before (first ∷ lines) new after =
      (mid : H) × (between : Option (List ℕ)) × IsObeyed old before first None mid between × AreObeyed mid between lines new after

  -- The input ended, or a read failed: nothing more is said.
  abbrev pub EndsUnasked : Option (List ℕ) → H → Option (List ℕ) → ℕ → H → Option (List ℕ) → Type 0
  EndsUnasked unread old before status new after =
      (new ≡ old) × (after ≡ before) × (((status ≡ 0) × (left : Option (List ℕ)) × IsNextLine unread None left) ⊎ (status ≡ 1))

  -- The program ended at its next line.
  abbrev pub EndsAtLine : Option (List ℕ) → H → Option (List ℕ) → ℕ → H → Option (List ℕ) → Type 0
  EndsAtLine unread old before status new after =
      (text : List ℕ) × (left : Option (List ℕ)) × IsNextLine unread (Some text) left × IsObeyed old before text (Some status) new after

  -- From its first line to its end: each line that it heard was the next one.
  pub record IsServed (unread : Option (List ℕ)) (old : H) (before : Option (List ℕ)) (status : ℕ) (new : H) (after : Option (List ℕ)) : Type 0 where
    pub lines : List (List ℕ)
    pub left : Option (List ℕ)
    pub mid : H
    pub between : Option (List ℕ)
    pub are_next : AreNextLines unread lines left
    pub are_obeyed : AreObeyed old before lines mid between
    pub ends : EndsUnasked left mid between status new after ⊎ EndsAtLine left mid between status new after
