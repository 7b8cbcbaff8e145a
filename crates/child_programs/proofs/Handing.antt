-- Lines of a handover, one more at a time, and a service from a line on that was heard.
use Rattle.std.proofs.Common.{◌≡◌, ℕ, inr, List, [], ◌∷◌, ◌++◌, Option, Some, None, refl}
use Rattle.child_programs.specs.Requests.{More, part_of, with_line}
use Rattle.child_programs.specs.Response.{Response}
use Rattle.child_programs.specs.Served.{IsNextLine, IsObeyed, IsServed}
use Rattle.child_programs.specs.Adopting.{AreMore, with_lines}

pub more-push : (lines : List (List ℕ)) (line : List ℕ) → AreMore lines → part_of line ≡ More → AreMore (lines ++ line ∷ [])
more-push [] line are is = (is, tt)
more-push (first ∷ lines) line are is = (are.0, more-push lines line are.1 is)

pub lines-push : (text : List ℕ) (lines : List (List ℕ)) (line : List ℕ) → with_lines text (lines ++ line ∷ []) ≡ with_line (with_lines text lines) line
lines-push text [] line = refl
lines-push text (first ∷ lines) line = lines-push (with_line text first) lines line

module _ {H : Type 0} (hears : H → List ℕ → H → Response → Type 0) where
  -- the first line was heard, and the program goes on
  pub served-after : (unread left : Option (List ℕ)) (line : List ℕ) (old mid new : H) (before between after : Option (List ℕ)) (status : ℕ) →
      IsNextLine unread (Some line) left → IsObeyed hears old before line None mid between →
      IsServed hears left mid between status new after → IsServed hears unread old before status new after
  served-after unread left line old mid new before between after status next one rest = record {
    lines = line ∷ rest.lines;
    left = rest.left;
    mid = rest.mid;
    between = rest.between;
    are_next = (left, next, rest.are_next);
    are_obeyed = (mid, between, one, rest.are_obeyed);
    ends = rest.ends;
  }

  -- the program ends at its first line
  pub served-at : (unread left : Option (List ℕ)) (line : List ℕ) (old new : H) (before after : Option (List ℕ)) (status : ℕ) →
      IsNextLine unread (Some line) left → IsObeyed hears old before line (Some status) new after → IsServed hears unread old before status new after
  served-at unread left line old new before after status next one = record {
    lines = [];
    left = unread;
    mid = old;
    between = before;
    are_next = refl;
    are_obeyed = (refl, refl);
    ends = inr (line, left, next, one);
  }
