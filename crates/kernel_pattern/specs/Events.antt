-- Events as a pattern keeps them.
use Rattle.std.specs.Prelude.{ℕ, ◌≡◌, ◌<◌, nat_le, List, length, get_or}
use Rattle.std.specs.List.{position_or_len}
use Rattle.definitions.specs.Run.{Moment}
use Rattle.kernel_pattern.specs.declared.pattern.PatternEvent.{PatternEvent}

abbrev pub seen_event : PatternEvent → ℕ × Moment
seen_event e = (e.number, record { exits = e.exits.items; fate = e.fate })

-- the event of the number stands at the place
pub record IsListed (es : List PatternEvent) (n place : ℕ) : Type 0 where
  pub within : place < length es
  pub number : (d : PatternEvent) → (get_or es place d).number ≡ n

-- no event has the number: the place is that of the first with a higher one
pub record IsUnlisted (es : List PatternEvent) (n place : ℕ) : Type 0 where
  pub first : place ≡ position_or_len (λ e. nat_le n e.number) es
  pub other : (d : PatternEvent) → place < length es → (get_or es place d).number ≡ n → ⊥
