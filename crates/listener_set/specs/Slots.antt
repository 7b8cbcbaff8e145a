-- Sockets at numbered places.
use Rattle.std.specs.Prelude.{ℕ, ◌≡◌, ◌≢◌, ◌<◌, ◌+◌, ◌*◌, ◌^◌, ◌==◌, List, [], ◌∷◌, length, Option, Some, None, map, get_or, unwrap_or, if◌then◌else◌}
use Rattle.std.specs.List.{range_with_len}
use Rattle.std.specs.Int.{bit_at}

-- what is at a place: a socket, where the place's bit says that it is taken
abbrev pub slot_at : ℕ → List ℕ → ℕ → Option ℕ
slot_at taken sockets place = if bit_at taken place == 1 then Some (get_or sockets place 0) else None

unfoldable pub slots_in : ℕ → List ℕ → List (Option ℕ)
slots_in taken sockets = map (λ i. slot_at taken sockets i) (range_with_len 0 64)

-- A bit for each of 64 places, and a number, which is 0 where the place is not taken.
pub record AreSlots (taken : ℕ) (sockets : List ℕ) : Type 0 where
  pub fits : taken < 2 ^ 64
  pub count : length sockets ≡ 64
  pub clear : (k : ℕ) → k < 64 → bit_at taken k ≡ 0 → get_or sockets k 0 ≡ 0

---- From slots back to bits and numbers

unfoldable pub bits_of : List (Option ℕ) → ℕ
bits_of [] = 0
bits_of (None ∷ slots) = bits_of slots * 2
bits_of (Some socket ∷ slots) = bits_of slots * 2 + 1

abbrev pub number_in : Option ℕ → ℕ
number_in slot = unwrap_or slot 0

unfoldable pub numbers_in : List (Option ℕ) → List ℕ
numbers_in slots = map number_in slots

---- Places

-- the first place without a socket
pub record IsFirstFree (slots : List (Option ℕ)) (i : ℕ) : Type 0 where
  pub within : i < length slots
  pub free : get_or slots i None ≡ None
  pub taken : (k : ℕ) → k < i → get_or slots k None ≢ None
