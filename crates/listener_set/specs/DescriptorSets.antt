-- A set of descriptors from 3 to 66, kept as a word with a bit for each.
use Rattle.std.specs.Prelude.{ℕ, ◌-◌, ◌*◌, ◌^◌, ◌%◌, ◌==◌, ◌&&◌, Bool, List, [], ◌∷◌, filter, nat_le, bit_or}
use Rattle.std.specs.Int.{bit_at}
use Rattle.listener_set.specs.Numbers.{numbers_below, RisesFrom, AreBelow}

-- whether the bit of a descriptor is set
abbrev pub is_bit : ℕ → ℕ → Bool
is_bit word fd = nat_le 3 fd && (bit_at word (fd - 3) == 1)

-- the descriptors whose bits are set
unfoldable pub descriptors_in : ℕ → List ℕ
descriptors_in word = filter (is_bit word) (numbers_below 67)

-- the word with the bit of a descriptor set
abbrev pub with_descriptor : ℕ → ℕ → ℕ
with_descriptor word fd = bit_or word (1 * 2 ^ (fd - 3) % 2 ^ 64)

-- the word of a set
unfoldable pub word_of : List ℕ → ℕ
word_of [] = 0
word_of (fd ∷ fds) = with_descriptor (word_of fds) fd

-- ascending descriptors from 3 to 66
pub record AreDescriptorNumbers (fds : List ℕ) : Type 0 where
  pub rising : RisesFrom 3 fds
  pub below : AreBelow 67 fds
