-- A set of numbers below 1024, kept as sixteen words with a bit for each number.
use Rattle.std.specs.Prelude.{ℕ, ◌≡◌, ◌<◌, ◌*◌, ◌^◌, ◌/◌, ◌%◌, ◌==◌, Bool, List, [], ◌∷◌, slice_index, slice_set, filter, replicate, length, bit_or}
use Rattle.std.specs.Int.{bit_at}
use Rattle.std.specs.List.{All}
use Rattle.listener_set.specs.Numbers.{numbers_below}

-- whether the bit of a number is set
abbrev pub has_bit : List ℕ → ℕ → Bool
has_bit words n = bit_at (slice_index words (n / 64)) (n % 64) == 1

-- the numbers whose bits are set
unfoldable pub numbers_of : List ℕ → List ℕ
numbers_of words = filter (has_bit words) (numbers_below 1024)

-- the words with the bit of a number set
abbrev pub with_bit : List ℕ → ℕ → List ℕ
with_bit words n = slice_set words (n / 64) (bit_or (slice_index words (n / 64)) (1 * 2 ^ (n % 64) % 2 ^ 64))

-- the words of a set
unfoldable pub words_of : List ℕ → List ℕ
words_of [] = replicate 16 0
words_of (n ∷ ns) = with_bit (words_of ns) n

-- sixteen words of 64 bits
pub record AreWords (words : List ℕ) : Type 0 where
  pub count : length words ≡ 16
  pub fit : All (λ w. w < 2 ^ 64) words
