-- Lists of distinct addresses.
use Rattle.std.specs.Prelude.{◌≢◌, ℕ, Bool, List, take, codes, bytes_eq}
use Rattle.std.specs.List.{AllPairs, list_any}
use Rattle.listener_set.specs.Padded.{IsPadded}

abbrev pub AreDistinct : List (List ℕ) → Type 0
AreDistinct xs = AllPairs (λ x y. x ≢ y) xs

-- whether a list has an address
abbrev pub has : List (List ℕ) → List ℕ → Bool
has xs x = list_any (λ y. bytes_eq y x) xs

-- what stands in an unused place
unfoldable pub blank : List ℕ
blank = codes "0.0.0.0:8080"

-- the addresses stand in front, and blanks behind them
pub record AreKept (items : List (List ℕ)) (len : ℕ) : Type 0 where
  pub padded : IsPadded 64 blank items len
  pub distinct : AreDistinct (take len items)
