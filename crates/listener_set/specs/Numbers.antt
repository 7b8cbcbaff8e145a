-- Sets of numbers, as their ascending lists.
use Rattle.std.specs.Prelude.{ℕ, zero, suc, ◌+◌, ◌<◌, ◌≤◌, nat_eq, nat_lt, nat_le, Bool, not, List, [], ◌∷◌, ◌++◌, filter, find, Option, Some, None, if◌then◌else◌}
use Rattle.std.specs.List.{list_any}

-- the numbers below n
abbrev pub numbers_below : ℕ → List ℕ
numbers_below zero = []
numbers_below (suc n) = numbers_below n ++ n ∷ []

-- whether a set has a number
abbrev pub is_in : List ℕ → ℕ → Bool
is_in ns k = list_any (λ n. nat_eq n k) ns

-- a set with a number put in its place
abbrev pub with_number : List ℕ → ℕ → List ℕ
with_number [] n = n ∷ []
with_number (k ∷ ks) n = if nat_lt n k then n ∷ k ∷ ks else (if nat_eq n k then k ∷ ks else k ∷ with_number ks n)

-- a set without a number
abbrev pub without_number : List ℕ → ℕ → List ℕ
without_number ns n = filter (λ k. not (nat_eq k n)) ns

-- what the first set has and the second lacks
abbrev pub lacks : List ℕ → List ℕ → List ℕ
lacks ns others = filter (λ k. not (is_in others k)) ns

-- the lowest number of a set
abbrev pub first : List ℕ → Option ℕ
first [] = None
first (n ∷ ns) = Some n

-- the highest number of a set
abbrev pub last : List ℕ → Option ℕ
last [] = None
last (n ∷ []) = Some n
last (n ∷ m ∷ ns) = last (m ∷ ns)

-- the lowest number of a set that is at least a bound
abbrev pub first_from : ℕ → List ℕ → Option ℕ
first_from bound ns = find (λ k. nat_le bound k) ns

-- each number is at least the bound, and above the one before it
abbrev pub RisesFrom : ℕ → List ℕ → Type 0
RisesFrom bound [] = Unit {0}
RisesFrom bound (n ∷ ns) = (bound ≤ n) × RisesFrom (n + 1) ns

-- each number is above the one before it
abbrev pub IsRising : List ℕ → Type 0
IsRising ns = RisesFrom 0 ns

-- each number is below the limit
abbrev pub AreBelow : ℕ → List ℕ → Type 0
AreBelow limit [] = Unit {0}
AreBelow limit (n ∷ ns) = (n < limit) × AreBelow limit ns

-- ascending numbers below the limit
pub record AreNumbers (limit : ℕ) (ns : List ℕ) : Type 0 where
  pub rising : IsRising ns
  pub below : AreBelow limit ns
