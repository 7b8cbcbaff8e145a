-- Numbers as texts: decimal digits without leading zeros.
use Rattle.std.specs.Prelude.{ℕ, ◌+◌, ◌-◌, ◌*◌, ◌==◌, nat_le, Bool, ◌&&◌, List, [], ◌∷◌, Option, Some, None, is_some, if◌then◌else◌}
use Rattle.std.specs.Char.{is_ascii_digit}

-- what digits make of the number that stands before them, up to 18,446,744,073,709,551,615
abbrev pub number_after : ℕ → List ℕ → Option ℕ
number_after n [] = Some n
number_after n (c ∷ cs) = if is_ascii_digit c && nat_le (10 * n + (c - 48)) 18446744073709551615 then number_after (10 * n + (c - 48)) cs else None

-- the number of 64 bits that a text is
abbrev pub number64_of : List ℕ → Option ℕ
number64_of [] = None
number64_of (c ∷ []) = number_after 0 (c ∷ [])
number64_of (c ∷ d ∷ cs) = if c == 48 then None else number_after 0 (c ∷ d ∷ cs)

-- a number that is not above a limit
abbrev pub at_most : ℕ → Option ℕ → Option ℕ
at_most most None = None
at_most most (Some n) = if nat_le n most then Some n else None

-- the number of 32 bits that a text is
abbrev pub number_in : List ℕ → Option ℕ
number_in text = at_most 4294967295 (number64_of text)

abbrev pub number_if_within : ℕ → ℕ → Option ℕ → Option ℕ
number_if_within least most None = None
number_if_within least most (Some n) = if nat_le least n && nat_le n most then Some n else None

-- a number from least to most
abbrev pub number_within : ℕ → ℕ → List ℕ → Option ℕ
number_within least most text = number_if_within least most (number_in text)

-- whether a text is a number from least to most
abbrev pub is_within : ℕ → ℕ → List ℕ → Bool
is_within least most text = is_some (number_within least most text)

-- a number from 1
abbrev pub count_of : List ℕ → Option ℕ
count_of text = number_within 1 4294967295 text
