-- Codes of refusals, and what they are about.
use Rattle.std.specs.Prelude.{ℕ, zero, suc, ◌==◌, Bool, false, not, ◌&&◌, ◌||◌, List, [], ◌∷◌, Option, Some, None, bytes_eq, codes}
use Rattle.std.specs.List.{list_all}
use Rattle.std.specs.Char.{is_ascii_digit, is_ascii_uppercase}
use Rattle.plain_text.specs.Cuts.{cut}

-- a number of any size, without leading zeros
abbrev pub is_numeral : List ℕ → Bool
is_numeral [] = false
is_numeral (c ∷ []) = is_ascii_digit c
is_numeral (c ∷ d ∷ cs) = not (c == 48) && list_all is_ascii_digit (c ∷ d ∷ cs)

-- a capital letter and a number
abbrev pub is_lettered : List ℕ → Bool
is_lettered [] = false
is_lettered (c ∷ cs) = is_ascii_uppercase c && is_numeral cs

-- a key of a configuration
abbrev pub is_key : List ℕ → Bool
is_key text =
    bytes_eq text (codes "command") || bytes_eq text (codes "groups") || bytes_eq text (codes "listeners")
    || bytes_eq text (codes "pid") || bytes_eq text (codes "retries") || bytes_eq text (codes "surge")
    || bytes_eq text (codes "timeout") || bytes_eq text (codes "workers")

abbrev pub is_detail : List ℕ → Bool
is_detail text = is_lettered text || is_numeral text || is_key text

-- what is one word, or one with others behind it
abbrev pub details_from : (List ℕ → Bool) → List ℕ → Option (List ℕ × List ℕ) → Bool
details_from others text None = is_detail text
details_from others text (Some parts) = is_detail parts.0 && others parts.1

-- one to n words, with single spaces between them
abbrev pub are_details : ℕ → List ℕ → Bool
are_details zero text = false
are_details (suc n) text = details_from (are_details n) text (cut 32 text)

abbrev pub code_from : List ℕ → Option (List ℕ × List ℕ) → Bool
code_from text None = is_lettered text
code_from text (Some parts) = is_lettered parts.0 && are_details 5 parts.1

-- a capital letter with a number, and at most five words behind it
abbrev pub is_code : List ℕ → Bool
is_code text = code_from text (cut 32 text)
