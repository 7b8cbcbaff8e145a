-- What the value of an option that takes a number comes to.
use Rattle.std.proofs.Common.{◌≡◌, ◌<◌, ◌^◌, ℕ, List, Option, Some, None, IfSome, refl, ◌∙◌}
use Rattle.std.specs.Fmt.{decimal}
use Rattle.command_line.specs.Arguments.{IsNumber}
use Rattle.command_line.specs.Number.{Spells}

pub spelled : (text : List ℕ) (number : Option ℕ) → ¬ (number ≡ None) → IfSome number (Spells text) → IsNumber (Some text) number
spelled text None some spells = absurd (some refl)
spelled text (Some n) some spells = spells

pub not_spelled : (text : List ℕ) (number : Option ℕ) → ((n : ℕ) → ¬ Spells text n) → ¬ IsNumber (Some text) number
not_spelled text None none is = is
not_spelled text (Some n) none is = none n is

-- a text of which no number is read spells none
pub unread : (text bytes : List ℕ) → bytes ≡ text → ((n : ℕ) → n < 2 ^ 32 → bytes ≡ decimal n → None ≡ Some n) → (n : ℕ) → ¬ Spells text n
unread text bytes same only n spells = let some = only n spells.1 (same ∙ spells.0) in cc
