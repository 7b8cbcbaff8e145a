-- Texts that are handed on to programs.
use Rattle.std.specs.Prelude.{ℕ, nat_eq, nat_lt, nat_le, Bool, ◌&&◌, not, List, length}
use Rattle.std.specs.List.{list_any}

-- 1 to 255 bytes, none of them 0
abbrev pub is_argument : List ℕ → Bool
is_argument text = nat_lt 0 (length text) && nat_le (length text) 255 && not (list_any (λ b. nat_eq b 0) text)
