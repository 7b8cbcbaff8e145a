-- IPv6 addresses as texts.
use Rattle.std.specs.Prelude.{ℕ, ◌≡◌, ◌<◌, ◌^◌, Bool, false, ◌&&◌, not, List, [], ◌∷◌, ◌++◌, length, take, Option, Some, None, bytes_eq, codes}
use Rattle.std.specs.List.{All}
use Rattle.std.specs.Net.Addr.{IsIpv4Mapped}
use Rattle.std.specs.Net.Reader.{read_ipv6, whole_value}
use Rattle.std.specs.Net.Text.{hex, hex_groups_text}

-- a colon and a group
abbrev pub group_after : ℕ → List ℕ
group_after group = codes ":" ++ hex group

-- eight groups of 16 bits that an IPv6 socket alone serves, written as RFC 5952 says: in lower-case hexadecimal without
-- leading zeros, with colons between them, the longest run of two zeros or more, of several the first, as `::`
pub record IsIpv6Host (text : List ℕ) : Type 0 where
  pub groups : List ℕ
  pub eight : length groups ≡ 8
  pub fit : All (λ group. group < 2 ^ 16) groups
  pub own : ¬ (IsIpv4Mapped groups)
  pub written : text ≡ hex_groups_text groups

abbrev pub is_mapped : List ℕ → Bool
is_mapped groups = bytes_eq (take 6 groups) (0 ∷ 0 ∷ 0 ∷ 0 ∷ 0 ∷ 0xffff ∷ [])

-- whether the groups that were read of a text are written so, and none mapped from IPv4
abbrev pub is_written : List ℕ → Option (List ℕ) → Bool
is_written text None = false
is_written text (Some groups) = not (is_mapped groups) && bytes_eq (hex_groups_text groups) text

abbrev pub is_ipv6_host : List ℕ → Bool
is_ipv6_host text = is_written text (whole_value (read_ipv6 text))
