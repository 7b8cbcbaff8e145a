-- Addresses as texts.
use Rattle.std.specs.Prelude.{◌≡◌, ℕ, ◌≤◌, ◌==◌, nat_lt, Bool, ◌&&◌, ◌⊎◌, List, [], ◌∷◌, ◌++◌, length, map, slice_get, Option, Some, None, Result, Ok, Err, if◌then◌else◌}
use Rattle.std.specs.Fmt.{decimal}
use Rattle.std.specs.List.{All, AllPass, before_first, after_first, list_all, slice_split, join_with_byte}
use Rattle.std.specs.Char.{is_ascii_graphic}
use Rattle.plain_text.specs.NumberText.{is_within}
use Rattle.plain_text.specs.Cuts.{cut}
use Rattle.ipv6_text.specs.Ipv6Text.{is_ipv6_host, IsIpv6Host}
use Rattle.listener_set.specs.declared.address.AddressRefusal.{AddressRefusal}
use Rattle.listener_set.specs.declared.address.AddressRefusal.TheVariants.{Empty, BadHost, BadPort, PathLong, BadPath}

abbrev pub is_dot : ℕ → Bool
is_dot c = c == 46

abbrev pub is_colon : ℕ → Bool
is_colon c = c == 58

-- four numbers up to 255 joined by dots
abbrev pub is_host : List ℕ → Bool
is_host host = (length (slice_split is_dot host) == 4) && list_all (is_within 0 255) (slice_split is_dot host)

-- the first rule for paths that a text breaks
abbrev pub path_check : List ℕ → Result (Unit {0}) AddressRefusal
path_check text = if nat_lt 107 (length text) then Err PathLong else (if list_all is_ascii_graphic text then Ok tt else Err BadPath)

-- whether a text is a port
abbrev pub port_check : List ℕ → Result (Unit {0}) AddressRefusal
port_check port = if is_within 1 65535 port then Ok tt else Err BadPort

-- the first rule for dotted addresses that a text breaks: the host stands before the first colon, and the port after it
abbrev pub dotted_check : List ℕ → Result (Unit {0}) AddressRefusal
dotted_check text = if is_host (before_first is_colon text) then port_check (after_first is_colon text) else Err BadHost

-- a colon and a port
abbrev pub port_after : List ℕ → Result (Unit {0}) AddressRefusal
port_after [] = Err BadPort
port_after (c ∷ port) = if c == 58 then port_check port else Err BadPort

-- a host in brackets, where there is a closing one, and what follows it
abbrev pub host_and_port : Option (List ℕ × List ℕ) → Result (Unit {0}) AddressRefusal
host_and_port None = Err BadHost
host_and_port (Some parts) = if is_ipv6_host parts.0 then port_after parts.1 else Err BadHost

-- the first rule for IPv6 addresses that a text breaks, of which the opening bracket is read: the host ends at the first
-- closing one
abbrev pub bracketed_check : List ℕ → Result (Unit {0}) AddressRefusal
bracketed_check text = host_and_port (cut 93 text)

-- the first rule that a text breaks
abbrev pub check : List ℕ → Result (Unit {0}) AddressRefusal
check [] = Err Empty
check (c ∷ cs) = if c == 47 then path_check (c ∷ cs) else (if c == 91 then bracketed_check cs else dotted_check (c ∷ cs))

abbrev pub accepted : List ℕ → Result (Unit {0}) AddressRefusal → Result (List ℕ) AddressRefusal
accepted text (Ok u) = Ok text
accepted text (Err e) = Err e

-- what reading a text gives: the text, or the first rule that it breaks
abbrev pub reading : List ℕ → Result (List ℕ) AddressRefusal
reading text = accepted text (check text)

-- ---- the grammar of addresses

-- four numbers up to 255 joined by dots, a colon, and a number from 1 to 65535, each as it is printed
pub record IsDotted (text : List ℕ) : Type 0 where
  pub octets : List ℕ
  pub port : ℕ
  pub four : length octets ≡ 4
  pub octets_fit : All (λ n. n ≤ 255) octets
  pub port_fits : (1 ≤ port) × (port ≤ 65535)
  pub written : text ≡ join_with_byte 46 (map decimal octets) ++ 58 ∷ decimal port

-- an IPv6 address in brackets, as RFC 5952 writes it, a colon, and a number from 1 to 65535 as it is printed
pub record IsBracketed (text : List ℕ) : Type 0 where
  pub host : List ℕ
  pub port : ℕ
  pub is_host : IsIpv6Host host
  pub port_fits : (1 ≤ port) × (port ≤ 65535)
  pub written : text ≡ 91 ∷ host ++ 93 ∷ 58 ∷ decimal port

-- a slash and more, at most 107 graphic bytes in all
pub record IsSocketPath (text : List ℕ) : Type 0 where
  pub slash : slice_get text 0 ≡ Some 47
  pub graphic : AllPass is_ascii_graphic text
  pub fits : length text ≤ 107

abbrev pub IsAddress : List ℕ → Type 0
IsAddress text = IsDotted text ⊎ (IsBracketed text ⊎ IsSocketPath text)
