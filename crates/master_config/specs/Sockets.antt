-- The options of the sockets of a configuration. A master does not use them: they are the service's.
use Rattle.std.specs.Prelude.{ℕ, ◌+◌, ◌==◌, nat_le, Bool, false, ◌&&◌, List, [], ◌∷◌, length, ℤ, pos, negsuc, Option, Some, None, is_some, Result, Ok, Err, if◌then◌else◌}
use Rattle.std.specs.List.{list_all}
use Rattle.listener_set.specs.AddressText.{reading}
use Rattle.listener_set.specs.AddressList.{has}
use Rattle.listener_set.specs.declared.address.AddressRefusal.{AddressRefusal}
use Rattle.toml.specs.Data.{Data, Members, get_member, as_bool, as_integer, as_str, as_table}
use Rattle.master_config.specs.Arguments.{is_argument}
use Rattle.master_config.specs.KeyNames.{socket_key_name}
use Rattle.master_config.specs.Names.{is_of_socket}
use Rattle.master_config.specs.Values.{◌>>=◌, has_only}
use Rattle.master_config.specs.declared.socket_key.SocketKey.{SocketKey}
use Rattle.master_config.specs.declared.socket_key.SocketKey.TheVariants.{Backlog, DeferAccept, Group, Mode, Owner}
use Rattle.master_config.specs.declared.socket_fault.SocketFault.{SocketFault}
use Rattle.master_config.specs.declared.socket_fault.SocketFault.TheVariants.{NotTable, UnknownKey, BadValue}
use Rattle.master_config.specs.declared.refusal.ConfigRefusal.{ConfigRefusal}
use Rattle.master_config.specs.declared.refusal.ConfigRefusal.TheVariants.{BadSockets, NoSuchListener, Socket}

-- ---- the values of options

-- three octal digits, or a zero and three
abbrev pub is_octal : ℕ → Bool
is_octal digit = nat_le 48 digit && nat_le digit 55

abbrev pub has_mode_length : List ℕ → Bool
has_mode_length (first ∷ _ ∷ _ ∷ _ ∷ []) = first == 48
has_mode_length text = length text == 3

abbrev pub is_mode : List ℕ → Bool
is_mode text = list_all is_octal text && has_mode_length text

abbrev pub is_mode_text : Option (List ℕ) → Bool
is_mode_text None = false
is_mode_text (Some text) = is_mode text

-- from 1 to 65535
abbrev pub is_backlog : Option ℤ → Bool
is_backlog None = false
is_backlog (Some (pos n)) = nat_le 1 n && nat_le n 65535
is_backlog (Some (negsuc n)) = false

abbrev pub is_name : Option (List ℕ) → Bool
is_name None = false
is_name (Some text) = is_argument text

-- the value is of the key's kind, and in its range
abbrev pub fits : SocketKey → Data → Bool
fits Backlog value = is_backlog (as_integer value)
fits DeferAccept value = is_some (as_bool value)
fits Group value = is_name (as_str value)
fits Mode value = is_mode_text (as_str value)
fits Owner value = is_name (as_str value)

-- ---- the options of a socket

abbrev pub option_check : SocketKey → Option Data → Result (Unit {0}) SocketFault
option_check key None = Ok tt
option_check key (Some value) = if fits key value then Ok tt else Err (BadValue key)

abbrev pub option_at : SocketKey → Members → Option Data
option_at key options = get_member (socket_key_name key) options

abbrev pub values_check : Members → Result (Unit {0}) SocketFault
values_check options =
    option_check Backlog (option_at Backlog options) >>= (λ _.
    option_check DeferAccept (option_at DeferAccept options) >>= (λ _.
    option_check Group (option_at Group options) >>= (λ _.
    option_check Mode (option_at Mode options) >>= (λ _.
    option_check Owner (option_at Owner options)))))

-- the first rule that the options of the socket at an address break
abbrev pub options_check : List ℕ → Option Members → Result (Unit {0}) SocketFault
options_check address None = Err NotTable
options_check address (Some options) = if has_only (is_of_socket address) options then values_check options else Err UnknownKey

-- ---- all sockets

abbrev pub told_at : ℕ → Result (Unit {0}) SocketFault → Result (Unit {0}) ConfigRefusal
told_at index (Ok u) = Ok tt
told_at index (Err fault) = Err (Socket index fault)

-- the same of the listener at an index, which may have no options
abbrev pub socket_check : ℕ → List ℕ → Option Data → Result (Unit {0}) ConfigRefusal
socket_check index address None = Ok tt
socket_check index address (Some value) = told_at index (options_check address (as_table value))

-- the first rule that the options of these listeners break, whose indices count on
abbrev pub sockets_after : Members → ℕ → List (List ℕ) → Result (Unit {0}) ConfigRefusal
sockets_after sockets index [] = Ok tt
sockets_after sockets index (address ∷ addresses) =
    socket_check index address (get_member address sockets) >>= (λ _. sockets_after sockets (index + 1) addresses)

abbrev pub is_among : List (List ℕ) → Result (List ℕ) AddressRefusal → Bool
is_among listeners (Ok address) = has listeners address
is_among listeners (Err refusal) = false

-- a text is the address of a listener
abbrev pub is_listener : List (List ℕ) → List ℕ → Bool
is_listener listeners text = is_among listeners (reading text)

abbrev pub sockets_in : List (List ℕ) → Option Members → Result (Unit {0}) ConfigRefusal
sockets_in listeners None = Err BadSockets
sockets_in listeners (Some sockets) = if has_only (is_listener listeners) sockets then sockets_after sockets 0 listeners else Err NoSuchListener

-- the first rule that the sockets of a configuration with these listeners break
abbrev pub sockets_at : List (List ℕ) → Option Data → Result (Unit {0}) ConfigRefusal
sockets_at listeners None = Ok tt
sockets_at listeners (Some value) = sockets_in listeners (as_table value)
