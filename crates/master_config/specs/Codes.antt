-- The codes of the rules, as they are printed.
use Rattle.std.specs.Prelude.{ℕ, List, [], ◌∷◌, ◌++◌, codes}
use Rattle.std.specs.Fmt.{decimal}
use Rattle.listener_set.specs.Codes.{address_code}
use Rattle.master_config.specs.KeyNames.{key_name}
use Rattle.master_config.specs.declared.group_fault.GroupFault.{GroupFault}
use Rattle.master_config.specs.declared.group_fault.GroupFault.TheVariants as group
use Rattle.master_config.specs.declared.refusal.ConfigRefusal.{ConfigRefusal}
use Rattle.master_config.specs.declared.refusal.ConfigRefusal.TheVariants.{NotToml, UnknownKey, WrongKind, OutOfRange, BadAddress, Doubled, NoListener, BadPid, BadCommand, Mixed, Group, BadService, BadSockets, NoSuchListener, Socket, Unreadable, Memory}
use Rattle.master_config.specs.declared.socket_fault.SocketFault.{SocketFault}
use Rattle.master_config.specs.declared.socket_fault.SocketFault.TheVariants as socket
use Rattle.master_config.specs.declared.socket_key.SocketKey.TheVariants as key

---- Of a group

abbrev pub group_code : GroupFault → List ℕ
group_code group.UnknownKey = codes "C2"
group_code (group.WrongKind key) = codes "C3"
group_code (group.OutOfRange key) = codes "C4"
group_code (group.BadAddress index refusal) = codes "C5"
group_code (group.Doubled index) = codes "C6"
group_code group.NoListener = codes "C7"

-- what a fault is about, behind a space: the key, the index, and the code of the address
abbrev pub group_about : GroupFault → List ℕ
group_about (group.WrongKind key) = 32 ∷ key_name key
group_about (group.OutOfRange key) = 32 ∷ key_name key
group_about (group.BadAddress index refusal) = 32 ∷ (decimal index ++ 32 ∷ address_code refusal)
group_about (group.Doubled index) = 32 ∷ decimal index
group_about _ = []

abbrev pub group_text : GroupFault → List ℕ
group_text fault = group_code fault ++ group_about fault

---- Of the options of a socket

abbrev pub socket_code : SocketFault → List ℕ
socket_code socket.NotTable = codes "S1"
socket_code socket.UnknownKey = codes "S2"
socket_code (socket.BadValue key.Backlog) = codes "S3"
socket_code (socket.BadValue key.DeferAccept) = codes "S4"
socket_code (socket.BadValue key.Group) = codes "S5"
socket_code (socket.BadValue key.Mode) = codes "S6"
socket_code (socket.BadValue key.Owner) = codes "S7"

---- Of a configuration

abbrev pub config_code : ConfigRefusal → List ℕ
config_code NotToml = codes "C1"
config_code UnknownKey = codes "C2"
config_code (WrongKind key) = codes "C3"
config_code (OutOfRange key) = codes "C4"
config_code (BadAddress index refusal) = codes "C5"
config_code (Doubled index) = codes "C6"
config_code NoListener = codes "C7"
config_code BadPid = codes "C8"
config_code BadCommand = codes "C9"
config_code Mixed = codes "C10"
config_code (Group index fault) = codes "C11"
config_code BadService = codes "C12"
config_code BadSockets = codes "C13"
config_code NoSuchListener = codes "C14"
config_code (Socket index fault) = codes "C15"
config_code Unreadable = codes "file"
config_code Memory = codes "memory"

-- the same of a refusal; of a group or a socket its index, and its fault
abbrev pub about : ConfigRefusal → List ℕ
about (WrongKind key) = 32 ∷ key_name key
about (OutOfRange key) = 32 ∷ key_name key
about (BadAddress index refusal) = 32 ∷ (decimal index ++ 32 ∷ address_code refusal)
about (Doubled index) = 32 ∷ decimal index
about (Group index fault) = 32 ∷ (decimal index ++ 32 ∷ group_text fault)
about (Socket index fault) = 32 ∷ (decimal index ++ 32 ∷ socket_code fault)
about _ = []

abbrev pub config_text : ConfigRefusal → List ℕ
config_text refusal = config_code refusal ++ about refusal
