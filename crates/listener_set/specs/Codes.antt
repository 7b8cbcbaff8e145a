-- The codes of the refusals, as they are printed.
use Rattle.std.specs.Prelude.{ℕ, List, codes}
use Rattle.listener_set.specs.declared.address.AddressRefusal.{AddressRefusal}
use Rattle.listener_set.specs.declared.address.AddressRefusal.TheVariants.{Empty, BadHost, BadPort, PathLong, BadPath}
use Rattle.listener_set.specs.declared.listeners.ListenerRefusal.{ListenerRefusal}
use Rattle.listener_set.specs.declared.listeners.ListenerRefusal.TheVariants.{Doubled, TooMany}

abbrev pub address_code : AddressRefusal → List ℕ
address_code Empty = codes "A1"
address_code BadHost = codes "A2"
address_code BadPort = codes "A3"
address_code PathLong = codes "A4"
address_code BadPath = codes "A5"

abbrev pub listener_code : ListenerRefusal → List ℕ
listener_code Doubled = codes "A6"
listener_code TooMany = codes "A7"

-- the text is no path of a file
abbrev pub file_code : List ℕ
file_code = codes "F1"
