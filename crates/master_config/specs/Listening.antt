-- The listeners of a configuration, or of a group in it.
use Rattle.std.specs.Prelude.{ℕ, ◌+◌, nat_lt, List, [], ◌∷◌, ◌++◌, length, Option, Some, None, Result, Ok, Err, if◌then◌else◌}
use Rattle.listener_set.specs.AddressText.{reading}
use Rattle.listener_set.specs.AddressList.{has}
use Rattle.listener_set.specs.declared.address.AddressRefusal.{AddressRefusal}
use Rattle.vocabulary.specs.Settings.{plain_settings}
use Rattle.toml.specs.Data.{Data}
use Rattle.master_config.specs.Values.{◌>>=◌, texts_read, texts_of}
use Rattle.master_config.specs.declared.key.Key.TheVariants.{Listeners}
use Rattle.master_config.specs.declared.refusal.ConfigRefusal.{ConfigRefusal}
use Rattle.master_config.specs.declared.refusal.ConfigRefusal.TheVariants.{OutOfRange, BadAddress, Doubled, NoListener}

abbrev pub accepted_at : ℕ → Result (List ℕ) AddressRefusal → Result (List ℕ) ConfigRefusal
accepted_at index (Ok address) = Ok address
accepted_at index (Err refusal) = Err (BadAddress index refusal)

abbrev pub added_at : ℕ → List (List ℕ) → List ℕ → Result (List (List ℕ)) ConfigRefusal
added_at index listeners address = if has listeners address then Err (Doubled index) else Ok (listeners ++ address ∷ [])

-- the listeners with the address of a text at their end
abbrev pub listener_read : ℕ → List (List ℕ) → List ℕ → Result (List (List ℕ)) ConfigRefusal
listener_read index listeners text = accepted_at index (reading text) >>= added_at index listeners

-- the listeners with those of the texts, whose indices count on
abbrev pub listeners_after : List (List ℕ) → ℕ → List (List ℕ) → Result (List (List ℕ)) ConfigRefusal
listeners_after listeners index [] = Ok listeners
listeners_after listeners index (text ∷ texts) = listener_read index listeners text >>= (λ more. listeners_after more (index + 1) texts)

-- the listeners with one or more at their end, at most 64 distinct addresses in all
abbrev pub listeners_read : List (List ℕ) → List (List ℕ) → Result (List (List ℕ)) ConfigRefusal
listeners_read listeners [] = Err NoListener
listeners_read listeners (text ∷ texts) =
    if nat_lt 64 (length listeners + length (text ∷ texts)) then Err (OutOfRange Listeners)
    else listeners_after listeners 0 (text ∷ texts)

abbrev pub listeners_in : List (List ℕ) → Data → Result (List (List ℕ)) ConfigRefusal
listeners_in listeners value = texts_read Listeners value >>= (λ items. listeners_read listeners (texts_of items))

-- those of a configuration
abbrev pub listeners_at : Option Data → Result (List (List ℕ)) ConfigRefusal
listeners_at None = Ok plain_settings.listeners
listeners_at (Some value) = listeners_in [] value

-- those of a group behind the ones of the groups before it
abbrev pub listeners_behind : List (List ℕ) → Option Data → Result (List (List ℕ)) ConfigRefusal
listeners_behind listeners None = Err NoListener
listeners_behind listeners (Some value) = listeners_in listeners value
