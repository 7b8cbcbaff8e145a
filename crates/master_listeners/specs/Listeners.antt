-- The listeners of a running master.
use Rattle.std.specs.Prelude.{◌≡◌, ℕ, ◌+◌, ◌<◌, ◌≤◌, Bool, false, List, [], ◌∷◌, take, filter, nat_lt}
use Rattle.std.specs.List.{list_all}
use Rattle.listener_set.specs.Padded.{IsPadded}
use Rattle.listener_set.specs.AddressList.{blank}
use Rattle.listener_set.specs.Numbers.{is_in}
use Rattle.vocabulary.specs.declared.table.Listener.{Listener}
use Rattle.definitions.specs.After.{listens_on}

-- Descriptors rise, from a first one on, and stay below 67, and no address comes twice.
abbrev pub AreListedFrom : ℕ → List Listener → Type 0
AreListedFrom fd [] = Unit {0}
AreListedFrom fd (l ∷ ls) =
    (fd ≤ l.descriptor) × (l.descriptor < 67) × (listens_on ls l.address ≡ false) × AreListedFrom (l.descriptor + 1) ls

abbrev pub AreListed : List Listener → Type 0
AreListed ls = AreListedFrom 3 ls

-- what stands in an unused place
unfoldable pub blank_listener : Listener
blank_listener = record { descriptor = 3; address = blank }

-- the listeners stand in front, and blanks behind them
pub record AreKept (items : List Listener) (len : ℕ) : Type 0 where
  pub padded : IsPadded 64 blank_listener items len
  pub listed : AreListed (take len items)

-- the listeners whose descriptors are in a set
abbrev pub only_under : List ℕ → List Listener → List Listener
only_under fds ls = filter (λ (l : Listener). is_in fds l.descriptor) ls

-- a descriptor is above those of all listeners
abbrev pub is_above : ℕ → List Listener → Bool
is_above fd listeners = list_all (λ l. nat_lt l.descriptor fd) listeners
