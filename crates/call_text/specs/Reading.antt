-- What reading a text gives, part by part.
use Rattle.std.specs.Prelude.{ℕ, ◌-◌, nat_le, Bool, ◌&&◌, List, length, take, drop, Option, Some, None, option_map}
use Rattle.std.specs.Prelude.{option_and_then, Result, Ok, Err, bytes_eq, codes, if◌then◌else◌}
use Rattle.plain_text.specs.NumberText.{number_in, number_within}
use Rattle.plain_text.specs.Cuts.{cut}
use Rattle.listener_set.specs.AddressText.{reading}
use Rattle.listener_set.specs.PathText.{is_path}
use Rattle.listener_set.specs.declared.address.AddressRefusal.{AddressRefusal}
use Rattle.listener_set.specs.declared.generation.Generation.{Generation}

infixl 10 ◌>>=◌
abbrev pub ◌>>=◌ : {A B : Type 0} → Option A → (A → Option B) → Option B
o >>= f = option_and_then f o

abbrev pub some_if : {A : Type 0} → Bool → A → Option A
some_if b v = if b then Some v else None

-- two parts with a byte between them, the first without that byte
abbrev pub both_of : {A B : Type 0} → ℕ → (List ℕ → Option A) → (List ℕ → Option B) → List ℕ → Option (A × B)
both_of byte first second text = do
  parts ← cut byte text
  a ← first parts.0
  b ← second parts.1
  Some (a, b)

-- what follows a word and a space
abbrev pub behind : List ℕ → List ℕ → Option (List ℕ)
behind word text = do
  parts ← cut 32 text
  some_if (bytes_eq parts.0 word) parts.1

---- Numbers and workers

-- a worker's number is below 1024
abbrev pub worker_number : List ℕ → Option ℕ
worker_number text = number_within 0 1023 text

abbrev pub generation_from : ℕ × ℕ → Generation
generation_from p = record { image = p.0; config = p.1 }

abbrev pub generation_of : List ℕ → Option Generation
generation_of text = option_map generation_from (both_of 46 number_in number_in text)

abbrev pub worker_of : List ℕ → Option (Generation × ℕ)
worker_of text = both_of 32 generation_of worker_number text

---- Addresses and paths

abbrev pub accepted : Result (List ℕ) AddressRefusal → Option (List ℕ)
accepted (Ok a) = Some a
accepted (Err e) = None

abbrev pub address_of : List ℕ → Option (List ℕ)
address_of text = accepted (reading text)

-- a path with the suffix `.oldbin`, by where the suffix begins
abbrev pub is_suffixed : ℕ → List ℕ → Bool
is_suffixed place text = bytes_eq (drop place text) (codes ".oldbin") && is_path (take place text)

abbrev pub suffixed_of : List ℕ → Option (List ℕ)
suffixed_of text = some_if (nat_le 7 (length text) && is_suffixed (length text - 7) text) text

abbrev pub path_of : List ℕ → Option (List ℕ)
path_of text = if is_path text then Some text else suffixed_of text

abbrev pub paths_of : List ℕ → Option (List ℕ × List ℕ)
paths_of text = both_of 32 path_of path_of text
