-- The values of a table, by their kinds.
use Rattle.std.specs.Prelude.{ℕ, nat_le, Bool, true, ◌&&◌, List, [], ◌∷◌, map, ℤ, pos, negsuc, Option, Some, None, is_some, unwrap_or, Result, Ok, Err, if◌then◌else◌}
use Rattle.std.specs.List.{list_all}
use Rattle.toml.specs.Data.{Data, array, Items, no_items, item, Members, no_members, member, get_member, as_integer, as_str}
use Rattle.master_config.specs.KeyNames.{key_name}
use Rattle.master_config.specs.declared.key.Key.{Key}
use Rattle.master_config.specs.declared.refusal.ConfigRefusal.{ConfigRefusal}
use Rattle.master_config.specs.declared.refusal.ConfigRefusal.TheVariants.{WrongKind, OutOfRange}

abbrev pub result_map : {A B E : Type 0} → (A → B) → Result A E → Result B E
result_map f (Ok a) = Ok (f a)
result_map f (Err e) = Err e

-- what a first step gives is used in the next one
infixl 10 ◌>>=◌
abbrev pub ◌>>=◌ : {A B E : Type 0} → Result A E → (A → Result B E) → Result B E
Ok a >>= f = f a
Err e >>= f = Err e

abbrev pub value_at : Key → Members → Option Data
value_at key members = get_member (key_name key) members

-- each key is one of these
abbrev pub has_only : (List ℕ → Bool) → Members → Bool
has_only is_known no_members = true
has_only is_known (member name value members) = is_known name && has_only is_known members

-- ---- whole numbers
abbrev pub number_read : Key → ℕ → ℕ → Option ℤ → Result ℕ ConfigRefusal
number_read key least most None = Err (WrongKind key)
number_read key least most (Some (pos n)) = if nat_le least n && nat_le n most then Ok n else Err (OutOfRange key)
number_read key least most (Some (negsuc n)) = Err (OutOfRange key)

-- the number from least to most, or the default where there is no value
abbrev pub number_at : Key → ℕ → ℕ → ℕ → Option Data → Result ℕ ConfigRefusal
number_at key least most default None = Ok default
number_at key least most default (Some value) = number_read key least most (as_integer value)

-- ---- texts
abbrev pub is_text : Data → Bool
is_text value = is_some (as_str value)

-- the text of a value, or the empty one where it is none
abbrev pub text_of : Data → List ℕ
text_of value = unwrap_or (as_str value) []

-- the items as a list
abbrev pub data_of : Items → List Data
data_of no_items = []
data_of (item value items) = value ∷ data_of items

-- the items of a list of texts
abbrev pub texts_read : Key → Data → Result Items ConfigRefusal
texts_read key (array items) = if list_all is_text (data_of items) then Ok items else Err (WrongKind key)
texts_read key _ = Err (WrongKind key)

abbrev pub texts_of : Items → List (List ℕ)
texts_of items = map text_of (data_of items)
