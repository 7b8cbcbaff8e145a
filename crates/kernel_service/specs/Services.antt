-- Services as ascending lists.
use Rattle.std.specs.Prelude.{ℕ, ◌≤◌, List, [], Option, Some, None, IsTrue, unwrap_or, option_and_then, slice_get}
use Rattle.std.specs.declared.cmp.Ordering.{Ordering}
use Rattle.std.specs.Ordering.{nat_cmp, ordering_then}
use Rattle.std.specs.Cmp.Lexicographic.{slice_cmp}
use Rattle.std.specs.Option.{option_map}
use Rattle.std.specs.List.{AllByRecursion}
use Rattle.std.specs.FinMap.{find, put, is_sorted}
use Rattle.definitions.specs.Table.{Address, Generation, Service}

-- Addresses in the order of their bytes.
abbrev pub address_cmp : Address → Address → Ordering
address_cmp a b = slice_cmp nat_cmp a b

-- Generations by image, and then by config.
abbrev pub generation_cmp : Generation → Generation → Ordering
generation_cmp g h = ordering_then (nat_cmp g.image h.image) (nat_cmp g.config h.config)

-- Generations with their numbers of workers.
abbrev pub Counts : Type 0
Counts = List (Generation × ℕ)

-- Addresses with their counts.
abbrev pub Services : Type 0
Services = List (Address × Counts)

-- 0 where the generation is not listed
abbrev pub count_at : Counts → Generation → ℕ
count_at counts g = unwrap_or (find generation_cmp g counts) 0

-- The service that the list stands for.
abbrev pub at : Services → Service
at s a = option_map count_at (find address_cmp a s)

abbrev pub with_count : Option (Generation × ℕ) → Counts → Counts
with_count None counts = counts
with_count (Some c) counts = put generation_cmp c.0 c.1 counts

-- The address is a key, and has the count that is given.
abbrev pub with_key : Address → Option (Generation × ℕ) → Services → Services
with_key a count s = put address_cmp a (with_count count (unwrap_or (find address_cmp a s) [])) s

-- the j-th count of the i-th address
abbrev pub entry_at : Services → ℕ → ℕ → Option (Generation × ℕ)
entry_at s i j = option_and_then (λ e. slice_get e.1 j) (slice_get s i)

-- Generations ascend, and no count is 0.
pub record AreCounts (counts : Counts) : Type 0 where
  pub ascending : IsTrue (is_sorted generation_cmp counts)
  pub positive : AllByRecursion (λ c. 1 ≤ c.1) counts

-- Addresses ascend.
pub record IsService (s : Services) : Type 0 where
  pub ascending : IsTrue (is_sorted address_cmp s)
  pub counts : AllByRecursion (λ e. AreCounts e.1) s
