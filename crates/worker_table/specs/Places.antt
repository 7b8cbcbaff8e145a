-- The places of the workers in a map, and its room.
use Rattle.std.specs.Prelude.{◌≡◌, ℕ, ◌+◌, ◌<◌, ◌≤◌, true, nat_eq, List, [], ◌∷◌, Option, is_some, length}
use Rattle.std.specs.Map.{lookup}
use Rattle.indexmap.specs.IndexMap.{IndexMap, spare, IsUnique}
use Rattle.worker_table.specs.Beats.{Workers, with_beat}

-- each number's last beat, or none where it is out
abbrev pub Places : Type 0
Places = List (ℕ × Option (Option ℕ))

-- the workers of the places: of two with one number the first counts
unfoldable pub in_order : Places → Workers
in_order [] = []
in_order (p ∷ ps) = with_beat (in_order ps) p.0 p.1

-- room for each number below 1024, no number twice, and none above
pub record IsRoomy {S : Type 0} (m : IndexMap ℕ (Option (Option ℕ)) S) : Type 0 where
  pub room : 1024 ≤ length m.entries + spare m
  pub unique : IsUnique nat_eq m
  pub below : (q : ℕ) → is_some (lookup (nat_eq q) m.entries) ≡ true → q < 1024
