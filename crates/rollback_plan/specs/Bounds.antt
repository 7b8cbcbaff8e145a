-- What a contract sees of what is bound.
use Rattle.std.specs.Prelude.{ℕ, Bool, true, false, List, [], ◌∷◌, Option, None, Some}
use Rattle.vocabulary.specs.declared.plans.Lack.{Lack}
use Rattle.rollback_plan.specs.declared.bound.Bound.{Bound}

-- some number is lacking
abbrev pub is_short : List ℕ → Bool
is_short [] = false
is_short (k ∷ ks) = true

-- a census, where there was one, before older ones
abbrev pub newest_of : Option Lack → List Lack → List Lack
newest_of None lacked = lacked
newest_of (Some lack) lacked = lack ∷ lacked

-- what the last census of each master lacked, the newest first
abbrev pub lacked_in : Bound → List Lack
lacked_in b = newest_of b.newest (newest_of b.older [])
