-- The fewest Ready workers that are found.
use Rattle.std.specs.Prelude.{ℕ, ◌≡◌, ◌<◌, ◌-◌, ◌^◌, Option, Some, None, Contains, ◌⊎◌}
use Rattle.definitions.specs.Table.{Table}
use Rattle.explorer.specs.declared.events.Tried.{Tried}
use Rattle.explorer.specs.declared.findings.Findings.{Findings}
use Rattle.explorer.specs.declared.findings.Least.{Least}
use Rattle.explorer.specs.Readiness.{ready_at, HaveAtLeast}

-- How few workers there are at an address at least, as far as was found.
abbrev pub bound_of : Option Least → ℕ
bound_of None = 2 ^ 32 - 1
bound_of (Some least) = least.ready

-- In this table none of the addresses has fewer than were found.
abbrev pub IsSeen : Findings → Table → Type 0
IsSeen found t = HaveAtLeast found.common.items t (bound_of found.least)

-- They were found in this table: at one of the addresses, fewer than before, after so many calls of the run in which this goes
-- wrong.
pub record IsFoundIn (t : Table) (run : Tried) (calls : ℕ) (before : Findings) (least : Least) : Type 0 where
  pub address : Contains before.common.items least.address
  pub ready : least.ready ≡ ready_at t least.address
  pub fewer : least.ready < bound_of before.least
  pub tried : least.tried ≡ run
  pub made : least.made ≡ calls

-- The fewest are the same as before, or found in this table.
abbrev pub IsLeastSince : Table → Tried → ℕ → Findings → Findings → Type 0
IsLeastSince t run calls before after = (after.least ≡ before.least) ⊎ ((least : Least) × (after.least ≡ Some least) × IsFoundIn t run calls before least)
