-- What is found where a table is looked at.
use Rattle.std.specs.Prelude.{ℕ, ◌≡◌, List, [], ◌∷◌, Option, Some, None, ⊤}
use Rattle.definitions.specs.Table.{Table}
use Rattle.definitions.specs.Calls.{Name, after_exits}
use Rattle.explorer.specs.declared.branching.BranchPoint.{BranchPoint}
use Rattle.explorer.specs.declared.events.Mishap.{Mishap}
use Rattle.explorer.specs.declared.events.Mishap.TheVariants.{Exit, Fail}
use Rattle.explorer.specs.declared.events.Tried.{Tried}
use Rattle.explorer.specs.declared.findings.Findings.{Findings}
use Rattle.explorer.specs.Least.{IsSeen, IsLeastSince}
use Rattle.explorer.specs.Most.{living_in, IsAtMost, IsMostSince}

-- Of least and most nothing else is found, by the same addresses.
pub record IsSameSo (before after : Findings) : Type 0 where
  pub least : after.least ≡ before.least
  pub most : after.most ≡ before.most
  pub common : after.common ≡ before.common

-- In this table no address has fewer ready workers, and no more workers live, than were found.
abbrev pub IsSeenIn : Findings → Table → Type 0
IsSeenIn found t = IsSeen found t × IsAtMost (living_in t) found.most

-- What is found was found before, or in this table.
pub record IsLooked (t : Table) (run : Tried) (calls : ℕ) (before after : Findings) : Type 0 where
  pub least : IsLeastSince t run calls before after
  pub most : IsMostSince t run calls before after
  pub common : after.common ≡ before.common

---- Between the exits of a moment and its call

abbrev pub exits_between : Option Name → Name → List Name
exits_between None name = name ∷ []
exits_between (Some gone) name = gone ∷ name ∷ []

-- the table after them
abbrev pub table_between : BranchPoint → Option Name → Name → Table
table_between point gone name = after_exits (exits_between gone name) point.run.now.kernel.table

-- A call that fails has no such table of its own.
abbrev pub IsSeenBetween : BranchPoint → Option Name → Mishap → Findings → Type 0
IsSeenBetween point gone (Exit name process) found = IsSeenIn found (table_between point gone name)
IsSeenBetween point _ (Fail _) found = ⊤

abbrev pub IsLookedBetween : BranchPoint → Option Name → Mishap → Tried → Findings → Findings → Type 0
IsLookedBetween point gone (Exit name process) tried before after = IsLooked (table_between point gone name) tried point.run.now.made before after
IsLookedBetween point _ (Fail _) tried before after = IsSameSo before after
