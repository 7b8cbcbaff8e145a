-- What is found of all orders together.
use Rattle.std.specs.Prelude.{ℕ, ◌≡◌, ◌+◌, max, nat_lt, Option, Some, None, if◌then◌else◌}
use Rattle.explorer.specs.declared.events.Tried.{Tried}
use Rattle.explorer.specs.declared.findings.Findings.{Findings}
use Rattle.explorer.specs.declared.findings.Least.{Least}
use Rattle.explorer.specs.declared.findings.Most.{Most}
use Rattle.explorer.specs.declared.tally.Ended.{Ended}
use Rattle.explorer.specs.declared.tally.Tally.{Tally}
use Rattle.explorer.specs.Events.{events_in}
use Rattle.order_explorer.specs.declared.totals.OrderedRun.{OrderedRun}
use Rattle.order_explorer.specs.declared.totals.Ends.{Ends}
use Rattle.order_explorer.specs.declared.totals.OrderedLeast.{OrderedLeast}
use Rattle.order_explorer.specs.declared.totals.OrderedMost.{OrderedMost}
use Rattle.order_explorer.specs.declared.totals.Totals.{Totals}

-- the run in which fewer things go wrong, and else the first
abbrev pub shortest_with : Option OrderedRun → ℕ → Option Tried → Option OrderedRun
shortest_with first n None = first
shortest_with None n (Some tried) = Some (record { order = n; tried = tried })
shortest_with (Some first) n (Some tried) = if nat_lt (events_in tried) (events_in first.tried) then Some (record { order = n; tried = tried }) else Some first

-- The runs of one order more: this is its place among the orders.
abbrev pub ends_with : ℕ → Ended → Ends → Ends
ends_with n found ends = record { count = ends.count + found.count; shortest = shortest_with ends.shortest n found.shortest }

-- the fewer workers, and else the first
abbrev pub least_with : Option OrderedLeast → ℕ → Option Least → Option OrderedLeast
least_with first n None = first
least_with None n (Some least) = Some (record { order = n; least = least })
least_with (Some first) n (Some least) = if nat_lt least.ready first.least.ready then Some (record { order = n; least = least }) else Some first

-- the more workers, and else the first
abbrev pub most_with : Option OrderedMost → ℕ → Option Most → Option OrderedMost
most_with first n None = first
most_with None n (Some most) = Some (record { order = n; most = most })
most_with (Some first) n (Some most) = if nat_lt first.most.workers most.workers then Some (record { order = n; most = most }) else Some first

abbrev pub tally_with : ℕ → Tally → Totals → Totals
tally_with n tally totals = record totals {
  done = ends_with n tally.done totals.done;
  rolled_back = ends_with n tally.rolled_back totals.rolled_back;
  degraded_old = ends_with n tally.degraded_old totals.degraded_old;
  degraded_target = ends_with n tally.degraded_target totals.degraded_target;
  lost = ends_with n tally.lost totals.lost;
  shortfall = max totals.shortfall tally.shortfall;
}

abbrev pub IsTally : ℕ → Tally → Totals → Totals → Type 0
IsTally n tally before after = after ≡ tally_with n tally before

-- What was found of one order more.
abbrev pub totals_with : ℕ → Findings → Totals → Totals
totals_with n found totals = record (tally_with n found.tally totals) {
  least = least_with totals.least n found.least;
  most = most_with totals.most n found.most;
  tables = totals.tables + found.tables;
}

abbrev pub none_explored : Ends
none_explored = record { count = 0; shortest = None }

-- no run of any order
abbrev pub nothing_explored : Totals
nothing_explored = record {
  done = none_explored;
  rolled_back = none_explored;
  degraded_old = none_explored;
  degraded_target = none_explored;
  lost = none_explored;
  shortfall = 0;
  least = None;
  most = None;
  tables = 0;
}
