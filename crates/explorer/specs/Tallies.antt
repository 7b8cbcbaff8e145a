-- How runs are counted by their ends.
use Rattle.std.specs.Prelude.{◌+◌, max, nat_lt, Option, Some, None, if◌then◌else◌}
use Rattle.std.specs.List.{sum}
use Rattle.definitions.specs.Run.{Outcome}
use Rattle.vocabulary.specs.declared.reports.Outcome.TheVariants as outcome
use Rattle.vocabulary.specs.declared.plans.Side.TheVariants as side
use Rattle.explorer.specs.Events.{events_in}
use Rattle.explorer.specs.declared.events.Tried.{Tried}
use Rattle.explorer.specs.declared.tally.Ended.{Ended}
use Rattle.explorer.specs.declared.tally.Tally.{Tally}

-- the one in which fewer things go wrong, and else the first
abbrev pub shortest_of : Option Tried → Tried → Option Tried
shortest_of None tried = Some tried
shortest_of (Some first) tried = if nat_lt (events_in tried) (events_in first) then Some tried else Some first

abbrev pub one_more : Tried → Ended → Ended
one_more tried e = record { count = e.count + 1; shortest = shortest_of e.shortest tried }

abbrev pub none_ended : Ended
none_ended = record { count = 0; shortest = None }

-- No run is counted.
abbrev pub nothing_counted : Tally
nothing_counted = record { done = none_ended; rolled_back = none_ended; degraded_old = none_ended; degraded_target = none_ended; lost = none_ended; shortfall = 0 }

-- One run more, which ended so.
abbrev pub counted : Tried → Outcome → Tally → Tally
counted tried outcome.Done t = record t { done = one_more tried t.done }
counted tried outcome.RolledBack t = record t { rolled_back = one_more tried t.rolled_back }
counted tried (outcome.Degraded side.Old short) t = record t { degraded_old = one_more tried t.degraded_old; shortfall = max t.shortfall (sum short) }
counted tried (outcome.Degraded side.Target short) t = record t { degraded_target = one_more tried t.degraded_target; shortfall = max t.shortfall (sum short) }
counted tried outcome.Lost t = record t { lost = one_more tried t.lost }
