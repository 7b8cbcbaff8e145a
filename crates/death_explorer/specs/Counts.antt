-- How deaths are counted.
use Rattle.std.specs.Prelude.{ℕ, ◌+◌, nat_lt, Bool, true, false, Option, Some, None, if◌then◌else◌}
use Rattle.definitions.specs.Table.{Address}
use Rattle.death_explorer.specs.declared.counts.Death.{Death}
use Rattle.death_explorer.specs.declared.counts.Deaths.{Deaths}
use Rattle.death_explorer.specs.declared.counts.LeastLeft.{LeastLeft}
use Rattle.death_explorer.specs.declared.counts.DeathCounts.{DeathCounts}

abbrev pub first_of : Option Death → Death → Option Death
first_of None death = Some death
first_of (Some first) death = Some first

abbrev pub one_more : Death → Deaths → Deaths
one_more death d = record { count = d.count + 1; first = first_of d.first death }

abbrev pub no_deaths : Deaths
no_deaths = record { count = 0; first = None }

abbrev pub nothing_counted : DeathCounts
nothing_counted = record { healed = no_deaths; short = no_deaths; closed = no_deaths; least = None }

-- A death more: whether all sockets were kept then, and whether there was room for all workers.
abbrev pub ended : Death → Bool → Bool → DeathCounts → DeathCounts
ended death false room c = record c { closed = one_more death c.closed }
ended death true false c = record c { short = one_more death c.short }
ended death true true c = record c { healed = one_more death c.healed }

-- The fewer workers of an address, and else those that were found before.
abbrev pub least_with : Death → Option (Address × ℕ) → Option LeastLeft → Option LeastLeft
least_with death None least = least
least_with death (Some found) None = Some (record { ready = found.1; address = found.0; death = death })
least_with death (Some found) (Some least) =
    if nat_lt found.1 least.ready then Some (record { ready = found.1; address = found.0; death = death }) else Some least
