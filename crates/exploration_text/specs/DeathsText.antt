-- What starts after deaths came to.
use Rattle.std.specs.Prelude.{ℕ, ◌-◌, List, ◌++◌, Option, Some, None, codes}
use Rattle.vocabulary.specs.declared.names.Name.TheVariants as name
use Rattle.definitions.specs.Plans.{Turn}
use Rattle.explorer.specs.declared.events.Mishap.TheVariants.{Exit}
use Rattle.explorer.specs.declared.events.Tried.TheVariants.{One}
use Rattle.order_explorer.specs.declared.totals.OrderedRun.{OrderedRun}
use Rattle.order_explorer.specs.declared.totals.Ends.{Ends}
use Rattle.order_explorer.specs.declared.totals.OrderedLeast.{OrderedLeast}
use Rattle.death_explorer.specs.declared.counts.Death.{Death}
use Rattle.death_explorer.specs.declared.counts.Deaths.{Deaths}
use Rattle.death_explorer.specs.declared.counts.LeastLeft.{LeastLeft}
use Rattle.death_explorer.specs.declared.counts.DeathCounts.{DeathCounts}
use Rattle.exploration_text.specs.SummaryText.{end_line, least_line}

-- the run in which the master exits; the number of its process is in no line
abbrev pub run_of_death : Death → OrderedRun
run_of_death death = record {
  order = death.order;
  tried = One (record { number = death.number; mishap = Exit (name.Master death.image) 0 });
}

abbrev pub first_run : Option Death → Option OrderedRun
first_run None = None
first_run (Some death) = Some (run_of_death death)

abbrev pub ends_of_deaths : Deaths → Ends
ends_of_deaths deaths = record { count = deaths.count; shortest = first_run deaths.first }

-- after so many calls: those before the one at which the master exits
abbrev pub least_left : LeastLeft → OrderedLeast
least_left found = record {
  order = found.death.order;
  least = record { ready = found.ready; address = found.address; tried = (run_of_death found.death).tried; made = found.death.number - 1 };
}

abbrev pub least_of_deaths : Option LeastLeft → Option OrderedLeast
least_of_deaths None = None
least_of_deaths (Some found) = Some (least_left found)

-- the deaths after which a start heals
unfoldable pub healed_text : List (List Turn) → DeathCounts → List ℕ
healed_text orders counts = end_line orders (codes "healed") (ends_of_deaths counts.healed)

-- those after which it does not
unfoldable pub lost_text : List (List Turn) → DeathCounts → List ℕ
lost_text orders counts = end_line orders (codes "short") (ends_of_deaths counts.short) ++ end_line orders (codes "closed") (ends_of_deaths counts.closed)

abbrev pub deaths_text : List (List Turn) → DeathCounts → List ℕ
deaths_text orders counts = healed_text orders counts ++ lost_text orders counts ++ least_line orders (least_of_deaths counts.least)
