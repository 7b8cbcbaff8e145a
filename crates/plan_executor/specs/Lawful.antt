-- A run of a plan's tree, by its entries.
use Rattle.std.specs.Prelude.{◌≡◌, Option, Some, None, List}
use Rattle.definitions.specs.Table.{Table}
use Rattle.definitions.specs.Run.{Tree, Ends, Does, Pattern, Progress, Ending, At, Lost, Ran, report_of}
use Rattle.vocabulary.specs.declared.reports.Entry.{Entry}
use Rattle.definitions.specs.Plans.{Turn}
use Rattle.plan_walk.specs.Path.{Trail}
use Rattle.vocabulary.specs.declared.reports.Report.{Report}
use Rattle.definitions.specs.Master.{Record, sides_of}
use Rattle.vocabulary.specs.declared.targets.Target.{Target}
use Rattle.definitions.specs.Claims.{run_of}

-- the trail of a run that has come so far
abbrev pub trail_at : Option Tree → Progress → Trail
trail_at rest p = record { rest = rest; ready = p.ready; lacked = p.lacked; note = p.note; cause = p.cause; made = p.calls }

-- how the run of a trail that is over ends
abbrev pub ending_of : Option Tree → Ending
ending_of None = Lost
ending_of (Some (Ends end)) = At end
ending_of (Some (Does by order set branches)) = Lost

-- the run has these entries, ends with this table, and its trail is this one
pub record IsRun (entries : List Entry) (last : Table) (t : Trail) (ran : Ran) : Type 0 where
  pub entries_are : ran.entries ≡ entries
  pub table : ran.last.table ≡ last
  pub ending : ran.ending ≡ ending_of t.rest
  pub trail : trail_at t.rest ran.last ≡ t

-- These are the entries, the last table and the report of the run of the target's plan by these turns, from a table under a pattern.
pub record IsWholeRun (r : Record) (target : Target) (turns : List Turn) (pattern : Pattern) (first : Table)
    (entries : List Entry) (last : Table) (report : Report) : Type 0 where
  pub entries_are : (run_of r target turns pattern first).entries ≡ entries
  pub table : (run_of r target turns pattern first).last.table ≡ last
  pub report_is : report ≡ report_of (sides_of r target) (run_of r target turns pattern first)
