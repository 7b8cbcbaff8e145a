-- Runs as they are listed.
use Rattle.std.specs.Prelude.{ℕ, List, [], ◌++◌, codes}
use Rattle.vocabulary.specs.declared.reports.Report.{Report}
use Rattle.definitions.specs.Plans.{Turn}
use Rattle.call_text.specs.ReportText.{report_text}
use Rattle.pattern_text.specs.declared.pattern_line.PatternLine.{PatternLine}
use Rattle.pattern_text.specs.declared.pattern_line.PatternLine.TheVariants as line
use Rattle.pattern_text.specs.LineText.{line_text}
use Rattle.pattern_text.specs.PatternsWriting.{ended_line}
use Rattle.pattern_text.specs.TurnsText.{turns_text}
use Rattle.explorer.specs.declared.events.Mishap.{Mishap}
use Rattle.explorer.specs.declared.events.Mishap.TheVariants.{Exit, Fail}
use Rattle.explorer.specs.declared.events.Event.{Event}
use Rattle.explorer.specs.declared.events.Tried.{Tried}
use Rattle.explorer.specs.declared.events.Tried.TheVariants.{Nothing, One, Two}

-- The line of a pattern in which this goes wrong at the n-th call: who exits is named, and the number of the process is not.
abbrev pub mishap_line : ℕ → Mishap → PatternLine
mishap_line n (Exit name process) = line.Exit n name
mishap_line n (Fail fate) = line.Fail n fate

abbrev pub event_line : Event → PatternLine
event_line e = mishap_line e.number e.mishap

-- without its newline
abbrev pub event_text : Event → List ℕ
event_text e = line_text (event_line e)

-- a line for each event, in the order of the run
abbrev pub events_text : Tried → List ℕ
events_text Nothing = []
events_text (One e) = ended_line (event_line e)
events_text (Two e f) = ended_line (event_line e) ++ ended_line (event_line f)

-- by whose turns a run goes, where that is given, what goes wrong in it, and what it reports
abbrev pub run_text : List Turn → Tried → Report → List ℕ
run_text turns tried report = turns_text turns ++ (events_text tried ++ report_text report ++ codes "\n")
