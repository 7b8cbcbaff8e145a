-- Which workers a run started.
use Rattle.std.specs.Prelude.{ℕ, Bool, true, false, ◌&&◌, List, [], Option, Some, None}
use Rattle.std.specs.List.{filter_map}
use Rattle.definitions.specs.Table.{Generation, same_generation}
use Rattle.std.specs.Bool.{then_some}
use Rattle.vocabulary.specs.declared.calls.Call.{Call}
use Rattle.vocabulary.specs.declared.calls.Call.TheVariants.{Fork}
use Rattle.vocabulary.specs.declared.calls.Answer.{Answer}
use Rattle.vocabulary.specs.declared.calls.Answer.TheVariants as answer
use Rattle.definitions.specs.Master.{Record}
use Rattle.vocabulary.specs.declared.reports.Entry.{Entry}

abbrev pub is_forked : Answer → Bool
is_forked answer.Forked = true
is_forked _ = false

-- the worker that a call started, where it is of the generation
abbrev pub start_by : Generation → Call → Answer → Option ℕ
start_by g (Fork own nr fds) a = then_some (is_forked a && same_generation own g) nr
start_by g _ a = None

abbrev pub start_of : Generation → Entry → Option ℕ
start_of g e = start_by g e.call e.answer

-- the workers of a generation that were started
abbrev pub started_in : Generation → List Entry → List ℕ
started_in g entries = filter_map (start_of g) entries

-- those of the generation that runs then, where one does
abbrev pub started : Option Record → List Entry → List ℕ
started None entries = []
started (Some r) entries = started_in r.generation entries
