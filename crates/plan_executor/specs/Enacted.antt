-- What comes of a target that is carried out.
use Rattle.std.specs.Prelude.{◌≡◌, ◌+◌, List, length, None}
use Rattle.vocabulary.specs.declared.targets.Target.{Target}
use Rattle.definitions.specs.Table.{Table}
use Rattle.definitions.specs.Master.{Record, Agrees}
use Rattle.definitions.specs.Plans.{Turn}
use Rattle.call_laws.specs.Lengths.{plan_length}
use Rattle.definitions.specs.Run.{Pattern, Ran}
use Rattle.definitions.specs.After.{next_record}
use Rattle.definitions.specs.Claims.{IsStart, HasDescriptors, KeepsPromise, run_of, refusal_of}
use Rattle.kernel_model.specs.Room.{LacksNumbers}
use Rattle.kernel_model.specs.State.{State}
use Rattle.plan_executor.specs.Lawful.{IsWholeRun}
use Rattle.plan_executor.specs.Merged.{ActsApart}
use Rattle.plan_executor.specs.Refusals.{HasPlan}
use Rattle.word_runner.specs.declared.enactor.Enacted.{Enacted}

-- The run of a target by these turns keeps what the headline promises; and it is a merge of what two masters do, where they have
-- parts of the plan.
pub record IsKept (t : Table) (r : Record) (target : Target) (turns : List Turn) (ran : Ran) : Type 0 where
  pub promise : KeepsPromise t r target ran
  pub apart : ActsApart r target turns ran.entries

-- So does each run of the target, by whatever turns, that starts where a record is true of a table of the kernel's, where there is a
-- plan and no executing master exits.
abbrev pub EndsSo : Target → Type 0
EndsSo target =
    (t : Table) (r : Record) (turns : List Turn) (pattern : Pattern) → IsStart t r → HasDescriptors t r →
    HasPlan r target → refusal_of r target turns pattern t ≡ None →
    IsKept t r target turns (run_of r target turns pattern t)

-- The record agreed, and the target's plan was run by the turns, from the first table to the last, under the pattern: entries and
-- report are those of its run, the record afterwards is the one that the report leaves to the master that reigns then, and no moment
-- of the run kills an executing master. There were numbers for the longest path, and room is left for what was not called. The run
-- keeps what the headline promises; and where two masters have parts of the plan, its entries are a merge of what each does in its
-- own.
pub record IsEnacted (first last : State) (r : Record) (target : Target) (turns : List Turn) (pattern : Pattern) (e : Enacted) : Type 0 where
  pub agrees : Agrees first.table r
  pub has_plan : HasPlan r target
  pub numbers : LacksNumbers first.table (plan_length r target) → ⊥
  pub spared : refusal_of r target turns pattern first.table ≡ None
  pub is_run : IsWholeRun r target turns pattern first.table e.log.entries last.table e.report
  pub room : last.room + length e.log.entries ≡ plan_length r target
  pub after : e.after ≡ next_record r target e.report last.table
  pub headline : KeepsPromise first.table r target (run_of r target turns pattern first.table)
  pub apart : ActsApart r target turns e.log.entries
