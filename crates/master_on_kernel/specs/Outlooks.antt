-- What there is to show of a word.
use Rattle.std.specs.Prelude.{◌≡◌, ◌⊎◌, ℕ, List, Some, Ok}
use Rattle.definitions.specs.Master.{Record}
use Rattle.reload_planner.specs.Codes.{plan_code}
use Rattle.reload_planner.specs.declared.refusal.PlanRefusal.{PlanRefusal}
use Rattle.upgrade_planner.specs.Planned.{HasPlan, HasNoPlan}
use Rattle.definitions.specs.Plans.{Turn, plan_tree}
use Rattle.vocabulary.specs.declared.targets.Target.{Target}
use Rattle.rollback_plan.specs.declared.plan.Plan.{Plan}
use Rattle.rollback_plan.specs.Plans.{tree_under, length_of, parts_of, steps_of}
use Rattle.plan_text.specs.PlanText.{plan_text}
use Rattle.plan_text.specs.Graph.{graph_text}
use Rattle.transcript.specs.Block.{body_text}
use Rattle.worker_table.specs.Beats.{Workers}
use Rattle.worker_table.specs.Calls.{beating}
use Rattle.word_runner.specs.declared.block.Body.{Body}
use Rattle.word_runner.specs.declared.block.Body.TheVariants.{Nothing, Refused}
use Rattle.word_runner.specs.declared.asking.Asked.{Asked}
use Rattle.word_runner.specs.declared.asking.Asked.TheVariants as asks
use Rattle.word_runner.specs.Asking.{asked_by, IsNoted}
use Rattle.control_words.specs.declared.words.Word.{Word}
use Rattle.master_on_kernel.specs.Starts.{first_record, record_at, silent_workers}
use Rattle.master_on_kernel.specs.declared.start.Start.{Start}
use Rattle.word_runner.specs.Status.{body_status}
use Rattle.master_on_kernel.specs.declared.planning.Form.{Form}
use Rattle.master_on_kernel.specs.declared.planning.Form.TheVariants.{Text, Picture}
use Rattle.master_on_kernel.specs.declared.planning.Outlook.{Outlook}

-- a plan, as a line for each step or as a picture
abbrev pub shown : Form → Plan → List ℕ
shown Text plan = plan_text (length_of plan) (steps_of plan) (parts_of plan)
shown Picture plan = graph_text (steps_of plan) (parts_of plan)

-- what a word comes to that asks for no target
pub record Tells (body : Body) (outlook : Outlook) : Type 0 where
  pub text : outlook.text.items ≡ body_text body
  pub status : outlook.status ≡ body_status body

-- the plan of a target, whatever turns two masters take
pub record Shows (r : Record) (target : Target) (form : Form) (outlook : Outlook) : Type 0 where
  pub plan : Plan
  pub has_plan : HasPlan r target
  pub is_its : (turns : List Turn) → tree_under plan turns ≡ plan_tree r target turns
  pub text : outlook.text.items ≡ shown form plan
  pub status : outlook.status ≡ 0

-- none, and the code of why there is none
pub record IsUnplanned (r : Record) (target : Target) (outlook : Outlook) : Type 0 where
  pub refusal : PlanRefusal
  pub due : HasNoPlan r target refusal
  pub told : Tells (Refused (plan_code refusal)) outlook

abbrev pub IsPlanned : Record → Target → Form → Outlook → Type 0
IsPlanned r target form outlook = Shows r target form outlook ⊎ IsUnplanned r target outlook

-- what a beat comes to
pub record TellsOfBeat (nr now : ℕ) (workers : Workers) (outlook : Outlook) : Type 0 where
  pub body : Body
  pub after : Workers
  pub noted : IsNoted (beating workers nr now) nr now workers body after
  pub told : Tells body outlook

-- what there is to show of what a word asks of a master
abbrev pub IsOutlook : Asked → Record → Workers → Form → Outlook → Type 0
IsOutlook asks.Nothing r workers form outlook = Tells Nothing outlook
IsOutlook (asks.Beat beat) r workers form outlook = TellsOfBeat beat.nr beat.now workers outlook
IsOutlook (asks.Act target) r workers form outlook = IsPlanned r target form outlook
IsOutlook (asks.Refused code) r workers form outlook = Tells (Refused code) outlook

-- what there is to show of a word for a master that has just started
abbrev pub IsForeseen : Start → Word → Form → Outlook → Type 0
IsForeseen start word form outlook =
    let r = first_record start in
    (record_at start ≡ Ok r) × IsOutlook (asked_by word r (silent_workers r) (Some start.next)) r (silent_workers r) form outlook
