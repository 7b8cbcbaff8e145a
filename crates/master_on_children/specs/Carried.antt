-- A target carried out on real children.
use Rattle.std.specs.Prelude.{ℕ, ◌≡◌, true, List, Option}
use Rattle.definitions.specs.Master.{Record, handover_for, sides_of}
use Rattle.handover_text.specs.Spelling.{text_handed}
use Rattle.definitions.specs.After.{record_after}
use Rattle.service_state.specs.Targets.{lacks_generation}
use Rattle.definitions.specs.Plans.{plan_tree}
use Rattle.plan_walk.specs.Path.{KeepsPathLaw}
use Rattle.vocabulary.specs.declared.targets.Target.{Target}
use Rattle.reload_planner.specs.declared.refusal.PlanRefusal.TheVariants.{NoGeneration}
use Rattle.upgrade_planner.specs.Planned.{HasPlan}
use Rattle.child_family.specs.declared.family.Family.{Ghosts}
use Rattle.child_edge.specs.State.{State, state_of}
use Rattle.child_edge.specs.Edge.{CallsHeld}
use Rattle.word_runner.specs.Codes.{unplanned_code}
use Rattle.word_runner.specs.declared.enactor.Enacted.{Enacted}
use Rattle.master_on_children.specs.Inbox.{on_children, AreAnswered}
use Rattle.master_on_children.specs.TakingTurns.{turns_by_turns}
use Rattle.master_on_children.specs.declared.attended.Attended.{Attended}

-- There is none, and the code is the planner's.
pub record IsUnplanned (r : Record) (target : Target) (code : List ℕ) : Type 0 where
  pub lacks : lacks_generation r target ≡ true
  pub code_is : code ≡ unplanned_code NoGeneration

-- what the edge knows before the first call: the handover's text too
abbrev pub handed : State → Record → Target → State
handed s r target = record s { text = text_handed (handover_for r target) }

module _ {F I L : Type 0} {f : Ghosts F} (remaining : I → Option (List ℕ)) where
  -- The target's plan was carried out: the entries are a path of its tree and the report is theirs. In an upgrade the masters go turns
  -- by turns. The plan's questions were answered from the input. Where the family tells its calls, those between are the
  -- conversations of the other entries, which led the edge from the one state to the other. The record afterwards is what the report
  -- leaves, with the master's own process number.
  pub record IsCarriedOut (first : Attended F I L f) (r : Record) (target : Target) (e : Enacted) (last : Attended F I L f) : Type 0 where
    pub has_plan : HasPlan r target
    pub path_law : KeepsPathLaw (plan_tree r target (turns_by_turns r.retries)) r.note (sides_of r target) e.log.entries e.report
    pub calls : CallsHeld (f.told first.edge.family) (f.told last.edge.family)
        (handed (state_of first.edge.state) r target) (on_children e.log.entries) (state_of last.edge.state)
    pub answered : AreAnswered remaining first.inbox e.log.entries last.inbox
    pub record_is : e.after ≡ record_after r target e.report r.pid
