-- What is carried out ends as it reports.
use Rattle.std.proofs.Common.{◌≡◌, ℕ, ◌+◌, true, false, List, [], ◌∷◌, length, Option, None, refl, sym, ◌∙◌, ap, subst}
use Rattle.std.specs.Bool.{then_some}
use Rattle.std.specs.Prelude.{is_none, Bool, ◌&&◌}
use Rattle.std.proofs.lemmas.Bool.{false≢true}
use Rattle.handover_text.specs.Reading.{handed_by}
use Rattle.definitions.specs.Table.{Table, Generation}
use Rattle.definitions.specs.Master.{Record, sides_of, handover_for, has_next, reload_generation, upgrade_generation}
use Rattle.service_state.specs.Targets.{IsTarget}
use Rattle.vocabulary.specs.declared.targets.Target.{Target}
use Rattle.vocabulary.specs.declared.targets.Target.TheVariants.{Workers, Mend, Reopen, Reload, Upgrade, Attended, Stop}
use Rattle.definitions.specs.Run.{Tree, Pattern}
use Rattle.vocabulary.specs.declared.plans.PidNote.{PidNote}
use Rattle.vocabulary.specs.declared.plans.Sides.{Sides}
use Rattle.vocabulary.specs.declared.reports.Entry.{Entry}
use Rattle.vocabulary.specs.declared.reports.Report.{Report}
use Rattle.kernel_model.specs.State.{State}
use Rattle.plan_walk.specs.Log.{Told}
use Rattle.rollback_plan.specs.declared.plan.Plan.{Plan}
use Rattle.definitions.specs.Plans.{plan_tree, Turn}
use Rattle.call_laws.specs.Lengths.{plan_length}
use Rattle.plan_executor.specs.Replays.{Replays}
use Rattle.rollback_plan.specs.Plans.{tree_under, note_of, sides_told, text_of}
use Rattle.plan_walk.specs.Path.{KeepsPathLaw}
use Rattle.definitions.specs.After.{next_record}
use Rattle.word_runner.specs.declared.enactor.Enacted.{Enacted}
use Rattle.plan_executor.specs.Lawful.{IsWholeRun}
use Rattle.plan_executor.specs.Enacted.{EndsSo, IsEnacted}
use Rattle.plan_executor.specs.Range.{HasRange}
use Rattle.plan_executor.specs.Merged.{ActsApart}
use Rattle.plan_executor.proofs.Merging.{acts-apart}
use Rattle.plan_executor.proofs.Reporting.{whole-run}
use Rattle.plan_executor.specs.Prepared.{IsPlanFor, IsReady}
use Rattle.theorems.specs.Apart.{WalksApart}
use Rattle.definitions.specs.Claims.{Accepts, KeepsPromise, HasDescriptors, Headline, heirs_of, refused_among, refusal_of, run_of}
use Rattle.plan_executor.specs.Refusals.{HasPlan}

-- where a generation is not lacking, its numbers are not the last ones
later : (b : Bool) (g : Generation) → is_none (then_some b g) ≡ false → b ≡ true
later true g h = refl
later false g h = absurd (false≢true (sym h))

-- what is asked of a target
accepted : (target : Target) (t : Table) (r : Record) → IsTarget target → HasRange target → HasDescriptors t r → HasPlan r target → Accepts t r target
accepted (Workers n) t r within range ds plan = within
accepted (Mend overdue) t r within range ds plan = tt
accepted Reopen t r within range ds plan = tt
accepted (Reload s) t r within range ds plan = (range, ds, later (has_next r.generation.config) (reload_generation r.generation) plan)
accepted (Upgrade s) t r within range ds plan = (
  range,
  ds,
  later (has_next r.generation.image && has_next r.generation.config)
      (upgrade_generation r.generation) plan,
)
accepted (Attended s) t r within range ds plan = (
  range,
  ds,
  later (has_next r.generation.image && has_next r.generation.config)
      (upgrade_generation r.generation) plan,
)
accepted (Stop quick) t r within range ds plan = tt

-- two masters have parts of an upgrade's plan alone
parted : WalksApart → (target : Target) (t : Table) (r : Record) (turns : List Turn) (pattern : Pattern) →
    KeepsPromise t r target (run_of r target turns pattern t) → ActsApart r target turns (run_of r target turns pattern t).entries
parted parts (Workers n) t r turns pattern ends = tt
parted parts (Mend overdue) t r turns pattern ends = tt
parted parts Reopen t r turns pattern ends = tt
parted parts (Reload s) t r turns pattern ends = tt
parted parts (Upgrade s) t r turns pattern ends = acts-apart parts t r (Upgrade s) turns pattern ends
parted parts (Attended s) t r turns pattern ends = acts-apart parts t r (Attended s) turns pattern ends
parted parts (Stop quick) t r turns pattern ends = tt

pub keeps : Headline → WalksApart → (target : Target) → IsTarget target → HasRange target → EndsSo target
keeps headline parts target within range t r turns pattern start ds plan spared =
    let promise = headline t r target turns pattern (record { start = start; accepts = accepted target t r within range ds plan; spared = spared }) in
    record { promise = promise; apart = parted parts target t r turns pattern promise }

---- What is made of a plan

-- The calls follow the target's plan from the one table to the other under the pattern, and the report is theirs.
pub record IsMade (first : Table) (r : Record) (target : Target) (turns : List Turn) (pattern : Pattern)
    (entries : List Entry) (last : Table) (report : Report) : Type 0 where
  pub law : KeepsPathLaw (plan_tree r target turns) r.note (sides_of r target) entries report
  pub replays : Replays (handover_for r target) pattern 0 first entries last

-- what is executed of a target's plan
pub made : (r : Record) (target : Target) (plan : Plan) (turns : List Turn) (pattern : Pattern) (first last : Table) (entries : List Entry) (report : Report) →
    IsPlanFor r target plan → KeepsPathLaw (tree_under plan turns) (note_of plan) (sides_told plan) entries report →
    Replays (handed_by (text_of plan)) pattern 0 first entries last →
    IsMade first r target turns pattern entries last report
made r target plan turns pattern first last entries report is law replays =
    record {
      law =
          subst (λ (tree : Tree). KeepsPathLaw tree r.note (sides_of r target) entries report) (is.tree turns)
          (subst (λ (note : PidNote). KeepsPathLaw (tree_under plan turns) note (sides_of r target) entries report) is.note
          (subst (λ (sides : Sides). KeepsPathLaw (tree_under plan turns) (note_of plan) sides entries report) is.sides law));
      replays = subst (λ handed. Replays handed pattern 0 first entries last) is.hands.read replays;
    }

-- What is found among the calls is so of the run.
refusal-is : (r : Record) (target : Target) (turns : List Turn) (pattern : Pattern) (first last : Table)
    (entries : List Entry) (report : Report) (found : Option ℕ) →
    IsWholeRun r target turns pattern first entries last report →
    refused_among (r.generation.image ∷ []) (heirs_of r target) pattern 0 entries ≡ found →
    refusal_of r target turns pattern first ≡ found
refusal-is r target turns pattern first last entries report found whole naming =
    ap (refused_among (r.generation.image ∷ []) (heirs_of r target) pattern 0) whole.entries_are ∙ naming

pub found-is : (r : Record) (target : Target) (turns : List Turn) (pattern : Pattern) (first last : Table)
    (entries : List Entry) (report : Report) (found : Option ℕ) →
    IsMade first r target turns pattern entries last report →
    refused_among (r.generation.image ∷ []) (heirs_of r target) pattern 0 entries ≡ found →
    refusal_of r target turns pattern first ≡ found
found-is r target turns pattern first last entries report found runs naming =
    refusal-is r target turns pattern first last entries report found
    (whole-run r target turns pattern first last entries report runs.law runs.replays) naming

pub enacted : (first last : State) (r : Record) (target : Target) (turns : List Turn) (pattern : Pattern) (plan : Plan) (log : Told) (e : Enacted) →
    IsReady first r target plan log → EndsSo target → IsMade first.table r target turns pattern e.log.entries last.table e.report →
    last.room + length e.log.entries ≡ plan_length r target → refusal_of r target turns pattern first.table ≡ None →
    e.after ≡ next_record r target e.report last.table → IsEnacted first last r target turns pattern e
enacted first last r target turns pattern plan log e is ends runs room spared after =
    let whole = whole-run r target turns pattern first.table last.table e.log.entries e.report runs.law runs.replays in
    let kept = ends first.table r turns pattern is.start is.descriptors is.planned.has_plan spared in
    record {
      agrees = is.start.agrees;
      has_plan = is.planned.has_plan;
      numbers = is.numbers;
      spared = spared;
      is_run = whole;
      room = room;
      after = after;
      headline = kept.promise;
      apart = subst (ActsApart r target turns) whole.entries_are kept.apart;
    }

-- of the first state its table alone matters
pub enacted-from : (first ready last : State) (r : Record) (target : Target) (turns : List Turn) (pattern : Pattern)
    (e : Enacted) → ready.table ≡ first.table → IsEnacted ready last r target turns pattern e →
    IsEnacted first last r target turns pattern e
enacted-from first ready last r target turns pattern e same h =
    subst (λ (t : Table). IsEnacted (record { table = t; room = first.room }) last r target turns pattern e) same here
  where
    here : IsEnacted (record { table = ready.table; room = first.room }) last r target turns pattern e
    here = record {
      agrees = h.agrees;
      has_plan = h.has_plan;
      numbers = h.numbers;
      spared = h.spared;
      is_run = h.is_run;
      room = h.room;
      after = h.after;
      headline = h.headline;
      apart = h.apart;
    }
