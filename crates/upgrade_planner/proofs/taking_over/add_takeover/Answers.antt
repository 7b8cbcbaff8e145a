use Rattle.std.proofs.Common.{ℕ, ap, subst}
use Rattle.std.proofs.lemmas.Result.{IfOk-weaker}
use Rattle.listener_set.specs.declared.generation.Generation.{Generation}
use Rattle.vocabulary.specs.declared.calls.Call.TheVariants.{Census, WritePid}
use Rattle.definitions.specs.Master.{Crew}
use Rattle.definitions.specs.Plans.{pid_calls, tries, tries_all}
use Rattle.rollback_plan.specs.Drafts.{tree_at, IsMade}
use Rattle.upgrade_planner.proofs.Takeovers.{written}
use Rattle.upgrade_planner.proofs.taking_over.add_takeover.Goals as goal

pub returns-clause-made : goal.returns-clause-made
returns-clause-made c =
    let u = c.args.upgrade.now in
    let old = c.args.draft.now in
    let here = ap (λ (crew : Crew). crew.generation) c.crew.view_is in
    let counts = λ (by : ℕ) (g : Generation). tries by (Census g) u.new.numbers (tree_at old c.args.full) (tree_at old c.args.back) in
    let counting = subst (λ (g : Generation). IsMade c.add_tried.new.draft c.in_ok-counting.counting (counts c.master-by.result g)) here c.in_ok-counting.ensures.made in
    IfOk-weaker c.add_written.result _ _
    (λ place made.
    subst (λ (by : ℕ). IsMade c.add_written.new.draft place (tries_all by (pid_calls u.path WritePid) (counts by u.new.crew.generation) (tree_at old c.args.back))) c.master-by.ensures
    (written c.master-by.result (pid_calls u.path WritePid) old c.add_tried.new.draft c.add_written.new.draft c.in_ok-counting.counting c.args.back place (counts c.master-by.result u.new.crew.generation)
    c.requires.back c.in_ok-counting.ensures.keeps counting made))
    c.add_written.ensures.made
