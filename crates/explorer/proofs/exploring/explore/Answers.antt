use Rattle.std.proofs.Common.{rules, ◌≡◌, ◌∷◌, [], None, Err, inr, refl, sym, ◌∙◌}
use Rattle.std.proofs.lemmas.Result.{err_from_is_err_and}
use mathlib.Core.Bool.{true≢false}
use Rattle.definitions.specs.Master.{Agrees}
use Rattle.definitions.specs.Run.{start_at}
use Rattle.plan_executor.specs.declared.enactment.EnactRefusal.TheVariants.{RecordDisagrees}
use Rattle.plan_executor.proofs.Exact.{planless, short}
use Rattle.plan_walk.specs.Course.{turns_of}
use Rattle.explorer.specs.declared.events.Tried.TheVariants.{Nothing}
use Rattle.explorer.specs.declared.exploring.Unexplored.TheVariants.{Enact}
use Rattle.explorer.specs.Explored.{with_runs, each_with_pairs, explored_from}
use Rattle.explorer.specs.Positions.{left}
use Rattle.explorer.specs.Refusals.{unexplored}
use Rattle.explorer.proofs.Once.{all-once}
use Rattle.explorer.proofs.Refusing.{told-refused, told-begun, told-stopped}
use Rattle.std.proofs.Common.{ap, subst}
use Rattle.explorer.specs.declared.findings.Findings.{Findings}
use Rattle.explorer.specs.Readiness.{AreCommon}
use Rattle.explorer.specs.Searched.{subject_in}
use Rattle.explorer.proofs.Searching.{explored}
use Rattle.explorer.proofs.Whole.{are-fewest, are-most}
use Rattle.explorer.proofs.exploring.explore.Goals as goal

pub returns-clause-counted : goal.returns-clause-counted
returns-clause-counted g c =
    let r = c.args.search.now.state.now in
    let to = c.args.search.now.target.now in
    let turns = c.args.search.now.turns.now in
    let t = c.args.search.now.kernel.now.table in
    let start = start_at t r.note in
    let w = c.in_ok-whole.ensures.start in
    let is = c.in_ok-run.ensures.start in
    let run = c.in_ok-run.run' in
    let quiet : c.count_run.new.found.tally ≡ with_runs r to turns t (Nothing ∷ []) c.args.found.now.tally =
    c.in_ok-count_run.ensures.counted start w.at ∙ (λ i. with_runs (w.of.state i) (w.of.target i) (w.of.turns i) (w.of.first i) (w.tried i ∷ []) ((c.begin.ensures i).tally)) in
    let whole : with_runs run.state.now run.target.now (turns_of run.course) run.first.now.table (each_with_pairs run.state.now run.target.now (turns_of run.course) run.first.now.table c.args.search.now.pairs (left run start None)) c.count_run.new.found.tally ≡ explored_from r to turns t c.args.search.now.pairs c.args.found.now.tally =
    (λ i. with_runs (is.of.state i) (is.of.target i) (is.of.turns i) (is.of.first i) (each_with_pairs (is.of.state i) (is.of.target i) (is.of.turns i) (is.of.first i) c.args.search.now.pairs (is.meets i)) (quiet i)) in
    c.in_ok-count_events.ensures.counted start is.at ∙ whole

pub returns-clause-once : goal.returns-clause-once
returns-clause-once g c =
    all-once c.args.search.now.state.now c.args.search.now.target.now c.args.search.now.turns.now c.args.search.now.kernel.now.table c.args.search.now.pairs c.in_ok-whole.ensures.formed

---- Which refusal is told

pub returns-then-not-agrees-clause-exact : goal.returns-then-not-agrees-clause-exact
returns-then-not-agrees-clause-exact g c =
    told-refused c.args.search.now.kernel.now.table c.args.search.now.state.now c.args.search.now.target.now RecordDisagrees (Err (Enact RecordDisagrees))
    (inr (λ turns pattern h. let yes = c.agrees.ensures.agrees.1 h in absurd (true≢false (sym yes ∙ c.if-not-agrees.true)))) refl

pub returns-in_err-plan-clause-exact : goal.returns-in_err-plan-clause-exact
returns-in_err-plan-clause-exact g c =
    let agrees : Agrees c.args.search.now.kernel.now.table c.args.search.now.state.now = c.agrees.ensures.agrees.0 (search rules) in
    let why = c.in_err-plan.field-0.0 in
    let p = err_from_is_err_and c.from_residual.result c.from_residual.ensures.1 in
    let is : c.from_residual.result ≡ Err (Enact why) = cc in
    told-refused c.args.search.now.kernel.now.table c.args.search.now.state.now c.args.search.now.target.now why c.from_residual.result
    (planless c.args.search.now.kernel.now.table c.args.search.now.state.now c.args.search.now.target.now why agrees c.in_err-plan.ensures.refused) is

pub returns-in_err-whole-clause-exact : goal.returns-in_err-whole-clause-exact
returns-in_err-whole-clause-exact g c =
    let agrees : Agrees c.args.search.now.kernel.now.table c.args.search.now.state.now = c.agrees.ensures.agrees.0 (search rules) in
    let why = c.in_err-whole.field-0.0 in
    let p = err_from_is_err_and c.from_residual-in_err-whole.result c.from_residual-in_err-whole.ensures.1 in
    let is : c.from_residual-in_err-whole.result ≡ Err (Enact why) = cc in
    told-refused c.args.search.now.kernel.now.table c.args.search.now.state.now c.args.search.now.target.now why c.from_residual-in_err-whole.result
    (short c.args.search.now.kernel.now.table c.args.search.now.state.now c.args.search.now.target.now why agrees c.in_ok-plan.ensures.planned c.in_err-whole.ensures.refused) is

pub returns-in_err-count_run-clause-exact : goal.returns-in_err-count_run-clause-exact
returns-in_err-count_run-clause-exact g c =
    let agrees : Agrees c.args.search.now.kernel.now.table c.args.search.now.state.now = c.agrees.ensures.agrees.0 (search rules) in
    let why = c.in_err-count_run.field-0.0 in
    let p = err_from_is_err_and c.from_residual-in_err-count_run.result c.from_residual-in_err-count_run.ensures.1 in
    let is : c.from_residual-in_err-count_run.result ≡ Err (unexplored why) = cc in
    told-stopped c.args.search.now.kernel.now.table c.args.search.now.state.now c.args.search.now.target.now agrees c.in_ok-plan.ensures.planned c.in_ok-whole.ensures.numbers why c.from_residual-in_err-count_run.result is

pub returns-in_err-count_events-clause-exact : goal.returns-in_err-count_events-clause-exact
returns-in_err-count_events-clause-exact g c =
    let agrees : Agrees c.args.search.now.kernel.now.table c.args.search.now.state.now = c.agrees.ensures.agrees.0 (search rules) in
    let why = c.in_err-count_events.field-0.0 in
    let p = err_from_is_err_and c.from_residual-in_err-count_events.result c.from_residual-in_err-count_events.ensures.1 in
    let is : c.from_residual-in_err-count_events.result ≡ Err (unexplored why) = cc in
    told-stopped c.args.search.now.kernel.now.table c.args.search.now.state.now c.args.search.now.target.now agrees c.in_ok-plan.ensures.planned c.in_ok-whole.ensures.numbers why c.from_residual-in_err-count_events.result is

pub returns-clause-exact : goal.returns-clause-exact
returns-clause-exact g c =
    told-begun c.args.search.now.kernel.now.table c.args.search.now.state.now c.args.search.now.target.now (c.agrees.ensures.agrees.0 (search rules)) c.in_ok-plan.ensures.planned c.in_ok-whole.ensures.numbers

---- The tables of all runs

pub returns-clause-least : goal.returns-clause-least
returns-clause-least g c =
    let search = c.args.search.now in
    let start = start_at search.kernel.now.table search.state.now.note in
    let w = c.in_ok-whole.ensures.start in
    let is = c.in_ok-run.ensures.start in
    let whole = explored search.kernel.now.table search.state.now search.target.now search.turns.now search.pairs c.in_ok-whole.whole c.in_ok-run.run' c.begin.new.self c.count_run.new.found c.count_events.new.found w is (c.in_ok-count_run.ensures.searched start w.at) (c.in_ok-count_events.ensures.searched start is.at) in
    are-fewest (subject_in search) search.pairs c.args.found.now c.begin.new.self c.count_events.new.found (ap (λ (x : Findings). x.least) c.begin.ensures)
    (subst (λ v. AreCommon search.kernel.now.table search.state.now search.target.now v.items) (sym (ap (λ (x : Findings). x.common) c.begin.ensures)) c.in_ok-common.ensures) whole

pub returns-clause-most : goal.returns-clause-most
returns-clause-most g c =
    let search = c.args.search.now in
    let start = start_at search.kernel.now.table search.state.now.note in
    let w = c.in_ok-whole.ensures.start in
    let is = c.in_ok-run.ensures.start in
    let whole = explored search.kernel.now.table search.state.now search.target.now search.turns.now search.pairs c.in_ok-whole.whole c.in_ok-run.run' c.begin.new.self c.count_run.new.found c.count_events.new.found w is (c.in_ok-count_run.ensures.searched start w.at) (c.in_ok-count_events.ensures.searched start is.at) in
    are-most (subject_in search) search.pairs c.args.found.now c.begin.new.self c.count_events.new.found (ap (λ (x : Findings). x.most) c.begin.ensures) whole
