use Rattle.std.proofs.Common.{◌≡◌, ◌∷◌, [], Err, refl, sym, ap, ◌∙◌}
use Rattle.std.proofs.lemmas.Result.{err_from_is_err_and}
use Rattle.handover_text.specs.Reading.{handed_by}
use Rattle.definitions.specs.Master.{Record, handover_for}
use Rattle.definitions.specs.Claims.{run_of}
use Rattle.call_laws.specs.Pieces.{quiet}
use Rattle.kernel_model.specs.Pattern.{moment_at}
use Rattle.kernel_model.specs.State.{State}
use Rattle.kernel_pattern.specs.declared.section.Section.{Section}
use Rattle.death_explorer.specs.Deaths.{deaths_met, counted_all}
use Rattle.death_explorer.proofs.Refusing.{quiet-refused}
use Rattle.death_explorer.proofs.exploring.explore_order.Goals as goal

pub returns-in_err-enacted-clause-refused : goal.returns-in_err-enacted-clause-refused
returns-in_err-enacted-clause-refused c =
    let search = c.args.search.now in
    let why = c.in_err-enacted.field-0.0 in
    let p = err_from_is_err_and c.from_residual-in_err-enacted.result c.from_residual-in_err-enacted.ensures.1 in
    let is : c.from_residual-in_err-enacted.result ≡ Err why = cc in
    rw is
    (quiet-refused c.in_ok-enacting.enacting.table search.kernel.now.table search.state.now search.target.now c.in_ok-section.section.turns
    c.in_ok-section.section.pattern why (Err why) (ap (λ (s : State). s.table) c.in_ok-enacting.ensures)
    (ap (λ (x : Section). x.pattern) c.in_ok-section.ensures) refl (c.in_err-enacted.ensures.exact why))

pub returns-clause-counted : goal.returns-clause-counted
returns-clause-counted c =
    let search = c.args.search.now in
    let r = search.state.now in
    let s = search.settings.now in
    let target = search.target.now in
    let t = search.kernel.now.table in
    let first : c.in_ok-enacting.enacting.table ≡ t = ap (λ (x : State). x.table) c.in_ok-enacting.ensures in
    let table : c.in_ok-kernel.kernel.table ≡ t = ap (λ (x : State). x.table) c.in_ok-kernel.ensures in
    let section = c.in_ok-section.ensures in
    let entries : c.in_ok-enacted.enacted.log.entries ≡ (run_of r target c.args.turns.now (λ n. quiet) t).entries =
    sym c.in_ok-enacted.ensures.ok.is_run.entries_are ∙ (λ i. (run_of r target (section i).turns (moment_at (section i).pattern) (first i)).entries) in
    let handed : handed_by c.text.result.now ≡ handover_for r target = ap handed_by c.text.ensures ∙ c.in_ok-plan.ensures.text.read in
    let image = ap (λ (x : Record). x.generation.image) c.state.view_is in
    c.in_ok-count_run.ensures
    ∙ (λ i. counted_all r s (deaths_met (handed i) c.args.order (image i ∷ []) (c.heir_of.ensures i) 0 (table i) (entries i)) c.args.counts.now)
