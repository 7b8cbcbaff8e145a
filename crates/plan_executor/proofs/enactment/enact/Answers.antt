use Rattle.std.proofs.Common.{◌≡◌, inr, sym, subst, Err}
use Rattle.std.proofs.lemmas.Result.{err_from_is_err_and}
use Rattle.kernel_model.specs.Pattern.{moment_at}
use Rattle.plan_executor.specs.declared.enactment.EnactRefusal.{EnactRefusal}
use Rattle.plan_executor.proofs.Enacting.{enacted-from}
use Rattle.plan_executor.proofs.Exact.{IsExact, refused-exact, only-enacted}
use Rattle.lives.proofs.Restart.{deaths-survived}
use Rattle.further_theorems.proofs.Named.{workers-end-by-name}
use Rattle.further_theorems.proofs.Peace.{peace-of-kept}
use Rattle.stepped_reloads.proofs.Crowd.{runs-stay-below}
use Rattle.plan_executor.proofs.Beside.{done-in-quiet, are-proper, leaves-files, leaves-record, obeys-operator}
use Rattle.definitions.specs.Table.{Table}
use Rattle.definitions.specs.Claims.{IsStart}
use Rattle.plan_executor.proofs.enactment.enact.Goals as goal

pub returns-in_err-prepared-clause-exact : goal.returns-in_err-prepared-clause-exact
returns-in_err-prepared-clause-exact c =
    let t = c.args.kernel.now.table in
    let r = c.args.state.now in
    let target = c.args.target.now in
    let turns = c.args.section.now.turns in
    let pattern = moment_at c.args.section.now.pattern in
    let p = err_from_is_err_and c.from_residual.result c.from_residual.ensures.1 in
    let why = c.in_err-prepared.field-0.0 in
    let same : why ≡ p.0 = cc in
    subst (IsExact t r target turns pattern) (sym p.1)
    (subst (λ (e : EnactRefusal). IsExact t r target turns pattern (Err e)) same (refused-exact t r target turns pattern why c.in_err-prepared.ensures.refused))

pub returns-clause-ok : goal.returns-clause-ok
returns-clause-ok c =
    enacted-from c.args.kernel.now c.prepare.new.kernel c.carry_out.new.kernel c.args.state.now c.args.target.now c.args.section.now.turns (moment_at c.args.section.now.pattern) c.carry_out.result c.in_ok-prepared.ensures.table c.carry_out.ensures

pub returns-clause-exact : goal.returns-clause-exact
returns-clause-exact c why =
    inr (only-enacted c.args.kernel.now c.carry_out.new.kernel c.args.state.now c.args.target.now c.args.section.now.turns (moment_at c.args.section.now.pattern) c.carry_out.result (returns-clause-ok c) why)

pub returns-in_err-prepared-clause-survived : goal.returns-in_err-prepared-clause-survived
returns-in_err-prepared-clause-survived c moment is =
    deaths-survived c.args.kernel.now.table c.args.state.now c.args.target.now c.args.section.now.turns (moment_at c.args.section.now.pattern)

pub returns-clause-survived : goal.returns-clause-survived
returns-clause-survived c moment is =
    deaths-survived c.args.kernel.now.table c.args.state.now c.args.target.now c.args.section.now.turns (moment_at c.args.section.now.pattern)

pub returns-clause-quiet : goal.returns-clause-quiet
returns-clause-quiet c =
    done-in-quiet c.args.kernel.now c.carry_out.new.kernel c.args.state.now c.args.target.now c.args.section.now.turns c.args.section.now.pattern c.carry_out.result
    (subst (λ (t : Table). IsStart t c.args.state.now) c.in_ok-prepared.ensures.table c.in_ok-prepared.ensures.ready.start) (returns-clause-ok c)

pub returns-clause-proper : goal.returns-clause-proper
returns-clause-proper c =
    are-proper c.args.kernel.now c.carry_out.new.kernel c.args.state.now c.args.target.now c.args.section.now.turns (moment_at c.args.section.now.pattern) c.carry_out.result (returns-clause-ok c)

pub returns-clause-files : goal.returns-clause-files
returns-clause-files c =
    leaves-files c.args.kernel.now c.carry_out.new.kernel c.args.state.now c.args.target.now c.args.section.now.turns (moment_at c.args.section.now.pattern) c.carry_out.result (returns-clause-ok c)

pub returns-clause-left : goal.returns-clause-left
returns-clause-left c =
    leaves-record c.args.kernel.now c.carry_out.new.kernel c.args.state.now c.args.target.now c.args.section.now.turns (moment_at c.args.section.now.pattern) c.carry_out.result (returns-clause-ok c)

pub returns-clause-obeyed : goal.returns-clause-obeyed
returns-clause-obeyed c =
    obeys-operator c.args.kernel.now c.carry_out.new.kernel c.args.state.now c.args.target.now c.args.section.now.turns (moment_at c.args.section.now.pattern) c.carry_out.result (returns-clause-ok c)

pub returns-clause-named : goal.returns-clause-named
returns-clause-named c =
    workers-end-by-name c.args.kernel.now.table c.args.state.now c.args.target.now c.args.section.now.turns (moment_at c.args.section.now.pattern)

pub returns-clause-peace : goal.returns-clause-peace
returns-clause-peace c =
    let is = returns-clause-ok c in
    peace-of-kept c.args.kernel.now.table c.args.state.now c.args.target.now c.args.section.now.turns (moment_at c.args.section.now.pattern)
    (subst (λ (t : Table). IsStart t c.args.state.now) c.in_ok-prepared.ensures.table c.in_ok-prepared.ensures.ready.start) is.headline

pub returns-clause-ceiling : goal.returns-clause-ceiling
returns-clause-ceiling c =
    let is = returns-clause-ok c in
    runs-stay-below c.args.kernel.now.table c.args.state.now c.args.target.now c.args.section.now.turns (moment_at c.args.section.now.pattern)
    (subst (λ (t : Table). IsStart t c.args.state.now) c.in_ok-prepared.ensures.table c.in_ok-prepared.ensures.ready.start) is.spared
