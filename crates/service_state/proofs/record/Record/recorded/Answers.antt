use Rattle.std.proofs.Common.{Some, ap, sym, ◌∙◌}
use Rattle.definitions.specs.Master.{Record as Known}
use Rattle.definitions.specs.After.{reported}
use Rattle.std.specs.Bool.{then_some}
use Rattle.service_state.specs.Setups.{on_basis}
use Rattle.service_state.proofs.Rules.{IsRecord-from_rules}
use Rattle.service_state.proofs.record.Record.recorded.Goals as goal

pub invariant_of-result : goal.invariant_of-result
invariant_of-result c =
    let r = c.self.inside in
    let old : Known = record { listeners = r.listeners; posts = r.posts; generation = r.generation; ready = r.ready; wanted = r.wanted; retries = r.retries; timeout = r.timeout; pid_path = r.pid_path; note = r.note; pid = r.pid } in
    let kept = rw (← c.setup.view_is) at (sym (c.keeps_rules.ensures old) ∙ c.if-not-keeps_rules.false) in
    IsRecord-from_rules old _ c.args.report.now c.args.pid kept c.setup.invariant c.groups.ensures.are c.self.invariant.pid_path

pub returns-then-not-keeps_rules : goal.returns-then-not-keeps_rules
returns-then-not-keeps_rules c =
    let next = reported (on_basis c.args.self.now c.args.setup.now) c.args.report.now c.args.pid in
    ap (λ b. then_some b next) (sym c.if-not-keeps_rules.true ∙ c.keeps_rules.ensures c.args.self.now)

pub returns : goal.returns
returns c =
    (λ i. Some (reported (on_basis (c.self.view_is i) (c.setup.view_is i)) c.args.report.now c.args.pid))
    ∙ ap (λ b. then_some b (reported (on_basis c.args.self.now c.args.setup.now) c.args.report.now c.args.pid)) (sym c.if-not-keeps_rules.false ∙ c.keeps_rules.ensures c.args.self.now)
