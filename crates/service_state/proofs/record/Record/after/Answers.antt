use Rattle.std.proofs.Common.{Some, ap, ◌∙◌}
use Rattle.definitions.specs.After.{record_from}
use Rattle.service_state.proofs.Rules.{told_by}
use Rattle.service_state.proofs.record.Record.after.Goals as goal

pub returns : goal.returns
returns c =
    c.recorded.ensures
    ∙ ap (λ o. record_from o c.args.report.now c.args.pid)
    (told_by c.args.self.now c.args.target.now c.args.report.now.outcome (Some c.in_ok-setup.setup) (c.in_ok-setup.ensures {u = tt}))
