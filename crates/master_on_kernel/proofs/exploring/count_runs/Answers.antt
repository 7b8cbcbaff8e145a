use Rattle.std.proofs.Common.{sym, ap, ◌∙◌, Err}
use Rattle.master_on_kernel.proofs.Runs.{has-none}
use Rattle.master_on_kernel.proofs.exploring.count_runs.Goals as goal

pub returns-in-Err-Enough : goal.returns-in-Err-Enough
returns-in-Err-Enough g c = c.explore_orders.ensures.enough (c.in-Err-Enough.is ∙ ap Err c.in-Err-Enough.field-0-is)

pub returns-in-Coded : goal.returns-in-Coded
returns-in-Coded g c =
    let search = c.args.search.now in
    has-none search.kernel.now.table search.state.now search.target.now c.in-Err-Enact.refusal c.in-Coded.code
    (c.explore_orders.ensures.refused c.in-Err-Enact.refusal (c.in-Err-Enact.is ∙ ap Err c.in-Err-Enact.field-0-is))
    (sym c.from.ensures ∙ c.in-Coded.is)
