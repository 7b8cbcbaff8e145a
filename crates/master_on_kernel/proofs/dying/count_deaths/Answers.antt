use Rattle.std.proofs.Common.{sym, ◌∙◌}
use Rattle.master_on_kernel.proofs.Runs.{no-deaths}
use Rattle.master_on_kernel.proofs.dying.count_deaths.Goals as goal

pub returns-in-Coded : goal.returns-in-Coded
returns-in-Coded c =
    no-deaths c.args.kernel.now.table c.args.state.now c.args.target.now c.in-Err.refusal c.in-Coded.code
    (rw c.in-Err.is at c.explore_deaths.ensures.refused)
    (sym c.from.ensures ∙ c.in-Coded.is)
