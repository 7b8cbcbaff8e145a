use Rattle.std.proofs.Common.{append_assoc}
use Rattle.std.specs.Prelude.{codes}
use Rattle.exploration_text.specs.SummaryText.{end_line, degraded_text}
use Rattle.exploration_text.proofs.summary.write_degraded.Goals as goal

pub returns : goal.returns
unfolding degraded_text
returns c =
    rw (← append_assoc c.args.out.now.items (end_line c.args.orders.now (codes "degraded old") c.args.totals.now.degraded_old) (end_line c.args.orders.now (codes "degraded target") c.args.totals.now.degraded_target), ← c.in_ok-write_end.ensures)
    c.write_end-2.ensures
