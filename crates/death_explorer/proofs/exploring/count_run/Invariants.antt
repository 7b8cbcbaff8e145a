use Rattle.std.proofs.Common.{◌≡◌, ◌+◌, ◌≤◌, [], ◌∷◌, drop, length}
use Rattle.handover_text.specs.Reading.{handed_by}
use Rattle.plan_executor.specs.Naming.{listed}
use Rattle.death_explorer.specs.Deaths.{deaths_met, counted_all}
use Rattle.death_explorer.proofs.exploring.count_run.Given as goal

abbrev pub invariant-loop-number : goal.invariant-loop-number
invariant-loop-number l =
    let run = l.run in
    let handed = handed_by run.text.now in
    let entries = run.log.now.entries in
    record {
      room : length entries ≤ l.kernel.room + l.number;
      counted : counted_all l.restart.state.now l.restart.settings.now (deaths_met handed run.order (run.image ∷ []) (listed run.heir) 0 l.fn.kernel.table entries) l.fn.counts
          ≡ counted_all l.restart.state.now l.restart.settings.now (deaths_met handed run.order (listed l.executing) (listed run.heir) l.number l.kernel.table (drop l.number entries)) l.counts;
    }
