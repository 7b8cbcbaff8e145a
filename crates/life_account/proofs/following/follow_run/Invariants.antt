use Rattle.std.proofs.Common.{◌≡◌, ◌+◌, ◌≤◌, drop, length}
use Rattle.handover_text.specs.Reading.{handed_by}
use Rattle.kernel_model.specs.Pattern.{moment_at}
use Rattle.life_account.specs.Tables.{after_tables}
use Rattle.life_account.specs.Account.{stepped}
use Rattle.life_account.proofs.following.follow_run.Given as goal

abbrev pub invariant-loop-number : goal.invariant-loop-number
invariant-loop-number l =
    let run = l.run in
    let entries = run.log.now.entries in
    let handed = handed_by run.text.now in
    let pattern = moment_at run.pattern.now in
    record {
      room : length entries + length entries ≤ l.kernel.room + l.number + l.number;
      passed : after_tables run.counts run.word (stepped handed pattern 0 l.fn.kernel.table entries) l.fn.kept.items
          ≡ after_tables run.counts run.word (stepped handed pattern l.number l.kernel.table (drop l.number entries)) l.kept.items;
    }
