use Rattle.std.proofs.Common.{take}
use Rattle.std.specs.Fmt.{HasWritten, IsPlainFormatter}
use Rattle.master_on_children.specs.Summaries.{later_counts}
use Rattle.master_on_children.proofs.summary.LaterTextDisplay.fmt.Given as goal

abbrev pub invariant-loop-count : goal.invariant-loop-count
invariant-loop-count g l =
    IsPlainFormatter l.initial.f → HasWritten g.W.Write.write_str_gives l.initial.f (later_counts (take l.count-index l.self.0.now)) l.f
