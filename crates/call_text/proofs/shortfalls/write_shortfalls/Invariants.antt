use Rattle.std.proofs.Common.{◌≡◌, ◌++◌, drop}
use Rattle.std.specs.List.{flat_map}
use Rattle.call_text.specs.ReportText.{shortfalls_text}
use Rattle.call_text.proofs.ShortfallTexts.{later_count}
use Rattle.call_text.proofs.shortfalls.write_shortfalls.Given as goal

abbrev pub invariant-loop-count : goal.invariant-loop-count
invariant-loop-count l = l.out.items ++ flat_map later_count (drop l.count-index l.others) ≡ l.fn.out.items ++ shortfalls_text l.fn.shortfalls
