use Rattle.std.proofs.Common.{◌≡◌, ◌++◌}
use Rattle.plain_text.specs.Kept.{kept}
use Rattle.call_text.specs.SetText.{runs_text, set_text}
use Rattle.call_text.proofs.sets.write_set.Given as goal

abbrev pub invariant-loop-number : goal.invariant-loop-number
invariant-loop-number g l =
    kept g.S.Sink.most (g.S.Sink.text l.out ++ runs_text l.first l.last l.number-iterator) ≡ kept g.S.Sink.most (g.S.Sink.text l.fn.out ++ set_text l.fn.numbers)
