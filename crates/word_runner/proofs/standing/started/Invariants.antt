use Rattle.word_runner.proofs.Starting.{IsGathered}
use Rattle.word_runner.proofs.standing.started.Given as goal

abbrev pub invariant-loop-place : goal.invariant-loop-place
invariant-loop-place l = IsGathered l.generation l.log.entries l.started l.place
