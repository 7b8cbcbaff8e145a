use Rattle.theorems.proofs.Parting.{walks-apart, merges-woven}
use Rattle.theorems.proofs.LastTurns.{weave-last}
use Rattle.theorems.proofs.parts_are_walked.Goals as goal

pub returns : goal.returns
returns c = record { apart = walks-apart; merges = merges-woven; last = weave-last }
