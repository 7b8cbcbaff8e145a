use Rattle.further_theorems.proofs.Runs.{walks-are-runs, merges-are-runs}
use Rattle.further_theorems.proofs.merges_are_runs.Goals as goal

pub returns-clause-walks : goal.returns-clause-walks
returns-clause-walks c = walks-are-runs

pub returns-clause-merges : goal.returns-clause-merges
returns-clause-merges c = merges-are-runs
