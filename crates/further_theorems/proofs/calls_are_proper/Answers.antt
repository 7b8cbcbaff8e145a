use Rattle.further_theorems.proofs.Entries.{calls-are-proper, files-of-others-stay}
use Rattle.further_theorems.proofs.calls_are_proper.Goals as goal

pub returns-clause-calls : goal.returns-clause-calls
returns-clause-calls c = calls-are-proper

pub returns-clause-files : goal.returns-clause-files
returns-clause-files c = files-of-others-stay
