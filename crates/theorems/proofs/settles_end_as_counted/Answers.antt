use Rattle.theorems.proofs.Settling.{settles_always, returns_always, plans_go_back}
use Rattle.theorems.proofs.settles_end_as_counted.Goals as goal

pub returns : goal.returns
returns c = record { settle = settles_always; back = returns_always; plans = plans_go_back }
