use Rattle.upgrade_theorems.proofs.Asked.{heirs-adopt-first}
use Rattle.upgrade_theorems.proofs.heirs_adopt_first.Goals as goal

pub returns : goal.returns
returns c = heirs-adopt-first
