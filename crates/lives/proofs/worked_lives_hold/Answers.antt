use Rattle.lives.proofs.WorkedLives.{worked_lives}
use Rattle.lives.proofs.worked_lives_hold.Goals as goal

pub returns : goal.returns
returns c = worked_lives
