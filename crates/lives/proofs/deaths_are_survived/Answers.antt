use Rattle.lives.proofs.Restart.{deaths-survived}
use Rattle.lives.proofs.Lending.{keepers-lent, lives-outlive}
use Rattle.lives.proofs.Outliving.{lives-with-deaths}
use Rattle.lives.proofs.deaths_are_survived.Goals as goal

pub returns : goal.returns
returns c = record { all = deaths-survived; lent = keepers-lent; lives = lives-outlive; deaths = lives-with-deaths }
