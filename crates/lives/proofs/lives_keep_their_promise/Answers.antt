use Rattle.lives.proofs.Living.{lives-keep}
use Rattle.lives.proofs.Starting.{starts-stand}
use Rattle.lives.proofs.lives_keep_their_promise.Goals as goal

pub returns : goal.returns
returns c = record { lives = lives-keep; starts = starts-stand }
