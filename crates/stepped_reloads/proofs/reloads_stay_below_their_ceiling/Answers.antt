use Rattle.stepped_reloads.proofs.Crowd.{runs-stay-below}
use Rattle.stepped_reloads.proofs.reloads_stay_below_their_ceiling.Goals as goal

pub returns : goal.returns
returns c = runs-stay-below
