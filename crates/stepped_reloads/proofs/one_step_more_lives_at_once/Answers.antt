use Rattle.stepped_reloads.proofs.Fullest.{ceiling-is-low}
use Rattle.stepped_reloads.proofs.one_step_more_lives_at_once.Goals as goal

pub returns : goal.returns
returns c = ceiling-is-low
