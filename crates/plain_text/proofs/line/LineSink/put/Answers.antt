use Rattle.plain_text.proofs.KeptTexts.{put_cut}
use Rattle.plain_text.proofs.line.LineSink.put.Goals as goal

pub returns : goal.returns
returns c = put_cut _ _ _ _ _ _ _ _ c.self.told c.self.invariant c.self.view_is c.min-taken.ensures c.put.ensures.fits c.put.ensures.text
