use Rattle.std.proofs.Common.{refl}
use Rattle.vocabulary.specs.declared.handover.HandoverRefusal.TheVariants as refusal
use Rattle.handover_text.proofs.Begun.{lines-begin}
use Rattle.handover_text.proofs.Cuts.{cut_short}
use Rattle.handover_text.proofs.First.{none-begins}
use Rattle.handover_text.proofs.SoFar.{reading_in_range}
use Rattle.handover_text.proofs.Spelled.{spelling-reading}
use Rattle.handover_text.proofs.Taken.{reading-spelling, trailing, spellings_apart}
use Rattle.handover_text.proofs.laws.handovers_have_one_text.Goals as goal

pub returns-clause-in_range : goal.returns-clause-in_range
returns-clause-in_range c = reading_in_range

pub returns-clause-spelled : goal.returns-clause-spelled
returns-clause-spelled c = spelling-reading

pub returns-clause-read_back : goal.returns-clause-read_back
returns-clause-read_back c = reading-spelling

pub returns-clause-trailing : goal.returns-clause-trailing
returns-clause-trailing c = λ version told byte more h tells. trailing version told h tells byte more

pub returns-clause-apart : goal.returns-clause-apart
returns-clause-apart c = spellings_apart

pub returns-clause-cut : goal.returns-clause-cut
returns-clause-cut c = cut_short

pub returns-clause-line : goal.returns-clause-line
returns-clause-line c = λ text n e. (lines-begin text (refusal.Line n) n e refl, none-begins text (refusal.Line n) n e refl)

pub returns-clause-order : goal.returns-clause-order
returns-clause-order c = λ text n e. (lines-begin text (refusal.OutOfOrder n) n e refl, none-begins text (refusal.OutOfOrder n) n e refl)
