use Rattle.std.proofs.Common.{subst, sym}
use Rattle.call_text.specs.Reads.{Reads}
use Rattle.call_text.specs.Ranges.{IsAnswerTo}
use Rattle.call_text.specs.CallText.{answer_text}
use Rattle.call_text.proofs.AnswerTexts.{Reads-answer}
use Rattle.call_text.proofs.answers.read_answer.Goals as goal

pub returns-clause-reads : goal.returns-clause-reads
returns-clause-reads c =
    subst (Reads (IsAnswerTo c.args.call.now) answer_text c.args.text.now) (sym c.read_listed.ensures) (Reads-answer c.args.call.now c.args.text.now)
