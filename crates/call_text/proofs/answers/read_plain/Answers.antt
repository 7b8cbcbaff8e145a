use Rattle.std.proofs.Common.{Option, sym, ap, ◌∙◌}
use Rattle.vocabulary.specs.declared.calls.Reply.{Reply}
use Rattle.call_text.specs.Reading.{◌>>=◌}
use Rattle.call_text.specs.AnswerReading.{plain_answer}
use Rattle.call_text.proofs.PlainAnswers.{told}
use Rattle.call_text.proofs.answers.read_plain.Goals as goal

pub returns-in-Some : goal.returns-in-Some
returns-in-Some c =
    c.plain_answer.ensures
    ∙ (ap (λ (reply : Option Reply). reply >>= plain_answer) (sym c.in-Some.is ∙ c.plain_reply.ensures) ∙ told c.args.text.now)

pub returns-in-None : goal.returns-in-None
returns-in-None c =
    ap (λ (reply : Option Reply). reply >>= plain_answer) (sym c.in-None.is ∙ c.plain_reply.ensures) ∙ told c.args.text.now
