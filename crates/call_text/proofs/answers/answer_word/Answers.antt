use Rattle.std.proofs.Common.{ℕ, List, ◌∙◌, ap}
use Rattle.definitions.specs.Run.{reply_of}
use Rattle.call_text.specs.Words.{reply_text}
use Rattle.call_text.proofs.PlainAnswers.{word_is}
use Rattle.call_text.proofs.answers.answer_word.Goals as goal

pub returns-in_default : goal.returns-in_default
returns-in_default c =
    c.reply_text.ensures ∙ (ap reply_text (c.reply_to.ensures ∙ ap (λ (set : List ℕ). reply_of set c.args.answer.now) c.none.ensures) ∙ word_is c.args.answer.now c.in_default.not-Counted)
