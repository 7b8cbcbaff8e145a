-- What answers the questions of a plan, and which lines wait.
use Rattle.std.specs.Prelude.{ℕ, nat_lt, List, [], ◌∷◌, ◌++◌, length, Option, Some, None, Ok, if◌then◌else◌}
use Rattle.vocabulary.specs.declared.calls.Call.{Call}
use Rattle.vocabulary.specs.declared.calls.Call.TheVariants.{Ask}
use Rattle.vocabulary.specs.declared.calls.Answer.{Answer}
use Rattle.vocabulary.specs.declared.calls.Answer.TheVariants.{Go, Back}
use Rattle.control_words.specs.declared.words.Word.TheVariants.{Hup, Quit, Winch}
use Rattle.master_on_children.specs.Typed.{Typed}

-- the question that a call is, if it is one
abbrev pub question_of : Call → Option ℕ
question_of (Ask n) = Some n
question_of _ = None

-- WINCH and QUIT go on, HUP goes back; no other line answers.
abbrev pub reply_to : Typed → Option Answer
reply_to (Ok Winch) = Some Go
reply_to (Ok Quit) = Some Go
reply_to (Ok Hup) = Some Back
reply_to _ = None

-- What comes of a question: an answer, the lines that wait then, and those that were not read; or neither an answer nor 64 lines.
pub data Asked : Type 0 where
  replies : Answer → List Typed → List Typed → Asked
  lacks : List Typed → Asked

abbrev pub by_reply : Option Answer → (Answer → Asked) → Asked → Asked
by_reply None answered otherwise = otherwise
by_reply (Some answer) answered otherwise = answered answer

-- By the lines that wait, and those that come: the first that replies is the answer, and each before it waits behind the others. Once
-- 64 wait, the answer is to go back, and no more are read.
abbrev pub asked : List Typed → List Typed → Asked
asked waiting [] = if nat_lt (length waiting) 64 then lacks waiting else replies Back waiting []
asked waiting (line ∷ lines) =
    if nat_lt (length waiting) 64
    then by_reply (reply_to line) (λ answer. replies answer waiting lines) (asked (waiting ++ line ∷ []) lines)
    else replies Back waiting (line ∷ lines)
