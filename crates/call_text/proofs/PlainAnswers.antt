-- An answer of one word is the answer of the reply that the word tells.
use Rattle.std.proofs.Common.{◌≡◌, ℕ, Bool, true, false, cond, List, [], ◌∷◌, Option, Some, None, find, refl, sym, subst}
use Rattle.vocabulary.specs.declared.calls.Answer.{Answer}
use Rattle.vocabulary.specs.declared.calls.Answer.TheVariants as answer
use Rattle.vocabulary.specs.declared.calls.Reply.{Reply}
use Rattle.vocabulary.specs.declared.calls.Reply.TheVariants as reply
use Rattle.definitions.specs.Run.{reply_of}
use Rattle.call_text.specs.CallText.{answer_word}
use Rattle.call_text.specs.Words.{reply_text}
use Rattle.call_text.specs.Reading.{◌>>=◌}
use Rattle.call_text.specs.AnswerReading.{is_answer, plain_answers, plain_of, plain_answer, plain_replies, is_reply}

step : (text : List ℕ) (r : Reply) (a : Answer) (rs : List Reply) (more : List Answer) → plain_answer r ≡ Some a →
    is_reply text r ≡ is_answer text a → (find (is_reply text) rs >>= plain_answer) ≡ find (is_answer text) more →
    (find (is_reply text) (r ∷ rs) >>= plain_answer) ≡ find (is_answer text) (a ∷ more)
step text r a rs more one same rest =
    subst (λ (b : Bool). (cond b (Some r) (find (is_reply text) rs) >>= plain_answer) ≡ cond (is_answer text a) (Some a) (find (is_answer text) more)) (sym same)
    (elim (is_answer text a) as (λ b. (cond b (Some r) (find (is_reply text) rs) >>= plain_answer) ≡ cond b (Some a) (find (is_answer text) more)) [
      | true ↦ one
      | false ↦ rest
    ])

-- each reply has the answer at its place, and the answer's word tells it
abbrev Agree : List ℕ → List Reply → List Answer → Type 0
Agree text [] [] = Unit {0}
Agree text [] (a ∷ more) = ⊥
Agree text (r ∷ rs) [] = ⊥
Agree text (r ∷ rs) (a ∷ more) = (plain_answer r ≡ Some a) × (is_reply text r ≡ is_answer text a) × Agree text rs more

found : (text : List ℕ) (rs : List Reply) (more : List Answer) → Agree text rs more → (find (is_reply text) rs >>= plain_answer) ≡ find (is_answer text) more
found text [] [] all = refl
found text [] (a ∷ more) all = absurd all
found text (r ∷ rs) [] all = absurd all
found text (r ∷ rs) (a ∷ more) all = step text r a rs more all.0 all.1 (found text rs more all.2)

pub told : (text : List ℕ) → (find (is_reply text) plain_replies >>= plain_answer) ≡ plain_of text
told text = found text plain_replies plain_answers (refl, refl, (refl, refl, (refl, refl, (refl, refl, (refl, refl, (refl, refl, (refl, refl, (refl, refl, (refl, refl, (refl, refl, (refl, refl, (refl, refl, (refl, refl, (refl, refl, (refl, refl, (refl, refl, (refl, refl, (refl, refl, (refl, refl, tt)))))))))))))))))))

-- an answer's word is its reply's, unless it is a count
pub word_is : (a : Answer) → ((ns : List ℕ) → a ≡ answer.Counted ns → ⊥) → reply_text (reply_of [] a) ≡ answer_word a
word_is (answer.Opened fd) off = refl
word_is (answer.Counted ns) off = absurd (off ns refl)
word_is answer.InUse off = refl
word_is answer.TooMany off = refl
word_is answer.Denied off = refl
word_is answer.NoMemory off = refl
word_is answer.Fine off = refl
word_is answer.Forked off = refl
word_is answer.Again off = refl
word_is answer.IsReady off = refl
word_is answer.Gone off = refl
word_is answer.Late off = refl
word_is answer.Spawned off = refl
word_is answer.NoImage off = refl
word_is answer.Adopted off = refl
word_is answer.Refused off = refl
word_is answer.IoFault off = refl
word_is answer.IsAlive off = refl
word_is answer.Go off = refl
word_is answer.Back off = refl
word_is answer.MasterGone off = refl
