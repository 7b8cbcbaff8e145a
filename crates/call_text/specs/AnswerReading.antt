-- What reading an answer gives, part by part.
use Rattle.std.specs.Prelude.{ℕ, Bool, false, List, [], ◌∷◌, ◌++◌, Option, Some, None, option_map, find, bytes_eq, codes, if◌then◌else◌}
use Rattle.vocabulary.specs.declared.calls.Call.{Call}
use Rattle.vocabulary.specs.declared.calls.Answer.{Answer}
use Rattle.vocabulary.specs.declared.calls.Answer.TheVariants as answer
use Rattle.vocabulary.specs.declared.calls.Reply.{Reply}
use Rattle.vocabulary.specs.declared.calls.Reply.TheVariants as reply
use Rattle.vocabulary.specs.declared.calls.Reply.TheVariants.{MasterGone}
use Rattle.call_laws.specs.Pieces.{replies_to, among}
use Rattle.definitions.specs.Run.{reply_of}
use Rattle.plain_text.specs.NumberText.{number_within}
use Rattle.call_text.specs.CallText.{answer_word}
use Rattle.call_text.specs.Words.{reply_text}
use Rattle.plain_text.specs.Cuts.{cut}
use Rattle.call_text.specs.Reading.{◌>>=◌, some_if}
use Rattle.call_text.specs.SetReading.{set_of}

-- whether an answer is among a call's
abbrev pub listed : Call → Answer → Bool
listed call a = among (replies_to call ++ MasterGone ∷ []) (reply_of [] a)

abbrev pub is_answer : List ℕ → Answer → Bool
is_answer text (answer.Opened fd) = false
is_answer text (answer.Counted ns) = false
is_answer text a = bytes_eq (answer_word a) text

abbrev pub plain_answers : List Answer
plain_answers =
    answer.InUse ∷ answer.TooMany ∷ answer.Denied ∷ answer.NoMemory ∷ answer.Fine ∷ answer.Forked ∷ answer.Again ∷ answer.IsReady ∷ answer.Gone
    ∷ answer.Late ∷ answer.Spawned ∷ answer.NoImage ∷ answer.Adopted ∷ answer.Refused ∷ answer.IoFault ∷ answer.IsAlive
    ∷ answer.Go ∷ answer.Back ∷ answer.MasterGone ∷ []

abbrev pub plain_of : List ℕ → Option Answer
plain_of text = find (is_answer text) plain_answers

-- the replies whose answers are one word, in the order of these answers
abbrev pub plain_replies : List Reply
plain_replies =
    reply.InUse ∷ reply.TooMany ∷ reply.Denied ∷ reply.NoMemory ∷ reply.Fine ∷ reply.Forked ∷ reply.Again ∷ reply.IsReady ∷ reply.Gone
    ∷ reply.Late ∷ reply.Spawned ∷ reply.NoImage ∷ reply.Adopted ∷ reply.Refused ∷ reply.IoFault ∷ reply.IsAlive ∷ reply.Go ∷ reply.Back ∷ reply.MasterGone ∷ []

-- whether a word tells this reply
abbrev pub is_reply : List ℕ → Reply → Bool
is_reply text r = bytes_eq (reply_text r) text

-- the answer of one word that gives a reply
abbrev pub plain_answer : Reply → Option Answer
plain_answer reply.Opened = None
plain_answer reply.Full = None
plain_answer reply.Short = None
plain_answer reply.InUse = Some answer.InUse
plain_answer reply.TooMany = Some answer.TooMany
plain_answer reply.Denied = Some answer.Denied
plain_answer reply.NoMemory = Some answer.NoMemory
plain_answer reply.Fine = Some answer.Fine
plain_answer reply.Forked = Some answer.Forked
plain_answer reply.Again = Some answer.Again
plain_answer reply.IsReady = Some answer.IsReady
plain_answer reply.Gone = Some answer.Gone
plain_answer reply.Late = Some answer.Late
plain_answer reply.Spawned = Some answer.Spawned
plain_answer reply.NoImage = Some answer.NoImage
plain_answer reply.Adopted = Some answer.Adopted
plain_answer reply.Refused = Some answer.Refused
plain_answer reply.IoFault = Some answer.IoFault
plain_answer reply.IsAlive = Some answer.IsAlive
plain_answer reply.Go = Some answer.Go
plain_answer reply.Back = Some answer.Back
plain_answer reply.MasterGone = Some answer.MasterGone

abbrev pub answer_about : List ℕ → List ℕ → Option Answer
answer_about word rest =
    if bytes_eq word (codes "opened") then option_map (λ fd. answer.Opened fd) (number_within 3 66 rest)
    else if bytes_eq word (codes "counted") then option_map (λ ns. answer.Counted ns) (set_of rest)
    else None

abbrev pub answer_from : List ℕ → Option (List ℕ × List ℕ) → Option Answer
answer_from text None = plain_of text
answer_from text (Some parts) = answer_about parts.0 parts.1

abbrev pub answer_of : List ℕ → Option Answer
answer_of text = answer_from text (cut 32 text)

abbrev pub answer_to : Call → List ℕ → Option Answer
answer_to call text = answer_of text >>= (λ a. some_if (listed call a) a)
