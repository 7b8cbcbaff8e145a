-- Answers are read as they are written.
use Rattle.std.proofs.Common.{◌≡◌, ℕ, Bool, true, false, cond, ◌||◌, List, [], ◌∷◌, ◌++◌, Option, Some, None, refl, sym, ap, subst, ◌∙◌, arith}
use Rattle.std.specs.Prelude.{codes, bytes_eq, option_map, option_and_then, find}
use Rattle.std.specs.Fmt.{decimal}
use Rattle.std.proofs.lemmas.List.Folds.{list_any-append}
use Rattle.vocabulary.specs.declared.calls.Call.{Call}
use Rattle.vocabulary.specs.declared.calls.Answer.{Answer}
use Rattle.vocabulary.specs.declared.calls.Answer.TheVariants as answer
use Rattle.vocabulary.specs.declared.calls.Reply.{Reply}
use Rattle.vocabulary.specs.declared.calls.Reply.TheVariants.{MasterGone}
use Rattle.vocabulary.specs.declared.calls.Reply.TheVariants as reply
use Rattle.call_laws.specs.Pieces.{replies_to, among}
use Rattle.definitions.specs.Run.{same_reply}
use Rattle.call_replies.specs.Replies.{is_listed}
use Rattle.plain_text.specs.NumberText.{number_within}
use Rattle.call_text.specs.SetText.{set_text}
use Rattle.call_text.specs.CallText.{answer_text}
use Rattle.call_text.specs.Reads.{Reads}
use Rattle.call_text.specs.Ranges.{IsAnswer, IsAnswerTo}
use Rattle.plain_text.specs.Cuts.{cut}
use Rattle.call_text.specs.Reading.{some_if}
use Rattle.call_text.specs.SetReading.{set_of}
use Rattle.call_text.specs.AnswerReading.{listed, is_answer, plain_answers, plain_of, answer_about, answer_from, answer_of, answer_to}
use Rattle.plain_text.proofs.CutTexts.{lacks, cut_found, cut_at, cut_none}
use Rattle.call_text.proofs.Readers.{IsReader, reads, mapped, then, chosen, within_reads, same_bytes}
use Rattle.call_text.proofs.SetTexts.{set_reads}

-- ---- an answer is listed where it is among the replies
or_false : (b : Bool) → (b || false) ≡ b
or_false true = refl
or_false false = refl

or_true : (b : Bool) → (b || true) ≡ true
or_true true = refl
or_true false = refl

among_before : (call : Call) (r : Reply) → same_reply MasterGone r ≡ false → among (replies_to call ++ MasterGone ∷ []) r ≡ among (replies_to call) r
among_before call r other =
    list_any-append (λ x. same_reply x r) (replies_to call) (MasterGone ∷ []) ∙ ap (λ b. among (replies_to call) r || (b || false)) other ∙ or_false (among (replies_to call) r)

pub listed-is_listed : (call : Call) (a : Answer) → listed call a ≡ is_listed call a
listed-is_listed call (answer.Opened fd) = among_before call reply.Opened refl
listed-is_listed call answer.InUse = among_before call reply.InUse refl
listed-is_listed call answer.TooMany = among_before call reply.TooMany refl
listed-is_listed call answer.Denied = among_before call reply.Denied refl
listed-is_listed call answer.NoMemory = among_before call reply.NoMemory refl
listed-is_listed call answer.Fine = among_before call reply.Fine refl
listed-is_listed call answer.Forked = among_before call reply.Forked refl
listed-is_listed call answer.Again = among_before call reply.Again refl
listed-is_listed call answer.IsReady = among_before call reply.IsReady refl
listed-is_listed call answer.Gone = among_before call reply.Gone refl
listed-is_listed call answer.Late = among_before call reply.Late refl
listed-is_listed call (answer.Counted ns) = among_before call reply.Full refl
listed-is_listed call answer.Spawned = among_before call reply.Spawned refl
listed-is_listed call answer.NoImage = among_before call reply.NoImage refl
listed-is_listed call answer.Adopted = among_before call reply.Adopted refl
listed-is_listed call answer.Refused = among_before call reply.Refused refl
listed-is_listed call answer.IoFault = among_before call reply.IoFault refl
listed-is_listed call answer.IsAlive = among_before call reply.IsAlive refl
listed-is_listed call answer.Go = among_before call reply.Go refl
listed-is_listed call answer.Back = among_before call reply.Back refl
listed-is_listed call answer.MasterGone =
    list_any-append (λ x. same_reply x MasterGone) (replies_to call) (MasterGone ∷ []) ∙ or_true (among (replies_to call) MasterGone)

-- ---- answers of one word
word_found : (text : List ℕ) (a : Answer) → is_answer text a ≡ true → IsAnswer a × (text ≡ answer_text a)
word_found text (answer.Opened fd) e = absurd cc
word_found text (answer.Counted ns) e = absurd cc
word_found text answer.InUse e = (tt, sym (same_bytes (codes "in-use") text e))
word_found text answer.TooMany e = (tt, sym (same_bytes (codes "too-many") text e))
word_found text answer.Denied e = (tt, sym (same_bytes (codes "denied") text e))
word_found text answer.NoMemory e = (tt, sym (same_bytes (codes "no-memory") text e))
word_found text answer.Fine e = (tt, sym (same_bytes (codes "ok") text e))
word_found text answer.Forked e = (tt, sym (same_bytes (codes "forked") text e))
word_found text answer.Again e = (tt, sym (same_bytes (codes "again") text e))
word_found text answer.IsReady e = (tt, sym (same_bytes (codes "ready") text e))
word_found text answer.Gone e = (tt, sym (same_bytes (codes "gone") text e))
word_found text answer.Late e = (tt, sym (same_bytes (codes "late") text e))
word_found text answer.Spawned e = (tt, sym (same_bytes (codes "spawned") text e))
word_found text answer.NoImage e = (tt, sym (same_bytes (codes "no-image") text e))
word_found text answer.Adopted e = (tt, sym (same_bytes (codes "adopted") text e))
word_found text answer.Refused e = (tt, sym (same_bytes (codes "refused") text e))
word_found text answer.IoFault e = (tt, sym (same_bytes (codes "io-fault") text e))
word_found text answer.IsAlive e = (tt, sym (same_bytes (codes "alive") text e))
word_found text answer.Go e = (tt, sym (same_bytes (codes "go") text e))
word_found text answer.Back e = (tt, sym (same_bytes (codes "back") text e))
word_found text answer.MasterGone e = (tt, sym (same_bytes (codes "master-gone") text e))

find_passes : {A : Type 0} (p : A → Bool) (all : List A) (v : A) → find p all ≡ Some v → p v ≡ true
find_passes {A = A} p [] v e = let none : Option A = None in let no : none ≡ Some v = e in absurd cc
find_passes {A = A} p (w ∷ ws) v e = at (p w) refl e (λ k. find_passes p ws v k)
  where
    at : (b : Bool) → p w ≡ b → cond b (Some w) (find p ws) ≡ Some v → (find p ws ≡ Some v → p v ≡ true) → p v ≡ true
    at true is e again = let one : Some w ≡ Some v = e in let same : w ≡ v = cc in ap p (sym same) ∙ is
    at false is e again = again e

-- ---- answers of two words
about_found : (word rest : List ℕ) (a : Answer) → answer_about word rest ≡ Some a → IsAnswer a × (word ++ 32 ∷ rest ≡ answer_text a)
about_found word rest a e = at (bytes_eq word (codes "opened")) refl (bytes_eq word (codes "counted")) refl e
  where
    at : (b : Bool) → bytes_eq word (codes "opened") ≡ b → (d : Bool) → bytes_eq word (codes "counted") ≡ d →
        cond b (option_map (λ fd. answer.Opened fd) (number_within 3 66 rest))
        (cond d (option_map (λ ns. answer.Counted ns) (set_of rest)) None) ≡ Some a → IsAnswer a ×
        (word ++ 32 ∷ rest ≡ answer_text a)
    at true k d l e =
        let fd = mapped (λ fd. answer.Opened fd) (number_within 3 66 rest) a e in
        let got = (within_reads 3 66 (omega arith)).found rest fd.0 fd.1 in
        let W : Answer → Type 0 = λ a. IsAnswer a × (word ++ 32 ∷ rest ≡ answer_text a) in
        subst W fd.2 (got.0, ap (λ t. t ++ 32 ∷ rest) (same_bytes word (codes "opened") k) ∙ ap (λ t. codes "opened " ++ t) got.1)
    at false k true l e =
        let ns = mapped (λ ns. answer.Counted ns) (set_of rest) a e in
        let got = set_reads.found rest ns.0 ns.1 in
        let W : Answer → Type 0 = λ a. IsAnswer a × (word ++ 32 ∷ rest ≡ answer_text a) in
        subst W ns.2 (got.0, ap (λ t. t ++ 32 ∷ rest) (same_bytes word (codes "counted") l) ∙ ap (λ t. codes "counted " ++ t) got.1)
    at false k false l e = let none : Option Answer = None in let no : none ≡ Some a = e in absurd cc

answer_found : (text : List ℕ) (a : Answer) → answer_of text ≡ Some a → IsAnswer a × (text ≡ answer_text a)
answer_found text a e = at (cut 32 text) refl e
  where
    at : (o : Option (List ℕ × List ℕ)) → cut 32 text ≡ o → answer_from text o ≡ Some a → IsAnswer a × (text ≡ answer_text a)
    at None k e = word_found text a (find_passes (is_answer text) plain_answers a e)
    at (Some p) k e = let got = about_found p.0 p.1 a e in (got.0, cut_found 32 text p k ∙ got.1)

word_only : (a : Answer) (text : List ℕ) → lacks 32 text ≡ true → plain_of text ≡ Some a → answer_of text ≡ Some a
word_only a text apart e = ap (answer_from text) (cut_none 32 text apart) ∙ e

answer_only : (a : Answer) → IsAnswer a → answer_of (answer_text a) ≡ Some a
answer_only (answer.Opened fd) h =
    ap (answer_from (codes "opened " ++ decimal fd)) (cut_at 32 (codes "opened") (decimal fd) refl)
    ∙ ap (option_map (λ fd. answer.Opened fd)) ((within_reads 3 66 (omega arith)).only fd h)
answer_only (answer.Counted ns) h =
    ap (answer_from (codes "counted " ++ set_text ns)) (cut_at 32 (codes "counted") (set_text ns) refl)
    ∙ ap (option_map (λ ns. answer.Counted ns)) (set_reads.only ns h)
answer_only answer.InUse h = word_only answer.InUse (codes "in-use") refl refl
answer_only answer.TooMany h = word_only answer.TooMany (codes "too-many") refl refl
answer_only answer.Denied h = word_only answer.Denied (codes "denied") refl refl
answer_only answer.NoMemory h = word_only answer.NoMemory (codes "no-memory") refl refl
answer_only answer.Fine h = word_only answer.Fine (codes "ok") refl refl
answer_only answer.Forked h = word_only answer.Forked (codes "forked") refl refl
answer_only answer.Again h = word_only answer.Again (codes "again") refl refl
answer_only answer.IsReady h = word_only answer.IsReady (codes "ready") refl refl
answer_only answer.Gone h = word_only answer.Gone (codes "gone") refl refl
answer_only answer.Late h = word_only answer.Late (codes "late") refl refl
answer_only answer.Spawned h = word_only answer.Spawned (codes "spawned") refl refl
answer_only answer.NoImage h = word_only answer.NoImage (codes "no-image") refl refl
answer_only answer.Adopted h = word_only answer.Adopted (codes "adopted") refl refl
answer_only answer.Refused h = word_only answer.Refused (codes "refused") refl refl
answer_only answer.IoFault h = word_only answer.IoFault (codes "io-fault") refl refl
answer_only answer.IsAlive h = word_only answer.IsAlive (codes "alive") refl refl
answer_only answer.Go h = word_only answer.Go (codes "go") refl refl
answer_only answer.Back h = word_only answer.Back (codes "back") refl refl
answer_only answer.MasterGone h = word_only answer.MasterGone (codes "master-gone") refl refl

pub answers_to : (call : Call) → IsReader (IsAnswerTo call) answer_text (answer_to call)
answers_to call = record {
  found = λ text a e.
      let from = then (λ a. some_if (listed call a) a) (answer_of text) a e in
      let is = chosen (listed call from.0) from.0 a from.2 in
      let got = answer_found text from.0 from.1 in
      let W : Answer → Type 0 = λ a. IsAnswerTo call a × (text ≡ answer_text a) in
      subst W is.1 ((got.0, sym (listed-is_listed call from.0) ∙ is.0), got.1);
  only = λ a h.
      ap (option_and_then (λ a. some_if (listed call a) a)) (answer_only a h.0)
      ∙ ap (λ b. some_if b a) (listed-is_listed call a ∙ h.1);
}

pub Reads-answer : (call : Call) (text : List ℕ) → Reads (IsAnswerTo call) answer_text text (answer_to call text)
Reads-answer call text = reads (IsAnswerTo call) answer_text (answer_to call) (answers_to call) text
