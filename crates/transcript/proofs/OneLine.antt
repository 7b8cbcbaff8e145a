-- No text of a line has a newline, and no answer a colon.
use Rattle.std.proofs.Common.{◌≡◌, ℕ, ◌+◌, ◌<◌, ◌≤◌, leb, ◌==◌, Bool, true, false, cond, ◌&&◌, ◌||◌, List, [], ◌∷◌}
use Rattle.std.proofs.Common.{◌++◌, length, map, Option, Some, None, refl, ap, ◌∙◌, inl, inr, arith}
use Rattle.std.specs.Prelude.{codes}
use Rattle.std.specs.Fmt.{decimal}
use Rattle.std.specs.List.{All, list_all, join_with_byte}
use Rattle.std.specs.Char.{is_ascii_digit, is_ascii_graphic, is_ascii_lowercase}
use Rattle.std.proofs.lemmas.List.Elements.{All-head, All-tail}
use Rattle.std.proofs.lemmas.List.Sums.{list_all-from_AllPass}
use Rattle.listener_set.specs.declared.generation.Generation.{Generation}
use Rattle.listener_set.specs.GenerationText.{generation_text}
use Rattle.listener_set.specs.Numbers.{AreBelow, AreNumbers}
use Rattle.listener_set.specs.AddressText.{IsAddress}
use Rattle.listener_set.proofs.AddressGrammar.{address_graphic}
use Rattle.listener_set.specs.PathText.{is_path, begins_with_slash}
use Rattle.vocabulary.specs.declared.calls.Call.{Call}
use Rattle.vocabulary.specs.declared.calls.Call.TheVariants as call
use Rattle.vocabulary.specs.declared.calls.Answer.{Answer}
use Rattle.vocabulary.specs.declared.calls.Answer.TheVariants as answer
use Rattle.vocabulary.specs.declared.plans.PidNote.{PidNote}
use Rattle.vocabulary.specs.declared.plans.PidNote.TheVariants.{InPlace, AtOldbin, OldbinLeft, Left, NoFile}
use Rattle.vocabulary.specs.declared.plans.Side.{Side}
use Rattle.vocabulary.specs.declared.plans.Side.TheVariants as side
use Rattle.vocabulary.specs.declared.reports.Entry.{Entry}
use Rattle.vocabulary.specs.declared.reports.Report.{Report}
use Rattle.vocabulary.specs.declared.reports.Outcome.{Outcome}
use Rattle.vocabulary.specs.declared.reports.Outcome.TheVariants as outcome
use Rattle.control_words.specs.declared.words.Word.{Word}
use Rattle.control_words.specs.declared.words.Word.TheVariants.{Hup, Quit, Int, Term, Usr1, Usr2, Usr2Attended, Winch, Ttin, Ttou, Beat, Tick}
use Rattle.control_words.specs.declared.refusal.WordRefusal.TheVariants.{Unknown, BadNumber, AtMost, NoConfig, PidChanged}
use Rattle.control_words.specs.Words.{word_text, IsWord}
use Rattle.plain_text.proofs.NumberTextLemmas.{both}
use Rattle.plain_text.proofs.CutTexts.{lacks, lacks-append, lacks-all, lacks-decimal}
use Rattle.call_text.specs.SetText.{run_text, runs_text, set_text}
use Rattle.call_text.specs.CallText.{worker_text, forked_text, call_text, answer_text}
use Rattle.call_text.specs.Words.{note_text, side_text}
use Rattle.call_text.specs.ReportText.{shortfalls_text, outcome_text, cause_text, report_text}
use Rattle.call_text.specs.Ranges.{IsWorker, IsShare, IsPath, IsCall, IsAnswer, IsCause, IsOutcome, IsReport}
use Rattle.call_text.proofs.ForkTexts.{are_numbers}
use Rattle.call_text.proofs.PartTexts.{number_lacks, generation_lacks}
use Rattle.call_text.proofs.ShortfallTexts.{shortfalls_lack}
use Rattle.transcript.specs.EntryReading.{IsEntry, answered_text}
use Rattle.transcript.specs.BlockLine.{Line, Heard, Unread, Nothing, Refused, Made, Ended, line_text, IsLine}
use Rattle.transcript.proofs.CodeTexts.{code_lacks}

abbrev is_letter : ℕ → Bool
is_letter c = is_ascii_lowercase c || c == 45

-- ---- a byte that no answer has
module _ (b : ℕ) (off : is_ascii_digit b ≡ false) (letters : is_letter b ≡ false) (space : lacks b (codes " ") ≡ true)
    (dash : lacks b (codes "-") ≡ true) (comma : lacks b (codes ",") ≡ true) where
  number : (n : ℕ) → n < 1024 → lacks b (decimal n) ≡ true
  number n lt = number_lacks b n off (omega (arith, lt))

  run_lacks : (f l : ℕ) → f < 1024 → l < 1024 → lacks b (run_text f l) ≡ true
  run_lacks f l h k = at (f == l)
    where
      at : (t : Bool) → lacks b (cond t (decimal f) (decimal f ++ 45 ∷ decimal l)) ≡ true
      at true = number f h
      at false = lacks-append b (decimal f) (codes "-" ++ decimal l) (number f h) (lacks-append b (codes "-") (decimal l) dash (number l k))

  runs_lacks : (ns : List ℕ) (f l : ℕ) → f < 1024 → l < 1024 → AreBelow 1024 ns → lacks b (runs_text f l ns) ≡ true
  runs_lacks [] f l h k below = run_lacks f l h k
  runs_lacks (n ∷ ns) f l h k below = at (n == l + 1) (runs_lacks ns f n h below.0 below.1) (runs_lacks ns n n below.0 below.0 below.1)
    where
      at : (t : Bool) → lacks b (runs_text f n ns) ≡ true → lacks b (runs_text n n ns) ≡ true →
          lacks b (cond t (runs_text f n ns) (run_text f l ++ 44 ∷ runs_text n n ns)) ≡ true
      at true one two = one
      at false one two = lacks-append b (run_text f l) (codes "," ++ runs_text n n ns) (run_lacks f l h k) (lacks-append b (codes ",") (runs_text n n ns) comma two)

  set_lacks : (ns : List ℕ) → AreNumbers 1024 ns → lacks b (set_text ns) ≡ true
  set_lacks [] h = lacks-all is_letter b letters (codes "none") refl
  set_lacks (n ∷ ns) h = runs_lacks ns n n h.below.0 h.below.0 h.below.1

  answer_lacks : (a : Answer) → IsAnswer a → lacks b (answer_text a) ≡ true
  answer_lacks (answer.Opened fd) h =
      let small : fd ≤ 66 = h.1 in
      lacks-append b (codes "opened") (codes " " ++ decimal fd) (lacks-all is_letter b letters (codes "opened") refl) (lacks-append b (codes " ") (decimal fd) space (number fd (omega (arith, small))))
  answer_lacks (answer.Counted ns) h =
      lacks-append b (codes "counted") (codes " " ++ set_text ns) (lacks-all is_letter b letters (codes "counted") refl) (lacks-append b (codes " ") (set_text ns) space (set_lacks ns h))
  answer_lacks answer.InUse h = lacks-all is_letter b letters (codes "in-use") refl
  answer_lacks answer.TooMany h = lacks-all is_letter b letters (codes "too-many") refl
  answer_lacks answer.Denied h = lacks-all is_letter b letters (codes "denied") refl
  answer_lacks answer.NoMemory h = lacks-all is_letter b letters (codes "no-memory") refl
  answer_lacks answer.Fine h = lacks-all is_letter b letters (codes "ok") refl
  answer_lacks answer.Forked h = lacks-all is_letter b letters (codes "forked") refl
  answer_lacks answer.Again h = lacks-all is_letter b letters (codes "again") refl
  answer_lacks answer.IsReady h = lacks-all is_letter b letters (codes "ready") refl
  answer_lacks answer.Gone h = lacks-all is_letter b letters (codes "gone") refl
  answer_lacks answer.Late h = lacks-all is_letter b letters (codes "late") refl
  answer_lacks answer.Spawned h = lacks-all is_letter b letters (codes "spawned") refl
  answer_lacks answer.NoImage h = lacks-all is_letter b letters (codes "no-image") refl
  answer_lacks answer.Adopted h = lacks-all is_letter b letters (codes "adopted") refl
  answer_lacks answer.Refused h = lacks-all is_letter b letters (codes "refused") refl
  answer_lacks answer.IoFault h = lacks-all is_letter b letters (codes "io-fault") refl
  answer_lacks answer.IsAlive h = lacks-all is_letter b letters (codes "alive") refl
  answer_lacks answer.Go h = lacks-all is_letter b letters (codes "go") refl
  answer_lacks answer.Back h = lacks-all is_letter b letters (codes "back") refl
  answer_lacks answer.MasterGone h = lacks-all is_letter b letters (codes "master-gone") refl

pub answer_lacks_colon : (a : Answer) → IsAnswer a → lacks 58 (answer_text a) ≡ true
answer_lacks_colon a h = answer_lacks 58 refl refl refl refl refl a h

-- ---- calls
worker_lacks : (g : Generation) (nr : ℕ) → IsWorker g nr → lacks 10 (worker_text g nr) ≡ true
worker_lacks g nr h =
    let small : nr < 1024 = h.1 in
    lacks-append 10 (generation_text g) (codes " " ++ decimal nr) (generation_lacks 10 refl refl g h.0) (lacks-append 10 (codes " ") (decimal nr) refl (number_lacks 10 nr refl (omega (arith, small))))

forked_lacks : (g : Generation) (nr : ℕ) (share : Option (List ℕ)) → IsWorker g nr → IsShare share → lacks 10 (forked_text g nr share) ≡ true
forked_lacks g nr None h s = worker_lacks g nr h
forked_lacks g nr (Some fds) h s =
    lacks-append 10 (worker_text g nr) (codes " fds " ++ set_text fds) (worker_lacks g nr h)
    (lacks-append 10 (codes " fds ") (set_text fds) refl (set_lacks 10 refl refl refl refl refl fds (are_numbers fds s)))

address_lacks : (a : List ℕ) → IsAddress a → lacks 10 a ≡ true
address_lacks a h = lacks-all is_ascii_graphic 10 refl a (list_all-from_AllPass is_ascii_graphic a (address_graphic a h))

path_lacks : (path : List ℕ) → IsPath path → lacks 10 path ≡ true
path_lacks path h = elim h [ inl is ↦ plain path is | inr stem ↦ ap (lacks 10) stem.2 ∙ lacks-append 10 stem.0 (codes ".oldbin") (plain stem.0 stem.1) refl ]
  where
    plain : (path : List ℕ) → is_path path ≡ true → lacks 10 path ≡ true
    plain path is = lacks-all is_ascii_graphic 10 refl path (both (leb (length path) 100 && begins_with_slash path) (list_all is_ascii_graphic path) is).1

call_lacks : (c : Call) → IsCall c → lacks 10 (call_text c) ≡ true
call_lacks (call.OpenAt a) h = lacks-append 10 (codes "open ") a refl (address_lacks a h)
call_lacks (call.CloseAt a) h = lacks-append 10 (codes "close ") a refl (address_lacks a h)
call_lacks (call.Fork g k fds) h = lacks-append 10 (codes "fork ") (forked_text g k fds) refl (forked_lacks g k fds h.0 h.1)
call_lacks (call.AwaitReady g k) h = lacks-append 10 (codes "await-ready ") (worker_text g k) refl (worker_lacks g k h)
call_lacks (call.Quit g k) h = lacks-append 10 (codes "quit ") (worker_text g k) refl (worker_lacks g k h)
call_lacks (call.Kill g k) h = lacks-append 10 (codes "kill ") (worker_text g k) refl (worker_lacks g k h)
call_lacks (call.AwaitGone g k) h = lacks-append 10 (codes "await-gone ") (worker_text g k) refl (worker_lacks g k h)
call_lacks (call.Usr1 g k) h = lacks-append 10 (codes "usr1 ") (worker_text g k) refl (worker_lacks g k h)
call_lacks (call.Census g) h = lacks-append 10 (codes "census ") (generation_text g) refl (generation_lacks 10 refl refl g h)
call_lacks (call.SpawnMaster i) h = lacks-append 10 (codes "spawn-master ") (decimal i) refl (number_lacks 10 i refl h)
call_lacks (call.Alive i) h = lacks-append 10 (codes "alive ") (decimal i) refl (number_lacks 10 i refl h)
call_lacks (call.TermMaster i) h = lacks-append 10 (codes "term-master ") (decimal i) refl (number_lacks 10 i refl h)
call_lacks (call.Ask i) h = lacks-append 10 (codes "ask ") (decimal i) refl (number_lacks 10 i refl h)
call_lacks (call.WritePid p) h = lacks-append 10 (codes "write-pid ") p refl (path_lacks p h)
call_lacks (call.RemovePid p) h = lacks-append 10 (codes "remove-pid ") p refl (path_lacks p h)
call_lacks (call.MovePid p q) h = lacks-append 10 (codes "move-pid ") (p ++ 32 ∷ q) refl (lacks-append 10 p (codes " " ++ q) (path_lacks p h.0) (lacks-append 10 (codes " ") q refl (path_lacks q h.1)))
call_lacks call.Adopt h = refl
call_lacks call.Leave h = refl

entry_lacks : (e : Entry) → IsEntry e → lacks 10 (answered_text e) ≡ true
entry_lacks e h =
    lacks-append 10 (codes "m" ++ decimal e.by ++ 32 ∷ call_text e.call) (codes " : " ++ answer_text e.answer)
    (lacks-append 10 (codes "m" ++ decimal e.by) (codes " " ++ call_text e.call) (number_lacks 10 e.by refl h.0.0) (lacks-append 10 (codes " ") (call_text e.call) refl (call_lacks e.call h.0.1)))
    (lacks-append 10 (codes " : ") (answer_text e.answer) refl (answer_lacks 10 refl refl refl refl refl e.answer h.1.0))

-- ---- reports
note_lacks : (n : PidNote) → lacks 10 (note_text n) ≡ true
note_lacks InPlace = refl
note_lacks AtOldbin = refl
note_lacks OldbinLeft = refl
note_lacks Left = refl
note_lacks NoFile = refl

cause_lacks : (c : Option ℕ) → IsCause c → lacks 10 (cause_text c) ≡ true
cause_lacks None h = refl
cause_lacks (Some n) h = number_lacks 10 n refl h

side_lacks : (s : Side) → lacks 10 (side_text s) ≡ true
side_lacks side.Old = refl
side_lacks side.Target = refl

outcome_lacks : (o : Outcome) → IsOutcome o → lacks 10 (outcome_text o) ≡ true
outcome_lacks outcome.Done h = refl
outcome_lacks outcome.RolledBack h = refl
outcome_lacks (outcome.Degraded s shortfalls) h =
    lacks-append 10 (codes "degraded ") (side_text s ++ 32 ∷ shortfalls_text shortfalls) refl
    (lacks-append 10 (side_text s) (codes " " ++ shortfalls_text shortfalls) (side_lacks s)
    (lacks-append 10 (codes " ") (shortfalls_text shortfalls) refl (shortfalls_lack 10 refl refl shortfalls h.within)))
outcome_lacks outcome.Lost h = refl

report_lacks : (r : Report) → IsReport [] r → lacks 10 (report_text r) ≡ true
report_lacks r h =
    lacks-append 10 (outcome_text r.outcome) (codes " cause " ++ (cause_text r.cause ++ (codes " pid " ++ note_text r.note))) (outcome_lacks r.outcome h.0)
    (lacks-append 10 (codes " cause ") (cause_text r.cause ++ (codes " pid " ++ note_text r.note)) refl
    (lacks-append 10 (cause_text r.cause) (codes " pid " ++ note_text r.note) (cause_lacks r.cause h.1) (lacks-append 10 (codes " pid ") (note_text r.note) refl (note_lacks r.note))))

-- ---- words
word_lacks : (w : Word) → IsWord w → lacks 10 (word_text w) ≡ true
word_lacks Hup h = refl
word_lacks Quit h = refl
word_lacks Int h = refl
word_lacks Term h = refl
word_lacks Usr1 h = refl
word_lacks Usr2 h = refl
word_lacks Usr2Attended h = refl
word_lacks Winch h = refl
word_lacks Ttin h = refl
word_lacks Ttou h = refl
word_lacks (Beat nr now) h =
    let small : nr < 1024 = h.0 in
    lacks-append 10 (codes "beat ") (decimal nr ++ 32 ∷ decimal now) refl
    (lacks-append 10 (decimal nr) (codes " " ++ decimal now) (number_lacks 10 nr refl (omega (arith, small))) (lacks-append 10 (codes " ") (decimal now) refl (lacks-decimal 10 now refl h.1)))
word_lacks (Tick now) h = lacks-append 10 (codes "tick ") (decimal now) refl (lacks-decimal 10 now refl h)

-- ---- lines
pub line_lacks : (line : Line) → IsLine line → lacks 10 (line_text line) ≡ true
line_lacks (Heard word) h = lacks-append 10 (codes "word ") (word_text word) refl (word_lacks word h)
line_lacks (Unread Unknown) h = refl
line_lacks (Unread BadNumber) h = refl
line_lacks (Unread AtMost) h = absurd h
line_lacks (Unread NoConfig) h = absurd h
line_lacks (Unread PidChanged) h = absurd h
line_lacks Nothing h = refl
line_lacks (Refused code) h = lacks-append 10 (codes "refused ") code refl (code_lacks code h)
line_lacks (Made n e) h = lacks-append 10 (decimal n) (codes " " ++ answered_text e) (number_lacks 10 n refl h.0) (lacks-append 10 (codes " ") (answered_text e) refl (entry_lacks e h.1))
line_lacks (Ended report) h = report_lacks report h
