-- Lines of blocks are read as they are written.
use Rattle.std.proofs.Common.{◌≡◌, ℕ, ◌<◌, ◌^◌, Bool, true, false, cond, List, [], ◌∷◌, ◌++◌, Option, Some, None, Result, Ok, Err, refl, sym, ap, subst, ◌∙◌}
use Rattle.std.specs.Prelude.{⊤, codes, bytes_eq, IfSome, option_map, option_and_then}
use Rattle.std.specs.Fmt.{decimal}
use Rattle.vocabulary.specs.declared.reports.Entry.{Entry}
use Rattle.vocabulary.specs.declared.reports.Outcome.{Outcome}
use Rattle.vocabulary.specs.declared.reports.Outcome.TheVariants as outcome
use Rattle.control_words.specs.declared.words.Word.{Word}
use Rattle.control_words.specs.declared.refusal.WordRefusal.{WordRefusal}
use Rattle.control_words.specs.declared.refusal.WordRefusal.TheVariants.{Unknown, BadNumber, AtMost, NoConfig, PidChanged}
use Rattle.control_words.specs.Words.{word_text, refusal_code, reading, IsWord}
use Rattle.control_words.proofs.Lines.{reading-written, written-reading}
use Rattle.plain_text.specs.NumberText.{number_in}
use Rattle.plain_text.specs.Cuts.{cut}
use Rattle.plain_text.proofs.CutTexts.{lacks, cut_found, cut_at}
use Rattle.call_text.specs.Words.{side_text}
use Rattle.call_text.specs.Ranges.{IsNumber}
use Rattle.call_text.specs.Reading.{some_if}
use Rattle.call_text.specs.ReportText.{shortfalls_text, outcome_text, ending_text}
use Rattle.call_text.specs.ReportReading.{report_in}
use Rattle.call_text.proofs.Readers.{IsReader, mapped, chosen, same_bytes, both_reads, number_reads}
use Rattle.call_text.proofs.PartTexts.{number_lacks}
use Rattle.call_text.proofs.ReportTexts.{report_reads}
use Rattle.transcript.specs.Codes.{is_code}
use Rattle.transcript.specs.EntryReading.{IsEntry, answered_text, entry_of}
use Rattle.transcript.specs.BlockLine.{Line, Heard, Unread, Nothing, Refused, Made, Ended, seen, line_text, IsUnread, IsLine}
use Rattle.transcript.specs.declared.block_line.BlockLine.{BlockLine}
use Rattle.transcript.specs.LineReading.{accepted, word_of, unread_of, plain_about, plain_from, plain_of, numbered, line_from, line_of}
use Rattle.transcript.proofs.EntryTexts.{entry_reads}

-- ---- words, and lines that are none
word_reads : IsReader IsWord word_text word_of
word_reads = record { found = λ text w e. at text w (reading text) refl e; only = λ w h. ap accepted (reading-written w h) }
  where
    at : (text : List ℕ) (w : Word) (r : Result Word WordRefusal) → reading text ≡ r → accepted r ≡ Some w → IsWord w × (text ≡ word_text w)
    at text w (Ok v) k e =
        let same : Some v ≡ Some w = e in
        let is : v ≡ w = cc in
        let got = written-reading text w (k ∙ ap (λ x. Ok x) is) in
        (got.1, got.0)
    at text w (Err refusal) k e = let none : Option Word = None in let no : none ≡ Some w = e in cc

unread_reads : IsReader IsUnread refusal_code unread_of
unread_reads = record { found = λ text r e. at text r (bytes_eq text (codes "W1")) refl (bytes_eq text (codes "W2")) refl e; only = only }
  where
    at : (text : List ℕ) (r : WordRefusal) (a : Bool) → bytes_eq text (codes "W1") ≡ a → (b : Bool) →
        bytes_eq text (codes "W2") ≡ b → cond a (Some Unknown) (cond b (Some BadNumber) None) ≡ Some r → IsUnread r ×
        (text ≡ refusal_code r)
    at text r true k b l e =
        let same : Some Unknown ≡ Some r = e in
        let is : Unknown ≡ r = cc in
        let W : WordRefusal → Type 0 = λ r. IsUnread r × (text ≡ refusal_code r) in
        subst W is (tt, same_bytes text (codes "W1") k)
    at text r false k true l e =
        let same : Some BadNumber ≡ Some r = e in
        let is : BadNumber ≡ r = cc in
        let W : WordRefusal → Type 0 = λ r. IsUnread r × (text ≡ refusal_code r) in
        subst W is (tt, same_bytes text (codes "W2") l)
    at text r false k false l e = let none : Option WordRefusal = None in let no : none ≡ Some r = e in cc

    only : (r : WordRefusal) → IsUnread r → unread_of (refusal_code r) ≡ Some r
    only Unknown h = refl
    only BadNumber h = refl
    only AtMost h = absurd h
    only NoConfig h = absurd h
    only PidChanged h = absurd h

-- ---- numbers of calls
rest_reads : IsReader (λ (rest : List ℕ). ⊤) (λ rest. rest) (λ rest. Some rest)
rest_reads = record { found = λ text rest e. let same : Some text ≡ Some rest = e in let is : text ≡ rest = cc in (tt, is); only = λ rest h. refl }

numbered_reads : IsReader (λ (p : ℕ × List ℕ). IsNumber p.0 × ⊤) (λ (p : ℕ × List ℕ). decimal p.0 ++ 32 ∷ p.1) numbered
numbered_reads = both_reads IsNumber (λ rest. ⊤) decimal (λ rest. rest) number_in (λ rest. Some rest) 32 (λ n lt. number_lacks 32 n refl lt) number_reads rest_reads

not_numbered : (first rest : List ℕ) → lacks 32 first ≡ true → number_in first ≡ None → numbered (first ++ 32 ∷ rest) ≡ None
not_numbered first rest apart none =
    ap (option_and_then (λ (parts : List ℕ × List ℕ). option_and_then (λ n. option_and_then (λ rest. Some (n, rest)) (Some parts.1)) (number_in parts.0))) (cut_at 32 first rest apart)
    ∙ ap (option_and_then (λ n. option_and_then (λ rest. Some (n, rest)) (Some rest))) none

-- ---- a line that was read
module _ (text : List ℕ) (v : Line) where
  abbrev Is : Line → Type 0
  Is v = IsLine v × (text ≡ line_text v)

  about_found : (first rest : List ℕ) → text ≡ first ++ 32 ∷ rest → plain_about text first rest ≡ Some v → IsLine v × (text ≡ line_text v)
  about_found first rest whole e = at (bytes_eq first (codes "word")) refl (bytes_eq first (codes "unread")) refl (bytes_eq first (codes "refused")) refl e
    where
      begins : (word : List ℕ) → bytes_eq first word ≡ true → text ≡ word ++ 32 ∷ rest
      begins word k = whole ∙ ap (λ t. t ++ 32 ∷ rest) (same_bytes first word k)

      at : (a : Bool) → bytes_eq first (codes "word") ≡ a → (b : Bool) → bytes_eq first (codes "unread") ≡ b →
          (c : Bool) → bytes_eq first (codes "refused") ≡ c →
          cond a (option_map Heard (word_of rest))
          (cond b (option_map Unread (unread_of rest))
          (cond c (some_if (is_code rest) (Refused rest)) (option_map Ended (report_in [] text)))) ≡ Some v →
          IsLine v × (text ≡ line_text v)
      at true k b l c m e =
          let heard = mapped Heard (word_of rest) v e in
          let got = word_reads.found rest heard.0 heard.1 in
          subst Is heard.2 (got.0, begins (codes "word") k ∙ ap (λ t. codes "word " ++ t) got.1)
      at false k true l c m e =
          let unread = mapped Unread (unread_of rest) v e in
          let got = unread_reads.found rest unread.0 unread.1 in
          subst Is unread.2 (got.0, begins (codes "unread") l ∙ ap (λ t. codes "unread " ++ t) got.1)
      at false k false l true m e =
          let is = chosen (is_code rest) (Refused rest) v e in
          subst Is is.1 (is.0, begins (codes "refused") m)
      at false k false l false m e =
          let ended = mapped Ended (report_in [] text) v e in
          let got = (report_reads []).found text ended.0 ended.1 in
          subst Is ended.2 got

  plain_found : plain_of text ≡ Some v → IsLine v × (text ≡ line_text v)
  plain_found e = at (cut 32 text) refl e
    where
      at : (o : Option (List ℕ × List ℕ)) → cut 32 text ≡ o → plain_from text o ≡ Some v → IsLine v × (text ≡ line_text v)
      at None k e =
          let is = chosen (bytes_eq text (codes "nothing")) Nothing v e in
          subst Is is.1 (tt, same_bytes text (codes "nothing") is.0)
      at (Some p) k e = about_found p.0 p.1 (cut_found 32 text p k) e

  found : line_of text ≡ Some v → IsLine v × (text ≡ line_text v)
  found e = at (numbered text) refl e
    where
      at : (o : Option (ℕ × List ℕ)) → numbered text ≡ o → line_from text o ≡ Some v → IsLine v × (text ≡ line_text v)
      at None k e = plain_found e
      at (Some p) k e =
          let made = mapped (Made p.0) (entry_of p.1) v e in
          let whole = numbered_reads.found text p k in
          let got = entry_reads.found p.1 made.0 made.1 in
          subst Is made.2 ((whole.0.0, got.0), whole.1 ∙ ap (λ t. decimal p.0 ++ 32 ∷ t) got.1)

pub plain_within : (text : List ℕ) (read : Option BlockLine) → option_map seen read ≡ plain_of text → IfSome read (λ line. IsLine (seen line))
plain_within text None e = tt
plain_within text (Some line) e = (plain_found text (seen line) (sym e)).0

-- ---- a line that was written
plain_line : (first rest : List ℕ) → lacks 32 first ≡ true → number_in first ≡ None → line_of (first ++ 32 ∷ rest) ≡ plain_about (first ++ 32 ∷ rest) first rest
plain_line first rest apart none =
    let text : List ℕ = first ++ 32 ∷ rest in
    ap (line_from text) (not_numbered first rest apart none) ∙ ap (plain_from text) (cut_at 32 first rest apart)

made_only : (n : ℕ) (e : Entry) → n < 2 ^ 32 → IsEntry e → line_of (decimal n ++ 32 ∷ answered_text e) ≡ Some (Made n e)
made_only n e lt h =
    ap (line_from (decimal n ++ 32 ∷ answered_text e)) (numbered_reads.only (n, answered_text e) (lt, tt))
    ∙ ap (option_map (Made n)) (entry_reads.only e h)

ended_from : (o : Outcome) (rest : List ℕ) → line_of (outcome_text o ++ 32 ∷ rest) ≡ option_map Ended (report_in [] (outcome_text o ++ 32 ∷ rest))
ended_from outcome.Done rest = plain_line (codes "done") rest refl refl
ended_from outcome.RolledBack rest = plain_line (codes "rolled-back") rest refl refl
ended_from outcome.Lost rest = plain_line (codes "lost") rest refl refl
ended_from (outcome.Degraded s shortfalls) rest = plain_line (codes "degraded") ((side_text s ++ 32 ∷ shortfalls_text shortfalls) ++ 32 ∷ rest) refl refl

only : (v : Line) → IsLine v → line_of (line_text v) ≡ Some v
only (Heard word) h = plain_line (codes "word") (word_text word) refl refl ∙ ap (option_map Heard) (word_reads.only word h)
only (Unread refusal) h = plain_line (codes "unread") (refusal_code refusal) refl refl ∙ ap (option_map Unread) (unread_reads.only refusal h)
only Nothing h = refl
only (Refused code) h = plain_line (codes "refused") code refl refl ∙ ap (λ b. some_if b (Refused code)) h
only (Made n e) h = made_only n e h.0 h.1
only (Ended report) h = ended_from report.outcome (ending_text report.cause report.note) ∙ ap (option_map Ended) ((report_reads []).only report h)

pub block_line_reads : IsReader IsLine line_text line_of
block_line_reads = record { found = found; only = only }
