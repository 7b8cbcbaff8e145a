-- Reports are read as they are written.
use Rattle.std.proofs.Common.{◌≡◌, ℕ, Bool, true, false, cond, List, ◌∷◌, ◌++◌, Option, Some, None, refl, sym, ap, subst, ◌∙◌}
use Rattle.std.specs.Prelude.{⊤, codes, bytes_eq, option_map, option_and_then}
use Rattle.std.specs.Fmt.{decimal}
use Rattle.vocabulary.specs.declared.plans.PidNote.{PidNote}
use Rattle.vocabulary.specs.declared.plans.PidNote.TheVariants.{InPlace, AtOldbin, OldbinLeft, Left, NoFile}
use Rattle.vocabulary.specs.declared.plans.Side.{Side}
use Rattle.vocabulary.specs.declared.plans.Side.TheVariants as side
use Rattle.vocabulary.specs.declared.reports.Report.{Report}
use Rattle.vocabulary.specs.declared.reports.Outcome.{Outcome}
use Rattle.vocabulary.specs.declared.reports.Outcome.TheVariants as outcome
use Rattle.plain_text.specs.NumberText.{number_in}
use Rattle.call_text.specs.Words.{note_text, side_text}
use Rattle.call_text.specs.ReportText.{shortfalls_text, outcome_text, cause_text, ending_text, report_text}
use Rattle.call_text.specs.Reads.{Reads}
use Rattle.call_text.specs.Ranges.{AreShortfalls, IsCause, IsOutcome, IsReport}
use Rattle.plain_text.specs.Cuts.{cut}
use Rattle.call_text.specs.Reading.{both_of, behind}
use Rattle.call_text.specs.ReportReading.{all_notes, note_of, both_sides, side_of, plain_outcome, cause_of, noted_of}
use Rattle.call_text.specs.ReportReading.{Closing, closing_of, shortfalls_of, degraded_from, degraded_of, plain_report}
use Rattle.call_text.specs.ReportReading.{parts_of, report_from, report_in}
use Rattle.plain_text.proofs.CutTexts.{lacks, cut_found, cut_at}
use Rattle.call_text.proofs.Readers.{IsReader, reads, mapped, then, both_reads, mapped_reads, behind_found, behind_at, find_found, number_reads, same_bytes}
use Rattle.call_text.proofs.PartTexts.{number_lacks}
use Rattle.call_text.proofs.ShortfallTexts.{shortfalls_lack, shortfalls_reads}

-- ---- notes and sides
note_again : (n : PidNote) → note_of (note_text n) ≡ Some n
note_again InPlace = refl
note_again AtOldbin = refl
note_again OldbinLeft = refl
note_again Left = refl
note_again NoFile = refl

note_reads : IsReader (λ (n : PidNote). ⊤) note_text note_of
note_reads = record { found = λ text n e. (tt, find_found note_text text all_notes n e); only = λ n _. note_again n }

side_again : (s : Side) → side_of (side_text s) ≡ Some s
side_again side.Old = refl
side_again side.Target = refl

side_lacks : (s : Side) → lacks 32 (side_text s) ≡ true
side_lacks side.Old = refl
side_lacks side.Target = refl

side_reads : IsReader (λ (s : Side). ⊤) side_text side_of
side_reads = record { found = λ text s e. (tt, find_found side_text text both_sides s e); only = λ s _. side_again s }

-- ---- a reader behind a word
behind_reads : {A : Type 0} (word : List ℕ) (P : A → Type 0) (f : A → List ℕ) (r : List ℕ → Option A) →
    lacks 32 word ≡ true → IsReader P f r →
    IsReader P (λ v. word ++ 32 ∷ f v) (λ text. option_and_then r (behind word text))
behind_reads word P f r apart h = record {
  found = λ text v e.
      let rest = then r (behind word text) v e in
      let got = h.found rest.0 v rest.2 in
      (got.0, behind_found word text rest.0 rest.1 ∙ ap (λ t. word ++ 32 ∷ t) got.1);
  only = λ v p. ap (option_and_then r) (behind_at word (f v) apart) ∙ h.only v p;
}

noted_reads : IsReader (λ (n : PidNote). ⊤) (λ n. codes "pid " ++ note_text n) noted_of
noted_reads = behind_reads (codes "pid") (λ (n : PidNote). ⊤) note_text note_of refl note_reads

-- ---- causes
cause_found : (text : List ℕ) (c : Option ℕ) → cause_of text ≡ Some c → IsCause c × (text ≡ cause_text c)
cause_found text c e = at (bytes_eq text (codes "none")) refl e
  where
    at : (b : Bool) → bytes_eq text (codes "none") ≡ b →
        cond b (Some None) (option_map (λ n. Some n) (number_in text)) ≡ Some c → IsCause c × (text ≡ cause_text c)
    at true k e =
        let nothing : Option ℕ = None in
        let same : Some nothing ≡ Some c = e in
        let is : nothing ≡ c = cc in
        let W : Option ℕ → Type 0 = λ c. IsCause c × (text ≡ cause_text c) in
        subst W is (tt, same_bytes text (codes "none") k)
    at false k e =
        let n = mapped (λ (n : ℕ). Some n) (number_in text) c e in
        let got = number_reads.found text n.0 n.1 in
        let W : Option ℕ → Type 0 = λ c. IsCause c × (text ≡ cause_text c) in
        subst W n.2 got

cause_only : (c : Option ℕ) → IsCause c → cause_of (cause_text c) ≡ Some c
cause_only None h = refl
cause_only (Some n) h = at (bytes_eq (decimal n) (codes "none")) refl
  where
    again : option_map (λ (n : ℕ). Some n) (number_in (decimal n)) ≡ Some (Some n)
    again = ap (option_map (λ (n : ℕ). Some n)) (number_reads.only n h)

    at : (b : Bool) → bytes_eq (decimal n) (codes "none") ≡ b → cause_of (decimal n) ≡ Some (Some n)
    at true k =
        let word : decimal n ≡ codes "none" = same_bytes (decimal n) (codes "none") k in
        let nothing : Option (Option ℕ) = None in
        let no : nothing ≡ Some (Some n) = sym (ap (λ t. option_map (λ (n : ℕ). Some n) (number_in t)) word) ∙ again in
        absurd cc
    at false k = ap (λ b. cond b (Some None) (option_map (λ (n : ℕ). Some n) (number_in (decimal n)))) k ∙ again

cause_reads : IsReader IsCause cause_text cause_of
cause_reads = record { found = cause_found; only = cause_only }

cause_lacks : (c : Option ℕ) → IsCause c → lacks 32 (cause_text c) ≡ true
cause_lacks None h = refl
cause_lacks (Some n) h = number_lacks 32 n refl h

abbrev IsEnding : Closing → Type 0
IsEnding p = IsCause p.0 × ⊤

abbrev text_of_ending : Closing → List ℕ
text_of_ending p = ending_text p.0 p.1

ending_reads : IsReader IsEnding text_of_ending closing_of
ending_reads =
    behind_reads (codes "cause") IsEnding (λ (p : Closing). cause_text p.0 ++ 32 ∷ (codes "pid " ++ note_text p.1)) (both_of 32 cause_of noted_of) refl
    (both_reads IsCause (λ (n : PidNote). ⊤) cause_text (λ n. codes "pid " ++ note_text n) cause_of noted_of 32 cause_lacks cause_reads noted_reads)

-- ---- outcomes
abbrev IsWhole : Outcome × Closing → Type 0
IsWhole p = IsOutcome p.0 × IsEnding p.1

abbrev whole_text : Outcome × Closing → List ℕ
whole_text p = outcome_text p.0 ++ 32 ∷ text_of_ending p.1

short_reads : IsReader (λ (p : List ℕ × Closing). AreShortfalls p.0 × IsEnding p.1)
    (λ (p : List ℕ × Closing). shortfalls_text p.0 ++ 32 ∷ text_of_ending p.1) (both_of 32 shortfalls_of closing_of)
short_reads =
    both_reads AreShortfalls IsEnding shortfalls_text text_of_ending shortfalls_of closing_of 32 (λ ns h. shortfalls_lack 32 refl refl ns h.within) shortfalls_reads ending_reads

three_reads : IsReader (λ (p : Side × (List ℕ × Closing)). ⊤ × (AreShortfalls p.1.0 × IsEnding p.1.1))
    (λ (p : Side × (List ℕ × Closing)). side_text p.0 ++ 32 ∷ (shortfalls_text p.1.0 ++ 32 ∷ text_of_ending p.1.1))
    (both_of 32 side_of (both_of 32 shortfalls_of closing_of))
three_reads =
    both_reads (λ (s : Side). ⊤) (λ (p : List ℕ × Closing). AreShortfalls p.0 × IsEnding p.1) side_text (λ (p : List ℕ × Closing). shortfalls_text p.0 ++ 32 ∷ text_of_ending p.1) side_of (both_of 32 shortfalls_of closing_of) 32
    (λ s _. side_lacks s) side_reads short_reads

degraded_found : (rest : List ℕ) (p : Outcome × Closing) → degraded_of rest ≡ Some p → IsWhole p × (codes "degraded " ++ rest ≡ whole_text p)
degraded_found rest p e =
    let q = mapped degraded_from (both_of 32 side_of (both_of 32 shortfalls_of closing_of) rest) p e in
    let got = three_reads.found rest q.0 q.1 in
    let W : Outcome × Closing → Type 0 = λ p. IsWhole p × (codes "degraded " ++ rest ≡ whole_text p) in
    subst W q.2 ((got.0.1.0, got.0.1.1), ap (λ t. codes "degraded " ++ t) got.1 ∙ sym (regroup q.0.0 q.0.1.0 (text_of_ending q.0.1.1)))
  where
    regroup : (s : Side) (ns t : List ℕ) → outcome_text (outcome.Degraded s ns) ++ 32
        ∷ t ≡ codes "degraded " ++ (side_text s ++ 32 ∷ (shortfalls_text ns ++ 32 ∷ t))
    regroup side.Old ns t = refl
    regroup side.Target ns t = refl

plain_found : (word : List ℕ) (o : Outcome) → plain_outcome word ≡ Some o → IsOutcome o × (word ≡ outcome_text o)
plain_found word o e = at (bytes_eq word (codes "done")) refl (bytes_eq word (codes "rolled-back")) refl (bytes_eq word (codes "lost")) refl e
  where
    made : (v : Outcome) (text : List ℕ) → IsOutcome v × (text ≡ outcome_text v) → bytes_eq word text ≡ true →
        Some v ≡ Some o → IsOutcome o × (word ≡ outcome_text o)
    made v text h k e =
        let is : v ≡ o = cc in
        let W : Outcome → Type 0 = λ o. IsOutcome o × (word ≡ outcome_text o) in
        subst W is (h.0, same_bytes word text k ∙ h.1)

    at : (a : Bool) → bytes_eq word (codes "done") ≡ a → (b : Bool) → bytes_eq word (codes "rolled-back") ≡ b →
        (d : Bool) → bytes_eq word (codes "lost") ≡ d →
        cond a (Some outcome.Done) (cond b (Some outcome.RolledBack) (cond d (Some outcome.Lost) None)) ≡ Some o →
        IsOutcome o × (word ≡ outcome_text o)
    at true k b l d m e = made outcome.Done (codes "done") (tt, refl) k e
    at false k true l d m e = made outcome.RolledBack (codes "rolled-back") (tt, refl) l e
    at false k false l true m e = made outcome.Lost (codes "lost") (tt, refl) m e
    at false k false l false m e = let none : Option Outcome = None in let no : none ≡ Some o = e in absurd cc

parts_found : (text : List ℕ) (p : Outcome × Closing) → parts_of text ≡ Some p → IsWhole p × (text ≡ whole_text p)
parts_found text p e =
    let cuts = then (λ (q : List ℕ × List ℕ). cond (bytes_eq q.0 (codes "degraded")) (degraded_of q.1) (plain_report q.0 q.1)) (cut 32 text) p e in
    at cuts.0 cuts.1 (bytes_eq cuts.0.0 (codes "degraded")) refl cuts.2
  where
    at : (q : List ℕ × List ℕ) → cut 32 text ≡ Some q → (b : Bool) → bytes_eq q.0 (codes "degraded") ≡ b →
        cond b (degraded_of q.1) (plain_report q.0 q.1) ≡ Some p → IsWhole p × (text ≡ whole_text p)
    at q k true l e =
        let got = degraded_found q.1 p e in
        (got.0, cut_found 32 text q k ∙ ap (λ t. t ++ 32 ∷ q.1) (same_bytes q.0 (codes "degraded") l) ∙ got.1)
    at q k false l e =
        let o = then (λ o. option_and_then (λ x. Some (o, x)) (closing_of q.1)) (plain_outcome q.0) p e in
        let x = then (λ x. Some (o.0, x)) (closing_of q.1) p o.2 in
        let same : Some (o.0, x.0) ≡ Some p = x.2 in
        let is : (o.0, x.0) ≡ p = cc in
        let one = plain_found q.0 o.0 o.1 in
        let two = ending_reads.found q.1 x.0 x.1 in
        let W : Outcome × Closing → Type 0 = λ p. IsWhole p × (text ≡ whole_text p) in
        subst W is ((one.0, two.0), cut_found 32 text q k ∙ ap (λ t. t ++ 32 ∷ q.1) one.1 ∙ ap (λ t. outcome_text o.0 ++ 32 ∷ t) two.1)

plain_only : (o : Outcome) (word : List ℕ) (e : Closing) → lacks 32 word ≡ true →
    bytes_eq word (codes "degraded") ≡ false → plain_outcome word ≡ Some o → IsEnding e →
    parts_of (word ++ 32 ∷ text_of_ending e) ≡ Some (o, e)
plain_only o word e apart other is h =
    ap (option_and_then (λ (q : List ℕ × List ℕ). cond (bytes_eq q.0 (codes "degraded")) (degraded_of q.1) (plain_report q.0 q.1))) (cut_at 32 word (text_of_ending e) apart)
    ∙ ap (λ b. cond b (degraded_of (text_of_ending e)) (plain_report word (text_of_ending e))) other
    ∙ ap (option_and_then (λ o. option_and_then (λ x. Some (o, x)) (closing_of (text_of_ending e)))) is
    ∙ ap (option_and_then (λ x. Some (o, x))) (ending_reads.only e h)

degraded_only : (s : Side) (ns : List ℕ) (e : Closing) → AreShortfalls ns → IsEnding e →
    parts_of (codes "degraded " ++ (side_text s ++ 32 ∷ (shortfalls_text ns ++ 32 ∷ text_of_ending e)))
    ≡ Some (outcome.Degraded s ns, e)
degraded_only s ns e h k =
    ap (option_and_then (λ (q : List ℕ × List ℕ). cond (bytes_eq q.0 (codes "degraded")) (degraded_of q.1) (plain_report q.0 q.1))) (cut_at 32 (codes "degraded") (side_text s ++ 32 ∷ (shortfalls_text ns ++ 32 ∷ text_of_ending e)) refl)
    ∙ ap (option_map degraded_from) (three_reads.only (s, (ns, e)) (tt, (h, k)))

parts_only : (o : Outcome) (e : Closing) → IsOutcome o → IsEnding e → parts_of (whole_text (o, e)) ≡ Some (o, e)
parts_only outcome.Done e h k = plain_only outcome.Done (codes "done") e refl refl refl k
parts_only outcome.RolledBack e h k = plain_only outcome.RolledBack (codes "rolled-back") e refl refl refl k
parts_only outcome.Lost e h k = plain_only outcome.Lost (codes "lost") e refl refl refl k
parts_only (outcome.Degraded side.Old ns) e h k = degraded_only side.Old ns e h k
parts_only (outcome.Degraded side.Target ns) e h k = degraded_only side.Target ns e h k

parts_reads : IsReader IsWhole whole_text parts_of
parts_reads = record { found = parts_found; only = λ p h. parts_only p.0 p.1 h.0 h.1 }

pub report_reads : (ready : List ℕ) → IsReader (IsReport ready) report_text (report_in ready)
report_reads ready =
    mapped_reads IsWhole (IsReport ready) whole_text report_text parts_of (report_from ready) (λ (r : Report). (r.outcome, (r.cause, r.note)))
    (λ p h. ((h.0, h.1.0, refl), refl))
    (λ r h. ((h.0, (h.1, tt)), ap (λ ns. record { outcome = r.outcome; cause = r.cause; note = r.note; ready = ns }) (sym h.2)))
    parts_reads

pub Reads-report : (ready text : List ℕ) → Reads (IsReport ready) report_text text (report_in ready text)
Reads-report ready text = reads (IsReport ready) report_text (report_in ready) (report_reads ready) text
