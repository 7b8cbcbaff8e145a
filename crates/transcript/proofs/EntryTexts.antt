-- Calls with their answers are read as they are written.
use Rattle.std.proofs.Common.{◌≡◌, ℕ, zero, suc, ◌+◌, ◌-◌, ◌<◌, ◌==◌, eqb, Bool, true, false, cond, ◌&&◌, not, List, []}
use Rattle.std.proofs.Common.{◌∷◌, ◌++◌, length, take, drop, Option, Some, None, refl, sym, ap, subst, ◌∙◌, arith}
use Rattle.std.specs.Prelude.{codes, option_map, option_and_then}
use Rattle.std.proofs.lemmas.Bool.Decides.{nat_tests}
use Rattle.std.proofs.lemmas.List.{length-append, take-append-drop, drop-drop}
use Rattle.std.proofs.Math.Seq.{take-append_seam, drop-append_seam, drop-append-add}
use Rattle.vocabulary.specs.declared.calls.Call.{Call}
use Rattle.vocabulary.specs.declared.reports.Entry.{Entry}
use Rattle.plain_text.proofs.NumberTextLemmas.{both}
use Rattle.plain_text.proofs.CutTexts.{lacks}
use Rattle.call_text.specs.CallText.{call_line, answer_text}
use Rattle.call_text.specs.CallReading.{line_of}
use Rattle.call_text.specs.AnswerReading.{answer_to}
use Rattle.call_text.proofs.Readers.{IsReader, then, mapped}
use Rattle.call_text.proofs.CallTexts.{line_reads}
use Rattle.call_text.proofs.AnswerTexts.{answers_to}
use Rattle.transcript.specs.EntryReading.{IsEntry, answered_text, begins_answer, parted_below, parted, entry_from, entry_of}
use Rattle.transcript.proofs.OneLine.{answer_lacks_colon}

-- ---- where the answer begins
pub parted_less : (n : ℕ) (text : List ℕ) → 0 < n → begins_answer (drop (n - 1) text) ≡ false → parted_below n text ≡ parted_below (n - 1) text
parted_less zero text lt e = absurd (let none : 0 < 0 = lt in omega arith)
parted_less (suc n) text lt e =
    let less : n ≡ suc n - 1 = omega arith in
    ap (λ b. cond b (Some (take n text, drop (n + 3) text)) (parted_below n text)) (ap (λ k. begins_answer (drop k text)) less ∙ e)
    ∙ ap (λ k. parted_below k text) less

byte_is : (c d : ℕ) → (c == d) ≡ true → c ≡ d
byte_is c d h = let test : eqb c d ≡ true = h in grind (arith, nat_tests)

begins_found : (text : List ℕ) → begins_answer text ≡ true → text ≡ codes " : " ++ drop 3 text
begins_found [] h = cc
begins_found (a ∷ []) h = cc
begins_found (a ∷ b ∷ []) h = cc
begins_found (a ∷ b ∷ c ∷ cs) h =
    let outer = both ((a == 32) && (b == 58)) (c == 32) h in
    let inner = both (a == 32) (b == 58) outer.0 in
    λ i. byte_is a 32 inner.0 i ∷ byte_is b 58 inner.1 i ∷ byte_is c 32 outer.1 i ∷ cs

parted_found : (n : ℕ) (text : List ℕ) (p : List ℕ × List ℕ) → parted_below n text ≡ Some p → text ≡ p.0 ++ (codes " : " ++ p.1)
parted_found zero text p e = let none : Option (List ℕ × List ℕ) = None in let no : none ≡ Some p = e in cc
parted_found (suc n) text p e = at (begins_answer (drop n text)) refl e (parted_found n text p)
  where
    at : (b : Bool) → begins_answer (drop n text) ≡ b →
        cond b (Some (take n text, drop (n + 3) text)) (parted_below n text) ≡ Some p →
        (parted_below n text ≡ Some p → text ≡ p.0 ++ (codes " : " ++ p.1)) → text ≡ p.0 ++ (codes " : " ++ p.1)
    at true k e again =
        let same : Some (take n text, drop (n + 3) text) ≡ Some p = e in
        let is : (take n text, drop (n + 3) text) ≡ p = cc in
        let behind : drop 3 (drop n text) ≡ drop (n + 3) text = drop-drop 3 n text in
        sym (take-append-drop n text)
        ∙ ap (λ t. take n text ++ t) (begins_found (drop n text) k ∙ ap (λ t. codes " : " ++ t) behind)
        ∙ ap (λ (q : List ℕ × List ℕ). q.0 ++ (codes " : " ++ q.1)) is
    at false k e again = again e

-- no answer begins where no colon follows
no_colon : (text : List ℕ) → lacks 58 (drop 1 text) ≡ true → begins_answer text ≡ false
no_colon [] h = refl
no_colon (a ∷ []) h = refl
no_colon (a ∷ b ∷ []) h = refl
no_colon (a ∷ b ∷ c ∷ cs) h = at (a == 32) (b == 58) refl (both (not (b == 58)) (lacks 58 (c ∷ cs)) h).0
  where
    at : (x y : Bool) → (b == 58) ≡ y → not (b == 58) ≡ true → (x && y && (c == 32)) ≡ false
    at true true e k = let no : not true ≡ true = ap not (sym e) ∙ k in cc
    at true false e k = refl
    at false y e k = refl

drop_lacks : (k : ℕ) (text : List ℕ) → lacks 58 text ≡ true → lacks 58 (drop k text) ≡ true
drop_lacks zero text h = h
drop_lacks (suc k) [] h = refl
drop_lacks (suc k) (c ∷ cs) h = drop_lacks k cs (both (not (c == 58)) (lacks 58 cs) h).1

later_lacks : (k : ℕ) (c : ℕ) (text : List ℕ) → lacks 58 text ≡ true → lacks 58 (drop 1 (drop k (c ∷ text))) ≡ true
later_lacks zero c text h = h
later_lacks (suc k) c text h = subst (λ t. lacks 58 t ≡ true) (sym (drop-drop 1 k text)) (drop_lacks (k + 1) text h)

-- the places behind the one where it begins
module _ (front answer : List ℕ) (apart : lacks 58 answer ≡ true) where
  abbrev whole : List ℕ
  whole = front ++ (codes " : " ++ answer)

  here : parted_below (suc (length front)) whole ≡ Some (front, answer)
  here =
      ap (λ t. cond (begins_answer t) (Some (take (length front) whole, drop (length front + 3) whole)) (parted_below (length front) whole)) (drop-append_seam front (codes " : " ++ answer))
      ∙ (λ i. Some (take-append_seam front (codes " : " ++ answer) i, behind i))
    where
      behind : drop (length front + 3) whole ≡ answer
      behind = drop-append-add front (codes " : " ++ answer) 3

  later : (k n : ℕ) → n ≡ length front + suc k → begins_answer (drop n whole) ≡ false
  later k n e =
      ap (λ m. begins_answer (drop m whole)) e
      ∙ ap begins_answer (drop-append-add front (codes " : " ++ answer) (suc k))
      ∙ no_colon (drop k (58 ∷ 32 ∷ answer)) (later_lacks k 58 (32 ∷ answer) apart)

  below : (k n : ℕ) → n ≡ length front + suc k → parted_below n whole ≡ Some (front, answer)
  below zero n e = let first : n ≡ suc (length front) = omega (arith, e) in ap (λ m. parted_below m whole) first ∙ here
  below (suc k) n e =
      let less : n ≡ suc (length front + suc k) = omega (arith, e) in
      ap (λ m. parted_below m whole) less
      ∙ ap (λ b. cond b (Some (take (length front + suc k) whole, drop (length front + suc k + 3) whole)) (parted_below (length front + suc k) whole)) (later k (length front + suc k) refl)
      ∙ below k (length front + suc k) refl

  pub parted_at : parted whole ≡ Some (front, answer)
  parted_at =
      let long : length whole ≡ length front + suc (2 + length answer) = omega (arith, length-append front (codes " : " ++ answer)) in
      below (2 + length answer) (length whole) long

-- ---- calls with their answers
pub entry_reads : IsReader IsEntry answered_text entry_of
entry_reads = record { found = found; only = only }
  where
    found : (text : List ℕ) (e : Entry) → entry_of text ≡ Some e → IsEntry e × (text ≡ answered_text e)
    found text e eq =
        let parts = then (λ (p : List ℕ × List ℕ). option_and_then (λ (line : ℕ × Call). option_map (entry_from line) (answer_to line.1 p.1)) (line_of p.0)) (parted text) e eq in
        let line = then (λ (line : ℕ × Call). option_map (entry_from line) (answer_to line.1 parts.0.1)) (line_of parts.0.0) e parts.2 in
        let answer = mapped (entry_from line.0) (answer_to line.0.1 parts.0.1) e line.2 in
        let one = line_reads.found parts.0.0 line.0 line.1 in
        let two = (answers_to line.0.1).found parts.0.1 answer.0 answer.1 in
        let W : Entry → Type 0 = λ e. IsEntry e × (text ≡ answered_text e) in
        subst W answer.2 (
          (one.0, two.0),
          parted_found (length text) text parts.0 parts.1 ∙ ap (λ t. t ++ (codes " : " ++ parts.0.1)) one.1 ∙ ap (λ t. call_line line.0.0 line.0.1 ++ (codes " : " ++ t)) two.1,
        )

    only : (e : Entry) → IsEntry e → entry_of (answered_text e) ≡ Some e
    only e h =
        ap (option_and_then (λ (p : List ℕ × List ℕ). option_and_then (λ (line : ℕ × Call). option_map (entry_from line) (answer_to line.1 p.1)) (line_of p.0)))
        (parted_at (call_line e.by e.call) (answer_text e.answer) (answer_lacks_colon e.answer h.1.0))
        ∙ ap (option_and_then (λ (line : ℕ × Call). option_map (entry_from line) (answer_to line.1 (answer_text e.answer)))) (line_reads.only (e.by, e.call) h.0)
        ∙ ap (option_map (entry_from (e.by, e.call))) ((answers_to e.call).only e.answer h.1)
