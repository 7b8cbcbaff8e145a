-- Readers that give back exactly what was written.
use Rattle.std.proofs.Common.{◌≡◌, ℕ, ◌≤◌, ◌<◌, ◌^◌, subst, Bool, true, false, cond, List, [], ◌∷◌, ◌++◌, Option, Some, None, refl, sym, ap, ◌∙◌, arith}
use Rattle.std.specs.Prelude.{IfSome, option_map, option_and_then, find, bytes_eq}
use Rattle.std.specs.Cmp.Lexicographic.{bytes_decides}
use Rattle.std.specs.Fmt.{decimal}
use Rattle.plain_text.proofs.NumberTextLemmas.{decimal-number_in, number_in-decimal, decimal-number_within, number_within-decimal}
use Rattle.call_text.specs.Reads.{Reads}
use Rattle.plain_text.specs.NumberText.{number_in, number_within, count_of}
use Rattle.plain_text.specs.Cuts.{cut}
use Rattle.call_text.specs.Reading.{some_if, both_of, behind, worker_number}
use Rattle.call_text.specs.Ranges.{IsNumber, IsWorkerNumber, IsCount}
use Rattle.plain_text.proofs.CutTexts.{lacks, cut_found, cut_at}

-- what a reader gives is a value with this text, and each value is read
pub record IsReader {A : Type 0} (IsWithin : A → Type 0) (text_of : A → List ℕ) (reader : List ℕ → Option A) : Type 0 where
  pub found : (text : List ℕ) (v : A) → reader text ≡ Some v → IsWithin v × (text ≡ text_of v)
  pub only : (v : A) → IsWithin v → reader (text_of v) ≡ Some v

pub reads : {A : Type 0} (P : A → Type 0) (f : A → List ℕ) (r : List ℕ → Option A) → IsReader P f r → (text : List ℕ) → Reads P f text (r text)
reads {A = A} P f r h text = record { found = at (r text) refl; only = λ v w e. ap r e ∙ h.only v w }
  where
    at : (o : Option A) → r text ≡ o → IfSome o (λ v. P v × (text ≡ f v))
    at None e = tt
    at (Some v) e = h.found text v e

-- ---- optional values
pub mapped : {A B : Type 0} (g : A → B) (o : Option A) (w : B) → option_map g o ≡ Some w → (v : A) × (o ≡ Some v) × (g v ≡ w)
mapped {B = B} g None w e = let none : Option B = None in let no : none ≡ Some w = e in absurd cc
mapped g (Some v) w e = let same : Some (g v) ≡ Some w = e in (v, refl, cc)

pub then : {A B : Type 0} (f : A → Option B) (o : Option A) (w : B) → option_and_then f o ≡ Some w → (v : A) × (o ≡ Some v) × (f v ≡ Some w)
then {B = B} f None w e = let none : Option B = None in let no : none ≡ Some w = e in absurd cc
then f (Some v) w e = (v, refl, e)

pub chosen : {A : Type 0} (b : Bool) (v w : A) → some_if b v ≡ Some w → (b ≡ true) × (v ≡ w)
chosen true v w e = let same : Some v ≡ Some w = e in (refl, cc)
chosen {A = A} false v w e = let none : Option A = None in let no : none ≡ Some w = e in absurd cc

pub same_bytes : (xs ys : List ℕ) → bytes_eq xs ys ≡ true → xs ≡ ys
same_bytes xs ys e = (bytes_decides xs ys).0 e

pub bytes_same : (xs : List ℕ) → bytes_eq xs xs ≡ true
bytes_same xs = (bytes_decides xs xs).1 refl

-- ---- two parts with a byte between them
module _ {A B : Type 0} (P : A → Type 0) (Q : B → Type 0) (f : A → List ℕ) (g : B → List ℕ) (r : List ℕ → Option A) (s : List ℕ → Option B) where
  pub both_reads : (b : ℕ) → ((v : A) → P v → lacks b (f v) ≡ true) → IsReader P f r → IsReader Q g s →
      IsReader (λ (p : A × B). P p.0 × Q p.1) (λ (p : A × B). f p.0 ++ b ∷ g p.1) (both_of b r s)
  both_reads b apart hr hs = record {
    found = λ text p e.
        let parts = then (λ (q : List ℕ × List ℕ). option_and_then (λ v. option_and_then (λ w. Some (v, w)) (s q.1)) (r q.0)) (cut b text) p e in
        let left = then (λ v. option_and_then (λ w. Some (v, w)) (s parts.0.1)) (r parts.0.0) p parts.2 in
        let right = then (λ w. Some (left.0, w)) (s parts.0.1) p left.2 in
        let pair : (left.0, right.0) ≡ p = (let same : Some (left.0, right.0) ≡ Some p = right.2 in cc) in
        let one = hr.found parts.0.0 left.0 left.1 in
        let two = hs.found parts.0.1 right.0 right.1 in
        let P' : A × B → Type 0 = λ p. (P p.0 × Q p.1) × (text ≡ f p.0 ++ b ∷ g p.1) in
        subst P' pair ((one.0, two.0), cut_found b text parts.0 parts.1 ∙ ap (λ t. t ++ b ∷ parts.0.1) one.1 ∙ ap (λ t. f left.0 ++ b ∷ t) two.1);
    only = λ p h.
        ap (option_and_then (λ (q : List ℕ × List ℕ). option_and_then (λ v. option_and_then (λ w. Some (v, w)) (s q.1))
        (r q.0))) (cut_at b (f p.0) (g p.1) (apart p.0 h.0))
        ∙ ap (option_and_then (λ v. option_and_then (λ w. Some (v, w)) (s (g p.1)))) (hr.only p.0 h.0)
        ∙ ap (option_and_then (λ w. Some (p.0, w))) (hs.only p.1 h.1);
  }

-- ---- a value made of what is read
pub mapped_reads : {A B : Type 0} (P : A → Type 0) (Q : B → Type 0) (f : A → List ℕ) (g : B → List ℕ)
    (r : List ℕ → Option A) (to : A → B) (back : B → A) → ((v : A) → P v → Q (to v) × (f v ≡ g (to v))) →
    ((w : B) → Q w → P (back w) × (to (back w) ≡ w)) → IsReader P f r → IsReader Q g (λ text. option_map to (r text))
mapped_reads {B = B} P Q f g r to back there again h = record {
  found = λ text w e.
      let from = mapped to (r text) w e in
      let got = h.found text from.0 from.1 in
      let made = there from.0 got.0 in
      let W : B → Type 0 = λ w. Q w × (text ≡ g w) in
      subst W from.2 (made.0, got.1 ∙ made.1);
  only = λ w q.
      let b = again w q in
      ap (λ t. option_map to (r t)) (sym ((there (back w) b.0).1 ∙ ap g b.1)) ∙ ap (option_map to) (h.only (back w) b.0) ∙ ap Some b.1;
}

-- ---- what follows a word and a space
pub behind_found : (word text rest : List ℕ) → behind word text ≡ Some rest → text ≡ word ++ 32 ∷ rest
behind_found word text rest e =
    let parts = then (λ (q : List ℕ × List ℕ). some_if (bytes_eq q.0 word) q.1) (cut 32 text) rest e in
    let is = chosen (bytes_eq parts.0.0 word) parts.0.1 rest parts.2 in
    cut_found 32 text parts.0 parts.1 ∙ ap (λ t. t ++ 32 ∷ parts.0.1) (same_bytes parts.0.0 word is.0) ∙ ap (λ t. word ++ 32 ∷ t) is.1

pub behind_at : (word rest : List ℕ) → lacks 32 word ≡ true → behind word (word ++ 32 ∷ rest) ≡ Some rest
behind_at word rest apart =
    ap (option_and_then (λ (q : List ℕ × List ℕ). some_if (bytes_eq q.0 word) q.1)) (cut_at 32 word rest apart)
    ∙ ap (λ b. some_if b rest) (bytes_same word)

-- ---- a table of words
module _ {A : Type 0} (f : A → List ℕ) where
  pub find_found : (text : List ℕ) (all : List A) (v : A) → find (λ w. bytes_eq (f w) text) all ≡ Some v → text ≡ f v
  find_found text [] v e = let none : Option A = None in let no : none ≡ Some v = e in absurd cc
  find_found text (w ∷ ws) v e = at (bytes_eq (f w) text) refl e (λ k. find_found text ws v k)
    where
      at : (b : Bool) → bytes_eq (f w) text ≡ b → cond b (Some w) (find (λ w. bytes_eq (f w) text) ws) ≡ Some v →
          (find (λ w. bytes_eq (f w) text) ws ≡ Some v → text ≡ f v) → text ≡ f v
      at true is e again = let one : Some w ≡ Some v = e in let same : w ≡ v = cc in sym (same_bytes (f w) text is) ∙ ap f same
      at false is e again = again e

-- ---- numbers
pub number_reads : IsReader IsNumber decimal number_in
number_reads = record {
  found = λ text n e. let got = decimal-number_in text n e in (got.1, got.0);
  only = λ n lt. number_in-decimal n lt;
}

pub within_reads : (least most : ℕ) → most < 2 ^ 32 → IsReader (λ n. (least ≤ n) × (n ≤ most)) decimal (number_within least most)
within_reads least most small = record {
  found = λ text n e. let is = decimal-number_within least most text n e in ((is.1, is.2), is.0);
  only = λ n h. let le : n ≤ most = h.1 in number_within-decimal least most n h.0 le (omega arith);
}

pub worker_number_reads : IsReader IsWorkerNumber decimal worker_number
worker_number_reads = record {
  found = λ text n e. let is = decimal-number_within 0 1023 text n e in let le : n ≤ 1023 = is.2 in (omega arith, is.0);
  only = λ n lt. let less : n < 1024 = lt in number_within-decimal 0 1023 n (omega arith) (omega arith) (omega arith);
}

pub count_reads : IsReader IsCount decimal count_of
count_reads = record {
  found = λ text n e. let is = decimal-number_within 1 4294967295 text n e in let le : n ≤ 4294967295 = is.2 in ((is.1, omega arith), is.0);
  only = λ n h. let lt : n < 2 ^ 32 = h.1 in number_within-decimal 1 4294967295 n h.0 (omega arith) lt;
}
