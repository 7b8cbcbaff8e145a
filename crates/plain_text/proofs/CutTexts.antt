-- Texts that are cut at a byte.
use Rattle.std.proofs.Common.{◌≡◌, ℕ, suc, ◌+◌, ◌<◌, ◌≤◌, ◌^◌, ltb, ◌==◌, eqb, nat_lt, not, Bool, true, false, ◌&&◌, cond, List, [], ◌∷◌, ◌++◌, Option, Some, None, length, take, drop, refl, sym, ap, ◌∙◌, inl, inr, arith}
use Rattle.std.specs.Prelude.{option_map}
use Rattle.std.specs.List.{prefix_len, position_or_len, before_first, after_first, list_all}
use Rattle.std.specs.Fmt.{decimal}
use Rattle.std.specs.Str.{all_ascii_digits}
use Rattle.std.specs.Char.{is_ascii_digit}
use Rattle.std.proofs.lemmas.Bool.{cases_Bool, cases_lt, lt-ltb, le-ltb}
use Rattle.std.proofs.lemmas.Bool.Decides.{nat_tests}
use Rattle.std.proofs.lemmas.List.{length-append, take_all, drop_all}
use Rattle.plain_text.proofs.NumberTextLemmas.{both, digits-decimal}
use Rattle.plain_text.specs.Cuts.{cut}

abbrev pub with_first : ℕ → Option (List ℕ × List ℕ) → Option (List ℕ × List ℕ)
with_first c o = option_map (λ p. (c ∷ p.0, p.1)) o

abbrev parted : List ℕ → ℕ → List ℕ × List ℕ
parted text k = (take k text, drop (k + 1) text)

-- the place of a byte, and the one behind another byte
parted_later : (c k m : ℕ) (cs : List ℕ) → m ≡ suc k → option_map (parted (c ∷ cs)) (cond (nat_lt m (suc (length cs))) (Some m) None) ≡ with_first c (option_map (parted cs) (cond (nat_lt k (length cs)) (Some k) None))
parted_later c k m cs e =
    rw e (elim (cases_lt k (length cs)) [
      | inl lt ↦
          let next : suc k + 1 ≡ suc (k + 1) = omega arith in
          rw (lt-ltb k (length cs) lt, lt-ltb (suc k) (suc (length cs)) (omega (arith, lt))) (ap (λ n. Some (c ∷ take k cs, drop n (c ∷ cs))) next)
      | inr ge ↦ rw (le-ltb k (length cs) ge, le-ltb (suc k) (suc (length cs)) (omega (arith, ge))) refl
    ])

pub cut-cons : (b c : ℕ) (cs : List ℕ) → cut b (c ∷ cs) ≡ cond (c == b) (Some ([], cs)) (with_first c (cut b cs))
cut-cons b c cs =
    elim (cases_Bool (c == b)) [
      | inl e ↦ rw e (ap (λ t. option_map (parted (c ∷ cs)) (cond t (Some 0) None)) (lt-ltb 0 (suc (length cs)) (omega arith)))
      | inr e ↦ rw e (parted_later c (prefix_len (λ x. not (x == b)) cs) (1 + prefix_len (λ x. not (x == b)) cs) cs (omega arith))
    ]

-- whether a text is without a byte
abbrev pub lacks : ℕ → List ℕ → Bool
lacks b text = list_all (λ c. not (c == b)) text

byte_is : (c d : ℕ) → eqb c d ≡ true → c ≡ d
byte_is c d h = grind (arith, nat_tests)

-- ---- what a cut says of the text
pub cut_found : (b : ℕ) (text : List ℕ) (p : List ℕ × List ℕ) → cut b text ≡ Some p → text ≡ p.0 ++ b ∷ p.1
cut_found b [] p e = let none : Option (List ℕ × List ℕ) = None in let no : none ≡ Some p = e in cc
cut_found b (c ∷ cs) p e = at (c == b) refl (cut b cs) refl (λ q k. cut_found b cs q k)
  where
    at : (t : Bool) → (c == b) ≡ t → (o : Option (List ℕ × List ℕ)) → cut b cs ≡ o → ((q : List ℕ × List ℕ) → cut b cs ≡ Some q → cs ≡ q.0 ++ b ∷ q.1) → c ∷ cs ≡ p.0 ++ b ∷ p.1
    at true h o k again =
        let same : Some ([], cs) ≡ Some p = sym (cut-cons b c cs ∙ ap (λ x. cond x (Some ([], cs)) (with_first c (cut b cs))) h) ∙ e in
        let is : c ≡ b = byte_is c b h in
        let parts : ([], cs) ≡ p = cc in
        ap (λ x. x ∷ cs) is ∙ ap (λ (q : List ℕ × List ℕ). q.0 ++ b ∷ q.1) parts
    at false h None k again =
        let no : Option (List ℕ × List ℕ) = None in
        let none : no ≡ Some p = sym (cut-cons b c cs ∙ ap (λ x. cond x (Some ([], cs)) (with_first c (cut b cs))) h ∙ ap (with_first c) k) ∙ e in
        cc
    at false h (Some q) k again =
        let same : Some (c ∷ q.0, q.1) ≡ Some p = sym (cut-cons b c cs ∙ ap (λ x. cond x (Some ([], cs)) (with_first c (cut b cs))) h ∙ ap (with_first c) k) ∙ e in
        let parts : (c ∷ q.0, q.1) ≡ p = cc in
        ap (λ t. c ∷ t) (again q k) ∙ ap (λ (r : List ℕ × List ℕ). r.0 ++ b ∷ r.1) parts

other : (c b : ℕ) (cs : List ℕ) → lacks b (c ∷ cs) ≡ true → ((c == b) ≡ false) × (lacks b cs ≡ true)
other c b cs h = at (c == b) refl (both (not (c == b)) (lacks b cs) h)
  where
    at : (t : Bool) → (c == b) ≡ t → (not (c == b) ≡ true) × (lacks b cs ≡ true) → ((c == b) ≡ false) × (lacks b cs ≡ true)
    at true e k = let no : not true ≡ true = ap not (sym e) ∙ k.0 in cc
    at false e k = (e, k.1)

same_byte : (b : ℕ) → (b == b) ≡ true
same_byte b = grind (arith, nat_tests)

-- ---- a text that is cut where it was joined
pub cut_at : (b : ℕ) (xs ys : List ℕ) → lacks b xs ≡ true → cut b (xs ++ b ∷ ys) ≡ Some (xs, ys)
cut_at b [] ys h = cut-cons b b ys ∙ ap (λ t. cond t (Some ([], ys)) (with_first b (cut b ys))) (same_byte b)
cut_at b (c ∷ cs) ys h =
    let apart = other c b cs h in
    cut-cons b c (cs ++ b ∷ ys)
    ∙ ap (λ t. cond t (Some ([], cs ++ b ∷ ys)) (with_first c (cut b (cs ++ b ∷ ys)))) apart.0
    ∙ ap (with_first c) (cut_at b cs ys apart.1)

pub cut_none : (b : ℕ) (xs : List ℕ) → lacks b xs ≡ true → cut b xs ≡ None
cut_none b [] h = refl
cut_none b (c ∷ cs) h =
    let apart = other c b cs h in
    cut-cons b c cs ∙ ap (λ t. cond t (Some ([], cs)) (with_first c (cut b cs))) apart.0 ∙ ap (with_first c) (cut_none b cs apart.1)

-- ---- texts without a byte
pub lacks-append : (b : ℕ) (xs ys : List ℕ) → lacks b xs ≡ true → lacks b ys ≡ true → lacks b (xs ++ ys) ≡ true
lacks-append b [] ys h k = k
lacks-append b (c ∷ cs) ys h k =
    let apart = both (not (c == b)) (lacks b cs) h in
    rw (apart.0, lacks-append b cs ys apart.1 k) refl

pub lacks-all : (p : ℕ → Bool) (b : ℕ) → p b ≡ false → (xs : List ℕ) → list_all p xs ≡ true → lacks b xs ≡ true
lacks-all p b off [] h = refl
lacks-all p b off (c ∷ cs) h =
    let on = both (p c) (list_all p cs) h in
    at (c == b) refl on.0 (lacks-all p b off cs on.1)
  where
    at : (t : Bool) → (c == b) ≡ t → p c ≡ true → lacks b cs ≡ true → (not (c == b) && lacks b cs) ≡ true
    at true e on rest = let is : c ≡ b = byte_is c b e in let no : p b ≡ true = ap p (sym is) ∙ on in cc
    at false e on rest = rw (e, rest) refl

lacks-digits : (b : ℕ) → is_ascii_digit b ≡ false → (xs : List ℕ) → all_ascii_digits xs ≡ true → lacks b xs ≡ true
lacks-digits b off [] h = refl
lacks-digits b off (c ∷ cs) h =
    let on = both (is_ascii_digit c) (all_ascii_digits cs) h in
    at (c == b) refl on.0 (lacks-digits b off cs on.1)
  where
    at : (t : Bool) → (c == b) ≡ t → is_ascii_digit c ≡ true → lacks b cs ≡ true → (not (c == b) && lacks b cs) ≡ true
    at true e on rest = let is : c ≡ b = byte_is c b e in let no : is_ascii_digit b ≡ true = ap is_ascii_digit (sym is) ∙ on in cc
    at false e on rest = rw (e, rest) refl

pub lacks-decimal : (b n : ℕ) → is_ascii_digit b ≡ false → n < 2 ^ 64 → lacks b (decimal n) ≡ true
lacks-decimal b n off lt = lacks-digits b off (decimal n) (digits-decimal n lt)

pub cut_shorter : (b : ℕ) (text : List ℕ) (p : List ℕ × List ℕ) → cut b text ≡ Some p → length p.1 < length text
cut_shorter b text p e =
    let written : length text ≡ length (p.0 ++ b ∷ p.1) = ap length (cut_found b text p e) in
    omega (arith, written, length-append p.0 (b ∷ p.1))

-- ---- where a text is cut
pub cut_parts : (b : ℕ) (text : List ℕ) (p : List ℕ × List ℕ) → cut b text ≡ Some p → (position_or_len (λ c. c == b) text < length text) × (p.0 ≡ before_first (λ c. c == b) text) × (p.1 ≡ after_first (λ c. c == b) text)
cut_parts b text p e = at (ltb (position_or_len (λ c. c == b) text) (length text)) refl e
  where
    at : (t : Bool) → ltb (position_or_len (λ c. c == b) text) (length text) ≡ t → option_map (parted text) (cond t (Some (position_or_len (λ c. c == b) text)) None) ≡ Some p → (position_or_len (λ c. c == b) text < length text) × (p.0 ≡ before_first (λ c. c == b) text) × (p.1 ≡ after_first (λ c. c == b) text)
    at true h k =
        let same : Some (parted text (position_or_len (λ c. c == b) text)) ≡ Some p = k in
        let parts : parted text (position_or_len (λ c. c == b) text) ≡ p = cc in
        (grind (arith, nat_tests), ap (λ (q : List ℕ × List ℕ). q.0) (sym parts), ap (λ (q : List ℕ × List ℕ). q.1) (sym parts))
    at false h k = let no : Option (List ℕ × List ℕ) = None in let none : no ≡ Some p = k in cc

pub cut_missing : (b : ℕ) (text : List ℕ) → cut b text ≡ None → (length text ≤ position_or_len (λ c. c == b) text) × (before_first (λ c. c == b) text ≡ text) × (after_first (λ c. c == b) text ≡ [])
cut_missing b text e = let past = past_end (ltb (position_or_len (λ c. c == b) text) (length text)) refl e in (past, take_all (position_or_len (λ c. c == b) text) text past, drop_all (position_or_len (λ c. c == b) text + 1) text (omega (arith, past)))
  where
    past_end : (t : Bool) → ltb (position_or_len (λ c. c == b) text) (length text) ≡ t → option_map (parted text) (cond t (Some (position_or_len (λ c. c == b) text)) None) ≡ None → length text ≤ position_or_len (λ c. c == b) text
    past_end true h k = let some : Option (List ℕ × List ℕ) = Some (parted text (position_or_len (λ c. c == b) text)) in let no : some ≡ None = k in cc
    past_end false h k = grind (arith, nat_tests)
