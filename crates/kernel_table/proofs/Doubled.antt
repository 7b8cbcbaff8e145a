-- Which names one worker bears at most, row by row.
use Rattle.std.proofs.Common.{◌≡◌, ℕ, ◌+◌, ◌<◌, ◌≤◌, Bool, true, false, cond, ◌||◌, nat_eq, List, [], ◌∷◌, ◌++◌}
use Rattle.std.proofs.Common.{count_by, Option, Some, None, refl, sym, ap, subst, ◌∙◌, arith}
use Rattle.std.specs.Prelude.{IfSome}
use Rattle.std.proofs.lemmas.Bool.{false≢true}
use Rattle.std.proofs.lemmas.Bool.Decides.{nat_tests}
use Rattle.listener_set.specs.Numbers.{is_in, with_number}
use Rattle.listener_set.proofs.Rising.{is_in-with_number}
use Rattle.definitions.specs.Table.{Address, Generation, Process, is_worker}
use Rattle.call_laws.specs.Pieces.{is_any}
use Rattle.kernel_rows.specs.declared.process.Holder.{Holder}
use Rattle.kernel_rows.specs.Seen.{is_number, seen_holder, seen_rows}
use Rattle.kernel_rows.proofs.Lists.{map-push}
use Rattle.kernel_rows.proofs.Lone.{more}

-- Of the rows one at most bears a number that was met once, and none one that was not, unless it is doubled.
abbrev pub AreMet : ℕ → Generation → List ℕ → List ℕ → List Process → Type 0
AreMet q g once doubled rows = (k : ℕ) → k < 1024 → is_in doubled k ≡ false → count_by (is_worker is_any q g k) rows ≤ cond (is_in once k) 1 0

count-push : (test : Process → Bool) (ps : List Process) (p : Process) → count_by test (ps ++ p ∷ []) ≡ count_by test ps + cond (test p) 1 0
count-push test [] p = (let m = more test p [] in omega (arith, m))
count-push test (q ∷ ps) p =
    let a = more test q (ps ++ p ∷ []) in
    let b = more test q ps in
    let rest = count-push test ps p in
    omega (arith, a, b, rest)

-- one row more, which bears the number or not
within : (met same once doubled : Bool) (n m : ℕ) → m ≡ n + cond same 1 0 → (doubled ≡ false → n ≤ cond once 1 0) →
    (same ≡ true → once ≡ met) → cond met (same || doubled) doubled ≡ false → m ≤ cond (same || once) 1 0
within true true once doubled n m grown known is off = absurd (false≢true (sym off))
within true false once doubled n m grown known is off = (let le = known off in omega (arith, grown, le))
within false true once doubled n m grown known is off = (let le = subst (λ b. n ≤ cond b 1 0) (is refl) (known off) in omega (arith, grown, le))
within false false once doubled n m grown known is off = (let le = known off in omega (arith, grown, le))

module _ (q : ℕ) (g : Generation) (addresses : List Address) (rows : List Holder) (h : Holder) (once doubled : List ℕ)
    (before : AreMet q g once doubled (seen_rows addresses rows)) where
  row-more : (k : ℕ) → count_by (is_worker is_any q g k) (seen_rows addresses (rows ++ h ∷ []))
      ≡ count_by (is_worker is_any q g k) (seen_rows addresses rows) + cond
      (is_worker is_any q g k (seen_holder addresses h)) 1 0
  row-more k =
      ap (count_by (is_worker is_any q g k)) (map-push (seen_holder addresses) rows h)
      ∙ count-push (is_worker is_any q g k) (seen_rows addresses rows) (seen_holder addresses h)

  doubled-in : (met : Bool) (nr k : ℕ) → is_in (cond met (with_number doubled nr) doubled) k ≡ cond met (nat_eq nr k || is_in doubled k) (is_in doubled k)
  doubled-in true nr k = is_in-with_number doubled nr k
  doubled-in false nr k = refl

  pub met-one : (nr : ℕ) → ((k : ℕ) → is_worker is_any q g k (seen_holder addresses h) ≡ nat_eq nr k) →
      AreMet q g (with_number once nr) (cond (is_in once nr) (with_number doubled nr) doubled)
      (seen_rows addresses (rows ++ h ∷ []))
  met-one nr here k small off =
      rw (is_in-with_number once nr k)
      (within (is_in once nr) (nat_eq nr k) (is_in once k) (is_in doubled k) (count_by (is_worker is_any q g k) (seen_rows addresses rows)) _ (row-more k ∙ ap (λ b. count_by (is_worker is_any q g k) (seen_rows addresses rows) + cond b 1 0) (here k)) (before k small) same (sym (doubled-in (is_in once nr) nr k) ∙ off))
    where
      same : nat_eq nr k ≡ true → is_in once k ≡ is_in once nr
      same e = (let is : nr ≡ k = grind (arith, nat_tests) in ap (is_in once) (sym is))

  pub met-none : (nr : Option ℕ) → ((k : ℕ) → is_worker is_any q g k (seen_holder addresses h) ≡ is_number nr k) →
      IfSome nr (λ n. 1024 ≤ n) → AreMet q g once doubled (seen_rows addresses (rows ++ h ∷ []))
  met-none nr here high k small off =
      let grown = row-more k ∙ ap (λ b. count_by (is_worker is_any q g k) (seen_rows addresses rows) + cond b 1 0) (here k ∙ other nr high) in
      let le = before k small off in
      omega (arith, grown, le)
    where
      other : (n : Option ℕ) → IfSome n (λ m. 1024 ≤ m) → is_number n k ≡ false
      other None h = refl
      other (Some m) h = grind (arith, nat_tests)

pub at-most-one : (b : Bool) (n : ℕ) → n ≤ cond b 1 0 → n ≤ 1
at-most-one true n le = le
at-most-one false n le = omega (arith, le)
