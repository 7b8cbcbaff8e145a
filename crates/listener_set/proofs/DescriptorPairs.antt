-- Pairs in ascending descriptors.
use Rattle.std.proofs.Common.{◌≡◌, ◌≢◌, ℕ, ◌+◌, ◌<◌, ◌≤◌, Bool, true, false, cond, not, nat_eq, nat_le, List, [], ◌∷◌, filter, ◌||◌, ◌&&◌, Some, None, refl, sym, ap, ◌∙◌, arith, inl, inr}
use Rattle.std.proofs.lemmas.Bool.{cases_eq, cases_lt}
use Rattle.std.proofs.lemmas.Bool.Decides.{nat_tests}
use Rattle.listener_set.specs.Numbers.{is_in, RisesFrom, AreBelow}
use Rattle.listener_set.specs.Descriptors.{descriptors_of, socket_of, without_descriptor, pair_from, only_of}
use Rattle.listener_set.proofs.NumberBits.{and_true, and_false}
use Rattle.listener_set.proofs.NumberSets.{filter-filter}

-- a descriptor that has no socket is not among them
pub without-absent : (pairs : List (ℕ × ℕ)) (d : ℕ) → socket_of pairs d ≡ None → pairs ≡ without_descriptor pairs d
without-absent [] d e = refl
without-absent (p ∷ ps) d e = at (nat_eq p.0 d) e (without-absent ps d)
  where
    at : (b : Bool) → cond b (Some p.1) (socket_of ps d) ≡ None → (socket_of ps d ≡ None → ps ≡ without_descriptor ps d) → (p ∷ ps) ≡ cond (not b) (p ∷ without_descriptor ps d) (without_descriptor ps d)
    at true e ih = cc
    at false e ih = ap (λ qs. p ∷ qs) (ih e)

socket_of-low : (pairs : List (ℕ × ℕ)) (b d : ℕ) → RisesFrom b (descriptors_of pairs) → d < b → socket_of pairs d ≡ None
socket_of-low [] b d h lt = refl
socket_of-low (p ∷ ps) b d h lt =
    let over : b ≤ p.0 = h.0 in
    let other : nat_eq p.0 d ≡ false = grind (arith, nat_tests) in
    rw other (socket_of-low ps (p.0 + 1) d h.1 (omega arith))

socket_of-first : (p : ℕ × ℕ) (ps : List (ℕ × ℕ)) → socket_of (p ∷ ps) p.0 ≡ Some p.1
socket_of-first p ps = let same : nat_eq p.0 p.0 ≡ true = grind (arith, nat_tests) in rw same refl

socket_of-later : (p : ℕ × ℕ) (ps : List (ℕ × ℕ)) (d : ℕ) → p.0 ≢ d → socket_of (p ∷ ps) d ≡ socket_of ps d
socket_of-later p ps d ne = let other : nat_eq p.0 d ≡ false = grind (arith, nat_tests) in rw other refl

-- ---- the first pair from a bound on
pub pair_from-none : (pairs : List (ℕ × ℕ)) (bound limit : ℕ) → AreBelow limit (descriptors_of pairs) → ((k : ℕ) → bound ≤ k → k < limit → socket_of pairs k ≡ None) → pair_from bound pairs ≡ None
pair_from-none [] bound limit below off = refl
pair_from-none (p ∷ ps) bound limit below off = elim (cases_lt p.0 bound) [
  | inl less ↦
      let no : nat_le bound p.0 ≡ false = grind (arith, nat_tests) in
      rw no (pair_from-none ps bound limit below.1 (λ k from lt. sym (socket_of-later p ps k (λ e. omega arith)) ∙ off k from lt))
  | inr from ↦ absurd (let none : Some p.1 ≡ None = sym (socket_of-first p ps) ∙ off p.0 from below.0 in cc)
]

pub pair_from-some : (pairs : List (ℕ × ℕ)) (b bound d s : ℕ) → RisesFrom b (descriptors_of pairs) → bound ≤ d → socket_of pairs d ≡ Some s → ((k : ℕ) → bound ≤ k → k < d → socket_of pairs k ≡ None) → pair_from bound pairs ≡ Some (d, s)
pair_from-some [] b bound d s h from on off = cc
pair_from-some (p ∷ ps) b bound d s h from on off = elim (cases_lt p.0 bound) [
  | inl less ↦
      let no : nat_le bound p.0 ≡ false = grind (arith, nat_tests) in
      rw no (pair_from-some ps (p.0 + 1) bound d s h.1 from (sym (socket_of-later p ps d (λ e. omega arith)) ∙ on) (λ k low lt. sym (socket_of-later p ps k (λ e. omega arith)) ∙ off k low lt))
  | inr over ↦
      let yes_ : nat_le bound p.0 ≡ true = grind (arith, nat_tests) in
      rw yes_ (elim (cases_lt p.0 d) [
        | inl less ↦ absurd (let none : Some p.1 ≡ None = sym (socket_of-first p ps) ∙ off p.0 over less in cc)
        | inr above ↦ elim (cases_eq p.0 d) [
          | inl e ↦ (let same : Some p.1 ≡ Some s = sym (socket_of-first p ps) ∙ ap (socket_of (p ∷ ps)) e ∙ on in let is : p.1 ≡ s = cc in ap Some (λ i. (e i, is i)))
          | inr ne ↦ absurd (let none : None ≡ Some s = sym (socket_of-low ps (p.0 + 1) d h.1 (omega (arith, ne))) ∙ sym (socket_of-later p ps d ne) ∙ on in cc)
        ]
      ])
]

-- the first pair taken out
without-low : (pairs : List (ℕ × ℕ)) (b d : ℕ) → RisesFrom b (descriptors_of pairs) → d < b → pairs ≡ without_descriptor pairs d
without-low pairs b d h lt = without-absent pairs d (socket_of-low pairs b d h lt)

pub first_pair_out : (pairs : List (ℕ × ℕ)) (b : ℕ) (q : ℕ × ℕ) → RisesFrom b (descriptors_of pairs) → pair_from b pairs ≡ Some q → pairs ≡ q ∷ without_descriptor pairs q.0
first_pair_out [] b q h e = cc
first_pair_out (p ∷ ps) b q h e =
    let from : b ≤ p.0 = h.0 in
    let first : nat_le b p.0 ≡ true = grind (arith, nat_tests) in
    let found : Some p ≡ Some q = rw first at e in
    let is : p ≡ q = cc in
    let same : nat_eq p.0 q.0 ≡ true = (let f : p.0 ≡ q.0 = ap (λ r. r.0) is in grind (arith, nat_tests)) in
    rw same (λ i. is i ∷ without-low ps (p.0 + 1) q.0 h.1 (let f : p.0 ≡ q.0 = ap (λ r. r.0) is in omega arith) i)

pub no_pair : (pairs : List (ℕ × ℕ)) (b : ℕ) → RisesFrom b (descriptors_of pairs) → pair_from b pairs ≡ None → pairs ≡ []
no_pair [] b h e = refl
no_pair (p ∷ ps) b h e =
    let from : b ≤ p.0 = h.0 in
    let first : nat_le b p.0 ≡ true = grind (arith, nat_tests) in
    let none : Some p ≡ None = rw first at e in
    cc

-- ---- the pairs of a set

-- the pairs that are left once the descriptors below a bound are seen to
abbrev pub is_left : List ℕ → ℕ → ℕ × ℕ → Bool
is_left fds bound p = is_in fds p.0 || nat_le bound p.0

or_true : (b : Bool) → (b || true) ≡ true
or_true true = refl
or_true false = refl

or_false : (b : Bool) → (b || false) ≡ b
or_false true = refl
or_false false = refl

pub left-all : (fds : List ℕ) (pairs : List (ℕ × ℕ)) (b bound : ℕ) → bound ≤ b → RisesFrom b (descriptors_of pairs) → pairs ≡ filter (is_left fds bound) pairs
left-all fds [] b bound le h = refl
left-all fds (p ∷ ps) b bound le h =
    let from : b ≤ p.0 = h.0 in
    let high : nat_le bound p.0 ≡ true = grind (arith, nat_tests) in
    let kept : is_left fds bound p ≡ true = ap (λ x. is_in fds p.0 || x) high ∙ or_true (is_in fds p.0) in
    rw kept (ap (λ qs. p ∷ qs) (left-all fds ps (p.0 + 1) bound (omega arith) h.1))

pub left-none : (fds : List ℕ) (pairs : List (ℕ × ℕ)) (bound : ℕ) → AreBelow bound (descriptors_of pairs) → filter (is_left fds bound) pairs ≡ only_of fds pairs
left-none fds [] bound below = refl
left-none fds (p ∷ ps) bound below =
    let less : p.0 < bound = below.0 in
    let low : nat_le bound p.0 ≡ false = grind (arith, nat_tests) in
    let same : is_left fds bound p ≡ is_in fds p.0 = ap (λ x. is_in fds p.0 || x) low ∙ or_false (is_in fds p.0) in
    rw same (ap (λ qs. cond (is_in fds p.0) (p ∷ qs) qs) (left-none fds ps bound below.1))

next_bound : (d k : ℕ) → k ≢ d → nat_le d k ≡ nat_le (d + 1) k
next_bound d k ne = grind (arith, nat_tests)

pub left-kept : (fds : List ℕ) (pairs : List (ℕ × ℕ)) (d : ℕ) → is_in fds d ≡ true → filter (is_left fds d) pairs ≡ filter (is_left fds (d + 1)) pairs
left-kept fds pairs d h = ap (λ test. filter test pairs) (λ i p. at p i)
  where
    at : (p : ℕ × ℕ) → is_left fds d p ≡ is_left fds (d + 1) p
    at p = elim (cases_eq p.0 d) [
      | inl e ↦ (let in_it : is_in fds p.0 ≡ true = ap (is_in fds) e ∙ h in rw in_it refl)
      | inr ne ↦ ap (λ x. is_in fds p.0 || x) (next_bound d p.0 ne)
    ]

pub left-taken : (fds : List ℕ) (pairs : List (ℕ × ℕ)) (d : ℕ) → is_in fds d ≡ false → without_descriptor (filter (is_left fds d) pairs) d ≡ filter (is_left fds (d + 1)) pairs
left-taken fds pairs d h =
    filter-filter (λ p. not (nat_eq p.0 d)) (is_left fds d) pairs ∙ ap (λ test. filter test pairs) (λ i p. at p i)
  where
    at : (p : ℕ × ℕ) → (is_left fds d p && not (nat_eq p.0 d)) ≡ is_left fds (d + 1) p
    at p = elim (cases_eq p.0 d) [
      | inl e ↦
          let same : nat_eq p.0 d ≡ true = grind (arith, nat_tests) in
          let absent : is_in fds p.0 ≡ false = ap (is_in fds) e ∙ h in
          let past : nat_le (d + 1) p.0 ≡ false = grind (arith, nat_tests) in
          rw (same, absent, past) (and_false (nat_le d p.0))
      | inr ne ↦
          let other : nat_eq p.0 d ≡ false = grind (arith, nat_tests) in
          rw other (and_true (is_left fds d p) ∙ ap (λ x. is_in fds p.0 || x) (next_bound d p.0 ne))
    ]
