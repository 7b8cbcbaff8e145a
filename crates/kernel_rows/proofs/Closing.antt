-- Holds without those of an address, and those of some descriptors alone.
use Rattle.std.proofs.Common.{◌≡◌, ℕ, ◌+◌, ◌<◌, ◌≤◌, Bool, true, false, cond, nat_eq, List, [], ◌∷◌, ◌++◌, filter, refl, ap, arith}
use Rattle.std.proofs.lemmas.Bool.Decides.{nat_tests}
use Rattle.listener_set.specs.Numbers.{is_in, RisesFrom}
use Rattle.listener_set.specs.Descriptors.{descriptors_of, only_of, without_descriptor}
use Rattle.definitions.specs.Table.{Address, Hold}
use Rattle.kernel_rows.specs.Holds.{seen_hold, seen_holds}

without-low : (pairs : List (ℕ × ℕ)) (b d : ℕ) → RisesFrom b (descriptors_of pairs) → d < b → without_descriptor pairs d ≡ pairs
without-low [] b d h lt = refl
without-low (p ∷ ps) b d h lt =
    let over : b ≤ p.0 = h.0 in
    let other : nat_eq p.0 d ≡ false = grind (arith, nat_tests) in
    rw other (ap (λ qs. p ∷ qs) (without-low ps (p.0 + 1) d h.1 (omega arith)))

pair-above : (done rest : List (ℕ × ℕ)) (p : ℕ × ℕ) (b : ℕ) → RisesFrom b (descriptors_of (done ++ p ∷ rest)) → b ≤ p.0
pair-above [] rest p b h = h.0
pair-above (x ∷ done) rest p b h = let over : b ≤ x.0 = h.0 in let above : x.0 + 1 ≤ p.0 = pair-above done rest p (x.0 + 1) h.1 in omega arith

-- the first of the pairs that were not looked at goes
pub taken_out : (f : ℕ × ℕ → Bool) (done rest : List (ℕ × ℕ)) (p : ℕ × ℕ) (b : ℕ) →
    RisesFrom b (descriptors_of (done ++ p ∷ rest)) →
    without_descriptor (filter f done ++ p ∷ rest) p.0 ≡ filter f done ++ rest
taken_out f [] rest p b h =
    let same : nat_eq p.0 p.0 ≡ true = grind (arith, nat_tests) in
    rw same (without-low rest (p.0 + 1) p.0 h.1 (omega arith))
taken_out f (x ∷ done) rest p b h =
    let over : x.0 + 1 ≤ p.0 = pair-above done rest p (x.0 + 1) h.1 in
    let other : nat_eq x.0 p.0 ≡ false = grind (arith, nat_tests) in
    at (f x) other (taken_out f done rest p (x.0 + 1) h.1)
  where
    at : (b : Bool) → nat_eq x.0 p.0 ≡ false →
        without_descriptor (filter f done ++ p ∷ rest) p.0 ≡ filter f done ++ rest →
        without_descriptor (cond b (x ∷ filter f done) (filter f done) ++ p ∷ rest) p.0
        ≡ cond b (x ∷ filter f done) (filter f done) ++ rest
    at true other ih = rw other (ap (λ qs. x ∷ qs) ih)
    at false other ih = ih

module _ (addresses : List Address) (f : ℕ × ℕ → Bool) (g : Hold → Bool) (same : (p : ℕ × ℕ) → f p ≡ g (seen_hold addresses p)) where
  -- what is left of the pairs is what is left of the holds
  pub seen-filter : (pairs : List (ℕ × ℕ)) → seen_holds addresses (filter f pairs) ≡ filter g (seen_holds addresses pairs)
  seen-filter [] = refl
  seen-filter (p ∷ ps) = at (f p) (g (seen_hold addresses p)) (same p) (seen-filter ps)
    where
      at : (b c : Bool) → b ≡ c → seen_holds addresses (filter f ps) ≡ filter g (seen_holds addresses ps) →
          seen_holds addresses (cond b (p ∷ filter f ps) (filter f ps))
          ≡ cond c (seen_hold addresses p ∷ filter g (seen_holds addresses ps)) (filter g (seen_holds addresses ps))
      at true true e ih = ap (λ hs. seen_hold addresses p ∷ hs) ih
      at true false e ih = cc
      at false true e ih = cc
      at false false e ih = ih

-- the holds of some descriptors
pub seen_only : (addresses : List Address) (fds : List ℕ) (pairs : List (ℕ × ℕ)) →
    seen_holds addresses (only_of fds pairs) ≡ filter (λ (h : Hold). is_in fds h.fd) (seen_holds addresses pairs)
seen_only addresses fds pairs = seen-filter addresses (λ p. is_in fds p.0) (λ h. is_in fds h.fd) (λ p. refl) pairs
