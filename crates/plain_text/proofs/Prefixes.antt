-- What follows a prefix.
use Rattle.std.proofs.Common.{◌≡◌, ℕ, true, false, nat_eq, List, [], ◌∷◌, length, take, drop, Some, None, refl, inl, inr, sym}
use Rattle.std.specs.Cmp.Lexicographic.{pointwise}
use Rattle.std.proofs.lemmas.Bool.{and_parts}
use Rattle.std.proofs.lemmas.Bool.Decides.{eqb_tells}
use Rattle.plain_text.specs.Cuts.{after_prefix}

module _ (c d : ℕ) (s p : List ℕ) where
  begins : (pointwise nat_eq (d ∷ s) (c ∷ p) ≡ true) → (nat_eq c d ≡ true) × (pointwise nat_eq s p ≡ true)
  begins h =
      let parts = and_parts (nat_eq d c) (pointwise nat_eq s p) h in
      let same : nat_eq d c ≡ true = parts.0 in
      (let e : d ≡ c = elim (eqb_tells d c) [ inl t ↦ t.1 | inr t ↦ cc ] in elim (eqb_tells c d) [ inl t ↦ t.0 | inr t ↦ absurd (t.1 (sym e)) ], parts.1)

pub prefix_cut : (p s : List ℕ) → pointwise nat_eq (take (length p) s) p ≡ true → after_prefix p s ≡ Some (drop (length p) s)
prefix_cut [] s h = refl
prefix_cut (c ∷ p) [] h = cc
prefix_cut (c ∷ p) (d ∷ s) h =
    let parts = begins c d (take (length p) s) p h in
    rw parts.0 (prefix_cut p s parts.1)

pub prefix_missing : (p s : List ℕ) → pointwise nat_eq (take (length p) s) p ≡ false → after_prefix p s ≡ None
prefix_missing [] s h = cc
prefix_missing (c ∷ p) [] h = refl
prefix_missing (c ∷ p) (d ∷ s) h =
    elim (eqb_tells c d) [
      | inl t ↦ rw t.0 (prefix_missing p s (let e : nat_eq d c ≡ true = elim (eqb_tells d c) [ inl u ↦ u.0 | inr u ↦ absurd (u.1 (sym t.1)) ] in rw e at h))
      | inr t ↦ rw t.0 refl
    ]
