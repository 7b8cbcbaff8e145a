-- Small facts about lists and tests.
use Rattle.std.proofs.Common.{◌≡◌, ℕ, Bool, true, false, not, List, [], ◌∷◌, refl, sym, ap, ◌∙◌, subst, ◌⊎◌, inl, inr, ⊎_elim}
use Rattle.std.specs.Prelude.{map, reverse, ◌||◌}
use Rattle.std.specs.List.{AllByRecursion}
use Rattle.std.proofs.lemmas.List.{reverse-append}
use Rattle.definitions.specs.Table.{Hold}
use Rattle.listener_set.specs.Numbers.{is_in}
use Rattle.call_laws.specs.Pieces.{listener_of}
use Rattle.vocabulary.specs.declared.table.Listener.{Listener}
use Rattle.table_laws.proofs.Counts.{is_in-append}
use Rattle.table_laws.proofs.Sets.{in-cases}

pub or-swap : (a b : Bool) → (a || b) ≡ (b || a)
or-swap true true = refl
or-swap true false = refl
or-swap false true = refl
or-swap false false = refl

pub in-reverse : (ks : List ℕ) (k : ℕ) → is_in (reverse ks) k ≡ is_in ks k
in-reverse [] k = refl
in-reverse (x ∷ ks) k =
    ap (λ l. is_in l k) (reverse-append (x ∷ []) ks) ∙ is_in-append (reverse ks) (x ∷ []) k ∙ ap (λ b. b || is_in (x ∷ []) k) (in-reverse ks k)
    ∙ or-swap (is_in ks k) (is_in (x ∷ []) k) ∙ sym (is_in-append (x ∷ []) ks k)

pub every-is_in : (P : ℕ → Type 0) (ks : List ℕ) → AllByRecursion P ks → (k : ℕ) → is_in ks k ≡ true → P k
every-is_in P [] all k e = absurd (cc)
every-is_in P (x ∷ ks) all k e = ⊎_elim (λ same. subst P same all.0) (λ rest. every-is_in P ks all.1 k rest) (in-cases x k ks e)

pub not-is : (b : Bool) → not b ≡ true → b ≡ false
not-is true e = cc
not-is false e = refl

pub off-from : (S : List ℕ) (k : ℕ) → (is_in S k ≡ true → ⊥) → is_in S k ≡ false
off-from S k h = go (is_in S k) h
  where
    go : (b : Bool) → (b ≡ true → ⊥) → b ≡ false
    go true h = absurd (h refl)
    go false h = refl

pub map-addresses : (holds : List Hold) → map (λ (l : Listener). l.address) (map listener_of holds) ≡ map (λ h. h.address) holds
map-addresses [] = refl
map-addresses (h ∷ hs) = ap (λ l. h.address ∷ l) (map-addresses hs)

pub or-elim : (a b : Bool) → (a || b) ≡ true → (a ≡ true) ⊎ (b ≡ true)
or-elim true b e = inl refl
or-elim false b e = inr e

pub true-false : (b : Bool) → b ≡ true → b ≡ false → ⊥
true-false b e f = cc
