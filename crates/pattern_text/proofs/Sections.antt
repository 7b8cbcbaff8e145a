-- The lines of patterns, moment by moment.
use Rattle.std.proofs.Common.{◌≡◌, ℕ, zero, suc, ◌+◌, List, [], ◌∷◌, ◌++◌, drop, slice_get, refl, sym, ap, subst, ◌∙◌, arith}
use Rattle.std.specs.Prelude.{IfSome}
use Rattle.std.specs.List.{AllByRecursion}
use Rattle.definitions.specs.Run.{Moment}
use Rattle.pattern_text.specs.PatternsWriting.{event_text, moments_text}

pub section_at : (p : List (ℕ × Moment)) (i : ℕ) → moments_text (drop i p) ≡ event_text (slice_get p i) ++ moments_text (drop (i + 1) p)
section_at [] zero = refl
section_at [] (suc i) = let later : suc i + 1 ≡ suc (suc i) = omega arith in ap (λ k. moments_text (drop k [])) (sym later)
section_at (x ∷ xs) zero = refl
section_at (x ∷ xs) (suc i) =
    let next : i + 1 ≡ suc i = omega arith in
    let later : suc i + 1 ≡ suc (suc i) = omega arith in
    section_at xs i ∙ ap (λ k. event_text (slice_get xs i) ++ moments_text (drop k xs)) next ∙ ap (λ k. event_text (slice_get xs i) ++ moments_text (drop k (x ∷ xs))) (sym later)

pub all_at : {A : Type 0} (P : A → Type 0) (xs : List A) (i : ℕ) → IfSome (slice_get xs i) P → AllByRecursion P (drop (i + 1) xs) → AllByRecursion P (drop i xs)
all_at P [] zero h all = tt
all_at P [] (suc i) h all = tt
all_at P (x ∷ xs) zero h all = (h, all)
all_at P (x ∷ xs) (suc i) h all =
    let later : suc i + 1 ≡ suc (suc i) = omega arith in
    let next : suc i ≡ i + 1 = omega arith in
    all_at P xs i h (subst (λ k. AllByRecursion P (drop k xs)) next (subst (λ k. AllByRecursion P (drop k (x ∷ xs))) later all))
