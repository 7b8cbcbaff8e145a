-- Entries that are next, one entry longer.
use Rattle.std.proofs.Common.{◌≡◌, ℕ, suc, zero, ◌+◌, nat_eq, false, List, [], ◌∷◌, ◌++◌, length, refl, ◌∙◌, ap, arith}
use Rattle.std.specs.Prelude.{if◌then◌else◌, unwrap_or, slice_get}
use Rattle.std.proofs.lemmas.Bool.Decides.{nat_tests}
use Rattle.definitions.specs.Table.{Table}
use Rattle.definitions.specs.Run.{Entry, Moment}
use Rattle.call_laws.specs.Pieces.{quiet}
use Rattle.definitions.specs.Calls.{Handed}
use Rattle.certifier.specs.Shown.{moment_shown, moments_shown, pattern_of, stepped_at}
use Rattle.certifier.specs.Places.{Place, IsNext, place_after, place_after_all, AreNext}

pub next-push : (handed : Handed) (heirs : List ℕ) (p : Place) (es : List Entry) (e : Entry) →
    AreNext handed heirs p es → IsNext handed heirs (place_after_all handed heirs p es) e →
    AreNext handed heirs p (es ++ e ∷ [])
next-push handed heirs p [] e all next = (next, tt)
next-push handed heirs p (x ∷ es) e all next = (all.0, next-push handed heirs (place_after handed heirs p x) es e all.1 next)

pub next-last : (handed : Handed) (heirs : List ℕ) (p : Place) (es : List Entry) (e : Entry) →
    AreNext handed heirs p (es ++ e ∷ []) → IsNext handed heirs (place_after_all handed heirs p es) e
next-last handed heirs p [] e all = all.0
next-last handed heirs p (x ∷ es) e all = next-last handed heirs (place_after handed heirs p x) es e all.1

pub place-push : (handed : Handed) (heirs : List ℕ) (p : Place) (es : List Entry) (e : Entry) →
    place_after_all handed heirs p (es ++ e ∷ []) ≡ place_after handed heirs (place_after_all handed heirs p es) e
place-push handed heirs p [] e = refl
place-push handed heirs p (x ∷ es) e = place-push handed heirs (place_after handed heirs p x) es e

-- entries before others that are next are next
pub next-front : (handed : Handed) (heirs : List ℕ) (p : Place) (es more : List Entry) → AreNext handed heirs p (es ++ more) → AreNext handed heirs p es
next-front handed heirs p [] more all = tt
next-front handed heirs p (x ∷ es) more all = (all.0, next-front handed heirs (place_after handed heirs p x) es more all.1)

---- Moments

pub moments-push : (handed : Handed) (heirs : List ℕ) (p : Place) (es : List Entry) (e : Entry) →
    moments_shown handed p.table (es ++ e ∷ [])
    ≡ moments_shown handed p.table es ++ moment_shown handed (place_after_all handed heirs p es).table e ∷ []
moments-push handed heirs p [] e = refl
moments-push handed heirs p (x ∷ es) e = ap (λ ms. moment_shown handed p.table x ∷ ms) (moments-push handed heirs (place_after handed heirs p x) es e)

pub moments-length : (handed : Handed) (t : Table) (es : List Entry) → length (moments_shown handed t es) ≡ length es
moments-length handed t [] = refl
moments-length handed t (e ∷ es) = let more = moments-length handed (stepped_at handed t (moment_shown handed t e) e).table es in omega (arith, more)

got-push : (ms : List Moment) (m : Moment) (n : ℕ) →
    unwrap_or (slice_get (ms ++ m ∷ []) n) quiet
    ≡ (if nat_eq n (length ms) then m else unwrap_or (slice_get ms n) quiet)
got-push [] m zero = refl
got-push [] m (suc n) = let other : nat_eq (suc n) 0 ≡ false = grind (arith, nat_tests) in rw other refl
got-push (x ∷ ms) m zero = let other : nat_eq 0 (length (x ∷ ms)) ≡ false = grind (arith, nat_tests) in rw other refl
got-push (x ∷ ms) m (suc n) =
    got-push ms m n ∙ ap (λ b. if b then m else unwrap_or (slice_get ms n) quiet) same
  where
    same : nat_eq n (length ms) ≡ nat_eq (suc n) (length (x ∷ ms))
    same = grind (arith, nat_tests)

pub pattern-push : (ms : List Moment) (m : Moment) (k : ℕ) → k ≡ length ms + 1 → (n : ℕ) →
    pattern_of (ms ++ m ∷ []) n ≡ (if nat_eq n k then m else pattern_of ms n)
pattern-push ms m k is zero = let other : nat_eq 0 k ≡ false = grind (arith, nat_tests) in rw other refl
pattern-push ms m k is (suc n) = got-push ms m n ∙ ap (λ b. if b then m else unwrap_or (slice_get ms n) quiet) same
  where
    same : nat_eq n (length ms) ≡ nat_eq (suc n) k
    same = grind (arith, nat_tests)
