-- What the events of a pattern keep.
use Rattle.std.proofs.Common.{◌≡◌, ℕ, zero, suc, ◌+◌, ◌≤◌, List, [], ◌∷◌, Some, None, Option, slice_get, subst, arith}
use Rattle.definitions.specs.Run.{Moment}
use Rattle.kernel_pattern.specs.Pattern.{RiseFrom, AreNamesWithin}

pub event_there : (p : List (ℕ × Moment)) (b i : ℕ) (e : ℕ × Moment) → RiseFrom b p → slice_get p i ≡ Some e → (b ≤ e.0) × AreNamesWithin e.1.exits
event_there [] b i e rise is = let none : Option (ℕ × Moment) = None in let no : none ≡ Some e = is in absurd cc
event_there (x ∷ xs) b zero e rise is =
    let same : x ≡ e = cc in
    subst (λ (y : ℕ × Moment). (b ≤ y.0) × AreNamesWithin y.1.exits) same (rise.0, rise.2)
event_there (x ∷ xs) b (suc i) e rise is =
    let over : b ≤ x.0 = rise.0 in
    let rest = event_there xs (x.0 + 1) i e rise.3 is in
    let above : x.0 + 1 ≤ e.0 = rest.0 in
    (omega (arith, over, above), rest.1)
