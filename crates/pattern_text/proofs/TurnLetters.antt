-- Letters of turns, one after another.
use Rattle.std.proofs.Common.{◌≡◌, ℕ, zero, suc, ◌+◌, ◌<◌, Bool, true, false, List, [], ◌∷◌, ◌++◌, length, drop}
use Rattle.std.proofs.Common.{slice_get, Option, Some, None, refl, sym, ap, ◌∙◌, arith}
use Rattle.std.specs.Prelude.{◌&&◌, is_some, option_map, option_and_then}
use Rattle.std.specs.List.{list_all}
use Rattle.definitions.specs.Plans.{Turn}
use Rattle.pattern_text.specs.TurnsText.{letters, letter_text, turn_for, turns_for, some_turns}

some-mapped : {A B : Type 0} (f : A → B) (o : Option A) → is_some (option_map f o) ≡ is_some o
some-mapped f None = refl
some-mapped f (Some a) = refl

-- each is a letter of a turn exactly where all say turns
pub all-letters : (cs : List ℕ) → list_all (λ c. is_some (turn_for c)) cs ≡ is_some (turns_for cs)
all-letters [] = refl
all-letters (c ∷ cs) = at (turn_for c) (all-letters cs)
  where
    at : (o : Option Turn) → list_all (λ c. is_some (turn_for c)) cs ≡ is_some (turns_for cs) → is_some o
        && list_all (λ c. is_some (turn_for c)) cs
        ≡ is_some (option_and_then (λ turn. option_map (λ turns. turn ∷ turns) (turns_for cs)) o)
    at None rest = refl
    at (Some turn) rest = rest ∙ sym (some-mapped (λ turns. turn ∷ turns) (turns_for cs))

pub no-letters : (cs : List ℕ) → length cs ≡ 0 → false ≡ is_some (some_turns cs)
no-letters [] none = refl
no-letters (c ∷ cs) none = absurd (omega (arith, none))

pub some-letters : (cs : List ℕ) → 0 < length cs → list_all (λ c. is_some (turn_for c)) cs ≡ is_some (some_turns cs)
some-letters [] some = absurd (omega (arith, some))
some-letters (c ∷ cs) some = all-letters (c ∷ cs)

-- the letters from a place on
pub letters-at : (turns : List Turn) (i : ℕ) → letters (drop i turns) ≡ letter_text (slice_get turns i) ++ letters (drop (i + 1) turns)
letters-at [] zero = refl
letters-at [] (suc i) = let later : suc i + 1 ≡ suc (suc i) = omega arith in ap (λ k. letters (drop k [])) (sym later)
letters-at (turn ∷ turns) zero = refl
letters-at (turn ∷ turns) (suc i) =
    let next : i + 1 ≡ suc i = omega arith in
    let later : suc i + 1 ≡ suc (suc i) = omega arith in
    letters-at turns i ∙ ap (λ k. letter_text (slice_get turns i) ++ letters (drop k turns)) next ∙ ap (λ k. letter_text (slice_get turns i) ++ letters (drop k (turn ∷ turns))) (sym later)
