-- The descriptors of groups, as they are kept and as they are dealt out.
use Rattle.std.proofs.Common.{◌≡◌, ℕ, zero, suc, ◌+◌, ◌<◌, nat_lt, nat_eq, false, List, [], ◌∷◌, ◌++◌, get_or, set, length, take, drop, replicate, refl, sym, ap, ◌∙◌, arith, append_assoc}
use Rattle.std.specs.List.{range_with_len}
use Rattle.std.proofs.lemmas.Bool.Decides.{nat_tests}
use Rattle.std.proofs.lemmas.List.{drop-replicate, take-replicate, drop_more, take_more_set}
use Rattle.worker_groups.specs.declared.groups.Group.{Group}
use Rattle.worker_groups.specs.Groups.{AreGroups}
use Rattle.listener_set.specs.Numbers.{with_number}
use Rattle.listener_set.specs.Padded.{IsPadded}
use Rattle.listener_set.specs.PaddedLemmas.{padded_again}
use Rattle.worker_groups.specs.Crews.{descriptors_from, descriptors_first}
use Rattle.worker_groups.specs.Kept.{ArePosted}

-- ---- how they are kept

pub none-posted : (gs : List Group) (none : List ℕ) → none ≡ [] → AreGroups gs → ArePosted gs (replicate 16 none)
none-posted gs none e h = record {
  groups = h;
  padded = record {
    size = refl;
    fits = h.most;
    blanks = ap (λ x. drop (length gs) (replicate 16 x)) e ∙ drop-replicate (length gs) 16 [];
  };
}

pub none-there : (gs : List Group) (none : List ℕ) → none ≡ [] → AreGroups gs → take (length gs) (replicate 16 none) ≡ replicate (length gs) []
none-there gs none e h = ap (λ x. take (length gs) (replicate 16 x)) e ∙ take-replicate (length gs) 16 [] h.most

blank-there : {A : Type 0} (b : A) (k i : ℕ) → get_or (replicate k b) i b ≡ b
blank-there b zero i = refl
blank-there b (suc k) zero = refl
blank-there b (suc k) (suc i) = blank-there b k i

blank-behind : {A : Type 0} (b : A) (xs : List A) (k i : ℕ) → get_or (xs ++ replicate k b) i b ≡ get_or xs i b
blank-behind b [] k i = blank-there b k i
blank-behind b (x ∷ xs) k zero = refl
blank-behind b (x ∷ xs) k (suc i) = blank-behind b xs k i

-- a place behind the list is blank
pub get_or-padded : {A : Type 0} {n : ℕ} {b : A} {items : List A} {len : ℕ} → IsPadded n b items len → (i : ℕ) → get_or items i b ≡ get_or (take len items) i b
get_or-padded {A} {n} {b} {items} {len} h i = ap (λ xs. get_or xs i b) (sym (padded_again h)) ∙ blank-behind b (take len items) _ i

-- ---- how they are dealt out

-- a set of descriptors one after another takes the next one
pub range-next : (a n k : ℕ) → a + n ≡ k → with_number (range_with_len a n) k ≡ range_with_len a (n + 1)
range-next a zero k is = ap (λ x. x ∷ []) (omega (arith, is))
range-next a (suc n) k is =
    let over : nat_lt k a ≡ false = grind (arith, nat_tests) in
    let other : nat_eq k a ≡ false = grind (arith, nat_tests) in
    let longer : suc (n + 1) ≡ suc n + 1 = omega arith in
    rw (over, other) (ap (λ ks. a ∷ ks) (range-next (a + 1) n k (omega (arith, is))) ∙ ap (range_with_len a) longer)

-- the groups from a place on take what the next one takes, and then what those behind it take
pub first-next : (gs : List Group) (i : ℕ) (none : Group) (fd : ℕ) → i < length gs
    → descriptors_first fd (drop i gs) ≡ descriptors_from fd (get_or gs i none).addresses ∷ descriptors_first (fd + (get_or gs i none).addresses) (drop (i + 1) gs)
first-next gs i none fd within = ap (descriptors_first fd) (drop_more gs i none within)

-- one group more has its descriptors
pub first-dealt : (gs : List Group) (ds : List (List ℕ)) (i : ℕ) (none : Group) (fd : ℕ) → i < length gs → length ds ≡ length gs
    → take (i + 1) (set ds i (descriptors_from fd (get_or gs i none).addresses)) ++ descriptors_first (fd + (get_or gs i none).addresses) (drop (i + 1) gs)
    ≡ take i ds ++ descriptors_first fd (drop i gs)
first-dealt gs ds i none fd within each =
    let g : ℕ = (get_or gs i none).addresses in
    let rest : List (List ℕ) = descriptors_first (fd + g) (drop (i + 1) gs) in
    ap (λ xs. xs ++ rest) (take_more_set ds i (descriptors_from fd g) (omega (arith, within, each)))
    ∙ append_assoc (take i ds) (descriptors_from fd g ∷ []) rest
    ∙ ap (λ xs. take i ds ++ xs) (sym (first-next gs i none fd within))
