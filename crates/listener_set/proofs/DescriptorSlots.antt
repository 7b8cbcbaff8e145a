-- What the slots of a table say of its pairs.
use Rattle.std.proofs.Common.{◌≡◌, ◌≢◌, ℕ, suc, zero, ◌+◌, ◌-◌, ◌<◌, ◌≤◌, Bool, true, false, cond, ◌||◌, nat_eq, nat_lt, List, [], ◌∷◌, length, take, get_or, set, replicate, Option, Some, None, refl, sym, ap, ◌∙◌, arith, inl, inr}
use Rattle.std.specs.Prelude.{is_some, count_by}
use Rattle.std.proofs.lemmas.Bool.{cases_lt}
use Rattle.std.proofs.lemmas.Bool.Decides.{nat_tests}
use Rattle.std.proofs.lemmas.List.{get_or_past, length-map}
use Rattle.std.proofs.Math.Seq.{take-length}
use Rattle.std.proofs.lemmas.List.Recursion.{is_count_by}
use Rattle.listener_set.specs.Numbers.{is_in, RisesFrom, AreBelow}
use Rattle.listener_set.specs.Descriptors.{descriptors_of, unused_from, lowest_unused, put_pair, socket_of, without_descriptor, AreDescriptors, pairs_of}
use Rattle.listener_set.proofs.Rising.{RisesFrom-lower}
use Rattle.listener_set.specs.DescriptorLemmas.{socket_of-before, socket_of-pairs_of}

-- ---- the descriptors of slots
RisesFrom-pairs_of : (n : ℕ) (slots : List (Option ℕ)) → RisesFrom n (descriptors_of (pairs_of n slots))
unfolding pairs_of
RisesFrom-pairs_of n [] = tt
RisesFrom-pairs_of n (None ∷ slots) = RisesFrom-lower _ n (n + 1) (omega arith) (RisesFrom-pairs_of (n + 1) slots)
RisesFrom-pairs_of n (Some s ∷ slots) = (omega arith, RisesFrom-pairs_of (n + 1) slots)

AreBelow-pairs_of : (n limit : ℕ) (slots : List (Option ℕ)) → n + length slots ≤ limit → AreBelow limit (descriptors_of (pairs_of n slots))
unfolding pairs_of
AreBelow-pairs_of n limit [] le = tt
AreBelow-pairs_of n limit (None ∷ slots) le = AreBelow-pairs_of (n + 1) limit slots (omega arith)
AreBelow-pairs_of n limit (Some s ∷ slots) le = (omega arith, AreBelow-pairs_of (n + 1) limit slots (omega arith))

pub are_descriptors : (slots : List (Option ℕ)) → length slots ≡ 64 → AreDescriptors (pairs_of 3 slots)
are_descriptors slots h = record { rising = RisesFrom-pairs_of 3 slots; below = AreBelow-pairs_of 3 67 slots (omega arith) }

pub pairs_of-empty : (n k : ℕ) → pairs_of n (replicate k None) ≡ []
unfolding pairs_of
pairs_of-empty n zero = refl
pairs_of-empty n (suc k) = pairs_of-empty (n + 1) k

-- ---- how many there are
abbrev pub used : List (Option ℕ) → ℕ
used [] = 0
used (o ∷ slots) = cond (is_some o) (1 + used slots) (used slots)

length-used : (n : ℕ) (slots : List (Option ℕ)) → length (pairs_of n slots) ≡ used slots
unfolding pairs_of
length-used n [] = refl
length-used n (None ∷ slots) = length-used (n + 1) slots
length-used n (Some s ∷ slots) = let rest = length-used (n + 1) slots in omega arith

pub length-pairs_of : (n : ℕ) (slots : List (Option ℕ)) → length (pairs_of n slots) ≡ count_by is_some slots
length-pairs_of n slots = length-used n slots ∙ is_count_by used is_some refl (λ _ _. refl) slots

-- one slot more
pub used-more : (slots : List (Option ℕ)) (k : ℕ) → k < length slots → used (take (suc k) slots) ≡ used (take k slots) + cond (is_some (get_or slots k None)) 1 0
used-more [] k lt = absurd (omega arith)
used-more (None ∷ slots) zero lt = refl
used-more (Some s ∷ slots) zero lt = refl
used-more (None ∷ slots) (suc k) lt = used-more slots k (omega arith)
used-more (Some s ∷ slots) (suc k) lt = let rest = used-more slots k (omega arith) in omega arith

pub length-of-used : (n : ℕ) (slots : List (Option ℕ)) → used (take (length slots) slots) ≡ length (pairs_of n slots)
length-of-used n slots = ap used (take-length slots) ∙ sym (length-used n slots)

used-le : (slots : List (Option ℕ)) → used slots ≤ length slots
used-le [] = omega arith
used-le (None ∷ slots) = omega (arith, used-le slots)
used-le (Some s ∷ slots) = omega (arith, used-le slots)

pub length-most : (n : ℕ) (slots : List (Option ℕ)) → length (pairs_of n slots) ≤ length slots
length-most n slots = omega (arith, length-used n slots, used-le slots)

-- a slot that is free keeps the table from being full
used-free : (slots : List (Option ℕ)) (i : ℕ) → i < length slots → get_or slots i None ≡ None → used slots < length slots
used-free [] i lt e = absurd (omega arith)
used-free (None ∷ slots) zero lt e = omega (arith, used-le slots)
used-free (None ∷ slots) (suc i) lt e = omega (arith, used-le slots)
used-free (Some s ∷ slots) zero lt e = cc
used-free (Some s ∷ slots) (suc i) lt e = omega (arith, used-free slots i (omega arith) e)

pub length-free : (n : ℕ) (slots : List (Option ℕ)) (i : ℕ) → i < length slots → get_or slots i None ≡ None → length (pairs_of n slots) < length slots
length-free n slots i lt e = omega (arith, length-used n slots, used-free slots i lt e)

-- the slots before a place are all taken
used-front : (slots : List (Option ℕ)) (i : ℕ) → i ≤ length slots → ((k : ℕ) → k < i → get_or slots k None ≢ None) → i ≤ used slots
used-front slots zero le taken = omega arith
used-front [] (suc i) le taken = absurd (omega arith)
used-front (None ∷ slots) (suc i) le taken = absurd (taken 0 (omega arith) refl)
used-front (Some s ∷ slots) (suc i) le taken = omega (arith, used-front slots i (omega arith) (λ k lt. taken (suc k) (omega arith)))

pub length-front : (n : ℕ) (slots : List (Option ℕ)) (i : ℕ) → i ≤ length slots → ((k : ℕ) → k < i → get_or slots k None ≢ None) → i ≤ length (pairs_of n slots)
length-front n slots i le taken = omega (arith, length-used n slots, used-front slots i le taken)

-- ---- one slot read
pub socket_within : (slots : List (Option ℕ)) (d : ℕ) → 3 ≤ d → socket_of (pairs_of 3 slots) d ≡ get_or slots (d - 3) None
socket_within slots d h = let e : d ≡ 3 + (d - 3) = omega arith in ap (socket_of (pairs_of 3 slots)) e ∙ socket_of-pairs_of 3 slots (d - 3)

pub socket_past : (slots : List (Option ℕ)) (d : ℕ) → length slots ≡ 64 → 67 ≤ d → socket_of (pairs_of 3 slots) d ≡ None
socket_past slots d h past = socket_within slots d (omega arith) ∙ get_or_past slots (d - 3) None (omega arith)

pub socket_below : (slots : List (Option ℕ)) (d : ℕ) → d < 3 → socket_of (pairs_of 3 slots) d ≡ None
socket_below slots d lt = socket_of-before 3 slots d lt

-- ---- the lowest free descriptor
is_in-descriptors_of : (pairs : List (ℕ × ℕ)) (d : ℕ) → is_in (descriptors_of pairs) d ≡ is_some (socket_of pairs d)
is_in-descriptors_of [] d = refl
is_in-descriptors_of (p ∷ ps) d = at (nat_eq p.0 d) (is_in-descriptors_of ps d)
  where
    at : (b : Bool) → is_in (descriptors_of ps) d ≡ is_some (socket_of ps d) → (b || is_in (descriptors_of ps) d) ≡ is_some (cond b (Some p.1) (socket_of ps d))
    at true ih = refl
    at false ih = ih

unused_from_is : (used : List ℕ) (n fd m : ℕ) → fd ≤ m → m ≤ fd + n → ((k : ℕ) → fd ≤ k → k < m → is_in used k ≡ true) → is_in used m ≡ false → unused_from n fd used ≡ m
unused_from_is used zero fd m low high taken free = omega arith
unused_from_is used (suc n) fd m low high taken free = elim (cases_lt fd m) [
  | inl less ↦ rw (taken fd (omega arith) less) (unused_from_is used n (fd + 1) m (omega arith) (omega arith) (λ k from lt. taken k (omega arith) lt) free)
  | inr over ↦ (let e : m ≡ fd = omega arith in rw (ap (is_in used) (sym e) ∙ free) (sym e))
]

some_of : (o : Option ℕ) → o ≢ None → is_some o ≡ true
some_of None h = absurd (h refl)
some_of (Some x) h = refl

pub lowest_unused_is : (slots : List (Option ℕ)) (i : ℕ) → i < length slots → get_or slots i None ≡ None → ((k : ℕ) → k < i → get_or slots k None ≢ None) → 3 + i ≡ lowest_unused (descriptors_of (pairs_of 3 slots))
lowest_unused_is slots i lt free taken =
    let pairs = pairs_of 3 slots in
    let long : i ≤ length (descriptors_of pairs) = omega (arith, length-map pairs (λ p. p.0), length-front 3 slots i (omega arith) taken) in
    sym (unused_from_is (descriptors_of pairs) (length (descriptors_of pairs)) 3 (3 + i) (omega arith) (omega arith)
    (λ k from less. is_in-descriptors_of pairs k ∙ some_of _ (λ e. taken (k - 3) (omega arith) (sym (socket_within slots k from) ∙ e)))
    (is_in-descriptors_of pairs (3 + i) ∙ ap is_some (socket_of-pairs_of 3 slots i ∙ free)))

-- ---- one slot written
put_pair-before : (n q s : ℕ) (slots : List (Option ℕ)) → q < n → put_pair (pairs_of n slots) q s ≡ (q, s) ∷ pairs_of n slots
unfolding pairs_of
put_pair-before n q s [] lt = refl
put_pair-before n q s (None ∷ slots) lt = put_pair-before (n + 1) q s slots (omega arith)
put_pair-before n q s (Some t ∷ slots) lt = let less : nat_lt q n ≡ true = grind (arith, nat_tests) in rw less refl

pub pairs_of-put : (n i s : ℕ) (slots : List (Option ℕ)) → i < length slots → get_or slots i None ≡ None → pairs_of n (set slots i (Some s)) ≡ put_pair (pairs_of n slots) (n + i) s
unfolding pairs_of
pairs_of-put n i s [] lt free = absurd (omega arith)
pairs_of-put n zero s (None ∷ slots) lt free = let e : n + 0 ≡ n = omega arith in rw e (sym (put_pair-before (n + 1) n s slots (omega arith)))
pairs_of-put n (suc i) s (None ∷ slots) lt free = let e : n + suc i ≡ n + 1 + i = omega arith in rw e (pairs_of-put (n + 1) i s slots (omega arith) free)
pairs_of-put n zero s (Some t ∷ slots) lt free = cc
pairs_of-put n (suc i) s (Some t ∷ slots) lt free =
    let e : n + suc i ≡ n + 1 + i = omega arith in
    let no : nat_lt (n + 1 + i) n ≡ false = grind (arith, nat_tests) in
    rw (e, no) (ap (λ ps. (n, t) ∷ ps) (pairs_of-put (n + 1) i s slots (omega arith) free))

without-before : (n q : ℕ) (slots : List (Option ℕ)) → q < n → without_descriptor (pairs_of n slots) q ≡ pairs_of n slots
unfolding pairs_of
without-before n q [] lt = refl
without-before n q (None ∷ slots) lt = without-before (n + 1) q slots (omega arith)
without-before n q (Some t ∷ slots) lt = let other : nat_eq n q ≡ false = grind (arith, nat_tests) in rw other (ap (λ ps. (n, t) ∷ ps) (without-before (n + 1) q slots (omega arith)))

pub pairs_of-take : (n i : ℕ) (slots : List (Option ℕ)) → i < length slots → pairs_of n (set slots i None) ≡ without_descriptor (pairs_of n slots) (n + i)
unfolding pairs_of
pairs_of-take n i [] lt = absurd (omega arith)
pairs_of-take n zero (None ∷ slots) lt = let e : n + 0 ≡ n = omega arith in rw e (sym (without-before (n + 1) n slots (omega arith)))
pairs_of-take n (suc i) (None ∷ slots) lt = let e : n + suc i ≡ n + 1 + i = omega arith in rw e (pairs_of-take (n + 1) i slots (omega arith))
pairs_of-take n zero (Some t ∷ slots) lt =
    let same : nat_eq n (n + 0) ≡ true = grind (arith, nat_tests) in
    rw same (sym (without-before (n + 1) (n + 0) slots (omega arith)))
pairs_of-take n (suc i) (Some t ∷ slots) lt =
    let e : n + 1 + i ≡ n + suc i = omega arith in
    let other : nat_eq n (n + suc i) ≡ false = grind (arith, nat_tests) in
    rw other (ap (λ ps. (n, t) ∷ ps) (pairs_of-take (n + 1) i slots (omega arith) ∙ ap (without_descriptor (pairs_of (n + 1) slots)) e))
