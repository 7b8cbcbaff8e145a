-- Sets of numbers and their maximal runs.
use Rattle.std.proofs.Common.{◌≡◌, ℕ, zero, suc, ◌+◌, ◌-◌, ◌≤◌, ◌<◌, ◌==◌, eqb, Bool, true, false, cond, List, [], ◌∷◌}
use Rattle.std.proofs.Common.{◌++◌, refl, sym, ap, subst, ◌∙◌, arith, append_assoc, append-nil}
use Rattle.std.specs.List.{join_with_byte}
use Rattle.std.proofs.lemmas.Bool.Decides.{nat_tests}
use Rattle.listener_set.specs.Numbers.{with_number, RisesFrom, AreBelow, AreNumbers}
use Rattle.listener_set.specs.NumberWordsLemmas.{AreBelow-append}
use Rattle.listener_set.proofs.Rising.{with_number-above}
use Rattle.call_text.specs.SetText.{run_text, runs_text, set_text}
use Rattle.call_text.specs.SetReading.{with_run}

-- so many numbers from n on
abbrev pub up_from : ℕ → ℕ → List ℕ
up_from n zero = []
up_from n (suc k) = n ∷ up_from (n + 1) k

-- runs that neither overlap nor touch, the first of which begins at a number or above
abbrev pub AreRuns : ℕ → List (ℕ × ℕ) → Type 0
AreRuns least [] = Unit {0}
AreRuns least (r ∷ rs) = (least ≤ r.0) × (r.0 ≤ r.1) × (r.1 < 1024) × AreRuns (r.1 + 2) rs

abbrev pub members : List (ℕ × ℕ) → List ℕ
members [] = []
members (r ∷ rs) = up_from r.0 (r.1 + 1 - r.0) ++ members rs

abbrev pub run_texts : List (ℕ × ℕ) → List (List ℕ)
run_texts [] = []
run_texts (r ∷ rs) = run_text r.0 r.1 ∷ run_texts rs

abbrev pub joined_runs : List (ℕ × ℕ) → List ℕ
joined_runs rs = join_with_byte 44 (run_texts rs)

-- ---- numbers put in
AreBelow-raised : (n m : ℕ) (xs : List ℕ) → n ≤ m → AreBelow n xs → AreBelow m xs
AreBelow-raised n m [] le h = tt
AreBelow-raised n m (x ∷ xs) le h = (let lt : x < n = h.0 in omega (arith, le, lt), AreBelow-raised n m xs le h.1)

pub AreBelow-lower : (n m : ℕ) (xs : List ℕ) → n ≤ m → AreBelow n xs → AreBelow m xs
AreBelow-lower n m xs le h = AreBelow-raised n m xs le h

pub with_run-above : (k n : ℕ) (ns : List ℕ) → AreBelow n ns → with_run ns n k ≡ ns ++ up_from n k
with_run-above zero n ns h = sym (append-nil ns)
with_run-above (suc k) n ns h =
    let more : AreBelow (n + 1) (ns ++ n ∷ []) = AreBelow-append (n + 1) ns (n ∷ []) (AreBelow-raised n (n + 1) ns (omega arith) h) (omega arith, tt) in
    ap (λ xs. with_run xs (n + 1) k) (with_number-above ns n h)
    ∙ with_run-above k (n + 1) (ns ++ n ∷ []) more
    ∙ append_assoc ns (n ∷ []) (up_from (n + 1) k)

pub with_run_next : (ns : List ℕ) (n last : ℕ) → n < last + 1 → with_run ns n (last + 1 - n) ≡ with_run (with_number ns n) (n + 1) (last + 1 - (n + 1))
with_run_next ns n last lt =
    let count : last + 1 - n ≡ suc (last + 1 - (n + 1)) = omega (arith, lt) in
    ap (λ k. with_run ns n k) count

pub with_run_over : (ns : List ℕ) (n last : ℕ) → last + 1 ≤ n → with_run ns n (last + 1 - n) ≡ ns
with_run_over ns n last le =
    let count : last + 1 - n ≡ 0 = omega (arith, le) in
    ap (λ k. with_run ns n k) count

pub AreBelow-up_from : (k n limit : ℕ) → n + k ≤ limit → AreBelow limit (up_from n k)
AreBelow-up_from zero n limit le = tt
AreBelow-up_from (suc k) n limit le = (omega (arith, le), AreBelow-up_from k (n + 1) limit (omega (arith, le)))

up_from-more : (k n m : ℕ) → m ≡ n + k → up_from n (suc k) ≡ up_from n k ++ m ∷ []
up_from-more zero n m e = let same : m ≡ n = omega (arith, e) in ap (λ x. x ∷ []) (sym same)
up_from-more (suc k) n m e = ap (λ xs. n ∷ xs) (up_from-more k (n + 1) m (omega (arith, e)))

-- ---- members rise, below the limit
RisesFrom-up : (k n b : ℕ) (rest : List ℕ) → b ≤ n → RisesFrom (n + k) rest → RisesFrom b (up_from n k ++ rest)
RisesFrom-up zero n b rest le h = lower rest (n + 0) (omega (arith, le)) h
  where
    lower : (xs : List ℕ) (a : ℕ) → b ≤ a → RisesFrom a xs → RisesFrom b xs
    lower [] a le h = tt
    lower (x ∷ xs) a le h = (let ge : a ≤ x = h.0 in omega (arith, le, ge), h.1)
RisesFrom-up (suc k) n b rest le h = (le, RisesFrom-up k (n + 1) (n + 1) rest (omega arith) (subst (λ m. RisesFrom m rest) (omega arith) h))

RisesFrom-down : (xs : List ℕ) (a b : ℕ) → b ≤ a → RisesFrom a xs → RisesFrom b xs
RisesFrom-down [] a b le h = tt
RisesFrom-down (x ∷ xs) a b le h = (let ge : a ≤ x = h.0 in omega (arith, le, ge), h.1)

rising : (rs : List (ℕ × ℕ)) (least : ℕ) → AreRuns least rs → RisesFrom least (members rs)
rising [] least h = tt
rising (r ∷ rs) least h =
    let in_order : r.0 ≤ r.1 = h.1 in
    RisesFrom-up (r.1 + 1 - r.0) r.0 least (members rs) h.0 (RisesFrom-down (members rs) (r.1 + 2) (r.0 + (r.1 + 1 - r.0)) (omega (arith, in_order)) (rising rs (r.1 + 2) h.3))

below : (rs : List (ℕ × ℕ)) (least : ℕ) → AreRuns least rs → AreBelow 1024 (members rs)
below [] least h = tt
below (r ∷ rs) least h =
    let in_order : r.0 ≤ r.1 = h.1 in
    let small : r.1 < 1024 = h.2 in
    AreBelow-append 1024 (up_from r.0 (r.1 + 1 - r.0)) (members rs) (AreBelow-up_from (r.1 + 1 - r.0) r.0 1024 (omega (arith, in_order, small))) (below rs (r.1 + 2) h.3)

pub AreNumbers-members : (rs : List (ℕ × ℕ)) → AreRuns 0 rs → AreNumbers 1024 (members rs)
AreNumbers-members rs h = record { rising = rising rs 0 h; below = below rs 0 h }

-- ---- the text of the members
-- a run that goes on
run_on : (k f l m : ℕ) (tail : List ℕ) → m ≡ l + k → runs_text f l (up_from (l + 1) k ++ tail) ≡ runs_text f m tail
run_on zero f l m tail e = let same : l ≡ m = omega (arith, e) in ap (λ x. runs_text f x tail) same
run_on (suc k) f l m tail e =
    let next : eqb (l + 1) (l + 1) ≡ true = grind (arith, nat_tests) in
    ap (λ b. cond b (runs_text f (l + 1) (up_from (l + 1 + 1) k ++ tail)) (run_text f l ++ 44 ∷ runs_text (l + 1) (l + 1) (up_from (l + 1 + 1) k ++ tail))) next
    ∙ run_on k f (l + 1) m tail (omega (arith, e))

one_run : (first last : ℕ) (tail : List ℕ) → first ≤ last → set_text (up_from first (last + 1 - first) ++ tail) ≡ runs_text first last tail
one_run first last tail le =
    let count : last + 1 - first ≡ suc (last - first) = omega (arith, le) in
    ap (λ k. set_text (up_from first k ++ tail)) count ∙ run_on (last - first) first first last tail (omega (arith, le))

next_run : (f m first last : ℕ) (tail : List ℕ) → m + 2 ≤ first → first ≤ last →
    runs_text f m (up_from first (last + 1 - first) ++ tail) ≡ run_text f m ++ 44 ∷ runs_text first last tail
next_run f m first last tail apart le =
    let count : last + 1 - first ≡ suc (last - first) = omega (arith, le) in
    let other : eqb first (m + 1) ≡ false = grind (arith, nat_tests) in
    ap (λ k. runs_text f m (up_from first k ++ tail)) count
    ∙ ap (λ b. cond b (runs_text f first (up_from (first + 1) (last - first) ++ tail)) (run_text f m ++ 44 ∷ runs_text first first (up_from (first + 1) (last - first) ++ tail))) other
    ∙ ap (λ t. run_text f m ++ 44 ∷ t) (run_on (last - first) first first last tail (omega (arith, le)))

runs_text-members : (rs : List (ℕ × ℕ)) (f m least : ℕ) → m + 2 ≤ least → AreRuns least rs → runs_text f m (members rs) ≡ joined_runs ((f, m) ∷ rs)
runs_text-members [] f m least le h = refl
runs_text-members (r ∷ rs) f m least le h =
    let low : least ≤ r.0 = h.0 in
    next_run f m r.0 r.1 (members rs) (omega (arith, le, low)) h.1
    ∙ ap (λ t. run_text f m ++ 44 ∷ t) (runs_text-members rs r.0 r.1 (r.1 + 2) (omega arith) h.3)

pub set_text-members : (r : ℕ × ℕ) (rs : List (ℕ × ℕ)) (least : ℕ) → AreRuns least (r ∷ rs) → set_text (members (r ∷ rs)) ≡ joined_runs (r ∷ rs)
set_text-members r rs least h = one_run r.0 r.1 (members rs) h.1 ∙ runs_text-members rs r.0 r.1 (r.1 + 2) (omega arith) h.3

-- ---- the runs of ascending numbers, where one has begun
abbrev pub runs_of : ℕ → ℕ → List ℕ → List (ℕ × ℕ)
runs_of f l [] = (f, l) ∷ []
runs_of f l (n ∷ ns) = cond (n == l + 1) (runs_of f n ns) ((f, l) ∷ runs_of n n ns)

join_more : (x : List ℕ) (ns : List ℕ) (f l : ℕ) → join_with_byte 44 (x ∷ run_texts (runs_of f l ns)) ≡ x ++ 44 ∷ joined_runs (runs_of f l ns)
join_more x [] f l = refl
join_more x (n ∷ ns) f l = at (n == l + 1) (join_more x ns f n)
  where
    at : (b : Bool) → join_with_byte 44 (x ∷ run_texts (runs_of f n ns)) ≡ x ++ 44 ∷ joined_runs (runs_of f n ns) →
        join_with_byte 44 (x ∷ run_texts (cond b (runs_of f n ns) ((f, l) ∷ runs_of n n ns))) ≡ x ++ 44
        ∷ joined_runs (cond b (runs_of f n ns) ((f, l) ∷ runs_of n n ns))
    at true ih = ih
    at false ih = refl

pub runs_text-runs_of : (ns : List ℕ) (f l : ℕ) → runs_text f l ns ≡ joined_runs (runs_of f l ns)
runs_text-runs_of [] f l = refl
runs_text-runs_of (n ∷ ns) f l = at (n == l + 1) (runs_text-runs_of ns f n) (runs_text-runs_of ns n n)
  where
    at : (b : Bool) → runs_text f n ns ≡ joined_runs (runs_of f n ns) →
        runs_text n n ns ≡ joined_runs (runs_of n n ns) →
        cond b (runs_text f n ns) (run_text f l ++ 44 ∷ runs_text n n ns)
        ≡ joined_runs (cond b (runs_of f n ns) ((f, l) ∷ runs_of n n ns))
    at true one two = one
    at false one two = ap (λ t. run_text f l ++ 44 ∷ t) two ∙ sym (join_more (run_text f l) ns n n)

pub AreRuns-runs_of : (ns : List ℕ) (f l least : ℕ) → least ≤ f → f ≤ l → l < 1024 → RisesFrom (l + 1) ns → AreBelow 1024 ns → AreRuns least (runs_of f l ns)
AreRuns-runs_of [] f l least low in_order small up bound = (low, in_order, small, tt)
AreRuns-runs_of (n ∷ ns) f l least low in_order small up bound =
    let ge : l + 1 ≤ n = up.0 in
    let lt : n < 1024 = bound.0 in
    at (n == l + 1) refl (AreRuns-runs_of ns f n least low (omega (arith, in_order, ge)) lt up.1 bound.1) (λ apart. AreRuns-runs_of ns n n (l + 2) apart (omega arith) lt up.1 bound.1)
  where
    at : (b : Bool) → (n == l + 1) ≡ b → AreRuns least (runs_of f n ns) →
        (l + 2 ≤ n → AreRuns (l + 2) (runs_of n n ns)) →
        AreRuns least (cond b (runs_of f n ns) ((f, l) ∷ runs_of n n ns))
    at true e one two = one
    at false e one two =
        let ge : l + 1 ≤ n = up.0 in
        let test : eqb n (l + 1) ≡ false = e in
        (low, in_order, small, two (grind (arith, nat_tests)))

pub members-runs_of : (ns : List ℕ) (f l : ℕ) → f ≤ l → RisesFrom (l + 1) ns → members (runs_of f l ns) ≡ up_from f (l + 1 - f) ++ ns
members-runs_of [] f l le up = refl
members-runs_of (n ∷ ns) f l le up =
    let ge : l + 1 ≤ n = up.0 in
    at (n == l + 1) refl (members-runs_of ns f n (omega (arith, le, ge)) up.1) (members-runs_of ns n n (omega arith) up.1)
  where
    at : (b : Bool) → (n == l + 1) ≡ b → members (runs_of f n ns) ≡ up_from f (n + 1 - f) ++ ns →
        members (runs_of n n ns) ≡ up_from n (n + 1 - n) ++ ns →
        members (cond b (runs_of f n ns) ((f, l) ∷ runs_of n n ns)) ≡ up_from f (l + 1 - f) ++ n ∷ ns
    at true e one two =
        let test : eqb n (l + 1) ≡ true = e in
        let is : n ≡ l + 1 = grind (arith, nat_tests) in
        let count : n + 1 - f ≡ suc (l + 1 - f) = omega (arith, is, le) in
        one ∙ ap (λ k. up_from f k ++ ns) count
        ∙ ap (λ xs. xs ++ ns) (up_from-more (l + 1 - f) f n (omega (arith, is, le)))
        ∙ append_assoc (up_from f (l + 1 - f)) (n ∷ []) ns
    at false e one two =
        let count : n + 1 - n ≡ 1 = omega arith in
        ap (λ xs. up_from f (l + 1 - f) ++ xs) (two ∙ ap (λ k. up_from n k ++ ns) count)
