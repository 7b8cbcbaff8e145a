-- Rising lists of numbers.
use Rattle.std.proofs.Common.{◌≡◌, ℕ, ◌+◌, ◌<◌, ◌≤◌, Bool, true, false, cond, ◌||◌, nat_eq, nat_lt, List, [], ◌∷◌, ◌++◌, length, Some, None, refl, sym, ◌∙◌, ap, inl, inr, ◌⊎◌, arith}
use Rattle.std.proofs.lemmas.Bool.{cases_lt, cases_eq, true≢false}
use Rattle.std.proofs.lemmas.Bool.Decides.{nat_tests}
use Rattle.listener_set.specs.Numbers.{is_in, with_number, without_number, first, last, RisesFrom, AreBelow}

pub RisesFrom-lower : (xs : List ℕ) (a b : ℕ) → a ≤ b → RisesFrom b xs → RisesFrom a xs
RisesFrom-lower [] a b le h = tt
RisesFrom-lower (x ∷ xs) a b le h = (omega (arith, h.0), h.1)

-- ---- a number put in its place
pub RisesFrom-with_number : (xs : List ℕ) (n b : ℕ) → b ≤ n → RisesFrom b xs → RisesFrom b (with_number xs n)
RisesFrom-with_number [] n b le h = (le, tt)
RisesFrom-with_number (x ∷ xs) n b le h = elim (cases_lt n x) [
  | inl less ↦ (let yes : nat_lt n x ≡ true = grind (arith, nat_tests) in rw yes (le, (omega arith, h.1)))
  | inr over ↦
      let no : nat_lt n x ≡ false = grind (arith, nat_tests) in
      rw no (elim (cases_eq n x) [
        | inl e ↦ (let same : nat_eq n x ≡ true = grind (arith, nat_tests) in rw same h)
        | inr ne ↦
            let other : nat_eq n x ≡ false = grind (arith, nat_tests) in
            let above : x + 1 ≤ n = omega (arith, ne) in
            rw other (h.0, RisesFrom-with_number xs n (x + 1) above h.1)
      ])
]

pub is_in-with_number : (xs : List ℕ) (n q : ℕ) → is_in (with_number xs n) q ≡ (nat_eq n q || is_in xs q)
is_in-with_number [] n q = refl
is_in-with_number (x ∷ xs) n q = at (nat_lt n x) (nat_eq n x) (λ e. grind (arith, nat_tests)) (is_in-with_number xs n q)
  where
    turn : (a b c : Bool) → (a || (b || c)) ≡ (b || (a || c))
    turn true true c = refl
    turn true false c = refl
    turn false b c = refl

    twice : (a c : Bool) → (a || c) ≡ (a || (a || c))
    twice true c = refl
    twice false c = refl

    at : (less same : Bool) → (same ≡ true → nat_eq n q ≡ nat_eq x q) → is_in (with_number xs n) q ≡ (nat_eq n q || is_in xs q) → is_in (cond less (n ∷ x ∷ xs) (cond same (x ∷ xs) (x ∷ with_number xs n))) q ≡ (nat_eq n q || is_in (x ∷ xs) q)
    at true same h rest = refl
    at false true h rest = rw (h refl) (twice (nat_eq x q) (is_in xs q))
    at false false h rest = ap (λ b. nat_eq x q || b) rest ∙ turn (nat_eq x q) (nat_eq n q) (is_in xs q)

-- a number above all others goes to the end
pub with_number-above : (xs : List ℕ) (n : ℕ) → AreBelow n xs → with_number xs n ≡ xs ++ n ∷ []
with_number-above [] n h = refl
with_number-above (x ∷ xs) n h =
    let below : x < n = h.0 in
    let no : nat_lt n x ≡ false = grind (arith, nat_tests) in
    let other : nat_eq n x ≡ false = grind (arith, nat_tests) in
    rw (no, other) (ap (λ ys. x ∷ ys) (with_number-above xs n h.1))

pub RisesFrom-push : (xs : List ℕ) (n b : ℕ) → b ≤ n → AreBelow n xs → RisesFrom b xs → RisesFrom b (xs ++ n ∷ [])
RisesFrom-push [] n b le below h = (le, tt)
RisesFrom-push (x ∷ xs) n b le below h = (h.0, RisesFrom-push xs n (x + 1) (omega (arith, below.0)) below.1 h.1)

-- ---- a rising list is known by what is in it
pub is_in-below : (xs : List ℕ) (b q : ℕ) → RisesFrom b xs → q < b → is_in xs q ≡ false
is_in-below [] b q h lt = refl
is_in-below (x ∷ xs) b q h lt =
    let over : b ≤ x = h.0 in
    let other : nat_eq x q ≡ false = grind (arith, nat_tests) in
    rw other (is_in-below xs (x + 1) q h.1 (omega arith))

is_in-head : (x : ℕ) (xs : List ℕ) → is_in (x ∷ xs) x ≡ true
is_in-head x xs = let same : nat_eq x x ≡ true = grind (arith, nat_tests) in rw same refl

apart : (x y : ℕ) (xs ys : List ℕ) → x < y → RisesFrom y (y ∷ ys) → ((q : ℕ) → is_in (x ∷ xs) q ≡ is_in (y ∷ ys) q) → ⊥
apart x y xs ys lt h same = true≢false (sym (is_in-head x xs) ∙ same x ∙ is_in-below (y ∷ ys) y x h lt)

pub same_rising : (xs ys : List ℕ) (b : ℕ) → RisesFrom b xs → RisesFrom b ys → ((q : ℕ) → is_in xs q ≡ is_in ys q) → xs ≡ ys
same_rising [] [] b g h same = refl
same_rising [] (y ∷ ys) b g h same = absurd (true≢false (sym (is_in-head y ys) ∙ sym (same y)))
same_rising (x ∷ xs) [] b g h same = absurd (true≢false (sym (is_in-head x xs) ∙ same x))
same_rising (x ∷ xs) (y ∷ ys) b g h same = elim (cases_lt x y) [
  | inl less ↦ absurd (apart x y xs ys less (omega arith, h.1) same)
  | inr over ↦ elim (cases_lt y x) [
    | inl less ↦ absurd (apart y x ys xs less (omega arith, g.1) (λ q. sym (same q)))
    | inr under ↦
        let e : x ≡ y = omega arith in
        let rest : xs ≡ ys = same_rising xs ys (x + 1) g.1 (rw e h.1) (λ q. tails q e (cases_lt q (x + 1))) in
        (λ i. e i ∷ rest i)
  ]
]
  where
    behind : (q : ℕ) → x + 1 ≤ q → (zs : List ℕ) → is_in (x ∷ zs) q ≡ is_in zs q
    behind q above zs = let other : nat_eq x q ≡ false = grind (arith, nat_tests) in rw other refl

    tails : (q : ℕ) → x ≡ y → (q < x + 1) ⊎ (x + 1 ≤ q) → is_in xs q ≡ is_in ys q
    tails q e (inl low) = is_in-below xs (x + 1) q g.1 low ∙ sym (is_in-below ys (y + 1) q h.1 (omega arith))
    tails q e (inr high) = sym (behind q high xs) ∙ same q ∙ ap (λ z. is_in (z ∷ ys) q) (sym e) ∙ behind q high ys

-- ---- the first and the last number taken out
kept_above : (xs : List ℕ) (b n : ℕ) → n < b → RisesFrom b xs → without_number xs n ≡ xs
kept_above [] b n lt h = refl
kept_above (x ∷ xs) b n lt h =
    let over : b ≤ x = h.0 in
    let other : nat_eq x n ≡ false = grind (arith, nat_tests) in
    rw other (ap (λ ys. x ∷ ys) (kept_above xs (x + 1) n (omega arith) h.1))

pub first_out : (xs : List ℕ) (n b : ℕ) → RisesFrom b xs → first xs ≡ Some n → xs ≡ n ∷ without_number xs n
first_out [] n b h e = cc
first_out (x ∷ xs) n b h e =
    let is : x ≡ n = cc in
    let same : nat_eq x n ≡ true = grind (arith, nat_tests) in
    rw same (λ i. is i ∷ sym (kept_above xs (x + 1) n (omega arith) h.1) i)

last_from : (xs : List ℕ) (n b : ℕ) → RisesFrom b xs → last xs ≡ Some n → b ≤ n
last_from [] n b h e = cc
last_from (x ∷ []) n b h e = let is : x ≡ n = cc in omega (arith, h.0)
last_from (x ∷ y ∷ ys) n b h e = let le : x + 1 ≤ n = last_from (y ∷ ys) n (x + 1) h.1 e in omega (arith, h.0)

pub last_out : (xs : List ℕ) (n b : ℕ) → RisesFrom b xs → last xs ≡ Some n → xs ≡ without_number xs n ++ n ∷ []
last_out [] n b h e = cc
last_out (x ∷ []) n b h e =
    let is : x ≡ n = cc in
    let same : nat_eq x n ≡ true = grind (arith, nat_tests) in
    rw same (λ i. is i ∷ [])
last_out (x ∷ y ∷ ys) n b h e =
    let rest = last_out (y ∷ ys) n (x + 1) h.1 e in
    let over : x + 1 ≤ n = last_from (y ∷ ys) n (x + 1) h.1 e in
    let other : nat_eq x n ≡ false = grind (arith, nat_tests) in
    rw other (ap (λ zs. x ∷ zs) rest)

pub first_none : (xs : List ℕ) → first xs ≡ None → xs ≡ []
first_none [] e = refl
first_none (x ∷ xs) e = cc

pub last_none : (xs : List ℕ) → last xs ≡ None → xs ≡ []
last_none [] e = refl
last_none (x ∷ []) e = cc
last_none (x ∷ y ∷ ys) e = absurd (nil_not ys (last_none (y ∷ ys) e))
  where
    nil_not : (zs : List ℕ) → (y ∷ zs) ≡ [] → ⊥
    nil_not zs e = cc

-- ---- how many numbers a rising list has
pub length-rising : (xs : List ℕ) (b limit : ℕ) → b ≤ limit → RisesFrom b xs → AreBelow limit xs → length xs + b ≤ limit
length-rising [] b limit le h below = omega arith
length-rising (x ∷ xs) b limit le h below =
    let rest : length xs + (x + 1) ≤ limit = length-rising xs (x + 1) limit (omega (arith, below.0)) h.1 below.1 in
    omega (arith, h.0)
