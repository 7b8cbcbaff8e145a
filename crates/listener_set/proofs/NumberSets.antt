-- The numbers of a set, as its words change.
use Rattle.std.proofs.Common.{◌≡◌, ℕ, zero, suc, ◌+◌, ◌<◌, ◌≤◌, Bool, true, false, cond, not, ◌&&◌, ◌||◌, nat_eq, nat_lt, List, [], ◌∷◌, ◌++◌, length, filter, refl, sym, ◌∙◌, ap, arith, append-nil, add-one, subst}
use Rattle.std.specs.Prelude.{bytes_eq}
use Rattle.std.specs.Cmp.{both_ways}
use Rattle.std.specs.Cmp.Lexicographic.{bytes_decides}
use Rattle.std.proofs.lemmas.Bool.Decides.{nat_tests}
use Rattle.std.proofs.lemmas.List.Elements.{filter-append}
use Rattle.listener_set.specs.Numbers.{numbers_below, is_in, with_number, without_number, lacks, RisesFrom, AreBelow, AreNumbers}
use Rattle.listener_set.specs.NumberWords.{has_bit, numbers_of, words_of, with_bit, AreWords}
use Rattle.listener_set.specs.NumberWordsLemmas.{words_again, is_in-filter_below, AreBelow-filter_below, AreBelow-append, has_bit-with_bit, is_in-numbers_of, AreBelow-numbers_of}
use Rattle.listener_set.proofs.Rising.{RisesFrom-push, RisesFrom-with_number, is_in-with_number, with_number-above, same_rising, length-rising}
use Rattle.listener_set.proofs.NumberBits.{without_bit, has_bit-without_bit, AreCleared, has_bit-cleared}

-- ---- filters of the numbers below n
pub filter-filter : {A : Type 0} (p q : A → Bool) (xs : List A) → filter p (filter q xs) ≡ filter (λ x. q x && p x) xs
filter-filter p q [] = refl
filter-filter p q (x ∷ xs) = at (q x) (p x) (filter-filter p q xs)
  where
    at : (a b : Bool) → filter p (filter q xs) ≡ filter (λ x. q x && p x) xs → filter p (cond a (x ∷ filter q xs) (filter q xs)) ≡ cond (a && p x) (x ∷ filter (λ x. q x && p x) xs) (filter (λ x. q x && p x) xs)
    at true b ih = ap (λ ys. cond (p x) (x ∷ ys) ys) ih
    at false b ih = ih

pub filter_below-same : (p q : ℕ → Bool) (n : ℕ) → ((k : ℕ) → k < n → p k ≡ q k) → filter p (numbers_below n) ≡ filter q (numbers_below n)
filter_below-same p q zero h = refl
filter_below-same p q (suc n) h =
    filter-append p (numbers_below n) (n ∷ [])
    ∙ ap (λ l. l ++ filter p (n ∷ [])) (filter_below-same p q n (λ k lt. h k (omega (arith, lt))))
    ∙ ap (λ b. filter q (numbers_below n) ++ cond b (n ∷ []) []) (h n (omega arith))
    ∙ sym (filter-append q (numbers_below n) (n ∷ []))

pub RisesFrom-filter_below : (p : ℕ → Bool) (n : ℕ) → RisesFrom 0 (filter p (numbers_below n))
RisesFrom-filter_below p zero = tt
RisesFrom-filter_below p (suc n) =
    subst (RisesFrom 0) (sym (filter-append p (numbers_below n) (n ∷ []))) (at (p n) (RisesFrom-filter_below p n))
  where
    at : (b : Bool) → RisesFrom 0 (filter p (numbers_below n)) → RisesFrom 0 (filter p (numbers_below n) ++ cond b (n ∷ []) [])
    at true h = RisesFrom-push _ n 0 (omega arith) (AreBelow-filter_below p n n (omega arith)) h
    at false h = subst (RisesFrom 0) (sym (append-nil (filter p (numbers_below n)))) h

pub are_numbers : (words : List ℕ) → AreNumbers 1024 (numbers_of words)
unfolding numbers_of
are_numbers words = record { rising = RisesFrom-filter_below (has_bit words) 1024; below = AreBelow-numbers_of words }

pub length-numbers : (ns : List ℕ) (limit : ℕ) → AreNumbers limit ns → length ns ≤ limit
length-numbers ns limit h = let le : length ns + 0 ≤ limit = length-rising ns 0 limit (omega arith) h.rising h.below in omega arith

pub none_kept : (n : ℕ) → filter (λ k. false) (numbers_below n) ≡ []
none_kept zero = refl
none_kept (suc n) = filter-append (λ k. false) (numbers_below n) (n ∷ []) ∙ ap (λ l. l ++ []) (none_kept n)

pub numbers_of-none : (words : List ℕ) → ((k : ℕ) → k < 1024 → has_bit words k ≡ false) → numbers_of words ≡ []
unfolding numbers_of
numbers_of-none words none = filter_below-same (has_bit words) (λ k. false) 1024 none ∙ none_kept 1024

-- ---- one number put in, and one taken out
is_in_limit : (words : List ℕ) (q : ℕ) → is_in (numbers_of words) q ≡ (has_bit words q && nat_lt q 1024)
unfolding numbers_of
is_in_limit words q = is_in-filter_below (has_bit words) 1024 q

pub numbers_of-with_bit : (words : List ℕ) (n : ℕ) → n < 1024 → AreWords words → numbers_of (with_bit words n) ≡ with_number (numbers_of words) n
numbers_of-with_bit words n lt h =
    same_rising _ _ 0 (are_numbers (with_bit words n)).rising (RisesFrom-with_number (numbers_of words) n 0 (omega arith) (are_numbers words).rising) (λ q.
    is_in_limit (with_bit words n) q
    ∙ ap (λ b. b && nat_lt q 1024) (has_bit-with_bit words n q (omega (arith, h.count)))
    ∙ at (nat_eq n q) (nat_eq q n) (has_bit words q) (nat_lt q 1024) (turned q n) (λ e. grind (arith, nat_tests))
    ∙ ap (λ b. nat_eq n q || b) (sym (is_in_limit words q))
    ∙ sym (is_in-with_number (numbers_of words) n q))
  where
    turned : (a b : ℕ) → nat_eq a b ≡ nat_eq b a
    turned a b = grind (arith, nat_tests)

    at : (a b c d : Bool) → b ≡ a → (a ≡ true → d ≡ true) → ((b || c) && d) ≡ (a || (c && d))
    at true b c d e h = rw (e, h refl) refl
    at false b c d e h = rw e refl

pub numbers_of-without_bit : (words : List ℕ) (n : ℕ) → n < 1024 → AreWords words → numbers_of (without_bit words n) ≡ without_number (numbers_of words) n
unfolding numbers_of
numbers_of-without_bit words n lt h =
    filter_below-same (has_bit (without_bit words n)) (λ q. has_bit words q && not (nat_eq q n)) 1024 (λ q _. has_bit-without_bit words n q (omega (arith, h.count)))
    ∙ sym (filter-filter (λ q. not (nat_eq q n)) (has_bit words) (numbers_below 1024))

-- ---- the numbers that another set lacks
pub numbers_of-cleared : (words others now : List ℕ) (i : ℕ) → i ≡ 16 → AreWords others → AreCleared words others now i → numbers_of now ≡ lacks (numbers_of words) (numbers_of others)
unfolding numbers_of
numbers_of-cleared words others now i e are h =
    let all : AreCleared words others now 16 = subst (AreCleared words others now) e h in
    filter_below-same (has_bit now) (λ q. has_bit words q && not (is_in (numbers_of others) q)) 1024 (λ q lt. has_bit-cleared words others now are all q lt ∙ ap (λ b. has_bit words q && not b) (sym (is_in-numbers_of others q lt)))
    ∙ sym (filter-filter (λ q. not (is_in (numbers_of others) q)) (has_bit words) (numbers_below 1024))

-- ---- one number above all others
AreBelow-numbers_below : (limit n : ℕ) → n ≤ limit → AreBelow limit (numbers_below n)
AreBelow-numbers_below limit zero le = tt
AreBelow-numbers_below limit (suc n) le = AreBelow-append limit (numbers_below n) (n ∷ []) (AreBelow-numbers_below limit n (omega arith)) (omega arith, tt)

pub numbers_below-more : (n : ℕ) → with_number (numbers_below n) n ≡ numbers_below (n + 1)
numbers_below-more n = with_number-above (numbers_below n) n (AreBelow-numbers_below n n (omega arith)) ∙ rw add-one refl

-- the numbers below n that pass a test, as the next one is seen to
pub filter_below-more : (p : ℕ → Bool) (n : ℕ) (b : Bool) → p n ≡ b → filter p (numbers_below (n + 1)) ≡ cond b (with_number (filter p (numbers_below n)) n) (filter p (numbers_below n))
filter_below-more p n b e =
    let next : n + 1 ≡ suc n = omega arith in
    ap (λ k. filter p (numbers_below k)) next ∙ filter-append p (numbers_below n) (n ∷ []) ∙ ap (λ x. filter p (numbers_below n) ++ cond x (n ∷ []) []) e ∙ at b
  where
    at : (x : Bool) → filter p (numbers_below n) ++ cond x (n ∷ []) [] ≡ cond x (with_number (filter p (numbers_below n)) n) (filter p (numbers_below n))
    at true = sym (with_number-above (filter p (numbers_below n)) n (AreBelow-filter_below p n n (omega arith)))
    at false = append-nil (filter p (numbers_below n))

-- ---- two sets are equal where their words are

pub same_words : (a b : List ℕ) → AreWords a → AreWords b → bytes_eq a b ≡ bytes_eq (numbers_of a) (numbers_of b)
same_words a b ha hb =
    let told = bytes_decides a b in
    let shown = bytes_decides (numbers_of a) (numbers_of b) in
    both_ways (bytes_eq a b) (bytes_eq (numbers_of a) (numbers_of b)) (λ e. shown.1 (ap numbers_of (told.0 e)))
    (λ e. told.1 (sym (words_again a ha) ∙ ap words_of (shown.0 e) ∙ words_again b hb))
