-- The descriptors of a set, as its word changes.
use Rattle.std.proofs.Common.{◌≡◌, ℕ, ◌+◌, ◌^◌, ◌<◌, ◌≤◌, Bool, true, false, ◌&&◌, ◌||◌, nat_eq, nat_lt, List, [], ◌∷◌, ◌++◌, filter, refl, sym, ◌∙◌, ap, arith}
use Rattle.std.specs.Prelude.{bytes_eq, ◌↔◌}
use Rattle.std.specs.Cmp.{both_ways}
use Rattle.std.specs.Cmp.Lexicographic.{bytes_decides}
use Rattle.std.specs.List.{All}
use Rattle.std.proofs.lemmas.Bool.Decides.{nat_tests}
use Rattle.std.proofs.lemmas.List.Elements.{All-nil, All-cons}
use Rattle.listener_set.specs.Numbers.{numbers_below, is_in, with_number, RisesFrom, AreBelow}
use Rattle.listener_set.specs.NumberWordsLemmas.{is_in-filter_below, AreBelow-filter_below}
use Rattle.listener_set.specs.Descriptors.{IsDescriptor}
use Rattle.listener_set.specs.DescriptorSets.{is_bit, descriptors_in, with_descriptor, word_of, AreDescriptorNumbers}
use Rattle.listener_set.specs.DescriptorSetLemmas.{AreAllDescriptors, all_descriptors, is_bit-zero, is_bit-with_descriptor, is_in-descriptors_in, word_again}
use Rattle.listener_set.proofs.Rising.{RisesFrom-with_number, is_in-with_number, is_in-below, same_rising}
use Rattle.listener_set.proofs.NumberSets.{filter_below-same, RisesFrom-filter_below, none_kept}

raised : (fds : List ℕ) → RisesFrom 0 fds → AreAllDescriptors fds → RisesFrom 3 fds
raised [] h all = tt
raised (fd ∷ fds) h all = (all.0.0, h.1)

rising : (word : ℕ) → RisesFrom 0 (descriptors_in word)
unfolding descriptors_in
rising word = RisesFrom-filter_below (is_bit word) 67

below : (word : ℕ) → AreBelow 67 (descriptors_in word)
unfolding descriptors_in
below word = AreBelow-filter_below (is_bit word) 67 67 (omega arith)

pub are_descriptor_numbers : (word : ℕ) → AreDescriptorNumbers (descriptors_in word)
are_descriptor_numbers word = record { rising = raised _ (rising word) (all_descriptors word); below = below word }

pub descriptors_in-zero : descriptors_in 0 ≡ []
unfolding descriptors_in
descriptors_in-zero = filter_below-same (is_bit 0) (λ k. false) 67 (λ k _. is_bit-zero k) ∙ none_kept 67

-- ---- one descriptor put in
is_in_limit : (word q : ℕ) → is_in (descriptors_in word) q ≡ (is_bit word q && nat_lt q 67)
unfolding descriptors_in
is_in_limit word q = is_in-filter_below (is_bit word) 67 q

pub descriptors_in-with_descriptor : (word fd : ℕ) → 3 ≤ fd → fd < 67 → descriptors_in (with_descriptor word fd) ≡ with_number (descriptors_in word) fd
descriptors_in-with_descriptor word fd from less =
    same_rising _ _ 0 (rising (with_descriptor word fd)) (RisesFrom-with_number (descriptors_in word) fd 0 (omega arith) (rising word)) (λ q.
    is_in_limit (with_descriptor word fd) q
    ∙ ap (λ b. b && nat_lt q 67) (is_bit-with_descriptor word fd q from less)
    ∙ at (nat_eq fd q) (is_bit word q) (nat_lt q 67) (λ e. grind (arith, nat_tests))
    ∙ ap (λ b. nat_eq fd q || b) (sym (is_in_limit word q))
    ∙ sym (is_in-with_number (descriptors_in word) fd q))
  where
    at : (a b c : Bool) → (a ≡ true → c ≡ true) → ((a || b) && c) ≡ (a || (b && c))
    at true b c h = h refl
    at false b c h = refl

-- ---- the descriptors as numbers
pub none_low : (word : ℕ) → filter (is_in (descriptors_in word)) (numbers_below 3) ≡ []
none_low word =
    filter_below-same (is_in (descriptors_in word)) (λ k. false) 3 (λ k lt. is_in-below (descriptors_in word) 3 k (are_descriptor_numbers word).rising lt)
    ∙ none_kept 3

pub all_again : (word : ℕ) → filter (is_in (descriptors_in word)) (numbers_below 67) ≡ descriptors_in word
unfolding descriptors_in
all_again word = filter_below-same (is_in (descriptors_in word)) (is_bit word) 67 (λ k lt. is_in-descriptors_in word k lt)

-- ---- two sets are equal where their words are
pub same_word : (a b : ℕ) → a < 2 ^ 64 → b < 2 ^ 64 → nat_eq a b ≡ bytes_eq (descriptors_in a) (descriptors_in b)
same_word a b ha hb =
    let shown = bytes_decides (descriptors_in a) (descriptors_in b) in
    both_ways (nat_eq a b) (bytes_eq (descriptors_in a) (descriptors_in b)) (λ e. let same : a ≡ b = grind (arith, nat_tests) in shown.1 (ap descriptors_in same))
    (λ e. let same : a ≡ b = sym (word_again a ha) ∙ ap word_of (shown.0 e) ∙ word_again b hb in grind (arith, nat_tests))

-- the word of no descriptors is zero
pub none_in_zero : (word : ℕ) → word < 2 ^ 64 → (nat_eq word 0 ≡ true) ↔ (descriptors_in word ≡ [])
none_in_zero word fits = (
  λ yes. let zero : word ≡ 0 = grind (arith, nat_tests) in ap descriptors_in zero ∙ descriptors_in-zero,
  λ none. same_word word 0 fits (omega arith) ∙ ap (λ fds. bytes_eq fds (descriptors_in 0)) none ∙ ap (bytes_eq []) descriptors_in-zero,
)

-- ---- numbers that are all descriptors
pub all_of : (fds : List ℕ) → AreAllDescriptors fds → All IsDescriptor fds
all_of [] h = All-nil IsDescriptor
all_of (fd ∷ fds) h = All-cons IsDescriptor fd fds h.0 (all_of fds h.1)

over : (xs ys : List ℕ) (n b : ℕ) → RisesFrom b (xs ++ n ∷ ys) → b ≤ n
over [] ys n b h = h.0
over (x ∷ xs) ys n b h = let more : x + 1 ≤ n = over xs ys n (x + 1) h.1 in omega (arith, h.0)

-- what stands before a number of a rising list is below it
pub before : (xs ys : List ℕ) (n b : ℕ) → RisesFrom b (xs ++ n ∷ ys) → AreBelow n xs
before [] ys n b h = tt
before (x ∷ xs) ys n b h = (let more : x + 1 ≤ n = over xs ys n (x + 1) h.1 in omega arith, before xs ys n (x + 1) h.1)
