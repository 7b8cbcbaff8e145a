-- The slots of a table are given back by its pairs.
use Rattle.std.proofs.Common.{◌≡◌, ℕ, suc, zero, ◌+◌, ◌<◌, true, false, nat_eq, List, [], ◌∷◌, length, get_or, Option, Some, None, refl, sym, ◌∙◌, arith}
use Rattle.std.proofs.lemmas.Bool.Decides.{nat_tests}
use Rattle.std.proofs.lemmas.List.{same_lists, get_or_default}
use Rattle.std.proofs.lemmas.List.FromFn.{length-map-range_with_len, get_or-map-range_with_len}
use Rattle.listener_set.specs.Descriptors.{socket_of, pairs_of, slots_of}

-- nothing stands before the first slot
pub socket_of-before : (n : ℕ) (slots : List (Option ℕ)) (q : ℕ) → q < n → socket_of (pairs_of n slots) q ≡ None
unfolding pairs_of
socket_of-before n [] q lt = refl
socket_of-before n (None ∷ slots) q lt = socket_of-before (n + 1) slots q (omega arith)
socket_of-before n (Some s ∷ slots) q lt =
    let other : nat_eq n q ≡ false = grind (arith, nat_tests) in
    rw other (socket_of-before (n + 1) slots q (omega arith))

-- what stands under a descriptor is what its slot has
pub socket_of-pairs_of : (n : ℕ) (slots : List (Option ℕ)) (i : ℕ) → socket_of (pairs_of n slots) (n + i) ≡ get_or slots i None
unfolding pairs_of
socket_of-pairs_of n [] i = refl
socket_of-pairs_of n (None ∷ slots) zero = socket_of-before (n + 1) slots (n + 0) (omega arith)
socket_of-pairs_of n (None ∷ slots) (suc i) = let e : n + suc i ≡ n + 1 + i = omega arith in rw e (socket_of-pairs_of (n + 1) slots i)
socket_of-pairs_of n (Some s ∷ slots) zero = let same : nat_eq n (n + 0) ≡ true = grind (arith, nat_tests) in rw same refl
socket_of-pairs_of n (Some s ∷ slots) (suc i) =
    let other : nat_eq n (n + suc i) ≡ false = grind (arith, nat_tests) in
    let e : n + suc i ≡ n + 1 + i = omega arith in
    rw (other, e) (socket_of-pairs_of (n + 1) slots i)

pub slots_of-pairs_of : (slots : List (Option ℕ)) → length slots ≡ 64 → slots_of (pairs_of 3 slots) ≡ slots
unfolding slots_of
slots_of-pairs_of slots h =
    let f : ℕ → Option ℕ = λ i. socket_of (pairs_of 3 slots) (3 + i) in
    same_lists _ _ (length-map-range_with_len f 0 64 ∙ sym h) (λ k d lt.
    let small : k < 64 = omega (arith, length-map-range_with_len f 0 64) in
    get_or-map-range_with_len f 0 64 k k d small (omega arith) ∙ socket_of-pairs_of 3 slots k ∙ get_or_default slots k None d (omega arith))
