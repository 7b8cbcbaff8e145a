-- Slots, read and written by bits and numbers.
use Rattle.std.proofs.Common.{◌≡◌, ℕ, zero, suc, ◌+◌, ◌*◌, ◌/◌, ◌<◌, ◌==◌, Bool, true, false, cond, List, [], ◌∷◌, length, Option, Some, None, refl, sym, ◌∙◌, ap, inl, inr, arith, get_or}
use Rattle.std.specs.Prelude.{is_some}
use Rattle.std.proofs.lemmas.Bool.{cases_lt}
use Rattle.std.proofs.lemmas.Bool.Decides.{nat_tests}
use Rattle.std.proofs.lemmas.List.{length-map, get_or_past, ext_get_or}
use Rattle.std.proofs.lemmas.List.FromFn.{length-map-range_with_len, get_or-map-range_with_len}
use Rattle.std.proofs.lemmas.Nat.Bits.{bit_at_lowest, bit_at-suc, bit_at-zero, bit_at-lt, bit_at_above, same_from_bits}
use Rattle.std.specs.Int.{bit_at}
use Rattle.listener_set.specs.Slots.{slot_at, slots_in, AreSlots, bits_of, number_in, numbers_in}

pub length-slots_in : (taken : ℕ) (sockets : List ℕ) → length (slots_in taken sockets) ≡ 64
unfolding slots_in
length-slots_in taken sockets = length-map-range_with_len (slot_at taken sockets) 0 64

pub get_or-slots_in : (taken : ℕ) (sockets : List ℕ) (k : ℕ) → k < 64 → get_or (slots_in taken sockets) k None ≡ slot_at taken sockets k
unfolding slots_in
get_or-slots_in taken sockets k lt = get_or-map-range_with_len (slot_at taken sockets) 0 64 k k None lt (omega arith)

---- One bit

not_one : (b : ℕ) → b < 2 → (b == 1) ≡ false → b ≡ 0
not_one b lt e = grind (arith, nat_tests)

pub is_taken : (taken : ℕ) (sockets : List ℕ) (k : ℕ) → is_some (slot_at taken sockets k) ≡ (bit_at taken k == 1)
is_taken taken sockets k = go (bit_at taken k == 1)
  where
    go : (b : Bool) → is_some (cond b (Some (get_or sockets k 0)) None) ≡ b
    go true = refl
    go false = refl

abbrev bit_for : Bool → ℕ
bit_for true = 1
bit_for false = 0

bit-bits_of : (slots : List (Option ℕ)) (i : ℕ) → bit_at (bits_of slots) i ≡ bit_for (is_some (get_or slots i None))
unfolding bits_of
bit-bits_of [] i = bit_at-zero i
bit-bits_of (None ∷ slots) zero = bit_at_lowest (bits_of slots * 2) ∙ omega arith
bit-bits_of (Some s ∷ slots) zero = bit_at_lowest (bits_of slots * 2 + 1) ∙ omega arith
bit-bits_of (None ∷ slots) (suc i) =
    let half : bits_of slots * 2 / 2 ≡ bits_of slots = omega arith in
    bit_at-suc (bits_of slots * 2) i ∙ ap (λ n. bit_at n i) half ∙ bit-bits_of slots i
bit-bits_of (Some s ∷ slots) (suc i) =
    let half : (bits_of slots * 2 + 1) / 2 ≡ bits_of slots = omega arith in
    bit_at-suc (bits_of slots * 2 + 1) i ∙ ap (λ n. bit_at n i) half ∙ bit-bits_of slots i

bit_of_test : (b : ℕ) → b < 2 → bit_for (b == 1) ≡ b
bit_of_test zero lt = refl
bit_of_test (suc zero) lt = refl
bit_of_test (suc (suc b)) lt = absurd (omega arith)

---- What was there is given back

pub taken_again : (taken : ℕ) (sockets : List ℕ) → AreSlots taken sockets → bits_of (slots_in taken sockets) ≡ taken
taken_again taken sockets h = same_from_bits _ _ (λ i. elim (cases_lt i 64) [
  | inl lt ↦
      bit-bits_of (slots_in taken sockets) i
      ∙ ap (λ o. bit_for (is_some o)) (get_or-slots_in taken sockets i lt)
      ∙ ap bit_for (is_taken taken sockets i)
      ∙ bit_of_test (bit_at taken i) (bit_at-lt taken i)
  | inr over ↦
      bit-bits_of (slots_in taken sockets) i
      ∙ ap (λ o. bit_for (is_some o)) (get_or_past (slots_in taken sockets) i None (omega (arith, length-slots_in taken sockets)))
      ∙ sym (bit_at_above taken 64 i h.fits over)
])

number_again : (taken : ℕ) (sockets : List ℕ) → AreSlots taken sockets → (k : ℕ) → k < 64 → number_in (slot_at taken sockets k) ≡ get_or sockets k 0
number_again taken sockets h k lt = go (bit_at taken k == 1) refl
  where
    go : (b : Bool) → (bit_at taken k == 1) ≡ b → number_in (cond b (Some (get_or sockets k 0)) None) ≡ get_or sockets k 0
    go true e = refl
    go false e = sym (h.clear k lt (not_one (bit_at taken k) (bit_at-lt taken k) e))

get_or-numbers_in : (slots : List (Option ℕ)) (k : ℕ) → k < length slots → get_or (numbers_in slots) k 0 ≡ number_in (get_or slots k None)
unfolding numbers_in
get_or-numbers_in [] k lt = absurd (omega arith)
get_or-numbers_in (o ∷ slots) zero lt = refl
get_or-numbers_in (o ∷ slots) (suc k) lt = get_or-numbers_in slots k (omega arith)

length-numbers_in : (slots : List (Option ℕ)) → length (numbers_in slots) ≡ length slots
unfolding numbers_in
length-numbers_in slots = length-map slots number_in

pub sockets_again : (taken : ℕ) (sockets : List ℕ) → AreSlots taken sockets → numbers_in (slots_in taken sockets) ≡ sockets
sockets_again taken sockets h =
    let slots = slots_in taken sockets in
    ext_get_or 0 (numbers_in slots) sockets (length-numbers_in slots ∙ length-slots_in taken sockets ∙ sym h.count) (λ k lt.
    let small : k < 64 = omega (arith, lt, length-numbers_in slots, length-slots_in taken sockets) in
    get_or-numbers_in slots k (omega (arith, small, length-slots_in taken sockets))
    ∙ ap number_in (get_or-slots_in taken sockets k small)
    ∙ number_again taken sockets h k small)
