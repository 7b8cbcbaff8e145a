-- Slots that are written.
use Rattle.std.proofs.Common.{◌≡◌, ◌≢◌, ℕ, ◌-◌, ◌*◌, ◌%◌, ◌^◌, ◌<◌, List, length, Option, Some, None, refl, sym, ◌∙◌, ap, inl, inr, arith, get_or, slice_set, bit_or, bit_and, w64}
use Rattle.std.specs.Prelude.{replicate}
use Rattle.std.proofs.lemmas.Bool.Decides.{eqb_tells}
use Rattle.std.proofs.lemmas.List.{length-set, get_or-set_same, get_or-set_other, get_or-replicate, ext_get_or}
use Rattle.std.proofs.lemmas.Nat.{or_lt, and_le_l}
use Rattle.std.proofs.lemmas.Nat.Bits.{bit_at-zero, bit_at_set_same, bit_at_set_other, bit_at_clear_same, bit_at_clear_other}
use Rattle.std.specs.Int.{bit_at}
use Rattle.listener_set.specs.Slots.{slot_at, slots_in, AreSlots}
use Rattle.listener_set.specs.SlotLemmas.{length-slots_in, get_or-slots_in}

abbrev pub with_bit : ℕ → ℕ → ℕ
with_bit taken p = bit_or taken (1 * 2 ^ p % 2 ^ 64)

abbrev pub without_bit : ℕ → ℕ → ℕ
without_bit taken p = bit_and taken (2 ^ 64 - 1 - 1 * 2 ^ p % 2 ^ 64)

-- slots that differ at one place alone
differs : (taken more : ℕ) (sockets others : List ℕ) (p : ℕ) (slot : Option ℕ) → p < 64 → slot_at more others p ≡ slot → ((k : ℕ) → k < 64 → k ≢ p → slot_at more others k ≡ slot_at taken sockets k) → slots_in more others ≡ slice_set (slots_in taken sockets) p slot
differs taken more sockets others p slot lt here there =
    let slots = slots_in taken sockets in
    ext_get_or None (slots_in more others) (slice_set slots p slot) (length-slots_in more others ∙ sym (length-slots_in taken sockets) ∙ sym (length-set slots p slot)) (λ k less.
    let small : k < 64 = omega (arith, less, length-slots_in more others) in
    get_or-slots_in more others k small
    ∙ elim (eqb_tells k p) [
      | inl e ↦ ap (slot_at more others) e.1 ∙ here ∙ sym (ap (λ j. get_or (slice_set slots p slot) j None) e.1 ∙ get_or-set_same slots p slot None (omega (arith, length-slots_in taken sockets)))
      | inr e ↦ there k small e.1 ∙ sym (get_or-set_other slots p k slot None e.1 ∙ get_or-slots_in taken sockets k small)
    ])

---- A socket is put

pub put_slot : (taken : ℕ) (sockets : List ℕ) (p s : ℕ) → AreSlots taken sockets → p < 64 → slots_in (with_bit taken p) (slice_set sockets p s) ≡ slice_set (slots_in taken sockets) p (Some s)
put_slot taken sockets p s h lt =
    differs taken (with_bit taken p) sockets (slice_set sockets p s) p (Some s) lt
    (rw (bit_at_set_same w64 taken p lt, get_or-set_same sockets p s 0 (omega (arith, h.count))) refl)
    (λ k small ne. rw (bit_at_set_other w64 taken p lt k ne, get_or-set_other sockets p k s 0 ne) refl)

pub put-slots : (taken : ℕ) (sockets : List ℕ) (p s : ℕ) → AreSlots taken sockets → p < 64 → AreSlots (with_bit taken p) (slice_set sockets p s)
put-slots taken sockets p s h lt = record {
  fits = or_lt 64 taken (1 * 2 ^ p % 2 ^ 64) h.fits (omega arith);
  count = length-set sockets p s ∙ h.count;
  clear = λ k small none. elim (eqb_tells k p) [
    | inl e ↦ absurd (let set : bit_at (with_bit taken p) k ≡ 1 = ap (bit_at (with_bit taken p)) e.1 ∙ bit_at_set_same w64 taken p lt in omega (arith, set, none))
    | inr e ↦ get_or-set_other sockets p k s 0 e.1 ∙ h.clear k small (sym (bit_at_set_other w64 taken p lt k e.1) ∙ none)
  ];
}

---- A place is cleared

pub clear_slot : (taken : ℕ) (sockets : List ℕ) (p : ℕ) → AreSlots taken sockets → p < 64 → slots_in (without_bit taken p) (slice_set sockets p 0) ≡ slice_set (slots_in taken sockets) p None
clear_slot taken sockets p h lt =
    differs taken (without_bit taken p) sockets (slice_set sockets p 0) p None lt
    (rw (bit_at_clear_same w64 taken p lt) refl)
    (λ k small ne. rw (bit_at_clear_other w64 taken p lt k small ne, get_or-set_other sockets p k 0 0 ne) refl)

pub clear-slots : (taken : ℕ) (sockets : List ℕ) (p : ℕ) → AreSlots taken sockets → p < 64 → AreSlots (without_bit taken p) (slice_set sockets p 0)
clear-slots taken sockets p h lt = record {
  fits = omega (arith, h.fits, and_le_l taken (2 ^ 64 - 1 - 1 * 2 ^ p % 2 ^ 64));
  count = length-set sockets p 0 ∙ h.count;
  clear = λ k small none. elim (eqb_tells k p) [
    | inl e ↦ ap (λ j. get_or (slice_set sockets p 0) j 0) e.1 ∙ get_or-set_same sockets p 0 0 (omega (arith, h.count))
    | inr e ↦ get_or-set_other sockets p k 0 0 e.1 ∙ h.clear k small (sym (bit_at_clear_other w64 taken p lt k small e.1) ∙ none)
  ];
}

---- No place is taken

pub none-slots : (sockets : List ℕ) → length sockets ≡ 64 → ((k : ℕ) → k < 64 → get_or sockets k 0 ≡ 0) → AreSlots 0 sockets
none-slots sockets count zeros = record { fits = omega arith; count = count; clear = λ k lt e. zeros k lt }

pub none_slot : (sockets : List ℕ) → slots_in 0 sockets ≡ replicate 64 None
none_slot sockets =
    ext_get_or None (slots_in 0 sockets) (replicate 64 None) (length-slots_in 0 sockets) (λ k less.
    let small : k < 64 = omega (arith, less, length-slots_in 0 sockets) in
    get_or-slots_in 0 sockets k small ∙ rw (bit_at-zero k) (sym (get_or-replicate 64 k None None small)))
