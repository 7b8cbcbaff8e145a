-- The places are given back by the list that stands in them.
use Rattle.std.proofs.Common.{◌≡◌, ℕ, ◌-◌, List, ◌++◌, length, take, replicate, arith, take-append-drop, length-take-le}
use Rattle.listener_set.specs.Padded.{IsPadded}

pub length-padded : {A : Type 0} {n : ℕ} {blank : A} {items : List A} {len : ℕ} → IsPadded n blank items len → length (take len items) ≡ len
length-padded {A} {n} {blank} {items} {len} h = length-take-le len items (omega (arith, h.size, h.fits))

pub padded_again : {A : Type 0} {n : ℕ} {blank : A} {items : List A} {len : ℕ} → IsPadded n blank items len → take len items ++ replicate (n - length (take len items)) blank ≡ items
padded_again {A} {n} {blank} {items} {len} h = rw (length-padded h, ← h.blanks) (take-append-drop len items)
