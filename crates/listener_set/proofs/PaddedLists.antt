-- Padded lists, as a call fills their next place.
use Rattle.std.proofs.Common.{◌≡◌, ℕ, ◌+◌, ◌-◌, ◌<◌, List, drop, set, replicate, sym, ap, ◌∙◌, arith}
use Rattle.std.proofs.lemmas.List.{drop-drop, drop-replicate, drop-set-lt, length-replicate, length-set}
use Rattle.listener_set.specs.Padded.{IsPadded}

pub none-padded : {A : Type 0} (n : ℕ) (blank : A) → IsPadded n blank (replicate n blank) 0
none-padded n blank = record { size = length-replicate n blank; fits = omega arith; blanks = ap (λ k. replicate k blank) (omega arith) }

-- the blanks that are left behind the next place
pub blanks-left : {A : Type 0} {n : ℕ} {blank : A} {items : List A} {len : ℕ} → IsPadded n blank items len → drop (len + 1) items ≡ replicate (n - (len + 1)) blank
blanks-left {A} {n} {blank} {items} {len} h =
    sym (drop-drop 1 len items) ∙ ap (drop 1) h.blanks ∙ drop-replicate 1 (n - len) blank ∙ ap (λ k. replicate k blank) (omega arith)

pub set-padded : {A : Type 0} {n : ℕ} {blank : A} {items : List A} {len : ℕ} (x : A) → IsPadded n blank items len → len < n → IsPadded n blank (set items len x) (len + 1)
set-padded {A} {n} {blank} {items} {len} x h lt = record {
  size = length-set items len x ∙ h.size;
  fits = omega arith;
  blanks = drop-set-lt (len + 1) items len x (omega arith) ∙ blanks-left h;
}
