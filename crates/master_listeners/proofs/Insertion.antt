-- A value written behind the first `len` items, and turned to its place.
use Rattle.std.proofs.Common.{◌≡◌, ℕ, ◌+◌, ◌-◌, ◌<◌, ◌≤◌, List, [], ◌∷◌, ◌++◌, length, set, take, drop, refl, sym, ap, ◌∙◌, arith}
use Rattle.std.proofs.lemmas.List.{take-take, take-set-le, take_more_set, drop-append-le, drop_at, take_at}
use Rattle.std.proofs.lemmas.List.{length-append, length-drop, length-take-le, length-set, drop-set-lt}
use Rattle.std.proofs.lemmas.Slice.{between_is, take-put_mid, drop-put_mid}
use Rattle.std.specs.Prelude.{insert}
use Rattle.std.proofs.lemmas.List.{take-append-drop}
use Rattle.std.proofs.lemmas.List.Edits.{length-insert}
use borrow.Rule.Slice.PartMut.{put_mid}

module _ {X : Type 0} (items : List X) (len place : ℕ) (x : X) (fits : len < length items) (within : place ≤ len) where
  front : List X
  front = drop place (take len items)

  tail_is : take (len + 1 - place) (drop place (set items len x)) ≡ front ++ x ∷ []
  unfolding front
  tail_is =
      between_is (set items len x) place (len + 1)
      ∙ ap (drop place) (take_more_set items len x fits)
      ∙ drop-append-le place (take len items) (x ∷ []) (omega (arith, length-take-le len items (omega arith)))

  length-front : length front ≡ len - place
  unfolding front
  length-front = length-drop place (take len items) ∙ ap (λ n. n - place) (length-take-le len items (omega arith))

  turn : (old : List X) → old ≡ front ++ x ∷ [] → drop (length old - 1) old ++ take (length old - 1) old ≡ x ∷ front
  turn old e =
      let n : length old - 1 ≡ length front = omega (arith, ap length e, length-append front (x ∷ [])) in
      rw (n, e) (rw (drop_at front (x ∷ []) (length front) refl, take_at front (x ∷ []) (length front) refl) refl)

  module _ (new : List X) (turned : new
      ≡ drop (length (take (len + 1 - place) (drop place (set items len x))) - 1)
      (take (len + 1 - place) (drop place (set items len x))) ++ take
      (length (take (len + 1 - place) (drop place (set items len x))) - 1)
      (take (len + 1 - place) (drop place (set items len x)))) where
    new_is : new ≡ x ∷ front
    new_is = turned ∙ turn _ tail_is

    length-new : length new ≡ len + 1 - place
    length-new = let n = ap length new_is in omega (arith, n, length-front)

    pub take-inserted : take (len + 1) (put_mid place (len + 1 - place) (set items len x) new) ≡ insert (take len items) place x
    unfolding front
    take-inserted =
        take-put_mid place (len + 1 - place) (set items len x) new (len + 1) (omega (arith, length-new)) (omega (arith, length-set items len x))
        ∙ ap (λ ys. take place (set items len x) ++ ys) new_is
        ∙ ap (λ ys. ys ++ x ∷ drop place (take len items)) (take-set-le place items len x within ∙ sym (take-take place len items within))

    pub drop-inserted : drop (len + 1) (put_mid place (len + 1 - place) (set items len x) new) ≡ drop (len + 1) items
    drop-inserted =
        drop-put_mid place (len + 1 - place) (set items len x) new (len + 1) (omega arith) (omega (arith, length-set items len x)) length-new
        ∙ drop-set-lt (len + 1) items len x (omega arith)

    pub length-inserted : length (put_mid place (len + 1 - place) (set items len x) new) ≡ length items
    length-inserted =
        let all : List X = put_mid place (len + 1 - place) (set items len x) new in
        omega (arith, ap length (take-append-drop (len + 1) all), length-append (take (len + 1) all) (drop (len + 1) all), ap length take-inserted, ap length drop-inserted, length-drop (len + 1) items, length-insert (take len items) place x (omega (arith, length-take-le len items (omega arith))), length-take-le len items (omega arith))
