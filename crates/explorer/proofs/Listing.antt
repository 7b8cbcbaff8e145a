-- Lists that are made one item at a time.
use Rattle.std.proofs.Common.{◌≡◌, ◌≤◌, ◌<◌, ◌+◌, ℕ, zero, suc, Bool, true, false, cond, List, [], ◌∷◌, ◌++◌, Option}
use Rattle.std.proofs.Common.{Some, None, map, length, drop, get_or, slice_get, refl, ap, sym, ◌∙◌, arith}
use Rattle.std.specs.List.{filter, filter_map, cons_option}
use Rattle.std.proofs.lemmas.List.{drop_more, drop_all, append_assoc, append-nil}
use Rattle.std.proofs.lemmas.Option.{get_or_from_slice_get, slice_get_within}

pub drop_at : {X : Type 0} (xs : List X) (i : ℕ) (x : X) → slice_get xs i ≡ Some x → drop i xs ≡ x ∷ drop (i + 1) xs
drop_at xs i x e = drop_more xs i x (slice_get_within xs i x e) ∙ ap (λ y. y ∷ drop (i + 1) xs) (get_or_from_slice_get xs i x x e)

pub past : {X : Type 0} (xs : List X) (i : ℕ) → slice_get xs i ≡ None → length xs ≤ i
past [] i e = omega arith
past (x ∷ xs) zero e = cc
past (x ∷ xs) (suc i) e = omega (arith, past xs i e)

module _ {X Y : Type 0} (h : X → Option Y) (xs : List X) where
  -- an item that gives one
  pub one-added : (i : ℕ) (x : X) (y : Y) (done next all : List Y) → slice_get xs i ≡ Some x → h x ≡ Some y → next ≡ done ++ y ∷ [] →
      done ++ filter_map h (drop i xs) ≡ all → next ++ filter_map h (drop (i + 1) xs) ≡ all
  one-added i x y done next all at gives added is =
      ap (λ ys. ys ++ filter_map h (drop (i + 1) xs)) added
      ∙ append_assoc done (y ∷ []) (filter_map h (drop (i + 1) xs))
      ∙ sym (ap (λ zs. done ++ filter_map h zs) (drop_at xs i x at) ∙ ap (λ (o : Option Y). done ++ cons_option o (filter_map h (drop (i + 1) xs))) gives)
      ∙ is

  -- an item that gives none
  pub none-added : (i : ℕ) (x : X) (done all : List Y) → slice_get xs i ≡ Some x → h x ≡ None →
      done ++ filter_map h (drop i xs) ≡ all → done ++ filter_map h (drop (i + 1) xs) ≡ all
  none-added i x done all at gives is =
      sym (ap (λ zs. done ++ filter_map h zs) (drop_at xs i x at) ∙ ap (λ (o : Option Y). done ++ cons_option o (filter_map h (drop (i + 1) xs))) gives)
      ∙ is

  pub all-added : (i : ℕ) (done all : List Y) → slice_get xs i ≡ None → done ++ filter_map h (drop i xs) ≡ all → done ≡ all
  all-added i done all at is = sym (append-nil done) ∙ sym (ap (λ zs. done ++ filter_map h zs) (drop_all i xs (past xs i at))) ∙ is

module _ {X Y : Type 0} (make : X → Y) (test : X → Bool) (xs : List X) where
  -- the next item of those that pass the test
  pub passes-next : (i : ℕ) (d : X) (b : Bool) (done next all : List Y) → i < length xs → b ≡ test (get_or xs i d) →
      next ≡ done ++ cond b (make (get_or xs i d) ∷ []) [] →
      done ++ map make (filter test (drop i xs)) ≡ all → next ++ map make (filter test (drop (i + 1) xs)) ≡ all
  passes-next i d b done next all within tested added is =
      ap (λ ys. ys ++ map make (filter test (drop (i + 1) xs))) added
      ∙ append_assoc done (cond b (make (get_or xs i d) ∷ []) []) (map make (filter test (drop (i + 1) xs)))
      ∙ ap (λ zs. done ++ zs) (by-test b)
      ∙ sym (ap (λ zs. done ++ map make (filter test zs)) (drop_more xs i d within) ∙
      ap (λ (b : Bool). done ++ map make
      (cond b (get_or xs i d ∷ filter test (drop (i + 1) xs)) (filter test (drop (i + 1) xs)))) (sym tested))
      ∙ is where
        by-test : (b : Bool) → cond b (make (get_or xs i d) ∷ []) [] ++ map make (filter test (drop (i + 1) xs))
            ≡ map make (cond b (get_or xs i d ∷ filter test (drop (i + 1) xs)) (filter test (drop (i + 1) xs)))
        by-test true = refl
        by-test false = refl
