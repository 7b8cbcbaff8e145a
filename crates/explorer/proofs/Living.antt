-- Workers that live, counted row by row.
use Rattle.std.proofs.Common.{◌≡◌, ◌+◌, ℕ, Bool, cond, List, [], ◌∷◌, Some, None, map, drop}
use Rattle.std.proofs.Common.{slice_get, count_by, refl, ap, sym, ◌∙◌}
use Rattle.std.proofs.lemmas.List.Sums.{sum_by-cons}
use Rattle.definitions.specs.Table.{Process, Master, Worker, Foreign}
use Rattle.kernel_model.specs.Readers.{row_of}
use Rattle.explorer.specs.Most.{is_living, is_living_row}
use Rattle.explorer.proofs.Listing.{drop_at, past}
use Rattle.std.proofs.lemmas.List.{drop_all}

counts : {X : Type 0} (f : X → Bool) (x : X) (xs : List X) → count_by f (x ∷ xs) ≡ cond (f x) 1 0 + count_by f xs
counts f x xs = sum_by-cons (λ y. cond (f y) 1 0) x xs

pub next-counted : {X : Type 0} (f : X → Bool) (xs : List X) (i : ℕ) (x : X) → slice_get xs i ≡ Some x →
    count_by f (drop i xs) ≡ cond (f x) 1 0 + count_by f (drop (i + 1) xs)
next-counted f xs i x e = ap (count_by f) (drop_at xs i x e) ∙ counts f x (drop (i + 1) xs)

pub all-counted : {X : Type 0} (f : X → Bool) (xs : List X) (i : ℕ) → slice_get xs i ≡ None → count_by f (drop i xs) ≡ 0
all-counted f xs i e = ap (count_by f) (drop_all i xs (past xs i e))

row-living : (p : Process) → is_living_row (row_of p) ≡ is_living p
row-living (Worker n q g k s hs) = refl
row-living (Master n q i live hs) = refl
row-living (Foreign n hs) = refl

pub rows-living : (ps : List Process) → count_by is_living_row (map row_of ps) ≡ count_by is_living ps
rows-living [] = refl
rows-living (p ∷ ps) =
    counts is_living_row (row_of p) (map row_of ps)
    ∙ (λ i. cond (row-living p i) 1 0 + rows-living ps i)
    ∙ sym (counts is_living p ps)
