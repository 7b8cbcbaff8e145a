-- A master of an image that is ended with its workers.
use Rattle.std.proofs.Common.{◌≡◌, ℕ, ◌+◌, ◌≤◌, Bool, true, false, cond, ◌&&◌, ◌||◌, nat_eq, List, [], ◌∷◌, count_by, refl, sym, arith}
use Rattle.std.specs.List.{filter_map, list_any}
use Rattle.std.proofs.lemmas.List.Sums.{sum_by-cons}
use Rattle.definitions.specs.Table.{Process, Master, Worker, Foreign}
use Rattle.call_laws.specs.Pieces.{owner_if, is_image_row}
use Rattle.definitions.specs.Calls.{drop_where, is_image, is_of_image}
use Rattle.kernel_rows.specs.Seen.{is_number}
use Rattle.kernel_rows.specs.Edits.{is_of_either}
use Rattle.kernel_rows.specs.Rows.{master_number}

module _ (image q : ℕ) where
  counted-on : (p : Process) (rows : List Process) → count_by (is_image image) (p ∷ rows) ≡ cond (is_image image p) 1 0 + count_by (is_image image) rows
  counted-on p rows = sum_by-cons (λ (x : Process). cond (is_image image x) 1 0) p rows

  no-rows : (rows : List Process) → count_by (is_image image) rows ≡ 0 → list_any (is_image_row image q) rows ≡ false
  no-rows [] e = refl
  no-rows (Worker n q' g k s hs ∷ rows) e = let first = counted-on (Worker n q' g k s hs) rows in no-rows rows (omega (arith, first, e))
  no-rows (Foreign n hs ∷ rows) e = let first = counted-on (Foreign n hs) rows in no-rows rows (omega (arith, first, e))
  no-rows (Master n q' i live hs ∷ rows) e = at (nat_eq i image) (counted-on (Master n q' i live hs) rows) (no-rows rows)
    where
      at : (b : Bool) → count_by (is_image image) (Master n q' i live hs ∷ rows)
          ≡ cond b 1 0 + count_by (is_image image) rows →
          (count_by (is_image image) rows ≡ 0 → list_any (is_image_row image q) rows ≡ false) →
          ((b && nat_eq n q) || list_any (is_image_row image q) rows) ≡ false
      at true first ih = absurd (omega (arith, first, e))
      at false first ih = ih (omega (arith, first, e))

  or-false : (b c : Bool) → c ≡ false → (b || c) ≡ b
  or-false true c e = refl
  or-false false c e = e

  -- the number of an image's only master
  number-alike : (rows : List Process) → count_by (is_image image) rows ≤ 1 → is_number (master_number image rows) q ≡ list_any (is_image_row image q) rows
  number-alike [] le = refl
  number-alike (Worker n q' g k s hs ∷ rows) le = let first = counted-on (Worker n q' g k s hs) rows in number-alike rows (omega (arith, first, le))
  number-alike (Foreign n hs ∷ rows) le = let first = counted-on (Foreign n hs) rows in number-alike rows (omega (arith, first, le))
  number-alike (Master n q' i live hs ∷ rows) le = at (nat_eq i image) (counted-on (Master n q' i live hs) rows) (number-alike rows)
    where
      at : (b : Bool) → count_by (is_image image) (Master n q' i live hs ∷ rows) ≡ cond b 1 0 + count_by (is_image image) rows
          → (count_by (is_image image) rows ≤ 1 → is_number (master_number image rows) q ≡ list_any (is_image_row image q) rows)
          → is_number (owner_if b n (master_number image rows)) q ≡ ((b && nat_eq n q) || list_any (is_image_row image q) rows)
      at true first ih = sym (or-false (nat_eq n q) _ (no-rows rows (omega (arith, first, le))))
      at false first ih = ih (omega (arith, first, le))

ended-alike : (image : ℕ) (all : List Process) → count_by (is_image image) all ≤ 1 → (p : Process) →
    is_of_either image (master_number image all) p ≡ is_of_image image all p
ended-alike image all le (Master n q i live hs) = refl
ended-alike image all le (Worker n q g k s hs) = number-alike image q all le
ended-alike image all le (Foreign n hs) = refl

pub ended-all : (image : ℕ) (all rows : List Process) → count_by (is_image image) all ≤ 1 →
    filter_map (drop_where (is_of_either image (master_number image all))) rows
    ≡ filter_map (drop_where (is_of_image image all)) rows
ended-all image all rows le = λ i. filter_map (drop_where (λ p. ended-alike image all le p i)) rows
