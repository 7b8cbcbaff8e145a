-- Rows, holds and files, one at a time.
use Rattle.std.proofs.Common.{◌≡◌, ℕ, suc, zero, ◌+◌, ◌-◌, ◌<◌, ◌≤◌, List, [], ◌∷◌, ◌++◌, map, length, get_or, Option}
use Rattle.std.proofs.Common.{Some, None, refl, sym, ap, subst, ◌∙◌, arith}
use Rattle.std.specs.Prelude.{slice_get}
use Rattle.std.specs.List.{AllByRecursion}
use Rattle.std.specs.Option.{option_map}
use Rattle.std.proofs.lemmas.List.{length-map}
use Rattle.std.proofs.lemmas.Option.{slice_get-map}
use Rattle.definitions.specs.Table.{Address, Hold, number_of}
use Rattle.kernel_rows.specs.declared.process.Row.{Row}
use Rattle.kernel_rows.specs.declared.process.Row.TheVariants as row
use Rattle.kernel_rows.specs.declared.process.Holder.{Holder}
use Rattle.kernel_model.specs.declared.readers.HoldRow.{HoldRow}
use Rattle.kernel_table.specs.declared.file_row.FileRow.{FileRow}
use Rattle.kernel_rows.specs.Holds.{address_of, seen_hold, seen_holds}
use Rattle.kernel_rows.specs.Seen.{process_of, seen_holder, seen_rows}
use Rattle.kernel_table.specs.Seen.{seen_file}
use Rattle.kernel_model.specs.Readers.{row_of, hold_row, holds_in, hold_rows, file_row}
use Rattle.kernel_table.specs.Room.{HasSockets}
use Rattle.kernel_table.proofs.Opening.{row-holds}

-- ---- rows and files
row-again : (r : Row) (hs : List Hold) → row_of (process_of r hs) ≡ r
row-again (row.Master n q i live) hs = refl
row-again (row.Worker n q g k s) hs = refl
row-again (row.Foreign n) hs = refl

pub rows-again : (addresses : List Address) (holders : List Holder) (i : ℕ) →
    option_map (λ (h : Holder). h.row) (slice_get holders i) ≡ slice_get (map row_of (seen_rows addresses holders)) i
rows-again addresses [] i = refl
rows-again addresses (h ∷ holders) zero = ap Some (sym (row-again h.row (seen_holds addresses h.holds)))
rows-again addresses (h ∷ holders) (suc i) = rows-again addresses holders i

pub files-again : (files : List FileRow) → map file_row (map seen_file files) ≡ files
files-again [] = refl
files-again (f ∷ files) = ap (λ fs. f ∷ fs) (files-again files)

pub option_map-same : {A : Type 0} (o : Option A) → option_map (λ x. x) o ≡ o
option_map-same None = refl
option_map-same (Some x) = refl

-- ---- the holds of a process
module _ (addresses : List Address) (h : Holder) where
  holds-again : holds_in (seen_holder addresses h) ≡ map (hold_row (number_of (seen_holder addresses h))) (seen_holds addresses h.holds)
  holds-again = ap (map (hold_row (number_of (seen_holder addresses h)))) (row-holds h.row (seen_holds addresses h.holds))

  pub length-holds_in : length (holds_in (seen_holder addresses h)) ≡ length h.holds
  length-holds_in = ap length holds-again ∙ length-map (seen_holds addresses h.holds) (hold_row (number_of (seen_holder addresses h))) ∙ length-map h.holds (seen_hold addresses)

  pub hold-at : (i : ℕ) → slice_get (holds_in (seen_holder addresses h)) i
      ≡ option_map (λ (p : ℕ × ℕ). hold_row (number_of (seen_holder addresses h)) (seen_hold addresses p))
      (slice_get h.holds i)
  hold-at i =
      ap (λ rows. slice_get rows i) holds-again
      ∙ slice_get-map (hold_row (number_of (seen_holder addresses h))) (seen_holds addresses h.holds) i
      ∙ ap (option_map (hold_row (number_of (seen_holder addresses h)))) (slice_get-map (seen_hold addresses) h.holds i)
      ∙ twice (slice_get h.holds i)
    where
      twice : (o : Option (ℕ × ℕ)) →
          option_map (hold_row (number_of (seen_holder addresses h))) (option_map (seen_hold addresses) o)
          ≡ option_map (λ (p : ℕ × ℕ). hold_row (number_of (seen_holder addresses h)) (seen_hold addresses p)) o
      twice None = refl
      twice (Some p) = refl

slice_get-get_or : (xs : List Address) (k : ℕ) (a : Address) → slice_get xs k ≡ Some a → get_or xs k [] ≡ a
slice_get-get_or [] k a e = cc
slice_get-get_or (x ∷ xs) zero a e = cc
slice_get-get_or (x ∷ xs) (suc k) a e = slice_get-get_or xs k a e

slice_get-none : (xs : List Address) (k : ℕ) → slice_get xs k ≡ None → length xs ≤ k
slice_get-none [] k e = omega arith
slice_get-none (x ∷ xs) zero e = cc
slice_get-none (x ∷ xs) (suc k) e = let le = slice_get-none xs k e in omega arith

-- the address of a socket that is there
pub address-found : (addresses : List Address) (socket : ℕ) (a : Address) → slice_get addresses (socket - 1) ≡ Some a → a ≡ address_of addresses socket
address-found addresses socket a e = sym (slice_get-get_or addresses (socket - 1) a e)

within-at : (next : ℕ) (hs : List Hold) (i : ℕ) (h : Hold) →
    AllByRecursion (λ (x : Hold). (1 ≤ x.socket) × (x.socket < next)) hs → slice_get hs i ≡ Some h → (1 ≤ h.socket) ×
    (h.socket < next)
within-at next [] i h w e = cc
within-at next (x ∷ hs) zero h w e = let same : x ≡ h = cc in subst (λ (y : Hold). (1 ≤ y.socket) × (y.socket < next)) same w.0
within-at next (x ∷ hs) (suc i) h w e = within-at next hs i h w.1 e

-- each socket that is held has an address
pub address-there : (addresses : List Address) (h : Holder) (i fd socket : ℕ) →
    HasSockets (length addresses + 1) (seen_holder addresses h) → slice_get h.holds i ≡ Some (fd, socket) →
    slice_get addresses (socket - 1) ≡ None → ⊥
address-there addresses h i fd socket w at none =
    let held = subst (AllByRecursion (λ (x : Hold). (1 ≤ x.socket) × (x.socket < length addresses + 1))) (row-holds h.row (seen_holds addresses h.holds)) w in
    let found = slice_get-map (seen_hold addresses) h.holds i ∙ ap (option_map (seen_hold addresses)) at in
    let within = within-at (length addresses + 1) (seen_holds addresses h.holds) i (seen_hold addresses (fd, socket)) held found in
    let le = slice_get-none addresses (socket - 1) none in
    omega (arith, within.0, within.1)

-- ---- the holds of all
slice_get-left : (xs ys : List HoldRow) (n : ℕ) → n < length xs → slice_get (xs ++ ys) n ≡ slice_get xs n
slice_get-left [] ys n lt = absurd (omega arith)
slice_get-left (x ∷ xs) ys zero lt = refl
slice_get-left (x ∷ xs) ys (suc n) lt = slice_get-left xs ys n (omega arith)

slice_get-right : (xs ys : List HoldRow) (n : ℕ) → slice_get (xs ++ ys) (length xs + n) ≡ slice_get ys n
slice_get-right [] ys n = let e : 0 + n ≡ n = omega arith in ap (slice_get ys) e
slice_get-right (x ∷ xs) ys n = let e : suc (length xs) + n ≡ suc (length xs + n) = omega arith in ap (slice_get (x ∷ xs ++ ys)) e ∙ slice_get-right xs ys n

module _ (addresses : List Address) (left rest : List Holder) (n : ℕ) (h : Holder) (turn : left ≡ h ∷ rest) where
  pub sockets-first : (next : ℕ) → AllByRecursion (HasSockets next) (seen_rows addresses left) →
      HasSockets next (seen_holder addresses h) × AllByRecursion (HasSockets next) (seen_rows addresses rest)
  sockets-first next w = subst (λ hs. AllByRecursion (HasSockets next) (seen_rows addresses hs)) turn w

  front : slice_get (hold_rows (seen_rows addresses left)) n ≡ slice_get (holds_in (seen_holder addresses h) ++ hold_rows (seen_rows addresses rest)) n
  front = ap (λ hs. slice_get (hold_rows (seen_rows addresses hs)) n) turn

  -- the hold is the row's
  pub hold-here : n < length h.holds → slice_get (hold_rows (seen_rows addresses left)) n ≡ slice_get (holds_in (seen_holder addresses h)) n
  hold-here less =
      let count = length-holds_in addresses h in
      front ∙ slice_get-left (holds_in (seen_holder addresses h)) (hold_rows (seen_rows addresses rest)) n (omega arith)

  -- the hold is a later row's
  pub hold-later : length h.holds ≤ n →
      slice_get (hold_rows (seen_rows addresses left)) n
      ≡ slice_get (hold_rows (seen_rows addresses rest)) (n - length h.holds)
  hold-later le =
      let own = holds_in (seen_holder addresses h) in
      let count = length-holds_in addresses h in
      let split : n ≡ length own + (n - length h.holds) = omega arith in
      let after = hold_rows (seen_rows addresses rest) in
      front ∙ ap (slice_get (own ++ after)) split ∙ slice_get-right own after (n - length h.holds)
