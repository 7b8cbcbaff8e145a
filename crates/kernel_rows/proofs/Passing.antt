-- Rows that were passed on the way through all.
use Rattle.std.proofs.Common.{◌≡◌, suc, zero, ◌+◌, Bool, cond, count_by, true, false, ◌||◌, Bor, List, [], ◌∷◌, ◌++◌}
use Rattle.std.proofs.Common.{map, refl, sym, ap, subst, ◌∙◌, append_assoc, append-nil, arith}
use Rattle.std.specs.Prelude.{Contains}
use Rattle.std.specs.List.{list_any}
use Rattle.std.proofs.lemmas.List.Folds.{list_any-append}
use Rattle.std.proofs.lemmas.List.Sums.{sum_by-cons}
use Rattle.definitions.specs.Table.{Address, Process}
use Rattle.kernel_rows.specs.declared.process.Holder.{Holder}
use Rattle.kernel_rows.specs.Seen.{seen_holder, seen_rows}
use Rattle.kernel_rows.proofs.Lists.{map-push}

abbrev pub passed : List (Bor Holder) → List Holder
passed ys = map (λ (y : Bor Holder). y.now) ys

pub passed-push : (ys : List (Bor Holder)) (y : Bor Holder) → passed (ys ++ y ∷ []) ≡ passed ys ++ y.now ∷ []
passed-push ys y = map-push (λ (z : Bor Holder). z.now) ys y

module _ (ys : List (Bor Holder)) (left rows : List Holder) (split : passed ys ++ left ≡ rows) where
  pub one-passed : (y : Bor Holder) (rest : List Holder) → left ≡ y.now ∷ rest → passed (ys ++ y ∷ []) ++ rest ≡ rows
  one-passed y rest turn =
      ap (λ zs. zs ++ rest) (passed-push ys y) ∙ append_assoc (passed ys) (y.now ∷ []) rest ∙ ap (λ zs. passed ys ++ zs) (sym turn) ∙ split

  pub all-passed : left ≡ [] → passed ys ≡ rows
  all-passed over = sym (append-nil (passed ys)) ∙ ap (λ zs. passed ys ++ zs) (sym over) ∙ split

or-false : (b : Bool) → (b || false) ≡ b
or-false b = elim b as (λ c. (c || false) ≡ c) [
  | true ↦ refl
  | false ↦ refl
]

-- one row more
pub any-more : (test : Process → Bool) (addresses : List Address) (rows : List Holder) (h : Holder) →
    list_any test (seen_rows addresses (rows ++ h ∷ []))
    ≡ (list_any test (seen_rows addresses rows) || test (seen_holder addresses h))
any-more test addresses rows h =
    ap (list_any test) (map-push (seen_holder addresses) rows h)
    ∙ list_any-append test (seen_rows addresses rows) (seen_holder addresses h ∷ [])
    ∙ ap (λ b. list_any test (seen_rows addresses rows) || b) (or-false (test (seen_holder addresses h)))

-- the first of what is left is one of all
pub row-among : {X : Type 0} (v : Holder → X) (front rest rows : List Holder) (h : Holder) (x : X) → front ++ h
    ∷ rest ≡ rows → v h ≡ x → Contains (map v rows) x
row-among v front rest rows h x e is = subst (λ hs. Contains (map v hs) x) e (at front)
  where
    at : (xs : List Holder) → Contains (map v (xs ++ h ∷ rest)) x
    at [] = (zero, omega arith, is)
    at (y ∷ xs) = (let more = at xs in (suc more.0, omega (arith, more.1), more.2))

-- those that are counted
pub count-seen : (test : Process → Bool) (addresses : List Address) (rows : List Holder) →
    count_by test (seen_rows addresses rows) ≡ count_by (λ h. test (seen_holder addresses h)) rows
count-seen test addresses [] = refl
count-seen test addresses (h ∷ rows) =
    sum_by-cons (λ (p : Process). cond (test p) 1 0) (seen_holder addresses h) (seen_rows addresses rows)
    ∙ ap (λ n. cond (test (seen_holder addresses h)) 1 0 + n) (count-seen test addresses rows)
    ∙ sym (sum_by-cons (λ (x : Holder). cond (test (seen_holder addresses x)) 1 0) h rows)
