-- The only one that passes a test leaves.
use Rattle.std.proofs.Common.{◌≡◌, ℕ, suc, zero, ◌<◌, ◌≤◌, Bool, true, false, cond, ◌&&◌, List, [], ◌∷◌, ◌++◌, Some}
use Rattle.std.proofs.Common.{None, map, length, take, drop, get_or, count_by, refl, sym, ap, ◌∙◌, arith}
use Rattle.std.specs.List.{list_any, filter_map, cons_option}
use Rattle.std.proofs.lemmas.Bool.{false≢true}
use Rattle.definitions.specs.Table.{Generation, Process, Master, Worker, Foreign, is_active, is_worker}
use Rattle.call_laws.specs.Pieces.{is_any}
use Rattle.definitions.specs.Calls.{drop_where}
use Rattle.kernel_rows.proofs.Lone.{more, passing, failing}

module _ (any : Process → Bool) where
  untouched : (ps : List Process) → count_by any ps ≡ 0 → filter_map (drop_where any) ps ≡ ps
  untouched [] z = refl
  untouched (p ∷ ps) z =
      let m = more any p ps in
      let not_it = failing (any p) m (omega (arith, z)) in
      rw not_it (ap (λ qs. p ∷ qs) (untouched ps (omega (arith, m, z))))

  -- what leaves adds to no count
  pub dropped-count : (test : Process → Bool) (ps : List Process) → count_by test (filter_map (drop_where any) ps) ≤ count_by test ps
  dropped-count test [] = omega arith
  dropped-count test (p ∷ ps) = at (any p) (dropped-count test ps)
    where
      at : (b : Bool) → count_by test (filter_map (drop_where any) ps) ≤ count_by test ps →
          count_by test (cons_option (cond b None (Some p)) (filter_map (drop_where any) ps)) ≤ count_by test (p ∷ ps)
      at true rest = (let m = more test p ps in omega (arith, m, rest))
      at false rest =
          let m = more test p ps in
          let n = more test p (filter_map (drop_where any) ps) in
          omega (arith, m, n, rest)

  module _ {X : Type 0} (v : X → Process) where
    counted : (xs : List X) (i : ℕ) (d : X) → i < length xs → any (v (get_or xs i d)) ≡ true → 1 ≤ count_by any (map v xs)
    counted [] i d lt e = absurd (omega arith)
    counted (x ∷ xs) zero d lt e = (let m = passing (any (v x)) e (more any (v x) (map v xs)) in omega (arith, m))
    counted (x ∷ xs) (suc i) d lt e =
        let m = more any (v x) (map v xs) in
        let rest = counted xs i d (omega arith) e in
        omega (arith, m, rest)

    pub removed-one : (xs : List X) (i : ℕ) (d : X) → i < length xs → any (v (get_or xs i d)) ≡ true →
        count_by any (map v xs) ≤ 1 → map v (take i xs ++ drop (suc i) xs) ≡ filter_map (drop_where any) (map v xs)
    removed-one [] i d lt e le = absurd (omega arith)
    removed-one (x ∷ xs) zero d lt e le =
        let m = passing (any (v x)) e (more any (v x) (map v xs)) in
        rw e (sym (untouched (map v xs) (omega (arith, m, le))))
    removed-one (x ∷ xs) (suc i) d lt e le =
        let m = more any (v x) (map v xs) in
        let one = counted xs i d (omega arith) e in
        let not_it = failing (any (v x)) m (omega (arith, one, le)) in
        rw not_it (ap (λ ps. v x ∷ ps) (removed-one xs i d (omega arith) e (omega (arith, m, le))))

    module _ (active : Process → Bool) (up : (p : Process) → active p ≡ true → any p ≡ true) where
      fails : (p : Process) → any p ≡ false → active p ≡ false
      fails p e = at (active p) (up p)
        where
          at : (b : Bool) → (b ≡ true → any p ≡ true) → b ≡ false
          at true h = absurd (false≢true (sym e ∙ h refl))
          at false h = refl

      none-active : (ps : List Process) → count_by any ps ≡ 0 → list_any active ps ≡ false
      none-active [] z = refl
      none-active (p ∷ ps) z =
          let m = more any p ps in
          let not_it = fails p (failing (any p) m (omega (arith, z))) in
          rw not_it (none-active ps (omega (arith, m, z)))

      -- the only one is not active, so none is
      pub lone-inactive : (xs : List X) (i : ℕ) (d : X) → i < length xs → any (v (get_or xs i d)) ≡ true →
          active (v (get_or xs i d)) ≡ false → count_by any (map v xs) ≤ 1 → list_any active (map v xs) ≡ false
      lone-inactive [] i d lt e off le = absurd (omega arith)
      lone-inactive (x ∷ xs) zero d lt e off le =
          let m = passing (any (v x)) e (more any (v x) (map v xs)) in
          rw off (none-active (map v xs) (omega (arith, m, le)))
      lone-inactive (x ∷ xs) (suc i) d lt e off le =
          let m = more any (v x) (map v xs) in
          let one = counted xs i d (omega arith) e in
          let not_it = fails (v x) (failing (any (v x)) m (omega (arith, one, le))) in
          rw not_it (lone-inactive xs i d (omega arith) e off (omega (arith, m, le)))

-- who is Starting or Ready is so in any stance
pub active-any : (q : ℕ) (g : Generation) (k : ℕ) (p : Process) → is_worker is_active q g k p ≡ true → is_worker is_any q g k p ≡ true
active-any q g k (Worker n q' g' k' s hs) e = later (is_active s) _ e
  where
    later : (a b : Bool) → (a && b) ≡ true → b ≡ true
    later true b h = h
    later false b h = absurd (false≢true h)
active-any q g k (Master n q' i live hs) e = absurd (false≢true e)
active-any q g k (Foreign n hs) e = absurd (false≢true e)
