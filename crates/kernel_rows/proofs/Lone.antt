-- The only one that passes a test changes.
use Rattle.std.proofs.Common.{◌≡◌, ℕ, suc, zero, ◌+◌, ◌<◌, ◌≤◌, Bool, true, false, cond, ◌||◌, List, [], ◌∷◌, Some}
use Rattle.std.proofs.Common.{None, map, length, get_or, set, count_by, refl, sym, ap, ◌∙◌, inl, inr, arith}
use Rattle.std.specs.Prelude.{position}
use Rattle.std.specs.List.{list_any, filter_map, position_or_len}
use Rattle.std.proofs.lemmas.Bool.{false≢true}
use Rattle.std.proofs.lemmas.List.Sums.{fails_before_first, sum_by-cons}
use Rattle.vocabulary.specs.declared.table.Stance.TheVariants.{Starting, Ready, Draining, Exited}
use Rattle.definitions.specs.Table.{Address, Generation, Process, Master, Worker, Foreign, is_active, is_worker}
use Rattle.call_laws.specs.Pieces.{is_starting, made_draining, made_ready}
use Rattle.definitions.specs.Calls.{change}
use Rattle.std.specs.Bool.{then_some}
use Rattle.kernel_rows.specs.declared.process.Holder.{Holder}
use Rattle.kernel_rows.specs.declared.process.WorkerName.{WorkerName}
use Rattle.kernel_rows.specs.declared.edits.Edit.{Edit}
use Rattle.kernel_rows.specs.Seen.{seen_holder}
use Rattle.kernel_rows.specs.Edits.{edited, ChangesActive}
use Rattle.kernel_rows.proofs.First.{past}

-- where no element is found, none passes
module _ {X : Type 0} (test : X → Bool) where
  any-false : (xs : List X) (d : X) → ((k : ℕ) → k < length xs → test (get_or xs k d) ≡ false) → list_any test xs ≡ false
  any-false [] d none = refl
  any-false (x ∷ xs) d none =
      let first = none zero (omega arith) in
      rw first (any-false xs d (λ k lt. none (suc k) (omega arith)))

  pub none-found : (xs : List X) (d : X) → position test xs ≡ None → list_any test xs ≡ false
  none-found xs d none =
      let all = past (position_or_len test xs) (length xs) none in
      any-false xs d (λ k lt. fails_before_first test xs k d (omega arith))

  pub any-at : (xs : List X) (i : ℕ) (d : X) → i < length xs → test (get_or xs i d) ≡ true → list_any test xs ≡ true
  any-at [] i d lt e = absurd (omega arith)
  any-at (x ∷ xs) zero d lt e = rw e refl
  any-at (x ∷ xs) (suc i) d lt e = or-later (test x) (any-at xs i d (omega arith) e)
    where
      or-later : (b : Bool) → list_any test xs ≡ true → (b || list_any test xs) ≡ true
      or-later true h = refl
      or-later false h = h

-- one more that passes, and one that does not
pub passing : (b : Bool) {m n : ℕ} → b ≡ true → m ≡ cond b 1 0 + n → m ≡ suc n
passing true e more = omega (arith, more)
passing false e more = absurd (false≢true e)

pub failing : (b : Bool) {m n : ℕ} → m ≡ cond b 1 0 + n → m ≤ n → b ≡ false
failing true more le = absurd (omega (arith, more, le))
failing false more le = refl

module _ (active : Process → Bool) where
  pub more : (p : Process) (ps : List Process) → count_by active (p ∷ ps) ≡ cond (active p) 1 0 + count_by active ps
  more p ps = sum_by-cons (λ (x : Process). cond (active x) 1 0) p ps

  pub none-counted : (ps : List Process) → list_any active ps ≡ false → count_by active ps ≡ 0
  none-counted [] e = refl
  none-counted (p ∷ ps) e = at (active p) (more p ps) e (none-counted ps)
    where
      at : (b : Bool) → count_by active (p ∷ ps) ≡ cond b 1 0 + count_by active ps → (b || list_any active ps) ≡ false →
          (list_any active ps ≡ false → count_by active ps ≡ 0) → count_by active (p ∷ ps) ≡ 0
      at true m e ih = absurd (false≢true (sym e))
      at false m e ih = (let rest = ih e in omega (arith, m, rest))

  module _ (test : Process → Bool) (f : Process → Process) (up : (p : Process) → test p ≡ true → active p ≡ true) where
    fails : (p : Process) → active p ≡ false → test p ≡ false
    fails p e = at (test p) (up p)
      where
        at : (b : Bool) → (b ≡ true → active p ≡ true) → b ≡ false
        at true h = absurd (false≢true (sym e ∙ h refl))
        at false h = refl

    pub unmoved : (ps : List Process) → count_by active ps ≡ 0 → filter_map (change test f) ps ≡ ps
    unmoved [] z = refl
    unmoved (p ∷ ps) z =
        let m = more p ps in
        let not_it = fails p (failing (active p) m (omega (arith, z))) in
        rw not_it (ap (λ qs. p ∷ qs) (unmoved ps (omega (arith, m, z))))

    module _ {X : Type 0} (v : X → Process) where
      counted : (xs : List X) (i : ℕ) (d : X) → i < length xs → active (v (get_or xs i d)) ≡ true → 1 ≤ count_by active (map v xs)
      counted [] i d lt e = absurd (omega arith)
      counted (x ∷ xs) zero d lt e = (let m = passing (active (v x)) e (more (v x) (map v xs)) in omega (arith, m))
      counted (x ∷ xs) (suc i) d lt e =
          let m = more (v x) (map v xs) in
          let rest = counted xs i d (omega arith) e in
          omega (arith, m, rest)

      pub changed-one : (xs : List X) (i : ℕ) (d y : X) → i < length xs → active (v (get_or xs i d)) ≡ true →
          count_by active (map v xs) ≤ 1 →
          v y ≡ cond (test (v (get_or xs i d))) (f (v (get_or xs i d))) (v (get_or xs i d)) →
          map v (set xs i y) ≡ filter_map (change test f) (map v xs)
      changed-one [] i d y lt e le is = absurd (omega arith)
      changed-one (x ∷ xs) zero d y lt e le is =
          let m = passing (active (v x)) e (more (v x) (map v xs)) in
          let rest = unmoved (map v xs) (omega (arith, m, le)) in
          (λ j. is j ∷ sym rest j)
      changed-one (x ∷ xs) (suc i) d y lt e le is =
          let m = more (v x) (map v xs) in
          let one = counted xs i d (omega arith) e in
          let not_it = fails (v x) (failing (active (v x)) m (omega (arith, one, le))) in
          rw not_it (ap (λ ps. v x ∷ ps) (changed-one xs i d y (omega arith) e (omega (arith, m, le)) is))

-- ---- workers
starting-active : (q : ℕ) (g : Generation) (k : ℕ) (p : Process) → is_worker is_starting q g k p ≡ true → is_worker is_active q g k p ≡ true
starting-active q g k (Worker n q' g' k' Starting hs) e = e
starting-active q g k (Worker n q' g' k' Ready hs) e = absurd (false≢true e)
starting-active q g k (Worker n q' g' k' Draining hs) e = absurd (false≢true e)
starting-active q g k (Worker n q' g' k' Exited hs) e = absurd (false≢true e)
starting-active q g k (Master n q' i live hs) e = absurd (false≢true e)
starting-active q g k (Foreign n hs) e = absurd (false≢true e)

stayed : (b : Bool) (p q : Process) → then_some b p ≡ Some q → p ≡ q
stayed true p q e = cc
stayed false p q e = cc

module _ (addresses : List Address) (name : WorkerName) where
  abbrev seen : Holder → Process
  seen = seen_holder addresses

  abbrev active : Process → Bool
  active = is_worker is_active name.parent name.generation name.nr

  pub edited-one : (edit : Edit) → ChangesActive name edit → (xs : List Holder) (i : ℕ) (d y : Holder) (b : Bool) →
      i < length xs → active (seen (get_or xs i d)) ≡ true → count_by active (map seen xs) ≤ 1 →
      then_some b (seen y) ≡ edited addresses edit (seen (get_or xs i d)) →
      map seen (set xs i y) ≡ filter_map (edited addresses edit) (map seen xs)
  edited-one edit (inl is) xs i d y b lt e le met =
      let test = is_worker is_starting name.parent name.generation name.nr in
      let become : then_some b (seen y) ≡ change test made_ready (seen (get_or xs i d)) = met ∙ ap (λ x. edited addresses x (seen (get_or xs i d))) is in
      changed-one active test made_ready (starting-active name.parent name.generation name.nr) seen xs i d y lt e le (stayed b (seen y) _ become)
      ∙ sym (ap (λ x. filter_map (edited addresses x) (map seen xs)) is)
  edited-one edit (inr is) xs i d y b lt e le met =
      let become : then_some b (seen y) ≡ change active made_draining (seen (get_or xs i d)) = met ∙ ap (λ x. edited addresses x (seen (get_or xs i d))) is in
      changed-one active active made_draining (λ p t. t) seen xs i d y lt e le (stayed b (seen y) _ become)
      ∙ sym (ap (λ x. filter_map (edited addresses x) (map seen xs)) is)

  pub edited-none : (edit : Edit) → ChangesActive name edit → (ps : List Process) → list_any active ps ≡ false → filter_map (edited addresses edit) ps ≡ ps
  edited-none edit (inl is) ps e =
      ap (λ x. filter_map (edited addresses x) ps) is
      ∙ unmoved active (is_worker is_starting name.parent name.generation name.nr) made_ready (starting-active name.parent name.generation name.nr) ps (none-counted active ps e)
  edited-none edit (inr is) ps e = ap (λ x. filter_map (edited addresses x) ps) is ∙ unmoved active active made_draining (λ p t. t) ps (none-counted active ps e)
