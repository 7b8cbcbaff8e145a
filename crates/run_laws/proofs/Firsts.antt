-- A process that is Ready in the first table: it is alone with its number, and its name is one of the record's.
use Rattle.std.proofs.Common.{◌≡◌, ℕ, ◌+◌, ◌<◌, ◌≤◌, Bool, true, false, List, [], ◌∷◌, refl, sym, subst, arith, inl}
use Rattle.std.specs.Prelude.{◌&&◌, ◌||◌, ◌==◌}
use Rattle.std.specs.List.{AllByRecursion, list_any}
use Rattle.listener_set.specs.Numbers.{is_in}
use Rattle.listener_set.specs.declared.generation.Generation.{Generation}
use Rattle.vocabulary.specs.declared.table.Stance.TheVariants.{Starting, Ready, Draining, Exited}
use Rattle.definitions.specs.Table.{Hold, Process, Master, Worker, Foreign, Table, number_of, bears, same_generation}
use Rattle.definitions.specs.Table.{IsAscending}
use Rattle.call_laws.specs.Pieces.{is_ready, is_ready_as, is_active_process}
use Rattle.definitions.specs.Master.{Record}
use Rattle.definitions.specs.Claims.{has_ready, IsStart}
use Rattle.table_laws.proofs.Rows.{every-more, every-both, both-true, or-right}
use Rattle.call_laws.proofs.Choices.{and-left, and-right}
use Rattle.table_laws.proofs.Views.{View, Fine, eqb-is, eqb-refl}
use Rattle.table_laws.proofs.Effects.{same-is, bears-is, bears-refl}
use Rattle.table_laws.proofs.Services.{sole-fine}
use Rattle.table_laws.proofs.Begins.{first_view, begin}
use Rattle.table_laws.proofs.Small.{every-is_in}
use Rattle.run_laws.proofs.Processes.{HasOne, IsOf, Fact}
use Rattle.table_laws.proofs.Duo.{master-below, rises-to}
use Rattle.run_laws.proofs.Staying.{IsIt, is_it, Stands}
use Rattle.run_laws.proofs.Taken.{OnlyOurs, IsUntouched}

---- Process numbers rise

none-below :
    (n b : ℕ) (X : Process → Type 0) (rows : List Process) (next : ℕ) → n < b → IsAscending b rows next →
    AllByRecursion (λ p. number_of p ≡ n → X p) rows
none-below n b X [] next lt asc = tt
none-below n b X (p ∷ rows) next lt asc = ((λ e. absurd (omega (arith, asc.0))), none-below n (number_of p + 1) X rows next (omega (arith, asc.0)) asc.1)

not-below :
    (n b : ℕ) (test : Process → Bool) → ((p : Process) → test p ≡ true → number_of p ≡ n) →
    (rows : List Process) (next : ℕ) → IsAscending b rows next → list_any test rows ≡ true → b ≤ n
not-below n b test is [] next asc e = absurd (cc e)
not-below n b test is (p ∷ rows) next asc e = go (test p) refl e (not-below n (number_of p + 1) test is rows next asc.1)
  where
    go : (c : Bool) → test p ≡ c → (c || list_any test rows) ≡ true → (list_any test rows ≡ true → number_of p + 1 ≤ n) → b ≤ n
    go true t e ih = omega (arith, is p t, asc.0)
    go false t e ih = omega (arith, ih e, asc.0)

-- Who passes a test on one process number is alone with it.
alone :
    (n b : ℕ) (test : Process → Bool) → ((p : Process) → test p ≡ true → number_of p ≡ n) →
    (rows : List Process) (next : ℕ) → IsAscending b rows next → list_any test rows ≡ true →
    AllByRecursion (λ p. number_of p ≡ n → test p ≡ true) rows × (n < next)
alone n b test is [] next asc e = absurd (cc e)
alone n b test is (p ∷ rows) next asc e = go (test p) refl e (alone n (number_of p + 1) test is rows next asc.1)
  where
    go :
        (c : Bool) → test p ≡ c → (c || list_any test rows) ≡ true →
        (list_any test rows ≡ true → AllByRecursion (λ p. number_of p ≡ n → test p ≡ true) rows × (n < next)) →
        ((number_of p ≡ n → test p ≡ true) × AllByRecursion (λ p. number_of p ≡ n → test p ≡ true) rows) × (n < next)
    go true t e ih =
        let same = is p t in
        (((λ x. t), none-below n (number_of p + 1) (λ p. test p ≡ true) rows next (omega (arith, same)) asc.1), omega (arith, same, rises-to (number_of p + 1) rows next asc.1))
    go false t e ih =
        let rest = ih e in
        let above = not-below n (number_of p + 1) test is rows next asc.1 e in
        (((λ x. absurd (omega arith)), rest.0), rest.1)

ready-number : (n k : ℕ) (p : Process) → is_ready_as n k p ≡ true → number_of p ≡ n
ready-number n k (Master j q i live hs) e = absurd (cc e)
ready-number n k (Worker j q g x s hs) e = eqb-is j n (and-left _ _ (and-right (is_ready s) _ e))
ready-number n k (Foreign j hs) e = absurd (cc e)

module _ (t : Table) (r : Record) (s : IsStart t r) (n k : ℕ) (on : has_ready t n k ≡ true) where
  abbrev u : View
  u = first_view r s.agrees.holds

  fine : AllByRecursion (Fine u) t.rows
  fine = sole-fine u (λ n. refl) t.rows (begin t r s).fine

  its : AllByRecursion (λ p. number_of p ≡ n → is_ready_as n k p ≡ true) t.rows × (n < t.next_process)
  its = alone n 0 (is_ready_as n k) (ready-number n k) t.rows t.next_process s.formed.ascending on

  pub first-one : HasOne r.pid r.generation.image t.rows
  first-one = record { all = every-more (Fine u) (IsOf r.pid r.generation.image) of t.rows fine; some = omega (arith, (begin t r s).alone) }
    where
      of : (p : Process) → Fine u p → IsOf r.pid r.generation.image p
      of (Master j q i live hs) h = inl (h.0, h.1, h.2)
      of (Worker j q g x st hs) h = tt
      of (Foreign j hs) h = tt

  pub first-above : r.pid < t.next_process
  first-above = master-below r.pid 0 t.rows t.next_process s.formed.ascending (omega (arith, (begin t r s).alone))

  -- what is known of a Ready worker of the first table
  ready-fine :
      (j q : ℕ) (g : Generation) (x : ℕ) (hs : List Hold) → Fine u (Worker j q g x Ready hs) →
      (q ≡ r.pid) × (g ≡ r.generation) × (is_in r.ready x ≡ true)
  ready-fine j q g x hs h = (h.0, same-is g r.generation (and-left _ _ h.1.0), and-right (same_generation g r.generation) _ h.1.0)

  -- its number is one of the record's
  in-rows : (rows : List Process) → AllByRecursion (Fine u) rows → list_any (is_ready_as n k) rows ≡ true → is_in r.ready k ≡ true
  in-rows [] all e = absurd (cc e)
  in-rows (p ∷ rows) all e = go (is_ready_as n k p) refl e (in-rows rows all.1)
    where
      here : (p : Process) → Fine u p → is_ready_as n k p ≡ true → is_in r.ready k ≡ true
      here (Master j q i live hs) h e = absurd (cc e)
      here (Worker j q g x Starting hs) h e = absurd (cc e)
      here (Worker j q g x Ready hs) h e = subst (λ z. is_in r.ready z ≡ true) (eqb-is x k (and-right (j == n) _ e)) (ready-fine j q g x hs h).2
      here (Worker j q g x Draining hs) h e = absurd (cc e)
      here (Worker j q g x Exited hs) h e = absurd (cc e)
      here (Foreign j hs) h e = absurd (cc e)

      go :
          (b : Bool) → is_ready_as n k p ≡ b → (b || list_any (is_ready_as n k) rows) ≡ true →
          (list_any (is_ready_as n k) rows ≡ true → is_in r.ready k ≡ true) → is_in r.ready k ≡ true
      go true is e ih = here p all.0 is
      go false is e ih = ih e

  pub first-in : is_in r.ready k ≡ true
  first-in = in-rows t.rows fine on

  pub first-low : k < 1024
  first-low = let lt = every-is_in (λ j. j < r.wanted) r.ready s.record_in_range.ready k first-in in omega (arith, lt, s.record_in_range.wanted)

  ---- Untouched

  abbrev Untouched : Process → Type 0
  Untouched p = OnlyOurs r.pid r.generation.image n r.generation k first-low (IsUntouched r.pid r.generation.image n r.generation k first-low) p

  untouched-row : (p : Process) → (number_of p ≡ n → is_ready_as n k p ≡ true) × Fine u p → Untouched p
  untouched-row (Master j q i live hs) h = λ e. let no = h.0 e in absurd (cc)
  untouched-row (Worker j q g x Starting hs) h = λ e. let no = h.0 e in absurd (cc)
  untouched-row (Worker j q g x Ready hs) h = λ e. let o = ready-fine j q g x hs h.1 in (o.0, o.1, eqb-is x k (and-right (j == n) _ (h.0 e)), tt)
  untouched-row (Worker j q g x Draining hs) h = λ e. let no = h.0 e in absurd (cc)
  untouched-row (Worker j q g x Exited hs) h = λ e. let no = h.0 e in absurd (cc)
  untouched-row (Foreign j hs) h = λ e. let no = h.0 e in absurd (cc)

  pub first-untouched : Fact r.pid r.generation.image n Untouched t
  first-untouched = record {
    one = first-one;
    all =
        every-more (λ p. (number_of p ≡ n → is_ready_as n k p ≡ true) × Fine u p) Untouched untouched-row t.rows
        (every-both (λ p. number_of p ≡ n → is_ready_as n k p ≡ true) (Fine u) t.rows its.0 fine);
    below = its.1;
    above = first-above;
  }

  ---- Standing

  abbrev It : Process → Type 0
  It p = IsIt r.pid r.generation.image n r.generation k first-low p

  it-row : (p : Process) → Fine u p → is_ready_as n k p ≡ true → is_it r.pid r.generation.image n r.generation k first-low p ≡ true
  it-row (Master j q i live hs) h e = absurd (cc e)
  it-row (Worker j q g x Starting hs) h e = absurd (cc e)
  it-row (Worker j q g x Ready hs) h e =
      let o = ready-fine j q g x hs h in
      let name : bears r.generation k g x ≡ true =
      subst (λ f. bears r.generation k f x ≡ true) (sym o.1)
      (subst (λ z. bears r.generation k r.generation z ≡ true) (sym (eqb-is x k (and-right (j == n) _ e))) (bears-refl r.generation k))
      in
      both-true ((q == r.pid) && bears r.generation k g x) (j == n)
      (both-true (q == r.pid) (bears r.generation k g x) (eqb-refl q r.pid o.0) name) (and-left (j == n) _ e)
  it-row (Worker j q g x Draining hs) h e = absurd (cc e)
  it-row (Worker j q g x Exited hs) h e = absurd (cc e)
  it-row (Foreign j hs) h e = absurd (cc e)

  active-number : (p : Process) → is_active_process n p ≡ true → number_of p ≡ n
  active-number (Master j q i live hs) e = absurd (cc e)
  active-number (Worker j q g x Starting hs) e = eqb-is j n e
  active-number (Worker j q g x Ready hs) e = eqb-is j n e
  active-number (Worker j q g x Draining hs) e = absurd (cc e)
  active-number (Worker j q g x Exited hs) e = absurd (cc e)
  active-number (Foreign j hs) e = absurd (cc e)

  has-it :
      (rows : List Process) → AllByRecursion (Fine u) rows → list_any (is_ready_as n k) rows ≡ true →
      list_any (is_it r.pid r.generation.image n r.generation k first-low) rows ≡ true
  has-it [] all e = absurd (cc e)
  has-it (p ∷ rows) all e = go (is_ready_as n k p) refl e (has-it rows all.1)
    where
      go :
          (b : Bool) → is_ready_as n k p ≡ b → (b || list_any (is_ready_as n k) rows) ≡ true →
          (list_any (is_ready_as n k) rows ≡ true → list_any (is_it r.pid r.generation.image n r.generation k first-low) rows ≡ true)
          →
          (is_it r.pid r.generation.image n r.generation k first-low p || list_any (is_it r.pid r.generation.image n r.generation k first-low) rows)
          ≡ true
      go true is e ih = rw (it-row p all.0 is) refl
      go false is e ih =
          or-right (is_it r.pid r.generation.image n r.generation k first-low p)
          (list_any (is_it r.pid r.generation.image n r.generation k first-low) rows) (ih e)

  pub first-stands : Stands r.pid r.generation.image n r.generation k first-low t
  first-stands = record {
    fact = record {
      one = first-one;
      all =
          every-more (λ p. (number_of p ≡ n → is_ready_as n k p ≡ true) × Fine u p) It
          (λ p h e. it-row p h.1 (h.0 (active-number p e))) t.rows
          (every-both (λ p. number_of p ≡ n → is_ready_as n k p ≡ true) (Fine u) t.rows its.0 fine);
      below = its.1;
      above = first-above;
    };
    has = has-it t.rows fine on;
  }

-- What stands is Ready as it was.
pub stands-ready : (m image n : ℕ) (g : Generation) (k : ℕ) (low : k < 1024) (t : Table) → Stands m image n g k low t → has_ready t n k ≡ true
stands-ready m image n g k low t st = go t.rows st.has
  where
    ready-as : (p : Process) → is_it m image n g k low p ≡ true → is_ready_as n k p ≡ true
    ready-as (Master j q i live hs) e = absurd (cc e)
    ready-as (Worker j q h x Starting hs) e = absurd (cc e)
    ready-as (Worker j q h x Ready hs) e =
        let named = bears-is g k h x (and-right (q == m) _ (and-left ((q == m) && bears g k h x) _ e)) in
        both-true (j == n) (x == k) (and-right ((q == m) && bears g k h x) _ e) (eqb-refl x k named.1)
    ready-as (Worker j q h x Draining hs) e = absurd (cc e)
    ready-as (Worker j q h x Exited hs) e = absurd (cc e)
    ready-as (Foreign j hs) e = absurd (cc e)

    go : (rows : List Process) → list_any (is_it m image n g k low) rows ≡ true → list_any (is_ready_as n k) rows ≡ true
    go [] e = absurd (cc e)
    go (p ∷ rows) e = at (is_it m image n g k low p) refl e (go rows)
      where
        at :
            (b : Bool) → is_it m image n g k low p ≡ b → (b || list_any (is_it m image n g k low) rows) ≡ true →
            (list_any (is_it m image n g k low) rows ≡ true → list_any (is_ready_as n k) rows ≡ true) →
            (is_ready_as n k p || list_any (is_ready_as n k) rows) ≡ true
        at true is e ih = rw (ready-as p is) refl
        at false is e ih = or-right (is_ready_as n k p) (list_any (is_ready_as n k) rows) (ih e)
