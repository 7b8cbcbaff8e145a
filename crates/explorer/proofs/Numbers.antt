-- Process numbers rise in each table that a run comes to.
use Rattle.std.proofs.Common.{◌≡◌, ◌≤◌, ◌+◌, ℕ, Bool, true, false, cond, List, [], ◌∷◌, Option, Some, None, refl, sym, subst, arith}
use Rattle.std.specs.Prelude.{◌==◌, nat_lt, length, IfSome}
use Rattle.std.specs.List.{filter_map, list_any}
use Rattle.vocabulary.specs.declared.names.Name.{Name}
use Rattle.vocabulary.specs.declared.names.Name.TheVariants as name
use Rattle.vocabulary.specs.declared.calls.Answer.{Answer}
use Rattle.vocabulary.specs.declared.calls.Call.{Call}
use Rattle.vocabulary.specs.declared.calls.Call.TheVariants.{OpenAt, CloseAt, Fork, AwaitReady, Quit, Kill, Census}
use Rattle.vocabulary.specs.declared.calls.Call.TheVariants.{AwaitGone, SpawnMaster, Adopt, WritePid, MovePid}
use Rattle.vocabulary.specs.declared.calls.Call.TheVariants.{RemovePid, Alive, Leave, Usr1, TermMaster, Ask}
use Rattle.definitions.specs.Table.{FilePath, Hold, Starting, Process, Master, Worker, Foreign, Table, number_of}
use Rattle.definitions.specs.Table.{is_active, is_worker, is_held, Caller, live_master, owner_at, IsAscending}
use Rattle.call_laws.specs.Pieces.{is_named, is_live_master, is_starting, is_exited, is_any, is_draining, made_exited}
use Rattle.call_laws.specs.Pieces.{caller_exits, made_ready, made_draining, lacks_address, is_row, moved_if}
use Rattle.call_laws.specs.Pieces.{asked_alive, fault_or_own, without_master, fault_at}
use Rattle.definitions.specs.Calls.{change, without_exited, exited, all_exited, after_exits, Fate, Stepped, with_holds}
use Rattle.definitions.specs.Calls.{drop_where, with_new_row, put_hold, lowest_free, shared, has_process_room, is_of}
use Rattle.definitions.specs.Calls.{is_exited_of, is_image, is_of_image, own_step, step_by, step_with, suits, Handed}
use Rattle.std.specs.Bool.{then_some}
use Rattle.kernel_table.proofs.Keeping.{Becomes, Becomes-filter_map, Becomes-first_changed, says-change, says-dropped}
use Rattle.kernel_model.proofs.CallSteps.{ascending-append}

abbrev pub Rises : Table → Type 0
Rises t = IsAscending 0 t.rows t.next_process

---- Rows that leave, or stay with their numbers

abbrev HasSameNumber : Process → Process → Type 0
HasSameNumber p p' = number_of p' ≡ number_of p

still : {ps qs : List Process} → Becomes HasSameNumber ps qs → (a b next : ℕ) → a ≤ b → IsAscending b ps next → IsAscending a qs next
still Becomes.over a b next le h = omega (arith, le, h)
still (Becomes.leaves {p} {ps} {qs} r) a b next le h = still r a (number_of p + 1) next (omega (arith, le, h.0)) h.1
still (Becomes.stays {p} {p'} {ps} {qs} same r) a b next le h =
    (omega (arith, le, h.0, same), subst (λ n. IsAscending (n + 1) qs next) (sym same) (still r (number_of p + 1) (number_of p + 1) next (omega arith) h.1))

module _ (next : ℕ) (rows : List Process) (h : IsAscending 0 rows next) where
  each : (f : Process → Option Process) → ((p : Process) → IfSome (f p) (HasSameNumber p)) → IsAscending 0 (filter_map f rows) next
  each f says = still (Becomes-filter_map HasSameNumber f says rows) 0 0 next (omega arith) h

  changed : (test : Process → Bool) (f : Process → Process) → ((p : Process) → HasSameNumber p (f p)) → IsAscending 0 (filter_map (change test f) rows) next
  changed test f same = each (change test f) (says-change HasSameNumber (λ p. refl) test f (λ p t. same p))

  dropped : (test : Process → Bool) → IsAscending 0 (filter_map (drop_where test) rows) next
  dropped test = each (drop_where test) (says-dropped HasSameNumber (λ p. refl) test)

same-exited : (p : Process) → HasSameNumber p (made_exited p)
same-exited (Worker n q g k s hs) = refl
same-exited (Master n q i live hs) = refl
same-exited (Foreign n hs) = refl

same-ready : (p : Process) → HasSameNumber p (made_ready p)
same-ready (Worker n q g k s hs) = refl
same-ready (Master n q i live hs) = refl
same-ready (Foreign n hs) = refl

same-draining : (p : Process) → HasSameNumber p (made_draining p)
same-draining (Worker n q g k s hs) = refl
same-draining (Master n q i live hs) = refl
same-draining (Foreign n hs) = refl

same-holds : (f : List Hold → List Hold) (p : Process) → HasSameNumber p (with_holds f p)
same-holds f (Worker n q g k s hs) = refl
same-holds f (Master n q i live hs) = refl
same-holds f (Foreign n hs) = refl

kept : (b : Bool) (p p' : Process) → HasSameNumber p p' → IfSome (then_some b p') (HasSameNumber p)
kept true p p' same = same
kept false p p' same = tt

same-without : (gone : ℕ) (lives : ℕ → Bool) (p : Process) → IfSome (without_exited gone lives p) (HasSameNumber p)
same-without gone lives (Worker n q g k s hs) = at (q == gone)
  where
    at : (b : Bool) → IfSome (cond b None (Some (Worker n q g k s hs))) (HasSameNumber (Worker n q g k s hs))
    at true = tt
    at false = refl
same-without gone lives (Foreign n hs) = refl
same-without gone lives (Master n q i live hs) = at (n == gone)
  where
    at : (b : Bool) →
        IfSome (cond b (then_some (lives q) (Master n q i false [])) (Some (Master n (cond (q == gone) 1 q) i live hs)))
        (HasSameNumber (Master n q i live hs))
    at true = kept (lives q) (Master n q i live hs) (Master n q i false []) refl
    at false = refl

same-left : (m : ℕ) (p : Process) → IfSome (without_master m p) (HasSameNumber p)
same-left m p = same-without m (λ parent. false) p

---- Exits

module _ (next : ℕ) where
  master-exits : (c : Option Caller) (rows : List Process) → IsAscending 0 rows next → IsAscending 0 (caller_exits c rows) next
  master-exits None rows h = h
  master-exits (Some c) rows h =
      let lives : ℕ → Bool = λ q. list_any (is_live_master q) rows in
      each next rows h (without_exited c.number lives) (same-without c.number lives)

  exits-one : (e : Name) (rows : List Process) → IsAscending 0 rows next → IsAscending 0 (exited e rows) next
  exits-one (name.Worker g k) rows h = changed next rows h (is_named is_active g k) made_exited same-exited
  exits-one (name.Draining g k) rows h =
      still (Becomes-first_changed HasSameNumber (λ p. refl) (is_named is_draining g k) made_exited (λ p t. same-exited p) rows) 0 0 next (omega arith) h
  exits-one (name.Master image) rows h = master-exits (live_master image rows) rows h

  exits-all : (es : List Name) (rows : List Process) → IsAscending 0 rows next → IsAscending 0 (all_exited es rows) next
  exits-all [] rows h = h
  exits-all (e ∷ es) rows h = exits-all es (exited e rows) (exits-one e rows h)

pub rises-exits : (es : List Name) (t : Table) → Rises t → Rises (after_exits es t)
rises-exits es t h = exits-all t.next_process es t.rows h

---- Calls

one_of : (b : Bool) (x y : Stepped) → Rises x.table → Rises y.table → (let z : Stepped = cond b x y in Rises z.table)
one_of true x y h g = h
one_of false x y h g = g

module _ (handed : Handed) (image : ℕ) (c : Caller) (t : Table) (h : Rises t) where
  row-more : (row : ℕ → Process) → ((n : ℕ) → number_of (row n) ≡ n) → Rises (with_new_row t row)
  row-more row numbered = ascending-append t.rows 0 t.next_process (row t.next_process) (numbered t.next_process) h

  moves : (owner : Option ℕ) (from to : FilePath) → (let z : Stepped = moved_if owner from to t in Rises z.table)
  moves None from to = h
  moves (Some owner) from to = h

  asks : (found : Option Caller) (i : ℕ) → (let z : Stepped = asked_alive found i t in Rises z.table)
  asks (Some m) i = h
  asks None i = dropped t.next_process t.rows h (is_image i)

  own : (call : Call) → (let z : Stepped = own_step handed image c call t in Rises z.table)
  own (OpenAt a) =
      one_of (is_held a t.rows) _ _ h
      (one_of (nat_lt (length c.holds) t.limits.descriptors) _ _
      (changed t.next_process t.rows h (is_row c.number) (with_holds (put_hold (record { fd = lowest_free c.holds; socket = t.next_socket; address = a }))) (same-holds (put_hold (record { fd = lowest_free c.holds; socket = t.next_socket; address = a })))) h)
  own (CloseAt a) = changed t.next_process t.rows h (is_of c.number) (with_holds (lacks_address a)) (same-holds (lacks_address a))
  own (Fork g k fds) =
      one_of (list_any (is_worker is_active c.number g k) t.rows) _ _ h
      (one_of (has_process_room t) _ _ (row-more (λ n. Worker n c.number g k Starting (shared fds c.holds)) (λ n. refl)) h)
  own (AwaitReady g k) =
      one_of (list_any (is_worker is_active c.number g k) t.rows) _ _
      (changed t.next_process t.rows h (is_worker is_starting c.number g k) made_ready same-ready) (dropped t.next_process t.rows h (is_worker is_exited c.number g k))
  own (Quit g k) = changed t.next_process t.rows h (is_worker is_active c.number g k) made_draining same-draining
  own (Kill g k) = dropped t.next_process t.rows h (is_worker is_any c.number g k)
  own (Census g) = dropped t.next_process t.rows h (is_exited_of c.number)
  own (AwaitGone g k) =
      one_of (list_any (is_worker is_active c.number g k) t.rows) _ _ h (dropped t.next_process t.rows h (is_worker is_any c.number g k))
  own (SpawnMaster i) =
      one_of (list_any (is_image i) t.rows) _ _ h
      (one_of (has_process_room t) _ _ (row-more (λ n. Master n c.number i true c.holds) (λ n. refl)) h)
  own Adopt = one_of (suits handed image c.holds) _ _ h h
  own (WritePid path) = h
  own (MovePid from to) = moves (owner_at from t.files) from to
  own (RemovePid path) = h
  own (Alive i) = asks (live_master i t.rows) i
  own Leave = each t.next_process t.rows h (without_master c.number) (same-left c.number)
  own (Usr1 g k) = h
  own (Ask n) = h
  own (TermMaster i) = dropped t.next_process t.rows h (is_of_image i t.rows)

  faulted : (a : Option Answer) (call : Call) → (let z : Stepped = fault_or_own a handed image c call t in Rises z.table)
  faulted None call = own call
  faulted (Some a) call = h

by-caller : (handed : Handed) (image : ℕ) (c : Option Caller) (call : Call) (f : Option Fate) (t : Table) → Rises t →
    (let z : Stepped = step_by handed image c call f t in Rises z.table)
by-caller handed image None call f t h = h
by-caller handed image (Some c) call f t h = faulted handed image c t h (fault_at c call f t) call

pub rises-step : (handed : Handed) (image : ℕ) (call : Call) (f : Option Fate) (t : Table) → Rises t →
    (let z : Stepped = step_with handed image call f t in Rises z.table)
rises-step handed image call f t h = by-caller handed image (live_master image t.rows) call f t h
