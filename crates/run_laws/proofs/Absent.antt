-- A process that has left the table does not come back, whatever is called and whoever exits.
use Rattle.std.proofs.Common.{ℕ, ◌+◌, ◌<◌, Bool, true, List, [], ◌∷◌, Option, Some, None, arith}
use Rattle.std.specs.Prelude.{◌==◌, nat_lt, length, if◌then◌else◌}
use Rattle.std.specs.List.{filter_map, AllByRecursion, list_any}
use Rattle.vocabulary.specs.declared.names.Name.{Name}
use Rattle.vocabulary.specs.declared.names.Name.TheVariants as name
use Rattle.vocabulary.specs.declared.table.Stance.TheVariants.{Starting}
use Rattle.vocabulary.specs.declared.calls.Call.{Call}
use Rattle.vocabulary.specs.declared.calls.Call.TheVariants.{OpenAt, CloseAt, Fork, AwaitReady, Quit, Kill, Census}
use Rattle.vocabulary.specs.declared.calls.Call.TheVariants.{AwaitGone, SpawnMaster, Adopt, WritePid, MovePid}
use Rattle.vocabulary.specs.declared.calls.Call.TheVariants.{RemovePid, Alive, Leave, Usr1, TermMaster, Ask}
use Rattle.vocabulary.specs.declared.calls.Answer.{Answer}
use Rattle.vocabulary.specs.declared.calls.Answer.TheVariants as answer
use Rattle.vocabulary.specs.declared.calls.Fate.{Fate}
use Rattle.definitions.specs.Table.{Hold, Process, Master, Worker, Foreign, Table, Caller, owner_at, live_master}
use Rattle.definitions.specs.Table.{is_held, is_worker, is_active}
use Rattle.call_laws.specs.Pieces.{is_live_master, is_starting, is_exited, is_any, is_named, is_draining, made_exited}
use Rattle.call_laws.specs.Pieces.{caller_exits, moved_if, asked_alive, lacks_address, without_master, fault_at}
use Rattle.call_laws.specs.Pieces.{with_new_socket, is_row, made_ready, made_draining, fault_or_own}
use Rattle.definitions.specs.Calls.{change, first_changed, without_exited, exited, all_exited, after_exits, Stepped}
use Rattle.definitions.specs.Calls.{gives, each_row, drop_where, is_image, suits, is_of_image, with_holds, put_hold}
use Rattle.definitions.specs.Calls.{lowest_free, with_new_row, shared, is_of, is_exited_of, has_process_room, own_step}
use Rattle.definitions.specs.Calls.{step_by, step_with, Handed}
use Rattle.table_laws.proofs.Rows.{FitsIn, every-filter_map, every-append}
use Rattle.call_laws.proofs.Choices.{pick}
use Rattle.run_laws.proofs.Taken.{IsOther, gone-lasts}

pub record Absent (n : ℕ) (t : Table) : Type 0 where
  pub all : AllByRecursion (IsOther n) t.rows
  pub below : n < t.next_process

module _ (n : ℕ) where
  changed :
      (test : Process → Bool) (f : Process → Process) → ((p : Process) → IsOther n p → IsOther n (f p)) →
      (rows : List Process) → AllByRecursion (IsOther n) rows →
      AllByRecursion (IsOther n) (filter_map (change test f) rows)
  changed test f h rows all = every-filter_map (IsOther n) (IsOther n) (change test f) (λ p x. pick (IsOther n) (test p) (f p) p (λ e. h p x) (λ e. x)) rows all

  fewer : (test : Process → Bool) (rows : List Process) → AllByRecursion (IsOther n) rows → AllByRecursion (IsOther n) (filter_map (drop_where test) rows)
  fewer test rows all =
      every-filter_map (IsOther n) (IsOther n) (drop_where test)
      (λ p x. pick (FitsIn (IsOther n)) (test p) None (Some p) (λ e. tt) (λ e. x)) rows all

  first : (test : Process → Bool) (rows : List Process) → AllByRecursion (IsOther n) rows → AllByRecursion (IsOther n) (first_changed test made_exited rows)
  first test [] all = tt
  first test (p ∷ rows) all =
      pick (AllByRecursion (IsOther n)) (test p) (made_exited p ∷ rows) (p ∷ first_changed test made_exited rows)
      (λ e. ((gone-lasts 0 n).ends p all.0, all.1)) (λ e. (all.0, first test rows all.1))

  exit-one : (e : Name) (rows : List Process) → AllByRecursion (IsOther n) rows → AllByRecursion (IsOther n) (exited e rows)
  exit-one (name.Worker g k) rows all = changed (is_named is_active g k) made_exited (gone-lasts 0 n).ends rows all
  exit-one (name.Draining g k) rows all = first (is_named is_draining g k) rows all
  exit-one (name.Master i) rows all = go (live_master i rows)
    where
      go : (o : Option Caller) → AllByRecursion (IsOther n) (caller_exits o rows)
      go None = all
      go (Some c) =
          every-filter_map (IsOther n) (IsOther n) (without_exited c.number (λ q. list_any (is_live_master q) rows))
          (λ p x. (gone-lasts (c.number + 1) n).leaves c.number (λ q. list_any (is_live_master q) rows) p (λ e. absurd (omega (arith, e))) x)
          rows all

  exits-rows : (es : List Name) (rows : List Process) → AllByRecursion (IsOther n) rows → AllByRecursion (IsOther n) (all_exited es rows)
  exits-rows [] rows all = all
  exits-rows (e ∷ es) rows all = exits-rows es (exited e rows) (exit-one e rows all)

  pub absent-exits : (es : List Name) (t : Table) → Absent n t → Absent n (after_exits es t)
  absent-exits es t h = record { all = exits-rows es t.rows h.all; below = h.below }

  left-row : (m : ℕ) (p : Process) → IsOther n p → FitsIn (IsOther n) (without_master m p)
  left-row m (Master k q i live hs) h = pick (FitsIn (IsOther n)) (k == m) None (Some (Master k (if q == m then 1 else q) i live hs)) (λ e. tt) (λ e. h)
  left-row m (Worker k q g j s hs) h = pick (FitsIn (IsOther n)) (q == m) None (Some (Worker k q g j s hs)) (λ e. tt) (λ e. h)
  left-row m (Foreign k hs) h = h

  ---- Each call

  abbrev A : Table → Type 0
  A t = Absent n t

  absent-each :
      (f : Process → Option Process) (t : Table) →
      (AllByRecursion (IsOther n) t.rows → AllByRecursion (IsOther n) (filter_map f t.rows)) → A t → A (each_row f t)
  absent-each f t h a = record { all = h a.all; below = a.below }

  absent-row : (row : ℕ → Process) (t : Table) → IsOther n (row t.next_process) → A t → A (with_new_row t row)
  absent-row row t h a = record { all = every-append (IsOther n) t.rows (row t.next_process) a.all h; below = omega (arith, a.below) }

  own : (handed : Handed) (by : ℕ) (c : Caller) (call : Call) (t : Table) → A t → A (own_step handed by c call t).table
  own handed by c (OpenAt a) t h =
      let hold : Hold = record { fd = lowest_free c.holds; socket = t.next_socket; address = a } in
      let done = gives (answer.Opened (lowest_free c.holds)) (with_new_socket t c.number hold) in
      pick (λ (st : Stepped). A st.table) (is_held a t.rows) (gives answer.InUse t)
      (if nat_lt (length c.holds) t.limits.descriptors then done else gives answer.TooMany t) (λ e. h)
      (λ e. pick (λ (st : Stepped). A st.table) (nat_lt (length c.holds) t.limits.descriptors) done (gives answer.TooMany t) (λ e. record { all = changed (is_row c.number) (with_holds (put_hold hold)) ((gone-lasts 0 n).keeps (put_hold hold)) t.rows h.all; below = h.below }) (λ e. h))
  own handed by c (CloseAt a) t h =
      absent-each (change (is_of c.number) (with_holds (lacks_address a))) t
      (changed (is_of c.number) (with_holds (lacks_address a)) ((gone-lasts 0 n).keeps (lacks_address a)) t.rows) h
  own handed by c (Fork g x fds) t h =
      let done = gives answer.Forked (with_new_row t (λ k. Worker k c.number g x Starting (shared fds c.holds))) in
      pick (λ (st : Stepped). A st.table) (list_any (is_worker is_active c.number g x) t.rows) (gives answer.Again t)
      (if has_process_room t then done else gives answer.Again t) (λ e. h)
      (λ e. pick (λ (st : Stepped). A st.table) (has_process_room t) done (gives answer.Again t) (λ e. absent-row (λ k. Worker k c.number g x Starting (shared fds c.holds)) t (λ e. absurd (omega (arith, e, h.below))) h) (λ e. h))
  own handed by c (AwaitReady g x) t h =
      pick (λ (st : Stepped). A st.table) (list_any (is_worker is_active c.number g x) t.rows) _ _
      (λ e. absent-each (change (is_worker is_starting c.number g x) made_ready) t (every-filter_map (IsOther n) (IsOther n) (change (is_worker is_starting c.number g x) made_ready) (λ p z. pick (IsOther n) (is_worker is_starting c.number g x p) (made_ready p) p (λ e. (gone-lasts 0 n).readies c.number g x p e z) (λ e. z)) t.rows) h)
      (λ e. absent-each (drop_where (is_worker is_exited c.number g x)) t (fewer (is_worker is_exited c.number g x) t.rows) h)
  own handed by c (Quit g x) t h =
      absent-each (change (is_worker is_active c.number g x) made_draining) t
      (every-filter_map (IsOther n) (IsOther n) (change (is_worker is_active c.number g x) made_draining) (λ p z. pick (IsOther n) (is_worker is_active c.number g x p) (made_draining p) p (λ e. (gone-lasts c.number n).drains g x p tt e z) (λ e. z)) t.rows)
      h
  own handed by c (Kill g x) t h = absent-each (drop_where (is_worker is_any c.number g x)) t (fewer (is_worker is_any c.number g x) t.rows) h
  own handed by c (Census g) t h = absent-each (drop_where (is_exited_of c.number)) t (fewer (is_exited_of c.number) t.rows) h
  own handed by c (AwaitGone g x) t h =
      pick (λ (st : Stepped). A st.table) (list_any (is_worker is_active c.number g x) t.rows) _ _ (λ e. h)
      (λ e. absent-each (drop_where (is_worker is_any c.number g x)) t (fewer (is_worker is_any c.number g x) t.rows) h)
  own handed by c (SpawnMaster i) t h =
      let done = gives answer.Spawned (with_new_row t (λ k. Master k c.number i true c.holds)) in
      pick (λ (st : Stepped). A st.table) (list_any (is_image i) t.rows) (gives answer.Again t)
      (if has_process_room t then done else gives answer.Again t) (λ e. h)
      (λ e. pick (λ (st : Stepped). A st.table) (has_process_room t) done (gives answer.Again t) (λ e. absent-row (λ k. Master k c.number i true c.holds) t (λ e. absurd (omega (arith, e, h.below))) h) (λ e. h))
  own handed by c Adopt t h =
      pick (λ (st : Stepped). A st.table) (suits handed by c.holds) (gives answer.Adopted t)
      (gives answer.Refused t) (λ e. h) (λ e. h)
  own handed by c (WritePid path) t h = record { all = h.all; below = h.below }
  own handed by c (MovePid from to) t h = go (owner_at from t.files)
    where
      go : (o : Option ℕ) → A (moved_if o from to t).table
      go None = h
      go (Some owner) = record { all = h.all; below = h.below }
  own handed by c (RemovePid path) t h = record { all = h.all; below = h.below }
  own handed by c (Alive i) t h = go (live_master i t.rows)
    where
      go : (o : Option Caller) → A (asked_alive o i t).table
      go (Some other) = h
      go None = absent-each (drop_where (is_image i)) t (fewer (is_image i) t.rows) h
  own handed by c Leave t h =
      absent-each (without_master c.number) t
      (every-filter_map (IsOther n) (IsOther n) (without_master c.number) (left-row c.number) t.rows) h
  own handed by c (Usr1 g x) t h = h
  own handed by c (TermMaster i) t h = absent-each (drop_where (is_of_image i t.rows)) t (fewer (is_of_image i t.rows) t.rows) h
  own handed by c (Ask n) t h = h

  pub absent-steps : (handed : Handed) (by : ℕ) (call : Call) (fate : Option Fate) (t : Table) → A t → A (step_with handed by call fate t).table
  absent-steps handed by call fate t h = go (live_master by t.rows)
    where
      or : (o : Option Answer) (c : Caller) → A (fault_or_own o handed by c call t).table
      or (Some a) c = h
      or None c = own handed by c call t h

      go : (o : Option Caller) → A (step_by handed by o call fate t).table
      go None = h
      go (Some c) = or (fault_at c call fate t) c
