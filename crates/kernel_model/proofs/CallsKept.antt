-- Calls keep what every table keeps.
use Rattle.std.proofs.Common.{◌≡◌, ℕ, ◌≤◌, Bool, true, false, cond, nat_lt, List, length, Option, Some, None, refl, arith}
use Rattle.std.specs.List.{list_any}
use Rattle.vocabulary.specs.declared.table.Stance.TheVariants.{Starting}
use Rattle.vocabulary.specs.declared.calls.Call.{Call}
use Rattle.vocabulary.specs.declared.calls.Call.TheVariants.{OpenAt, CloseAt, Fork, AwaitReady, Quit, Kill, Census}
use Rattle.vocabulary.specs.declared.calls.Call.TheVariants.{AwaitGone, SpawnMaster, Adopt, WritePid, MovePid}
use Rattle.vocabulary.specs.declared.calls.Call.TheVariants.{RemovePid, Alive, Leave, Usr1, TermMaster, Ask}
use Rattle.vocabulary.specs.declared.calls.Answer.{Answer}
use Rattle.vocabulary.specs.declared.calls.Fate.{Fate}
use Rattle.vocabulary.specs.declared.names.Name.{Name}
use Rattle.definitions.specs.Table.{Address, FilePath, File, owner_at, Generation, Hold, Process, Master, Worker, Table}
use Rattle.definitions.specs.Table.{is_active, is_worker, is_held, Caller, live_master}
use Rattle.call_laws.specs.Pieces.{with_rows, is_starting, is_exited, is_any, with_new_socket, opened, forked, spawned}
use Rattle.call_laws.specs.Pieces.{awaited, moved_if, asked_alive, with_files, made_ready, made_draining, lacks_address}
use Rattle.call_laws.specs.Pieces.{fault_or_own, killed, fault_at}
use Rattle.definitions.specs.Calls.{after_exits, is_image, Stepped, with_holds, lowest_free, is_of, is_exited_of}
use Rattle.definitions.specs.Calls.{has_process_room, with_new_row, shared, own_step, step_by, step_with, suits, Handed}
use Rattle.kernel_table.specs.Room.{IsKept}
use Rattle.kernel_table.proofs.Keeping.{AreKept}
use Rattle.kernel_model.proofs.Steps.{same-draining, same-ready, same-holds, worker-named, worker-of, kept-change}
use Rattle.kernel_model.proofs.Steps.{kept-dropped, drains_so, ready_so, closes_so, kept-all_exited}
use Rattle.kernel_model.proofs.CallSteps.{live-caller, caller-sockets, within-shared, kept-fork, kept-open}
use Rattle.kernel_model.proofs.MasterSteps.{kept-spawn, kept-reaped, kept-left, kept-terminated}

-- ---- tables
pub kept-table : (t : Table) → IsKept t → AreKept t.rows t.next_process t.next_socket
kept-table t h = record { once = h.formed.once; masters = h.masters; quiet = h.formed.quiet; parents = h.formed.parents; ascending = h.formed.ascending; sockets = h.sockets }

pub kept-rows : (t t' : Table) → IsKept t → AreKept t'.rows t'.next_process t'.next_socket →
    t.next_socket ≤ t'.next_socket → t'.limits.descriptors ≡ t.limits.descriptors → IsKept t'
kept-rows t t' h rows le same = record {
  masters = rows.masters;
  formed = record { once = rows.once; quiet = rows.quiet; parents = rows.parents; ascending = rows.ascending };
  sockets = rows.sockets;
  first = (let first = h.first in omega arith);
  descriptors = (let most = h.descriptors in omega arith);
}

pub IsKept-exits : (es : List Name) (t : Table) → IsKept t → IsKept (after_exits es t)
IsKept-exits es t h = kept-rows t (after_exits es t) h (kept-all_exited t.next_process t.next_socket es t.rows (kept-table t h)) (omega arith) refl

-- ---- calls
one_of : (b : Bool) (x y : Stepped) → (b ≡ true → IsKept x.table) → (b ≡ false → IsKept y.table) → (let z : Stepped = cond b x y in IsKept z.table)
one_of true x y h g = h refl
one_of false x y h g = g refl

module _ (handed : Handed) (image : ℕ) (c : Caller) (t : Table) (h : IsKept t) (found : live_master image t.rows ≡ Some c) where
  kept : AreKept t.rows t.next_process t.next_socket
  kept = kept-table t h

  with-rows : (rows : List Process) → AreKept rows t.next_process t.next_socket → IsKept (with_rows t rows)
  with-rows rows kept = kept-rows t (with_rows t rows) h kept (omega arith) refl

  with-files : (files : List File) → IsKept (with_files files t)
  with-files files = kept-rows t (with_files files t) h kept (omega arith) refl

  open-kept : (a : Address) → (let z : Stepped = opened c a t in IsKept z.table)
  open-kept a =
      one_of (is_held a t.rows) _ _ (λ e. h)
      (λ e. one_of (nat_lt (length c.holds) t.limits.descriptors) _ _
      (λ f.
      let hold : Hold = record { fd = lowest_free c.holds; socket = t.next_socket; address = a } in
      kept-rows t (with_new_socket t c.number hold) h (kept-open t.rows t.next_process t.next_socket kept h.first c.number hold refl) (omega arith) refl)
      (λ f. h))

  fork-kept : (g : Generation) (k : ℕ) (fds : Option (List ℕ)) → (let z : Stepped = forked c g k fds t in IsKept z.table)
  fork-kept g k fds =
      one_of (list_any (is_worker is_active c.number g k) t.rows) _ _ (λ e. h)
      (λ free. one_of (has_process_room t) _ _
      (λ e. kept-rows t (with_new_row t (λ n. Worker n c.number g k Starting (shared fds c.holds))) h
      (kept-fork t.rows t.next_process t.next_socket kept c.number g k (shared fds c.holds) free (live-caller image t.rows c found) (within-shared fds t.next_socket c.holds (caller-sockets image t.next_socket t.rows c found h.sockets))) (omega arith) refl)
      (λ e. h))

  spawn-kept : (i : ℕ) → (let z : Stepped = spawned c i t in IsKept z.table)
  spawn-kept i =
      one_of (list_any (is_image i) t.rows) _ _ (λ e. h)
      (λ free. one_of (has_process_room t) _ _
      (λ e. kept-rows t (with_new_row t (λ n. Master n c.number i true c.holds)) h
      (kept-spawn t.rows t.next_process t.next_socket kept c.number i c.holds free (caller-sockets image t.next_socket t.rows c found h.sockets)) (omega arith) refl)
      (λ e. h))

  await-kept : (g : Generation) (k : ℕ) → (let z : Stepped = awaited c g k t in IsKept z.table)
  await-kept g k =
      one_of (list_any (is_worker is_active c.number g k) t.rows) _ _
      (λ e. with-rows _ (kept-change t.next_process t.next_socket t.rows kept (is_worker is_starting c.number g k) made_ready same-ready (λ rows' up p f. ready_so t.rows rows' t.next_socket up c.number g k p f)))
      (λ e. with-rows _ (kept-dropped t.next_process t.next_socket t.rows kept (is_worker is_exited c.number g k) (worker-named is_exited c.number g k)))

  kill-kept : (g : Generation) (k : ℕ) → (let z : Stepped = killed c g k t in IsKept z.table)
  kill-kept g k = with-rows _ (kept-dropped t.next_process t.next_socket t.rows kept (is_worker is_any c.number g k) (worker-named is_any c.number g k))

  move-kept : (owner : Option ℕ) (from to : FilePath) → (let z : Stepped = moved_if owner from to t in IsKept z.table)
  move-kept None from to = h
  move-kept (Some owner) from to = with-files _

  alive-kept : (found : Option Caller) (i : ℕ) → live_master i t.rows ≡ found → (let z : Stepped = asked_alive found i t in IsKept z.table)
  alive-kept (Some m) i e = h
  alive-kept None i e = with-rows _ (kept-reaped i t.next_process t.next_socket t.rows kept e)

  pub own_step-kept : (call : Call) → (let z : Stepped = own_step handed image c call t in IsKept z.table)
  own_step-kept (OpenAt a) = open-kept a
  own_step-kept (CloseAt a) =
      with-rows _ (kept-change t.next_process t.next_socket t.rows kept (is_of c.number) (with_holds (lacks_address a)) (same-holds (lacks_address a)) (λ rows' up p e. closes_so t.rows rows' t.next_socket up a p))
  own_step-kept (Fork g k fds) = fork-kept g k fds
  own_step-kept (AwaitReady g k) = await-kept g k
  own_step-kept (Quit g k) =
      with-rows _ (kept-change t.next_process t.next_socket t.rows kept (is_worker is_active c.number g k) made_draining same-draining (λ rows' up p e. drains_so t.rows rows' t.next_socket up p))
  own_step-kept (Kill g k) = kill-kept g k
  own_step-kept (Census g) =
      with-rows _ (kept-dropped t.next_process t.next_socket t.rows kept (is_exited_of c.number) (worker-of c.number))
  own_step-kept (AwaitGone g k) =
      one_of (list_any (is_worker is_active c.number g k) t.rows) _ _ (λ e. h) (λ e. kill-kept g k)
  own_step-kept (SpawnMaster i) = spawn-kept i
  own_step-kept Adopt = one_of (suits handed image c.holds) _ _ (λ e. h) (λ e. h)
  own_step-kept (WritePid path) = with-files _
  own_step-kept (MovePid from to) = move-kept (owner_at from t.files) from to
  own_step-kept (RemovePid path) = with-files _
  own_step-kept (Alive i) = alive-kept (live_master i t.rows) i refl
  own_step-kept Leave = with-rows _ (kept-left t.next_process t.next_socket t.rows kept c.number)
  own_step-kept (Usr1 g k) = h
  own_step-kept (Ask n) = h
  own_step-kept (TermMaster i) = with-rows _ (kept-terminated t.next_process t.next_socket t.rows kept i)

  faulted-kept : (a : Option Answer) (call : Call) → (let z : Stepped = fault_or_own a handed image c call t in IsKept z.table)
  faulted-kept None call = own_step-kept call
  faulted-kept (Some a) call = h

step_by-kept : (handed : Handed) (image : ℕ) (c : Option Caller) (call : Call) (f : Option Fate) (t : Table) →
    IsKept t → live_master image t.rows ≡ c → (let z : Stepped = step_by handed image c call f t in IsKept z.table)
step_by-kept handed image None call f t h e = h
step_by-kept handed image (Some c) call f t h e = faulted-kept handed image c t h e (fault_at c call f t) call

-- A call keeps what every table keeps.
pub IsKept-step : (handed : Handed) (image : ℕ) (call : Call) (f : Option Fate) (t : Table) → IsKept t →
    (let z : Stepped = step_with handed image call f t in IsKept z.table)
IsKept-step handed image call f t h = step_by-kept handed image (live_master image t.rows) call f t h refl
