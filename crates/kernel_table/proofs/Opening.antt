-- One more socket.
use Rattle.std.proofs.Common.{◌≡◌, ℕ, suc, zero, ◌+◌, ◌-◌, ◌<◌, ◌≤◌, Bool, true, false, cond, nat_eq, nat_lt, List, []}
use Rattle.std.proofs.Common.{◌∷◌, ◌++◌, map, length, get_or, refl, sym, ap, subst, ◌∙◌, arith}
use Rattle.std.specs.Prelude.{Contains}
use Rattle.std.specs.List.{AllByRecursion, filter_map, list_any}
use Rattle.std.proofs.lemmas.List.{length-map, length_push, get_or_append_left}
use Rattle.std.proofs.Math.Seq.{get_or-append_seam}
use Rattle.listener_set.specs.Numbers.{is_in}
use Rattle.listener_set.specs.Descriptors as pairs
use Rattle.definitions.specs.Table.{Address, Hold, Process, Table, holds_of}
use Rattle.definitions.specs.Calls.{change, free_from, lowest_free, put_hold, with_holds, each_row}
use Rattle.call_laws.specs.Pieces.{with_new_socket, is_row}
use Rattle.kernel_rows.specs.declared.process.Row.{Row}
use Rattle.kernel_rows.specs.declared.process.Row.TheVariants as row
use Rattle.kernel_rows.specs.declared.process.Holder.{Holder}
use Rattle.kernel_rows.specs.declared.process.Caller.{Caller}
use Rattle.kernel_rows.specs.Holds.{address_of, seen_hold, seen_holds}
use Rattle.kernel_rows.specs.declared.edits.Edit.TheVariants as edit
use Rattle.kernel_table.specs.declared.store.Store.{Store}
use Rattle.kernel_rows.specs.Seen.{process_of, seen_rows, caller_row}
use Rattle.kernel_table.specs.Seen.{seen_file, seen}
use Rattle.kernel_rows.specs.Edits.{edited}
use Rattle.kernel_table.specs.Room.{HasSockets, IsKept}
use Rattle.kernel_table.specs.Rows.{IsOwn}
use Rattle.kernel_rows.proofs.Lists.{list_any-map}
use Rattle.kernel_table.proofs.Masters.{IsOnly, IsOnly-from, held-all}

-- ---- the lowest free descriptor
taken-alike : (addresses : List Address) (ps : List (ℕ × ℕ)) (fd : ℕ) →
    is_in (pairs.descriptors_of ps) fd ≡ list_any (λ (h : Hold). nat_eq h.fd fd) (seen_holds addresses ps)
taken-alike addresses ps fd = list_any-map (λ n. nat_eq n fd) (λ (p : ℕ × ℕ). p.0) ps ∙ sym (list_any-map (λ (h : Hold). nat_eq h.fd fd) (seen_hold addresses) ps)

free-alike : (addresses : List Address) (ps : List (ℕ × ℕ)) (n fd : ℕ) →
    pairs.unused_from n fd (pairs.descriptors_of ps) ≡ free_from n fd (seen_holds addresses ps)
free-alike addresses ps zero fd = refl
free-alike addresses ps (suc n) fd = rw (taken-alike addresses ps fd, free-alike addresses ps n (fd + 1)) refl

pub lowest_free-seen : (addresses : List Address) (ps : List (ℕ × ℕ)) → pairs.lowest_unused (pairs.descriptors_of ps) ≡ lowest_free (seen_holds addresses ps)
lowest_free-seen addresses ps =
    free-alike addresses ps (length (pairs.descriptors_of ps)) 3
    ∙ ap (λ n. free_from n 3 (seen_holds addresses ps)) (length-map ps (λ (p : ℕ × ℕ). p.0) ∙ sym (length-map ps (seen_hold addresses)))

-- ---- what is held already stays so
-- a process has the holds that it is given
pub row-holds : (r : Row) (hs : List Hold) → holds_of (process_of r hs) ≡ hs
row-holds (row.Master n q i live) hs = refl
row-holds (row.Worker n q g k s) hs = refl
row-holds (row.Foreign n) hs = refl

module _ (addresses : List Address) (a : Address) where
  address-stays : (s : ℕ) → 1 ≤ s → s < length addresses + 1 → address_of (addresses ++ a ∷ []) s ≡ address_of addresses s
  address-stays s least less = get_or_append_left addresses (a ∷ []) [] (s - 1) (omega arith)

  holds-stay : (ps : List (ℕ × ℕ)) →
      AllByRecursion (λ (h : Hold). (1 ≤ h.socket) × (h.socket < length addresses + 1)) (seen_holds addresses ps) →
      seen_holds (addresses ++ a ∷ []) ps ≡ seen_holds addresses ps
  holds-stay [] w = refl
  holds-stay (p ∷ ps) w =
      let e = address-stays p.1 w.0.0 w.0.1 in
      let rest = holds-stay ps w.1 in
      (λ i. (record { fd = p.0; socket = p.1; address = e i }) ∷ rest i)

  pub rows-stay : (holders : List Holder) →
      AllByRecursion (HasSockets (length addresses + 1)) (seen_rows addresses holders) →
      seen_rows (addresses ++ a ∷ []) holders ≡ seen_rows addresses holders
  rows-stay [] w = refl
  rows-stay (h ∷ holders) w =
      let within = subst (AllByRecursion (λ (x : Hold). (1 ≤ x.socket) × (x.socket < length addresses + 1))) (row-holds h.row (seen_holds addresses h.holds)) w.0 in
      let one = ap (process_of h.row) (holds-stay h.holds within) in
      let rest = rows-stay holders w.1 in
      (λ i. one i ∷ rest i)

  put-seen : (ps : List (ℕ × ℕ)) (fd s : ℕ) → seen_holds addresses (pairs.put_pair ps fd s) ≡ put_hold (seen_hold addresses (fd, s)) (seen_holds addresses ps)
  put-seen [] fd s = refl
  put-seen (p ∷ ps) fd s = at (nat_lt fd p.0) (put-seen ps fd s)
    where
      at : (b : Bool) → seen_holds addresses (pairs.put_pair ps fd s)
          ≡ put_hold (seen_hold addresses (fd, s)) (seen_holds addresses ps) →
          seen_holds addresses (cond b ((fd, s) ∷ p ∷ ps) (p ∷ pairs.put_pair ps fd s))
          ≡ cond b (seen_hold addresses (fd, s) ∷ seen_hold addresses p ∷ seen_holds addresses ps)
          (seen_hold addresses p ∷ put_hold (seen_hold addresses (fd, s)) (seen_holds addresses ps))
      at true ih = refl
      at false ih = ap (λ hs. seen_hold addresses p ∷ hs) ih

all-at : (P : Process → Type 0) (rows : List Process) (p : Process) (k : ℕ) → AllByRecursion P rows → k < length rows → get_or rows k p ≡ p → P p
all-at P [] p k h lt e = absurd (omega arith)
all-at P (x ∷ rows) p zero h lt e = subst P e h.0
all-at P (x ∷ rows) p (suc k) h lt e = all-at P rows p k h.1 (omega arith) e

-- the caller's holds are its old ones with the new socket, and all others are as they were
pub opened-rows : (addresses : List Address) (a : Address) (holders : List Holder) (c : Caller) (fd : ℕ) →
    AllByRecursion (HasSockets (length addresses + 1)) (seen_rows addresses holders) →
    Contains (seen_rows addresses holders) (caller_row addresses c) →
    IsOnly (caller_row addresses c) (seen_rows addresses holders)
    → filter_map (change (is_row c.number)
    (with_holds (λ old. seen_holds (addresses ++ a ∷ []) (pairs.put_pair c.holds fd (length addresses + 1)))))
    (seen_rows (addresses ++ a ∷ []) holders)
    ≡ filter_map (change (is_row c.number)
    (with_holds (put_hold (record { fd = fd; socket = length addresses + 1; address = a }))))
    (seen_rows addresses holders)
opened-rows addresses a holders c fd sockets place only =
    let wider = addresses ++ a ∷ [] in
    let s = length addresses + 1 in
    let hold : Hold = record { fd = fd; socket = s; address = a } in
    let within = all-at (HasSockets s) (seen_rows addresses holders) (caller_row addresses c) place.0 sockets place.1 place.2 in
    let own = holds-stay addresses a c.holds within in
    let at : s - 1 ≡ length addresses = omega arith in
    let new : address_of wider s ≡ a = ap (λ i. get_or wider i []) at ∙ get_or-append_seam addresses a [] [] in
    let put : seen_holds wider (pairs.put_pair c.holds fd s) ≡ put_hold hold (seen_holds addresses c.holds) =
    put-seen wider a c.holds fd s
    ∙ ap (λ x. put_hold (record { fd = fd; socket = s; address = x }) (seen_holds wider c.holds)) new
    ∙ ap (put_hold hold) own in
    ap (filter_map (change (is_row c.number) (with_holds (λ old. seen_holds wider (pairs.put_pair c.holds fd s))))) (rows-stay addresses a holders sockets)
    ∙ held-all c.number c.parent c.image (seen_holds addresses c.holds) (seen_holds wider (pairs.put_pair c.holds fd s)) hold put (seen_rows addresses holders) only

-- the table with a new socket
pub opened-table : (s : Store) (a : Address) (c : Caller) (fd : ℕ) (wider : List Address) (holds : List (ℕ × ℕ)) →
    wider ≡ s.addresses.items ++ a ∷ [] → holds ≡ pairs.put_pair c.holds fd (length s.addresses.items + 1) →
    IsKept (seen s) → IsOwn s c
    → each_row (edited wider (edit.Hold c.number holds))
    (record {
      rows = seen_rows wider s.holders.items;
      files = map seen_file s.files.items;
      next_process = s.next_process;
      next_socket = length wider + 1;
      limits = s.limits;
    })
    ≡ with_new_socket (seen s) c.number (record { fd = fd; socket = length s.addresses.items + 1; address = a })
opened-table s a c fd wider holds more put kept own =
    let addresses = s.addresses.items in
    let table : List Address → Table = λ xs. record { rows = seen_rows xs s.holders.items; files = map seen_file s.files.items; next_process = s.next_process; next_socket = length xs + 1; limits = s.limits } in
    let only = IsOnly-from (seen s).rows 0 s.next_process (caller_row addresses c) own.0 kept.formed.ascending own.1 own.2 in
    let rows = opened-rows addresses a s.holders.items c fd kept.sockets own only in
    let count = ap (λ n. n + 1) (length_push addresses a) in
    ap (λ xs. each_row (edited xs (edit.Hold c.number holds)) (table xs)) more
    ∙ ap (λ hs. each_row (edited (addresses ++ a ∷ []) (edit.Hold c.number hs)) (table (addresses ++ a ∷ []))) put
    ∙ (λ i. record { rows = rows i; files = map seen_file s.files.items; next_process = s.next_process; next_socket = count i; limits = s.limits })
