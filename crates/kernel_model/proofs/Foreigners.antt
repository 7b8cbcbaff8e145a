-- A process of somebody else leaves what every table keeps.
use Rattle.std.proofs.Common.{◌≡◌, ℕ, ◌+◌, ◌<◌, ◌≤◌, ◌^◌, Bool, true, false, ◌||◌, List, [], ◌∷◌, ◌++◌, length, refl}
use Rattle.std.proofs.Common.{sym, ap, subst, ◌∙◌, inl, inr, nat_lt, arith}
use Rattle.std.specs.List.{list_any}
use Rattle.std.proofs.lemmas.Bool.Decides.{nat_tests}
use Rattle.std.proofs.lemmas.List.Folds.{list_any-append}
use Rattle.definitions.specs.Table.{Address, Process, Foreign, Table, holds_of, is_active, is_worker, IsQuiet}
use Rattle.definitions.specs.Table.{HasParent}
use Rattle.call_laws.specs.Pieces.{is_live_master}
use Rattle.definitions.specs.Calls.{is_image}
use Rattle.kernel_table.specs.declared.store.Store.{Store}
use Rattle.kernel_table.specs.Seen.{seen}
use Rattle.kernel_table.specs.Room.{GrowsByOne, HasMemoryFor, LacksNumbers, HasSockets, IsKept, IsSound}
use Rattle.kernel_table.specs.Foreign.{with_foreign}
use Rattle.kernel_table.specs.Names.{KnowsNames}
use Rattle.kernel_table.proofs.Names.{KnowsNames-same}
use Rattle.kernel_table.proofs.Keeping.{AreKept}
use Rattle.kernel_model.proofs.Steps.{KeepsMasters, HasParent-up}
use Rattle.kernel_model.proofs.CallSteps.{all-append, all-up, ascending-append, count-append, within-wider}
use Rattle.kernel_model.proofs.CallsKept.{kept-table, kept-rows}

-- ---- it keeps what every table keeps
abbrev foreign_at : ℕ → ℕ → Address → Process
foreign_at n s a = Foreign n ((record { fd = 3; socket = s; address = a }) ∷ [])

kept-foreign : (rows : List Process) (next socket : ℕ) (a : Address) → 1 ≤ socket → AreKept rows next socket →
    AreKept (rows ++ foreign_at next socket a ∷ []) (next + 1) (socket + 1)
kept-foreign rows next socket a first h =
    let p = foreign_at next socket a in
    let up : KeepsMasters rows (rows ++ p ∷ []) = λ q e. list_any-append (is_live_master q) rows (p ∷ []) ∙ ap (λ b. b || list_any (is_live_master q) (p ∷ [])) e in
    let wider = all-up (HasSockets socket) (HasSockets (socket + 1)) (λ x. within-wider socket (holds_of x)) rows h.sockets in
    record {
      once = λ q g k. (let most = h.once q g k in let same = count-append (is_worker is_active q g k) rows p in omega arith);
      masters = λ i. (let most = h.masters i in let same = count-append (is_image i) rows p in omega arith);
      quiet = all-append IsQuiet rows p h.quiet tt;
      parents = all-append (HasParent (rows ++ p ∷ [])) rows p (all-up (HasParent rows) (HasParent (rows ++ p ∷ [])) (HasParent-up rows (rows ++ p ∷ []) up) rows h.parents) tt;
      ascending = ascending-append rows 0 next p refl h.ascending;
      sockets = all-append (HasSockets (socket + 1)) rows p wider ((first, omega arith), tt);
    }

pub IsKept-foreign : (t : Table) (a : Address) → IsKept t → IsKept (with_foreign a t)
IsKept-foreign t a h = kept-rows t (with_foreign a t) h (kept-foreign t.rows t.next_process t.next_socket a h.first (kept-table t h)) (omega arith) refl

-- ---- the room stays
no-less : (m n : ℕ) → (m < n → ⊥) → n ≤ m
no-less m n h = at (nat_lt m n) refl
  where
    at : (b : Bool) → nat_lt m n ≡ b → n ≤ m
    at true e = absurd (h (grind (arith, nat_tests)))
    at false e = grind (arith, nat_tests)

pub sound-foreign : (old middle new : Store) (room needed : ℕ) (a : Address) → needed ≡ room + 1 →
    seen middle ≡ seen old → HasMemoryFor needed middle → (LacksNumbers (seen old) needed → ⊥) → IsKept (seen old) →
    seen new ≡ with_foreign a (seen middle) → GrowsByOne middle new → middle.free ≡ old.free → middle.lone ≡ old.lone →
    KnowsNames old → IsSound room new
sound-foreign old middle new room needed a more same memory enough kept table grows free lone known =
    let processes = no-less (2 ^ 32) (old.next_process + needed) (λ lt. enough (inl lt)) in
    let sockets = no-less (2 ^ 32) (length old.addresses.items + 1 + needed) (λ lt. enough (inr lt)) in
    let process : middle.next_process ≡ old.next_process = ap (λ (t : Table). t.next_process) same in
    let socket : length middle.addresses.items + 1 ≡ length old.addresses.items + 1 = ap (λ (t : Table). t.next_socket) same in
    record {
      room = record {
        memory = record {
          holders = omega (arith, more, memory.holders, grows.sizes.holders, grows.sizes.holder_room);
          addresses = omega (arith, more, memory.addresses, grows.sizes.addresses, grows.sizes.address_room);
          files = omega (arith, more, memory.files, grows.sizes.files, grows.sizes.file_room);
        };
        process_numbers = omega (arith, more, processes, process, grows.sizes.process_numbers);
        socket_numbers = omega (arith, more, sockets, socket, grows.sizes.socket_numbers);
      };
      kept = subst IsKept (sym table) (IsKept-foreign (seen middle) a (subst IsKept (sym same) kept));
      names = grows.names (KnowsNames-same old middle same free known lone);
    }
