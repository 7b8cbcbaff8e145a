-- What a moment leaves.
use Rattle.std.proofs.Common.{◌≡◌, ℕ, ◌+◌, ◌-◌, ◌≤◌, List, length, Option, sym, ap, subst, arith}
use Rattle.vocabulary.specs.declared.names.Name.{Name}
use Rattle.vocabulary.specs.declared.calls.Call.{Call}
use Rattle.vocabulary.specs.declared.calls.Fate.{Fate}
use Rattle.definitions.specs.Table.{Table}
use Rattle.definitions.specs.Calls.{after_exits, Stepped, step_with, Handed}
use Rattle.kernel_table.specs.declared.store.Store.{Store}
use Rattle.kernel_table.specs.Seen.{seen}
use Rattle.kernel_table.specs.Room.{EditsRows, GrowsByOne, HasMemoryFor, HasRoomFor, IsKept, IsSound}
use Rattle.kernel_table.proofs.Names.{KnowsNames-same}
use Rattle.kernel_model.proofs.CallsKept.{IsKept-exits, IsKept-step}

module _ (a b : Store) (e : EditsRows a b) where
  addresses-same : b.addresses ≡ a.addresses
  addresses-same = ap (λ (s : Store). s.addresses) e.others

  next-same : b.next_process ≡ a.next_process
  next-same = ap (λ (s : Store). s.next_process) e.others

  files-same : b.files ≡ a.files
  files-same = ap (λ (s : Store). s.files) e.others

  -- exits need no room
  pub HasRoomFor-exits : (room : ℕ) → HasRoomFor room a → HasRoomFor room b
  HasRoomFor-exits room h =
      let same = addresses-same in
      record {
        memory = record { holders = omega (arith, h.memory.holders, e.len, e.capacity); addresses = rw same h.memory.addresses; files = rw files-same h.memory.files };
        process_numbers = rw next-same h.process_numbers;
        socket_numbers = rw same h.socket_numbers;
      }

  -- a change of rows grows nothing
  pub GrowsByOne-edits : GrowsByOne a b
  GrowsByOne-edits =
      let addresses = addresses-same in
      let files = files-same in
      record {
        sizes = record {
          holders = (let len = e.len in omega arith);
          holder_room = (let capacity = e.capacity in omega arith);
          addresses = rw addresses (omega arith);
          address_room = rw addresses (omega arith);
          process_numbers = (let next = next-same in omega arith);
          socket_numbers = rw addresses (omega arith);
          files = rw files (omega arith);
          file_room = rw files (omega arith);
        };
        names = e.names;
      }

-- a call needs room for one
pub HasRoomFor-call : (room : ℕ) (b c : Store) → 1 ≤ room → HasRoomFor room b → GrowsByOne b c → HasRoomFor (room - 1) c
HasRoomFor-call room b c least h g =
    let more = g.sizes in
    record {
      memory = record { holders = omega (arith, h.memory.holders, more.holders, more.holder_room); addresses = omega (arith, h.memory.addresses, more.addresses, more.address_room); files = omega (arith, h.memory.files, more.files, more.file_room) };
      process_numbers = omega (arith, h.process_numbers, more.process_numbers);
      socket_numbers = omega (arith, h.socket_numbers, more.socket_numbers);
    }

-- memory for at least as many calls, and the same table
pub sound-grown : (a b : Store) (room : ℕ) → seen b ≡ seen a → b.free ≡ a.free → b.lone ≡ a.lone →
    (HasMemoryFor room a → HasMemoryFor room b) → IsSound room a → IsSound room b
sound-grown a b room same free lone kept h =
    let processes : b.next_process ≡ a.next_process = ap (λ (t : Table). t.next_process) same in
    let sockets : length b.addresses.items + 1 ≡ length a.addresses.items + 1 = ap (λ (t : Table). t.next_socket) same in
    record {
      room = record { memory = kept h.room.memory; process_numbers = omega (arith, h.room.process_numbers, processes); socket_numbers = omega (arith, h.room.socket_numbers, sockets) };
      kept = subst IsKept (sym same) h.kept;
      names = KnowsNames-same a b same free h.names lone;
    }

module _ (a b : Store) (es : List Name) (exits : seen b ≡ after_exits es (seen a)) (kept : IsKept (seen a)) where
  pub kept-middle : IsKept (seen b)
  kept-middle = subst IsKept (sym exits) (IsKept-exits es (seen a) kept)

  pub kept-after : (handed : Handed) (image : ℕ) (call : Call) (f : Option Fate) (z : Stepped) → z ≡ step_with handed image call f (seen b) → IsKept z.table
  kept-after handed image call f z e = subst (λ (x : Stepped). IsKept x.table) (sym e) (IsKept-step handed image call f (seen b) kept-middle)
