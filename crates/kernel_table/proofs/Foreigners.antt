-- A process of somebody else.
use Rattle.std.proofs.Common.{◌≡◌, ℕ, ◌+◌, ◌-◌, List, [], ◌∷◌, ◌++◌, map, length, get_or, ap, ◌∙◌, arith}
use Rattle.std.proofs.lemmas.List.{length_push}
use Rattle.std.proofs.Math.Seq.{get_or-append_seam}
use Rattle.definitions.specs.Table.{Address, Hold, Foreign}
use Rattle.kernel_rows.specs.declared.process.Row.TheVariants as row
use Rattle.kernel_rows.specs.declared.process.Holder.{Holder}
use Rattle.kernel_table.specs.declared.store.Store.{Store}
use Rattle.kernel_rows.specs.Holds.{address_of}
use Rattle.kernel_rows.specs.Seen.{seen_holder, seen_rows}
use Rattle.kernel_table.specs.Seen.{seen_file, seen}
use Rattle.kernel_table.specs.Room.{IsKept}
use Rattle.kernel_table.specs.Foreign.{with_foreign}
use Rattle.kernel_rows.proofs.Lists.{map-push}
use Rattle.kernel_table.proofs.Opening.{rows-stay}

-- the store with one more
pub foreign-table : (s : Store) (a : Address) (wider : List Address) (holders : List Holder) (fd socket : ℕ) → wider ≡ s.addresses.items ++ a ∷ []
    → holders ≡ s.holders.items ++ (record { row = row.Foreign s.next_process; holds = (fd, socket) ∷ [] }) ∷ [] →
    fd ≡ 3 → socket ≡ length s.addresses.items + 1 → IsKept (seen s)
    → record {
      rows = seen_rows wider holders;
      files = map seen_file s.files.items;
      next_process = s.next_process + 1;
      next_socket = length wider + 1;
      limits = s.limits;
    } ≡ with_foreign a (seen s)
foreign-table s a wider holders fd socket more pushed low count kept =
    let addresses = s.addresses.items in
    let all = addresses ++ a ∷ [] in
    let new : Holder = record { row = row.Foreign s.next_process; holds = (fd, socket) ∷ [] } in
    let at : socket - 1 ≡ length addresses = omega arith in
    let address : address_of all socket ≡ a = ap (λ i. get_or all i []) at ∙ get_or-append_seam addresses a [] [] in
    let hold : Hold = record { fd = 3; socket = length addresses + 1; address = a } in
    let one : seen_holder all new ≡ Foreign s.next_process (hold ∷ []) = λ i. Foreign s.next_process ((record { fd = low i; socket = count i; address = address i }) ∷ []) in
    let rows : seen_rows wider holders ≡ seen_rows addresses s.holders.items ++ Foreign s.next_process (hold ∷ []) ∷ [] =
    (λ i. seen_rows (more i) (pushed i)) ∙ map-push (seen_holder all) s.holders.items new
    ∙ (λ i. rows-stay addresses a s.holders.items kept.sockets i ++ one i ∷ []) in
    let next : length wider + 1 ≡ length addresses + 1 + 1 = ap (λ xs. length xs + 1) more ∙ ap (λ n. n + 1) (length_push addresses a) in
    (λ i. record { rows = rows i; files = map seen_file s.files.items; next_process = s.next_process + 1; next_socket = next i; limits = s.limits })
