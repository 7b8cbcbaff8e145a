-- What the kernel's rows stand for: processes of the definitions.
use Rattle.std.specs.Prelude.{ℕ, ◌==◌, Bool, true, false, List, map, Option, Some, None}
use Rattle.vocabulary.specs.declared.table.Stance.{Stance}
use Rattle.definitions.specs.Table.{Address, Hold, Process, Master, Worker, Foreign, Caller, is_active}
use Rattle.call_laws.specs.Pieces.{is_starting, is_ready, is_draining, is_exited, is_any}
use Rattle.kernel_rows.specs.Holds.{seen_holds}
use Rattle.kernel_rows.specs.declared.process.Row.{Row}
use Rattle.kernel_rows.specs.declared.process.Row.TheVariants as row
use Rattle.kernel_rows.specs.declared.process.Stances.{Stances}
use Rattle.kernel_rows.specs.declared.process.Stances.TheVariants as stances
use Rattle.kernel_rows.specs.declared.process.Holder.{Holder}
use Rattle.kernel_rows.specs.declared.process.Caller.{Caller as LiveMaster}

abbrev pub has_stance : Stances → Stance → Bool
has_stance stances.Starting = is_starting
has_stance stances.Ready = is_ready
has_stance stances.Active = is_active
has_stance stances.Draining = is_draining
has_stance stances.Exited = is_exited
has_stance stances.Any = is_any

abbrev pub process_of : Row → List Hold → Process
process_of (row.Master n q image live) hs = Master n q image live hs
process_of (row.Worker n q g k s) hs = Worker n q g k s hs
process_of (row.Foreign n) hs = Foreign n hs

-- whether it is that number
abbrev pub is_number : Option ℕ → ℕ → Bool
is_number None k = false
is_number (Some n) k = n == k

abbrev pub seen_holder : List Address → Holder → Process
seen_holder addresses h = process_of h.row (seen_holds addresses h.holds)

abbrev pub seen_rows : List Address → List Holder → List Process
seen_rows addresses holders = map (seen_holder addresses) holders

abbrev pub seen_caller : List Address → LiveMaster → Caller
seen_caller addresses c = record { number = c.number; holds = seen_holds addresses c.holds }

abbrev pub caller_row : List Address → LiveMaster → Process
caller_row addresses c = Master c.number c.parent c.image true (seen_holds addresses c.holds)
