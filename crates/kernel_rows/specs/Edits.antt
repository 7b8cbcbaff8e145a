-- What an edit does to each process.
use Rattle.std.specs.Prelude.{ℕ, ◌≡◌, ◌⊎◌, Bool, false, ◌==◌, List, Option}
use Rattle.definitions.specs.Table.{Address, Process, Master, Worker, Foreign, is_active, is_worker}
use Rattle.call_laws.specs.Pieces.{is_named, is_starting, is_exited, is_any, made_exited, is_row, lacks_address}
use Rattle.call_laws.specs.Pieces.{made_ready, made_draining}
use Rattle.definitions.specs.Calls.{change, without_exited, drop_where, with_holds, is_image, is_of, is_exited_of}
use Rattle.kernel_rows.specs.declared.edits.Edit.{Edit}
use Rattle.kernel_rows.specs.declared.edits.Edit.TheVariants.{ExitWorker, ExitMaster, MakeReady, Drain, Reap, Kill, ReapAll, Hold, Close, ReapMaster, Terminate}
use Rattle.kernel_rows.specs.declared.process.WorkerName.{WorkerName}
use Rattle.kernel_rows.specs.Holds.{seen_holds}
use Rattle.kernel_rows.specs.Seen.{is_number}

-- a master of the image, or a worker of the master with the number
abbrev pub is_of_either : ℕ → Option ℕ → Process → Bool
is_of_either image master (Master n q i live hs) = i == image
is_of_either image master (Worker n q g k s hs) = is_number master q
is_of_either image master (Foreign n hs) = false

abbrev pub edited : List Address → Edit → Process → Option Process
edited addresses (ExitWorker g k) = change (is_named is_active g k) made_exited
edited addresses (ExitMaster n stays) = without_exited n (λ q. stays)
edited addresses (MakeReady name) = change (is_worker is_starting name.parent name.generation name.nr) made_ready
edited addresses (Drain name) = change (is_worker is_active name.parent name.generation name.nr) made_draining
edited addresses (Reap name) = drop_where (is_worker is_exited name.parent name.generation name.nr)
edited addresses (Kill name) = drop_where (is_worker is_any name.parent name.generation name.nr)
edited addresses (ReapAll q) = drop_where (is_exited_of q)
edited addresses (Hold n holds) = change (is_row n) (with_holds (λ hs. seen_holds addresses holds))
edited addresses (Close n a) = change (is_of n) (with_holds (lacks_address a))
edited addresses (ReapMaster image) = drop_where (is_image image)
edited addresses (Terminate image master) = drop_where (is_of_either image master)

-- an edit that changes at most the Starting or Ready worker of the name
abbrev pub ChangesActive : WorkerName → Edit → Type 0
ChangesActive name edit = (edit ≡ MakeReady name) ⊎ (edit ≡ Drain name)
