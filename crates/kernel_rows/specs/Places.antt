-- Where a row is.
use Rattle.std.specs.Prelude.{ℕ, ◌≡◌, ◌<◌, Bool, true, false, List, length, get_or, Option, Some, None, is_some, [], ◌∷◌}
use Rattle.vocabulary.specs.declared.table.Stance.{Stance}
use Rattle.definitions.specs.Table.{Address, Process, is_active, is_worker, live_master}
use Rattle.call_laws.specs.Pieces.{is_any}
use Rattle.kernel_rows.specs.declared.process.Holder.{Holder}
use Rattle.kernel_rows.specs.declared.process.WorkerName.{WorkerName}
use Rattle.kernel_rows.specs.Seen.{seen_holder}

-- whether a process, if there is one, is the worker of the name in certain stances
abbrev pub is_worker_row : (Stance → Bool) → WorkerName → Option Process → Bool
is_worker_row stances name None = false
is_worker_row stances name (Some p) = is_worker stances name.parent name.generation name.nr p

-- At the place is the worker of the name, Starting or Ready.
pub record IsActiveAt (holders : List Holder) (name : WorkerName) (place : ℕ) : Type 0 where
  pub there : place < length holders
  pub active : (addresses : List Address) (d : Holder) →
      is_worker is_active name.parent name.generation name.nr (seen_holder addresses (get_or holders place d)) ≡ true

-- At the place is a live master of the image.
pub record IsLiveAt (holders : List Holder) (image : ℕ) (place : ℕ) : Type 0 where
  pub there : place < length holders
  pub lives : (addresses : List Address) (d : Holder) → is_some (live_master image (seen_holder addresses (get_or holders place d) ∷ [])) ≡ true

-- At the place is a worker of the name.
pub record IsWorkerAt (holders : List Holder) (name : WorkerName) (place : ℕ) : Type 0 where
  pub there : place < length holders
  pub named : (addresses : List Address) (d : Holder) →
      is_worker is_any name.parent name.generation name.nr (seen_holder addresses (get_or holders place d)) ≡ true
