-- What holds of a value that there may be.
use Rattle.std.proofs.Common.{Result, Ok, Err}
use Rattle.std.specs.Prelude.{ℕ, IfOk}
use Rattle.master_on_children.specs.declared.fault.Halt.{Halt}
use Rattle.master_on_children.specs.Faults.{status_or_fault}

pub ok-map : {A E : Type 0} (P Q : A → Type 0) (r : Result A E) → ((x : A) → P x → Q x) → IfOk r P → IfOk r Q
ok-map P Q (Ok x) then h = then x h
ok-map P Q (Err e) then h = tt

-- the status that is told is that of all lines
pub status-told : (P : ℕ → Type 0) (r : Result ℕ Halt) → IfOk r P → IfOk (status_or_fault r) P
status-told P (Ok status) h = h
status-told P (Err halt) h = tt
