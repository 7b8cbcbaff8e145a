-- A call by which a master builds or mends leaves others alone.
use Rattle.std.proofs.Common.{◌≡◌, ℕ, Option, ◌∙◌, ap, sym, subst}
use Rattle.vocabulary.specs.declared.calls.Call.{Call}
use Rattle.vocabulary.specs.declared.calls.Fate.{Fate}
use Rattle.definitions.specs.Table.{Table, live_master}
use Rattle.definitions.specs.Calls.{Stepped, step_with, Handed}
use Rattle.call_laws.specs.Aside.{LeavesAlone}
use Rattle.call_laws.proofs.Aside.{calls-leave-alone}
use Rattle.kernel_model.specs.Alone.{LeavesOthersAlone}

-- a step by the master, from the table that the exits left
pub step-alone : (handed : Handed) (image by : ℕ) (call : Call) (fate : Option Fate) (middle exited : Table)
    (z : Stepped) → z ≡ step_with handed image call fate middle → image ≡ by → middle ≡ exited →
    LeavesOthersAlone by call exited z.table
step-alone handed image by call fate middle exited z step same exits own =
    let stepped = step ∙ ap (λ i. step_with handed i call fate middle) same ∙ ap (λ t. step_with handed by call fate t) exits in
    subst (λ (x : Stepped). LeavesAlone by (live_master by exited.rows) exited x.table) (sym stepped) (calls-leave-alone handed by call fate exited own)
