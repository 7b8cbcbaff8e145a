-- What a text hands over to a new master.
use Rattle.std.proofs.Common.{◌≡◌, ℕ, List, Ok, Err, Result, Some, ap, ◌∙◌}
use Rattle.std.specs.Prelude.{IfOk}
use Rattle.std.specs.Result.{result_ok}
use Rattle.definitions.specs.Calls.{Handover}
use Rattle.handover_text.specs.Spelling.{spelling}
use Rattle.handover_text.specs.Reading.{reading, Hands}

-- a handover's text that is read back
pub hands-written :
    {T E : Type 0} (r : Result T E) (items : T → List ℕ) (told other : Handover) → told ≡ other →
    IfOk r (λ text. items text ≡ spelling told) → IfOk r (λ text. reading (items text) ≡ Ok told) →
    IfOk r (λ text. Hands (items text) (Some other))
hands-written (Ok text) items told other same written read =
    record { written = written ∙ ap spelling same; read = ap result_ok read ∙ ap Some same }
hands-written (Err why) items told other same written read = tt
