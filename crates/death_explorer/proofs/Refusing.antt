-- Why the deaths of an order are not counted.
use Rattle.std.proofs.Common.{◌≡◌, ◌⊎◌, inl, inr, ℕ, List, [], Result, Err, subst}
use Rattle.std.specs.Prelude.{◌↔◌}
use Rattle.std.specs.Result.{IsErrOf}
use Rattle.vocabulary.specs.declared.targets.Target.{Target}
use Rattle.definitions.specs.Table.{Table}
use Rattle.definitions.specs.Master.{Record}
use Rattle.definitions.specs.Run.{Moment}
use Rattle.definitions.specs.Plans.{Turn}
use Rattle.call_laws.specs.Pieces.{quiet}
use Rattle.kernel_model.specs.Pattern.{moment_at}
use Rattle.word_runner.specs.declared.enactor.Enacted.{Enacted}
use Rattle.plan_executor.specs.Refusals.{IsRefused}
use Rattle.plan_executor.specs.declared.enactment.EnactRefusal.{EnactRefusal}
use Rattle.plan_executor.specs.declared.enactment.EnactRefusal.TheVariants.{Memory}

-- `enact` refuses the target where nothing goes wrong
pub quiet-refused :
    (t' t : Table) (r : Record) (target : Target) (turns : List Turn) (pattern : List (ℕ × Moment)) (why : EnactRefusal)
    (result : Result Enacted EnactRefusal) → t' ≡ t → pattern ≡ [] → result ≡ Err why →
    IsErrOf result Memory ⊎ (IsErrOf result why ↔ IsRefused t' r target turns (moment_at pattern) why) →
    (why ≡ Memory) ⊎ ((others : List Turn) × IsRefused t r target others (λ n. quiet) why)
quiet-refused t' t r target turns pattern why result same none is (inl memory) = inl (let first : result ≡ Err Memory = memory in cc)
quiet-refused t' t r target turns pattern why result same none is (inr both) =
    inr (turns, subst (λ (x : Table). IsRefused x r target turns (λ n. quiet) why) same (subst (λ ps. IsRefused t' r target turns (moment_at ps) why) none (both.0 is)))
