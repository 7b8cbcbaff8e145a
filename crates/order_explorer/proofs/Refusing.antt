-- Why an exploration of one order stops, told of all orders.
use Rattle.std.proofs.Common.{◌≡◌, ◌⊎◌, inl, inr, Result, Ok, Err}
use Rattle.std.specs.Prelude.{◌↔◌}
use Rattle.std.specs.Result.{IsErrOf, OnOk}
use Rattle.plan_executor.specs.declared.enactment.EnactRefusal.{EnactRefusal}
use Rattle.plan_executor.specs.declared.enactment.EnactRefusal.TheVariants.{Memory}
use Rattle.explorer.specs.declared.exploring.Unexplored.{Unexplored}
use Rattle.explorer.specs.declared.exploring.Unexplored.TheVariants.{Enact, Enough}

module _ (result : Result (Unit {0}) Unexplored) (IsDue : EnactRefusal → Type 0) where
  -- what an exploration says of one reason
  abbrev pub IsToldOne : EnactRefusal → Type 0
  IsToldOne why = IsErrOf result (Enact Memory) ⊎ (IsErrOf result (Enact why) ↔ IsDue why)

  pub refused : (why : EnactRefusal) → IsToldOne why → IsErrOf result (Enact why) → (why ≡ Memory) ⊎ IsDue why
  refused why (inl memory) is = inl (let first : result ≡ Err (Enact Memory) = memory in let second : result ≡ Err (Enact why) = is in cc)
  refused why (inr both) is = inr (both.0 is)

  pub ended : (why : EnactRefusal) → IsToldOne why → IsErrOf result Enough → IsDue why → ⊥
  ended why (inl memory) is due = let first : result ≡ Err (Enact Memory) = memory in let second : result ≡ Err Enough = is in cc
  ended why (inr both) is due = let first : result ≡ Err (Enact why) = both.1 due in let second : result ≡ Err Enough = is in cc

pub both-ok : {T E : Type 0} (P Q : Type 0) (r : Result T E) → OnOk r P → OnOk r Q → OnOk r (P × Q)
both-ok P Q (Ok x) p q = (p, q)
both-ok P Q (Err e) p q = tt
