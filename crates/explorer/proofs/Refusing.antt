-- Which refusal an exploration tells.
use Rattle.std.proofs.Common.{◌≡◌, ◌+◌, ◌⊎◌, inl, inr, ℕ, List, [], ◌∷◌, None, Result, Ok, Err, refl, sym, ◌∙◌, ap, subst}
use Rattle.std.specs.Prelude.{◌↔◌}
use Rattle.std.specs.Result.{IsErrOf}
use Rattle.std.proofs.lemmas.Option.{none-some}
use Rattle.vocabulary.specs.declared.targets.Target.{Target}
use Rattle.definitions.specs.Table.{Table}
use Rattle.definitions.specs.Master.{Record, Agrees}
use Rattle.definitions.specs.Run.{Entry, Pattern}
use Rattle.call_laws.specs.Pieces.{quiet, executing_after}
use Rattle.definitions.specs.Plans.{Turn}
use Rattle.call_laws.specs.Lengths.{plan_length}
use Rattle.definitions.specs.Claims.{refused_among, heirs_of, run_of}
use Rattle.kernel_model.specs.Room.{LacksNumbers}
use Rattle.plan_executor.specs.declared.enactment.EnactRefusal.{EnactRefusal}
use Rattle.plan_executor.specs.declared.enactment.EnactRefusal.TheVariants.{Memory, RecordDisagrees, Plan, MasterNamed, NoNumbers}
use Rattle.plan_executor.specs.Refusals.{HasPlan, IsRefused}
use Rattle.plan_executor.proofs.Exact.{IsUnprepared, no_plan, only-refused}
use Rattle.explorer.specs.declared.counting.ExploreRefusal.{ExploreRefusal}
use Rattle.explorer.specs.declared.counting.ExploreRefusal.TheVariants as stop
use Rattle.explorer.specs.declared.exploring.Unexplored.{Unexplored}
use Rattle.explorer.specs.declared.exploring.Unexplored.TheVariants.{Enact}
use Rattle.explorer.specs.Refusals.{unexplored}

-- under a quiet pattern no master exits
unnamed : (executing heirs : List ℕ) (n : ℕ) (entries : List Entry) → refused_among executing heirs (λ k. quiet) n entries ≡ None
unnamed executing heirs n [] = refl
unnamed executing heirs n (e ∷ entries) = unnamed (executing_after e.call executing heirs) heirs (n + 1) entries

module _ (t : Table) (r : Record) (target : Target) where
  -- It is told exactly where the target is refused so in whatever section, want of memory aside.
  abbrev pub IsTold : Result (Unit {0}) Unexplored → Type 0
  IsTold result =
      (why : EnactRefusal) → IsErrOf result (Enact Memory) ⊎
      (IsErrOf result (Enact why) ↔ ((turns : List Turn) (pattern : Pattern) → IsRefused t r target turns pattern why))

  pub told-refused : (because : EnactRefusal) (result : Result (Unit {0}) Unexplored) →
      IsUnprepared t r target because → result ≡ Err (Enact because) → IsTold result
  told-refused because result (inl memory) is why = inl (is ∙ ap (λ (e : EnactRefusal). Err (Enact e)) memory)
  told-refused because result (inr refused) is why =
      inr (
        λ told. (let same : because ≡ why = cc in λ turns pattern. subst (IsRefused t r target turns pattern) same (refused turns pattern)),
        λ also. (let only = (only-refused t r target [] (λ n. quiet) because (refused [] (λ n. quiet)) why).1 (also [] (λ n. quiet)) in let same : because ≡ why = cc in is ∙ ap (λ (e : EnactRefusal). Err (Enact e)) same),
      )

  module _ (agrees : Agrees t r) (plan : HasPlan r target) (numbers : LacksNumbers t (plan_length r target) → ⊥) where
    -- nothing refuses the target in whatever section
    spared : (why : EnactRefusal) → ((turns : List Turn) (pattern : Pattern) → IsRefused t r target turns pattern why) → ⊥
    spared Memory h = h [] (λ n. quiet)
    spared RecordDisagrees h = h [] (λ n. quiet) agrees
    spared (Plan p) h = no_plan r target p (h [] (λ n. quiet)).no_plan plan
    spared NoNumbers h = numbers (h [] (λ n. quiet)).lacks
    spared (MasterNamed k) h =
        none-some k (sym (unnamed (r.generation.image ∷ []) (heirs_of r target) 0 (run_of r target [] (λ n. quiet) t).entries) ∙ (h [] (λ n. quiet)).first)

    pub told-begun : IsTold (Ok tt)
    told-begun why = inr (λ told. cc, λ h. absurd (spared why h))

    pub told-stopped : (because : ExploreRefusal) (result : Result (Unit {0}) Unexplored) → result ≡ Err (unexplored because) → IsTold result
    told-stopped stop.Memory result is why = inl is
    told-stopped stop.Enough result is why = inr (λ told. cc, λ h. absurd (spared why h))
