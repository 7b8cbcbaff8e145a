-- Who bears a name at a place.
use Rattle.std.proofs.Common.{◌≡◌, ℕ, suc, zero, ◌<◌, Bool, true, List, [], ◌∷◌, map, length, get_or, refl, arith}
use Rattle.std.specs.List.{slice_get}
use Rattle.std.proofs.lemmas.Bool.{false≢true}
use Rattle.vocabulary.specs.declared.table.Stance.{Stance}
use Rattle.definitions.specs.Table.{Address, Process, is_worker}
use Rattle.kernel_rows.specs.declared.process.Holder.{Holder}
use Rattle.kernel_rows.specs.declared.process.WorkerName.{WorkerName}
use Rattle.kernel_rows.specs.Seen.{seen_holder, seen_rows}
use Rattle.kernel_rows.specs.Places.{is_worker_row}

module _ (stances : Stance → Bool) (name : WorkerName) where
  abbrev named : Process → Bool
  named = is_worker stances name.parent name.generation name.nr

  pub borne-there : (holders : List Holder) (place : ℕ) →
      ((addresses : List Address) → is_worker_row stances name (slice_get (seen_rows addresses holders) place) ≡ true) →
      (place < length holders) ×
      ((addresses : List Address) (d : Holder) → named (seen_holder addresses (get_or holders place d)) ≡ true)
  borne-there [] place borne = absurd (false≢true (borne []))
  borne-there (h ∷ holders) zero borne = (omega arith, λ addresses d. borne addresses)
  borne-there (h ∷ holders) (suc place) borne = (let rest = borne-there holders place borne in (omega (arith, rest.0), rest.1))

  pub borne-at : {X : Type 0} (v : X → Process) (xs : List X) (place : ℕ) (d : X) → place < length xs →
      is_worker_row stances name (slice_get (map v xs) place) ≡ named (v (get_or xs place d))
  borne-at v [] place d lt = absurd (omega arith)
  borne-at v (x ∷ xs) zero d lt = refl
  borne-at v (x ∷ xs) (suc place) d lt = borne-at v xs place d (omega arith)
