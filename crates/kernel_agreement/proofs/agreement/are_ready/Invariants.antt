use Rattle.std.proofs.Common.{◌≡◌, ℕ, List, true, not, ◌&&◌, ◌||◌}
use Rattle.std.specs.List.{list_any}
use Rattle.listener_set.specs.Numbers.{is_in}
use Rattle.definitions.specs.Table.{is_worker}
use Rattle.call_laws.specs.Pieces.{is_ready}
use Rattle.kernel_rows.specs.Seen.{seen_rows}
use Rattle.kernel_agreement.proofs.agreement.are_ready.Given as goal

-- A Ready worker is still to come, or its number is no longer missing.
abbrev pub invariant-loop-holder : goal.invariant-loop-holder
invariant-loop-holder l = record {
  within : (k : ℕ) → is_in l.missing k ≡ true → is_in l.ready k ≡ true;
  found :
      (addresses : List (List ℕ)) (k : ℕ)
      → list_any (is_worker is_ready l.pid l.generation k) (seen_rows addresses l.holders.items)
      ≡ (list_any (is_worker is_ready l.pid l.generation k) (seen_rows addresses l.holder-iterator) || (is_in l.ready k && not (is_in l.missing k)));
}
