use Rattle.std.proofs.Common.{◌≡◌, ◌≤◌, ◌+◌, ℕ, length, drop}
use Rattle.worker_groups.specs.Groups.{addresses_in}
use Rattle.definitions.specs.Master.{addresses_of_group}
use Rattle.plan_rollout.proofs.spots.addresses_of_group.Given as goal

abbrev pub invariant-loop-index : goal.invariant-loop-index
invariant-loop-index l = record {
  before : l.index ≤ l.place;
  left : (k : ℕ) → addresses_of_group l.settings.groups l.settings.listeners (l.index + k) ≡
      addresses_of_group (drop l.index l.groups) l.rest k;
  room : length l.rest ≡ addresses_in (drop l.index l.groups);
}
