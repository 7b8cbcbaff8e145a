use Rattle.std.proofs.Common.{◌≡◌, length, map, drop}
use Rattle.toml.specs.View.{view}
use Rattle.master_config.specs.Groups.{groups_after, no_pools}
use Rattle.master_config.proofs.groups.read_all.Given as goal

-- what is left leads to what all lead to
abbrev pub invariant-loop-index : goal.invariant-loop-index
invariant-loop-index l =
    let values = map view l.items.items in
    record {
      count : length l.pools.groups ≡ l.index;
      leads : groups_after l.pools l.index (drop l.index values) ≡ groups_after no_pools 0 values;
    }
