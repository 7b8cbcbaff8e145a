use Rattle.std.proofs.Common.{◌≡◌, ◌+◌, map, take, drop}
use Rattle.worker_groups.specs.Groups.{size_in, part_of}
use Rattle.worker_groups.proofs.groups.Groups.part_of.Given as goal

abbrev pub invariant-loop-index : goal.invariant-loop-index
invariant-loop-index l =
    part_of (map (size_in l.share) (take l.self-inside.len l.self-inside.items)) l.number
    ≡ part_of (map (size_in l.share) (drop l.index (take l.self-inside.len l.self-inside.items))) l.rest + l.index
