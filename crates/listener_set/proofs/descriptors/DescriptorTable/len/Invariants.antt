use Rattle.std.proofs.Common.{◌≡◌, ◌≤◌, take}
use Rattle.listener_set.proofs.DescriptorSlots.{used}
use Rattle.listener_set.proofs.descriptors.DescriptorTable.len.Given as goal

-- the sockets so far are counted
abbrev pub invariant-loop-place : goal.invariant-loop-place
invariant-loop-place l = (l.count ≡ used (take l.place l.self-inside.slots)) × (l.count ≤ l.place)
