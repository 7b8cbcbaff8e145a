use Rattle.std.proofs.Common.{◌≡◌, drop}
use Rattle.child_edge.specs.Table.{descriptor_of}
use Rattle.child_edge.proofs.listening.descriptor_of.Given as goal

abbrev pub invariant-loop-listener : goal.invariant-loop-listener
invariant-loop-listener l = descriptor_of l.address (drop l.listener-index l.listeners) ≡ descriptor_of l.address l.listeners
