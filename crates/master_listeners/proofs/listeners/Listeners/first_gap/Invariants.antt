use Rattle.std.proofs.Common.{◌≡◌, ◌+◌, ◌++◌, take, drop}
use Rattle.definitions.specs.Table.{Address}
use Rattle.definitions.specs.After.{opened_from}
use Rattle.master_listeners.proofs.listeners.Listeners.first_gap.Given as goal

abbrev pub invariant-loop-place : goal.invariant-loop-place
invariant-loop-place l =
    (a : Address) → opened_from 3 a l.all ≡ take l.place l.all ++ opened_from (3 + l.place) a (drop l.place l.all)
