use Rattle.std.proofs.Common.{◌≡◌, take}
use Rattle.vocabulary.specs.Settings.{listeners_from}
use Rattle.master_listeners.proofs.listeners.Listeners.from_set.Given as goal

abbrev pub invariant-loop-place : goal.invariant-loop-place
invariant-loop-place l = l.listeners ≡ listeners_from 3 (take l.place l.all)
