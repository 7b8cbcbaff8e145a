use Rattle.std.proofs.Common.{◌≡◌, take}
use Rattle.death_explorer.proofs.exploring.quiet_section.Given as goal

abbrev pub invariant-loop-place : goal.invariant-loop-place
invariant-loop-place l = l.copy ≡ take l.place l.turns
