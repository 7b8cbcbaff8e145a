use Rattle.std.proofs.Common.{ℕ, ◌<◌, ◌≢◌, None, get_or}
use Rattle.listener_set.proofs.descriptors.first_empty.Given as goal

-- the places so far are taken
abbrev pub invariant-loop-place : goal.invariant-loop-place
invariant-loop-place l = (k : ℕ) → k < l.place → get_or l.slots k None ≢ None
