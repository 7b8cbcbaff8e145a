use Rattle.std.proofs.Common.{◌≡◌, filter, take, nat_lt, slice_index}
use Rattle.plan_steps.proofs.stretches.leading.Given as goal

abbrev pub invariant-loop-place : goal.invariant-loop-place
invariant-loop-place l = l.kept.items ≡ filter (λ k. nat_lt 0 (slice_index l.splits k)) (take l.place-index l.places)
