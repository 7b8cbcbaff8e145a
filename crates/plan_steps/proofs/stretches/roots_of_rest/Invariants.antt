use Rattle.std.proofs.Common.{◌≡◌, ◌∷◌, filter, take, nat_eq, slice_index}
use Rattle.plan_steps.proofs.stretches.roots_of_rest.Given as goal

abbrev pub invariant-loop-place : goal.invariant-loop-place
invariant-loop-place l = l.roots.items ≡ l.parts.ready.0 ∷ l.parts.back.0 ∷ filter (λ k. nat_eq (slice_index l.splits k) 0) (take l.place-index l.reached)
