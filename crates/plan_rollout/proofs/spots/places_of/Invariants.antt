use Rattle.std.proofs.Common.{◌≡◌, filter, get_or, []}
use Rattle.listener_set.specs.Numbers.{numbers_below}
use Rattle.listener_set.specs.AddressList.{has}
use Rattle.plan_rollout.proofs.spots.places_of.Given as goal

abbrev pub invariant-loop-place : goal.invariant-loop-place
invariant-loop-place l = l.places ≡ filter (λ i. has l.own (get_or l.addresses i [])) (numbers_below l.place)
