use Rattle.std.proofs.Common.{◌≡◌, ℕ, false, length, slice_get, take}
use Rattle.listener_set.specs.Numbers.{is_in}
use Rattle.plan_steps.specs.Numbering.{AllNumbered}
use Rattle.plan_steps.proofs.ordering.numbered.Given as goal

abbrev pub invariant-loop-place : goal.invariant-loop-place
invariant-loop-place l =
    record {
      count : length l.steps.items ≡ length l.fn.steps.items;
      left : (k : ℕ) → is_in (take l.place-index l.order) k ≡ false → slice_get l.steps.items k ≡ slice_get l.fn.steps.items k;
      taken : AllNumbered l.numbers l.fn.steps.items (take l.place-index l.order) l.plan.items;
    }
