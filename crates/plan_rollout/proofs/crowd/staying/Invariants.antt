use Rattle.std.proofs.Common.{◌≡◌, ℕ, ◌<◌, ◌≤◌, true, List, length, reverse, get_or}
use Rattle.listener_set.specs.Numbers.{is_in}
use Rattle.vocabulary.specs.Settings.{Settings}
use Rattle.definitions.specs.Master.{Record}
use Rattle.definitions.specs.Plans.{staying, is_enough}
use Rattle.plan_rollout.specs.Counts.{AreServed}
use Rattle.plan_rollout.specs.Sides.{AreOld}
use Rattle.plan_rollout.proofs.crowd.staying.Given as goal

abbrev pub invariant-loop-number : goal.invariant-loop-number
invariant-loop-number l = record {
  same : length l.counts ≡ length l.fn.counts;
  fewer : (i : ℕ) → i < length l.counts → get_or l.counts i 0 ≤ get_or l.fn.counts i 0;
  within : (k : ℕ) → is_in l.rest k ≡ true → is_in l.stay k ≡ true;
  told : (r : Record) (s : Settings) (started : List ℕ) → AreOld r s l.crowd →
      AreServed r s started l.left l.fn.counts →
      (staying (is_enough r s started) l.left (reverse l.left) ≡
      staying (is_enough r s started) l.stay (reverse l.rest))
      × AreServed r s started l.stay l.counts;
}

abbrev pub decreases-loop-number : goal.decreases-loop-number
decreases-loop-number l = length l.rest
