use Rattle.std.proofs.Common.{◌≡◌, ◌≤◌, ◌<◌, ◌+◌, ◌-◌, ℕ, [], length, reverse, get_or}
use Rattle.std.specs.List.{range_with_len}
use Rattle.vocabulary.specs.Settings.{Settings}
use Rattle.definitions.specs.Master.{Record}
use Rattle.definitions.specs.Plans.{rolled, is_enough, rollout_of}
use Rattle.plan_rollout.specs.Counts.{AreServed, before}
use Rattle.plan_rollout.specs.Sides.{AreOld, AreNew}
use Rattle.plan_rollout.proofs.rolling.steps_of.Given as goal

abbrev pub invariant-loop-starts : goal.invariant-loop-starts
invariant-loop-starts l = record {
  same : length l.counts ≡ length l.fn.counts;
  room : (i : ℕ) → i < length l.counts → get_or l.counts i 0 ≤ 1024 + l.started;
  some : l.started ≤ l.newcomers.workers;
  tries : length l.steps.items ≤ l.started;
  told : (r : Record) (s : Settings) → AreOld r s l.crowd → AreNew r s l.newcomers → l.ready ≡ r.ready →
      AreServed r s [] l.ready l.fn.counts →
      AreServed r s (reverse (range_with_len 0 l.started)) l.left l.counts
      × (rollout_of r s l.surge
      ≡ before l.steps.items (rolled (is_enough r s) (l.newcomers.workers - length l.steps.items) l.surge
      (reverse (range_with_len 0 l.started)) (range_with_len l.started (l.newcomers.workers - l.started)) l.left));
}

abbrev pub decreases-loop-starts : goal.decreases-loop-starts
decreases-loop-starts l = l.newcomers.workers - l.started
