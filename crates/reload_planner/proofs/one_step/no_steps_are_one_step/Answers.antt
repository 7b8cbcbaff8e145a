use Rattle.std.proofs.Common.{[], refl}
use Rattle.listener_set.specs.Numbers.{numbers_below}
use Rattle.definitions.specs.Plans.{is_enough}
use Rattle.plan_rollout.proofs.Rolled.{rolled-done}
use Rattle.reload_planner.proofs.one_step.no_steps_are_one_step.Goals as goal

pub returns : goal.returns
returns c = λ r s. rolled-done (is_enough r s) s.workers 0 [] (numbers_below s.workers) r.ready refl
