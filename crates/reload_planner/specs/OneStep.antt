-- Without small steps there is one step.
use Rattle.std.specs.Prelude.{◌≡◌, []}
use Rattle.listener_set.specs.Numbers.{numbers_below}
use Rattle.vocabulary.specs.Settings.{Settings}
use Rattle.definitions.specs.Master.{Record}
use Rattle.definitions.specs.Plans.{rollout_of}

abbrev pub NoStepsIsOneStep : Type 0
NoStepsIsOneStep =
    (r : Record) (s : Settings) →
    rollout_of r s 0 ≡ record { steps = []; last = numbers_below s.workers; left = r.ready }
