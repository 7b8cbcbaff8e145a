-- A reload in one step: one that starts all new workers at once.
use Rattle.std.specs.Prelude.{◌≡◌, ◌&&◌, refl, Bool, true, false, List, length, nat_lt}
use Rattle.std.specs.List.{list_any}
use Rattle.listener_set.specs.Numbers.{numbers_below}
use Rattle.vocabulary.specs.Settings.{Settings, plain_settings}
use Rattle.vocabulary.specs.declared.targets.Target.TheVariants.{Reload}
use Rattle.definitions.specs.Table.{Table}
use Rattle.definitions.specs.Master.{Record, sides_of}
use Rattle.definitions.specs.Run.{Pattern, Ran, report_of}
use Rattle.definitions.specs.Plans.{Turn}
use Rattle.definitions.specs.Claims.{Stays, is_old_side, is_wait, run_of, IsAccepted}

-- fewer new workers are started in a step than there are in all
abbrev pub is_stepped : Settings → Bool
is_stepped s = nat_lt 0 s.surge && nat_lt s.surge (length (numbers_below s.workers))

abbrev pub waits : Ran → Bool
waits ran = list_any (λ e. is_wait (λ g k. true) e.call) ran.entries

abbrev pub ReloadsInOneStepWaitForNobody : Type 0
ReloadsInOneStepWaitForNobody =
    (t : Table) (r : Record) (s : Settings) (turns : List Turn) (pattern : Pattern) → is_stepped s ≡ false →
    waits (run_of r (Reload s) turns pattern t) ≡ false

abbrev pub ReloadsInOneStepLeaveAll : Type 0
ReloadsInOneStepLeaveAll =
    (t : Table) (r : Record) (s : Settings) (turns : List Turn) (pattern : Pattern) →
    IsAccepted t r (Reload s) turns pattern → is_stepped s ≡ false →
    is_old_side (report_of (sides_of r (Reload s)) (run_of r (Reload s) turns pattern t)).outcome ≡ true →
    Stays t (λ k. true) (run_of r (Reload s) turns pattern t)

---- An example: without a configuration a reload has one step

at_once : is_stepped plain_settings ≡ false
at_once = refl
