-- The headline, target by target.
use Rattle.vocabulary.specs.declared.targets.Target.TheVariants.{Workers, Mend, Reopen, Reload, Upgrade, Attended, Stop}
use Rattle.definitions.specs.Table.{Table}
use Rattle.definitions.specs.Master.{Record, Target, sides_of}
use Rattle.definitions.specs.Run.{Ran, report_of}
use Rattle.definitions.specs.Claims.{Headline, KeepsPromise, HasFloor, Manner}
use Rattle.theorems.proofs.Headlines.{EndsAsReported}
use Rattle.theorems.proofs.Workers.{workers_headline}
use Rattle.theorems.proofs.WorkersManner.{workers_manner}
use Rattle.theorems.proofs.Mend.{mend_headline}
use Rattle.theorems.proofs.MendManner.{mend_manner}
use Rattle.theorems.proofs.Reopen.{reopen_headline, reopen_floor}
use Rattle.theorems.proofs.ReopenManner.{reopen_manner}
use Rattle.theorems.proofs.Reload.{reload_headline}
use Rattle.theorems.proofs.ReloadManner.{reload_manner}
use Rattle.theorems.proofs.Upgrade.{upgrade_headline, attended_headline}
use Rattle.theorems.proofs.UpgradeManner.{upgrade_manner, attended_manner}
use Rattle.theorems.proofs.Stop.{stop_headline}
use Rattle.theorems.proofs.StopManner.{stop_manner}

-- the clauses of a promise, put together
kept-promise : {t : Table} {r : Record} {target : Target} {ran : Ran} →
    EndsAsReported t r target ran → HasFloor t r target ran →
    Manner r target (report_of (sides_of r target) ran).outcome t ran → KeepsPromise t r target ran
kept-promise ends floor manner =
    record {
      says = ends.says;
      after = ends.after;
      kept = ends.kept;
      floor = floor;
      manner = manner;
      blamed = ends.blamed;
      cause = ends.cause;
      paid = ends.paid;
    }

pub headline : Headline
headline t r (Workers n) turns pattern a =
    let k = workers_headline t r n turns pattern a in kept-promise k.0 k.1 (workers_manner n t r turns pattern a)
headline t r (Mend overdue) turns pattern a =
    kept-promise (mend_headline t r overdue turns pattern a) tt (mend_manner overdue t r turns pattern a)
headline t r Reopen turns pattern a =
    kept-promise (reopen_headline t r turns pattern a) (reopen_floor t r turns pattern a) (reopen_manner t r turns pattern a)
headline t r (Reload s) turns pattern a =
    let k = reload_headline t r s turns pattern a in kept-promise k.0 k.1 (reload_manner s t r turns pattern a)
headline t r (Upgrade s) turns pattern a =
    let k = upgrade_headline t r s turns pattern a in kept-promise k.0 k.1 (upgrade_manner s t r turns pattern a)
headline t r (Attended s) turns pattern a =
    let k = attended_headline t r s turns pattern a in kept-promise k.0 k.1 (attended_manner s t r turns pattern a)
headline t r (Stop quick) turns pattern a =
    kept-promise (stop_headline t r quick turns pattern a) tt (stop_manner quick t r turns pattern a)
