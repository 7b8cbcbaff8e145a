-- A start is a standing.
use Rattle.std.proofs.Common.{◌<◌, true, subst, arith}
use Rattle.listener_set.specs.Numbers.{numbers_below, IsRising}
use Rattle.listener_set.proofs.NumberSets.{RisesFrom-filter_below}
use Rattle.table_laws.proofs.Counts.{filter-all}
use Rattle.table_laws.proofs.Sets.{below-of, every-in}
use Rattle.kernel_model.proofs.Booting.{IsKept-booted}
use Rattle.theorems.proofs.Starts.{starts-agree}
use Rattle.lives.specs.Lives.{StartsStand}
use Rattle.lives.proofs.Restart.{listed-length, listed-rises}

pub starts-stand : StartsStand
starts-stand s wanted workers limits range few most descriptors =
    let kept = IsKept-booted s.listeners s.groups workers s.pid limits descriptors in
    record {
      start = record {
        formed = kept.formed;
        agrees = starts-agree s wanted workers limits;
        record_in_range = record {
          listens = omega (arith, range.listens, listed-length 3 s.listeners);
          groups = range.groups;
          wanted = most;
          ready = every-in (λ k. k < wanted) (numbers_below workers) (λ k e. omega (arith, below-of workers k e, few));
          retries = range.retries;
          timeout_least = range.timeout_least;
          timeout_most = range.timeout_most;
          pid_path = range.pid;
          pid = omega arith;
        };
        rising = subst IsRising (filter-all (numbers_below workers)) (RisesFrom-filter_below (λ k. true) workers);
      };
      descriptors = record { descriptors = listed-rises 3 s.listeners; limit = descriptors };
      kept = kept;
    }
