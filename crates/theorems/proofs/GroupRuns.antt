-- The worked examples of several groups, by computation.
use Rattle.std.proofs.Common.{◌≡◌, ℕ, ◌+◌, ◌≤◌, Bool, true, false, refl, sym, subst, arith}
use Rattle.std.specs.Prelude.{◌&&◌, ◌==◌, count_by}
use Rattle.std.proofs.lemmas.Bool.Decides.{nat_tests}
use Rattle.listener_set.specs.declared.generation.Generation.{Generation}
use Rattle.definitions.specs.Table.{same_generation, is_worker, is_active}
use Rattle.definitions.specs.Calls.{census_of}
use Rattle.definitions.specs.Claims.{IsStart}
use Rattle.theorems.specs.Examples.{first}
use Rattle.theorems.specs.GroupRuns.{both_holds, three_workers, three_ready, GroupRuns}
use Rattle.table_laws.proofs.Rows.{one, count-weigh}

-- Of three numbers a number is one at most.
at-most : (x s : Bool) (k : ℕ) → one (x && (s && (0 == k))) + (one (x && (s && (1 == k))) + (one (x && (s && (2 == k))) + 0)) ≤ 1
at-most true true k = go (0 == k) refl (1 == k) refl (2 == k) refl
  where
    go : (a : Bool) → (0 == k) ≡ a → (b : Bool) → (1 == k) ≡ b → (c : Bool) → (2 == k) ≡ c → one a + (one b + (one c + 0)) ≤ 1
    go true ea true eb c ec = absurd (grind (arith, nat_tests))
    go true ea false eb true ec = absurd (grind (arith, nat_tests))
    go true ea false eb false ec = omega arith
    go false ea true eb true ec = absurd (grind (arith, nat_tests))
    go false ea true eb false ec = omega arith
    go false ea false eb true ec = omega arith
    go false ea false eb false ec = omega arith
at-most true false k = omega arith
at-most false s k = omega arith

once : (q : ℕ) (h : Generation) (k : ℕ) → count_by (is_worker is_active q h k) three_workers.rows ≤ 1
once q h k =
    subst (λ n. n ≤ 1) (sym (count-weigh (is_worker is_active q h k) three_workers.rows))
    (omega (arith, at-most (100 == q) (same_generation first h) k))

start : IsStart three_workers three_ready
start = record {
  formed = record {
    once = once;
    quiet = (tt, (tt, (tt, (tt, tt))));
    parents = (tt, (refl, (refl, (refl, tt))));
    ascending = (omega arith, (omega arith, (omega arith, (omega arith, omega arith))));
  };
  agrees = record {
    holds = both_holds;
    lives = refl;
    alone = refl;
    listeners = refl;
    running = (tt, ((λ e. (refl, refl)), ((λ e. (refl, refl)), ((λ e. (refl, refl)), tt))));
    ready = λ k. refl;
    files = (refl, refl);
  };
  record_in_range = record {
    listens = omega arith;
    groups = record { some = omega arith; most = omega arith; listening = (omega arith, (omega arith, tt)); addresses = omega arith; workers = omega arith };
    wanted = omega arith;
    ready = (omega arith, (omega arith, (omega arith, tt)));
    retries = omega arith;
    timeout_least = omega arith;
    timeout_most = omega arith;
    pid_path = omega arith;
    pid = omega arith;
  };
  rising = (omega arith, (omega arith, (omega arith, tt)));
}

pub group_runs : GroupRuns
unfolding census_of
group_runs = record {
  start = start;
  splits_in_two = ((refl, refl), refl, refl);
  one_group_short = ((refl, refl), refl, refl);
  one_less = (refl, refl);
  one_more = (refl, refl);
  upgrades = ((refl, refl), refl, refl);
}
