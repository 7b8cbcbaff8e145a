-- A table that meets the premises.
use Rattle.std.proofs.Common.{◌≡◌, ℕ, ◌+◌, ◌≤◌, Bool, true, false, refl, sym, subst, arith}
use Rattle.std.specs.Prelude.{◌&&◌, ◌==◌, count_by, Some, List, [], ◌∷◌}
use Rattle.std.proofs.lemmas.Bool.Decides.{nat_tests}
use Rattle.listener_set.specs.declared.generation.Generation.{Generation}
use Rattle.definitions.specs.Table.{File, same_generation, is_worker, is_active, IsFormed}
use Rattle.call_laws.specs.Pieces.{is_ready}
use Rattle.std.specs.List.{list_any}
use Rattle.vocabulary.specs.declared.plans.PidNote.{PidNote}
use Rattle.vocabulary.specs.declared.plans.PidNote.TheVariants.{InPlace, AtOldbin}
use Rattle.listener_set.specs.Numbers.{is_in}
use Rattle.definitions.specs.Master.{FilesAre, crew_of}
use Rattle.theorems.specs.Settling.{HasSide}
use Rattle.definitions.specs.Claims.{IsStart}
use Rattle.theorems.specs.Examples.{table_with, own_rows, pid_files, two_ready, two_workers, two_with_stale_file}
use Rattle.theorems.specs.Examples.{two_masters, record_with, pid_file, first, holds, HasStart}
use Rattle.table_laws.proofs.Rows.{one, count-weigh}

at-most : (x s a b : Bool) → (a ≡ true → b ≡ false) → one (x && (s && a)) + (one (x && (s && b)) + 0) ≤ 1
at-most true true true true h = absurd (cc (h refl))
at-most true true true false h = omega arith
at-most true true false true h = omega arith
at-most true true false false h = omega arith
at-most true false a b h = omega arith
at-most false s a b h = omega arith

apart : (k : ℕ) → (0 == k) ≡ true → (1 == k) ≡ false
apart k e = grind (arith, nat_tests)

once : (q : ℕ) (h : Generation) (k : ℕ) → count_by (is_worker is_active q h k) two_workers.rows ≤ 1
once q h k =
    subst (λ n. n ≤ 1) (sym (count-weigh (is_worker is_active q h k) two_workers.rows))
    (omega (arith, at-most (100 == q) (same_generation first h) (0 == k) (1 == k) (apart k)))

-- The two workers and their master, with the files that go with the note.
start_with :
    (files : List File) (note : PidNote) → FilesAre note (Some pid_file) 100 files →
    IsStart (table_with own_rows files 65535) (record_with (0 ∷ 1 ∷ []) 2 3 (Some pid_file) note)
start_with files note files_are = record {
  formed = record {
    once = once;
    quiet = (tt, (tt, (tt, tt)));
    parents = (tt, (refl, (refl, tt)));
    ascending = (omega arith, (omega arith, (omega arith, omega arith)));
  };
  agrees = record {
    holds = holds;
    lives = refl;
    alone = refl;
    listeners = refl;
    running = (tt, ((λ e. (refl, refl)), ((λ e. (refl, refl)), tt)));
    ready = λ k. refl;
    files = files_are;
  };
  record_in_range = record {
    listens = omega arith;
    groups = record { some = omega arith; most = omega arith; listening = (omega arith, tt); addresses = omega arith; workers = omega arith };
    wanted = omega arith;
    ready = (omega arith, (omega arith, tt));
    retries = omega arith;
    timeout_least = omega arith;
    timeout_most = omega arith;
    pid_path = omega arith;
    pid = omega arith;
  };
  rising = (omega arith, (omega arith, tt));
}

start : IsStart two_workers (two_ready 3)
start = start_with pid_files InPlace (refl, refl)

-- With a stale file at the path too.
stale : IsStart two_with_stale_file (record_with (0 ∷ 1 ∷ []) 2 3 (Some pid_file) AtOldbin)
stale = start_with two_with_stale_file.files AtOldbin refl

-- Beside another master too.
once_beside : (q : ℕ) (h : Generation) (k : ℕ) → count_by (is_worker is_active q h k) two_masters.rows ≤ 1
once_beside q h k =
    subst (λ n. n ≤ 1) (sym (count-weigh (is_worker is_active q h k) two_masters.rows))
    (omega (arith, at-most (100 == q) (same_generation first h) (0 == k) (1 == k) (apart k)))

formed_beside : IsFormed two_masters
formed_beside = record {
  once = once_beside;
  quiet = (tt, (tt, (tt, (tt, tt))));
  parents = (tt, (refl, (refl, (tt, tt))));
  ascending = (omega arith, (omega arith, (omega arith, (omega arith, omega arith))));
}

within_two : (k : ℕ) → list_any (is_worker is_ready 100 first k) two_masters.rows ≡ true → is_in (0 ∷ 1 ∷ []) k ≡ true
within_two k e = e

has_side : HasSide two_masters 1 100 holds (crew_of (two_ready 3)) (0 ∷ 1 ∷ [])
has_side = record {
  lives = refl;
  only = ((λ e. refl), (tt, (tt, ((λ e. absurd (omega (arith, e))), tt))));
  running = (tt, ((λ e. (refl, refl)), ((λ e. (refl, refl)), (tt, tt))));
  within = within_two;
}

pub has_start : HasStart
has_start = (start, record { descriptors = (omega arith, tt); limit = omega arith }, formed_beside, has_side, stale)
