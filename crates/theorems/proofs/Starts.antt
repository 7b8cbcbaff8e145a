-- A start agrees with its record.
use Rattle.std.proofs.Common.{◌≡◌, ℕ, ◌+◌, true, cond, ◌||◌, nat_eq, Option, Some, None, List, [], ◌∷◌, map, count_by, refl, ap, arith}
use Rattle.std.specs.List.{AllByRecursion, list_any}
use Rattle.std.proofs.lemmas.List.Sums.{sum_by-cons}
use Rattle.listener_set.specs.Numbers.{numbers_below, is_in}
use Rattle.vocabulary.specs.declared.table.Listener.{Listener}
use Rattle.definitions.specs.Table.{Address, FilePath, Hold, Process, Master, is_master, is_worker}
use Rattle.call_laws.specs.Pieces.{is_ready, listener_of}
use Rattle.worker_groups.specs.Crews.{first_posts}
use Rattle.definitions.specs.Master.{Group, Posts, FilesAre, IsRunning}
use Rattle.call_laws.specs.Start.{first_generation, first_note, StartsAgree, first_files, first_worker, holds_from}
use Rattle.vocabulary.specs.Settings.{listeners_from}
use Rattle.table_laws.proofs.Addresses.{address-refl}
use Rattle.table_laws.proofs.Files.{other-oldbin}

first-listeners : (fd s : ℕ) (xs : List Address) → map listener_of (holds_from fd s xs) ≡ listeners_from fd xs
first-listeners fd s [] = refl
first-listeners fd s (x ∷ xs) = ap (λ (ls : List Listener). (record { descriptor = fd; address = x }) ∷ ls) (first-listeners (fd + 1) (s + 1) xs)

first-files : (pid : Option FilePath) → FilesAre (first_note pid) pid 100 (first_files pid)
first-files None = tt
first-files (Some path) = (rw (address-refl path) refl, rw (other-oldbin path) refl)

module _ (groups : List Group) (holds : List Hold) where
  abbrev posts : Posts
  posts = first_posts groups

  all-running :
      (ns : List ℕ) → AllByRecursion (IsRunning 100 (record { generation = first_generation; posts = posts }) holds)
      (map (first_worker posts holds) ns)
  all-running [] = tt
  all-running (n ∷ ns) = ((λ e. (refl, refl)), all-running ns)

  no-masters : (ns : List ℕ) → count_by is_master (map (first_worker posts holds) ns) ≡ 0
  no-masters [] = refl
  no-masters (n ∷ ns) =
      let more = sum_by-cons (λ (p : Process). cond (is_master p) 1 0) (first_worker posts holds n) (map (first_worker posts holds) ns) in
      let rest = no-masters ns in
      omega (arith, more, rest)

  one-master : (ns : List ℕ) → count_by is_master (Master 100 1 1 true holds ∷ map (first_worker posts holds) ns) ≡ 1
  one-master ns =
      let more = sum_by-cons (λ (p : Process). cond (is_master p) 1 0) (Master 100 1 1 true holds) (map (first_worker posts holds) ns) in
      let rest = no-masters ns in
      omega (arith, more, rest)

  ready-numbers : (k : ℕ) (ns : List ℕ) → list_any (is_worker is_ready 100 first_generation k) (map (first_worker posts holds) ns) ≡ is_in ns k
  ready-numbers k [] = refl
  ready-numbers k (n ∷ ns) = ap (λ b. nat_eq n k || b) (ready-numbers k ns)

pub starts-agree : StartsAgree
starts-agree s wanted workers limits =
    let holds = holds_from 3 1 s.listeners in
    record {
      holds = holds;
      lives = refl;
      alone = one-master s.groups holds (numbers_below workers);
      listeners = first-listeners 3 1 s.listeners;
      running = (tt, all-running s.groups holds (numbers_below workers));
      ready = λ k. ready-numbers s.groups holds k (numbers_below workers);
      files = first-files s.pid;
    }
