-- What keeps the rules of a record.
use Rattle.std.proofs.Common.{ap, ◌∙◌, ◌≡◌, ℕ, ◌<◌, true, ◌&&◌, nat_le, Option, List, [], ◌∷◌, length, inl, inr}
use Rattle.std.specs.Prelude.{is_none, option_map, Some, None, refl}
use Rattle.std.specs.List.{AllByRecursion}
use Rattle.std.proofs.lemmas.Bool.{false≢true, and_parts, leb-true}
use Rattle.std.proofs.lemmas.Bool.Decides.{leb_tells}
use Rattle.listener_set.specs.Numbers.{first_from}
use Rattle.worker_groups.specs.Groups.{AreGroups}
use Rattle.vocabulary.specs.Settings.{Settings, HasSuffixRoom}
use Rattle.worker_groups.specs.Crews.{Posts}
use Rattle.vocabulary.specs.declared.targets.Target.{Target}
use Rattle.vocabulary.specs.declared.targets.Target.TheVariants as target
use Rattle.vocabulary.specs.declared.reports.Outcome.{Outcome}
use Rattle.vocabulary.specs.declared.reports.Outcome.TheVariants as outcome
use Rattle.vocabulary.specs.declared.plans.Side.TheVariants as side
use Rattle.definitions.specs.Table.{Generation, Listener}
use Rattle.definitions.specs.Master.{Record, IsRecord}
use Rattle.vocabulary.specs.declared.reports.Report.{Report}
use Rattle.definitions.specs.After.{named_record, renewed, target_record, old_record, record_from, reported, keeps_rules}
use Rattle.service_state.specs.Setups.{Basis, basis_of, on_basis, IsSetup}

-- where no number is at least the bound, each is below it
pub are_below : (bound : ℕ) (ns : List ℕ) → is_none (first_from bound ns) ≡ true → AllByRecursion (λ k. k < bound) ns
are_below bound [] h = tt
are_below bound (k ∷ ks) h =
    elim (leb_tells bound k) [
      | inl at_least ↦ absurd (false≢true (rw at_least.0 at h))
      | inr below ↦ (below.1, are_below bound ks (rw below.0 at h))
    ]

pub IsRecord-from_rules : (old : Record) (b : Basis) (report : Report) (pid : ℕ) →
    keeps_rules (reported (on_basis old b) report pid) ≡ true → IsSetup b → AreGroups b.posts.groups →
    HasSuffixRoom old.pid_path → IsRecord (reported (on_basis old b) report pid)
IsRecord-from_rules old b report pid h ranges groups room =
    let listens = and_parts (nat_le 1 (length b.listeners)) (nat_le b.wanted 1024 && (is_none (first_from b.wanted report.ready) && nat_le 1 pid)) h in
    let wanted = and_parts (nat_le b.wanted 1024) (is_none (first_from b.wanted report.ready) && nat_le 1 pid) listens.1 in
    let ready = and_parts (is_none (first_from b.wanted report.ready)) (nat_le 1 pid) wanted.1 in
    record {
      listens = leb-true 1 (length b.listeners) listens.0;
      groups = groups;
      wanted = leb-true b.wanted 1024 wanted.0;
      ready = are_below b.wanted report.ready ready.0;
      retries = ranges.retries;
      timeout_least = ranges.timeout_least;
      timeout_most = ranges.timeout_most;
      pid_path = room;
      pid = leb-true 1 pid ready.1;
    }

-- A target leaves all else of a record as it was.
renewed_rest : (r : Record) (s : Settings) (posts : Posts) (ls : Option (List Listener)) (g : Option Generation) →
    option_map (λ x. on_basis r (basis_of x)) (renewed r s posts ls g) ≡ renewed r s posts ls g
renewed_rest r s posts None g = refl
renewed_rest r s posts (Some ls) None = refl
renewed_rest r s posts (Some ls) (Some g) = refl

target_rest : (r : Record) (t : Target) → option_map (λ x. on_basis r (basis_of x)) (target_record r t) ≡ target_record r t
target_rest r (target.Workers n) = refl
target_rest r (target.Mend overdue) = refl
target_rest r target.Reopen = refl
target_rest r (target.Reload s) = renewed_rest r s _ _ _
target_rest r (target.Upgrade s) = renewed_rest r s _ _ _
target_rest r (target.Attended s) = renewed_rest r s _ _ _
target_rest r (target.Stop quick) = refl

old_rest : (r : Record) (t : Target) → option_map (λ x. on_basis r (basis_of x)) (old_record r t) ≡ old_record r t
old_rest r (target.Workers n) = refl
old_rest r (target.Mend overdue) = refl
old_rest r target.Reopen = refl
old_rest r (target.Reload s) = refl
old_rest r (target.Upgrade s) = refl
old_rest r (target.Attended s) = refl
old_rest r (target.Stop quick) = refl

named_rest : (r : Record) (t : Target) (o : Outcome) → option_map (λ x. on_basis r (basis_of x)) (named_record o r t) ≡ named_record o r t
named_rest r t outcome.Done = target_rest r t
named_rest r t outcome.RolledBack = old_rest r t
named_rest r t (outcome.Degraded side.Old shortfalls) = old_rest r t
named_rest r t (outcome.Degraded side.Target shortfalls) = target_rest r t
named_rest r t outcome.Lost = refl

onto_rest : (r : Record) (o : Option Record) → option_map (on_basis r) (option_map basis_of o) ≡ option_map (λ x. on_basis r (basis_of x)) o
onto_rest r None = refl
onto_rest r (Some x) = refl

-- What a record stands on after an outcome tells the whole record.
pub told_by : (r : Record) (t : Target) (o : Outcome) (b : Option Basis) →
    b ≡ option_map basis_of (named_record o r t) → option_map (on_basis r) b ≡ named_record o r t
told_by r t o b e = ap (option_map (on_basis r)) e ∙ (onto_rest r (named_record o r t) ∙ named_rest r t o)
