-- How many workers start and quit in the steps of a rollout.
use Rattle.std.proofs.Common.{◌≡◌, ℕ, zero, suc, ◌+◌, ◌*◌, ◌≤◌, ◌&&◌, Bool, true, false, nat_lt, List}
use Rattle.std.proofs.Common.{[], ◌∷◌, ◌++◌, length, take, drop, reverse, ap, arith, length-append}
use Rattle.std.specs.Prelude.{if◌then◌else◌}
use Rattle.std.proofs.lemmas.List.{take-append-drop}
use Rattle.listener_set.specs.Numbers.{lacks, numbers_below, AreNumbers}
use Rattle.vocabulary.specs.Settings.{Settings}
use Rattle.definitions.specs.Master.{Record}
use Rattle.table_laws.proofs.Counts.{Distinct}
use Rattle.table_laws.proofs.Sets.{below-length}
use Rattle.table_laws.proofs.Begins.{rising-distinct}
use Rattle.definitions.specs.Plans.{Rollout, rolled, staying, is_enough, rollout_of}
use Rattle.table_laws.proofs.Rolling.{stays, parted}
use Rattle.reload_planner.specs.Trees.{moved, most_moved}

all-moved : (enough : List ℕ → List ℕ → Bool) (tries surge : ℕ) (started todo left : List ℕ) → Distinct left →
    (let ro = rolled enough tries surge started todo left in moved ro.steps + length ro.last + length ro.left ≡
    length todo + length left)
all-moved enough zero surge started todo left d = omega arith
all-moved enough (suc tries) surge started todo left d =
    let now = reverse (take surge todo) ++ started in
    let stay = staying (enough now) left (reverse left) in
    let more = rolled enough tries surge now (drop surge todo) stay in
    let s = stays (enough now) left (reverse left) d in
    let p = parted left stay d s.distinct s.within in
    let parts = ap length (take-append-drop surge todo) in
    let rest = all-moved enough tries surge now (drop surge todo) stay s.distinct in
    elim (nat_lt 0 surge && nat_lt surge (length todo)) as
    (λ z. let ro : Rollout = if z then record {
      steps = record { starts = take surge todo; quits = lacks left stay }
          ∷ more.steps;
      last = more.last;
      left = more.left;
    } else record { steps = []; last = todo; left = left } in
    moved ro.steps + length ro.last + length ro.left ≡ length todo + length left) [
      | true ↦ omega (arith, rest, p.sum, parts, length-append (take surge todo) (drop surge todo))
      | false ↦ omega arith
    ]

pub rollout-moved : (r : Record) (s : Settings) (surge : ℕ) → AreNumbers 1024 r.ready →
    (let ro = rollout_of r s surge in moved ro.steps + length ro.last + length ro.left ≡ s.workers + length r.ready)
rollout-moved r s surge numbers =
    omega (
      arith,
      all-moved (is_enough r s) s.workers surge [] (numbers_below s.workers) r.ready
          (rising-distinct r.ready numbers.rising),
      below-length s.workers,
    )

---- So no plan is too large

pub within-most : (started last left rounds added dropped ready workers listened wanted : ℕ) →
    started + last + left ≡ workers + ready →
    added ≤ wanted → dropped ≤ listened →
    most_moved (started + last) left rounds added dropped
    ≤ 6 * (ready + workers) + listened + 2 * wanted + 2 * (1 + 4 * rounds) + 2
within-most started last left rounds added dropped ready workers listened wanted all a d = omega (arith, all, a, d)

pub never-large : (started last left rounds added dropped ready workers : ℕ) → started + last + left ≡ workers + ready →
    workers ≤ 1024 → ready ≤ 1024 → rounds ≤ 8 → added ≤ 64 → dropped ≤ 64 →
    most_moved (started + last) left rounds added dropped ≤ 65536
never-large started last left rounds added dropped ready workers all w r n a d = omega (arith, all, w, r, n, a, d)
