-- A reload goes well under no event: in each step the new workers start and the old ones go.
use Rattle.std.proofs.Common.{◌≡◌, ℕ, zero, suc, Bool, true, false, not, List, [], ◌∷◌, ◌++◌, length, refl, sym, ap, ◌∙◌}
use Rattle.std.proofs.Common.{subst, arith, map, reverse}
use Rattle.std.specs.Prelude.{◌&&◌, nat_lt, take, drop, if◌then◌else◌}
use Rattle.std.proofs.lemmas.List.{take-append-drop, append_assoc}
use Rattle.vocabulary.specs.Settings.{Settings}
use Rattle.listener_set.specs.declared.generation.Generation.{Generation}
use Rattle.listener_set.specs.Numbers.{is_in, numbers_below, lacks}
use Rattle.vocabulary.specs.declared.plans.Side.TheVariants as side
use Rattle.vocabulary.specs.declared.plans.Turn.{Turn}
use Rattle.definitions.specs.Table.{Table, Address, is_worker, is_active}
use Rattle.definitions.specs.Calls.{Quit, Handed}
use Rattle.definitions.specs.Master.{Crew, Record, Reload, crew_of, reload_generation, addresses_of}
use Rattle.definitions.specs.After.{crew_wanted}
use Rattle.definitions.specs.Run.{Tree}
use Rattle.definitions.specs.Plans.{plan_tree, settle, tells, starts, awaits, awaits_gone, only_in, in_steps, last_step, rolled}
use Rattle.definitions.specs.Plans.{Step, Rollout, quits_new, taken_back, closes_opened, staying, is_enough, rollout_of}
use Rattle.definitions.specs.Claims.{IsStart}
use Rattle.table_laws.proofs.Counts.{Distinct}
use Rattle.table_laws.proofs.Sets.{below-distinct, below-length, in-here, in-there}
use Rattle.quiet_runs.specs.Quiet.{HasResources}
use Rattle.quiet_runs.proofs.Ways.{Goes}
use Rattle.quiet_runs.proofs.Stands.{Spot, State, Stands, At, step-quit, step-gone, any-quit, any-gone}
use Rattle.quiet_runs.proofs.Chains.{piled, in-piled, Onward, chain-forks-first, chain-awaits, chain-opens, go-forks, go-awaits}
use Rattle.quiet_runs.proofs.Chains.{go-opens, go-settle}
use Rattle.quiet_runs.proofs.Alone.{bare, regard, from-bare, go-starts, go-count, go-quits, go-closes}
use Rattle.quiet_runs.proofs.Starts.{lone, begins, idle-reload}

-- the numbers that the steps and the last one start, in their order
abbrev started : List Step → List ℕ → List ℕ
started [] last = last
started (step ∷ steps) last = step.starts ++ started steps last

-- each number is started once
all-started : (enough : List ℕ → List ℕ → Bool) (tries surge : ℕ) (base todo left : List ℕ) →
    let rollout = rolled enough tries surge base todo left in started rollout.steps rollout.last ≡ todo
all-started enough zero surge base todo left = refl
all-started enough (suc tries) surge base todo left =
    let now = reverse (take surge todo) ++ base in
    let stay = staying (enough now) left (reverse left) in
    let more = rolled enough tries surge now (drop surge todo) stay in
    elim (nat_lt 0 surge && nat_lt surge (length todo)) as
    (λ b. let rollout : Rollout = if b then record {
      steps = record { starts = take surge todo; quits = lacks left stay } ∷ more.steps;
      last = more.last;
      left = more.left;
    } else record { steps = []; last = todo; left = left } in
    started rollout.steps rollout.last ≡ todo) [
      | true ↦ ap (λ l. take surge todo ++ l) (all-started enough tries surge now (drop surge todo) stay) ∙ take-append-drop surge todo
      | false ↦ refl
    ]

-- these are yet to be started
abbrev waiting : List ℕ → State
waiting ks = record { busy = []; idle = ks; room = ks; unheld = []; fresh = false }

-- and these have gone
abbrev gone : List ℕ → State
gone ks = record { busy = []; idle = ks; room = []; unheld = []; fresh = false }

module _ (handed : Handed) (sp : Spot) (g h : Generation) where
  -- Old workers quit, and none of those that are yet to be started is.
  both-quit :
      (ks past later : List ℕ) (rest : Tree) →
      ((t : Table) → At handed sp h (waiting later) t → At handed sp g (gone (piled ks past)) t → Goes handed rest t) →
      (t : Table) → At handed sp h (waiting later) t → At handed sp g (gone past) t → Goes handed (tells sp.image (map (Quit g) ks) rest) t
  both-quit [] past later rest go t a b = go t a b
  both-quit (k ∷ ks) past later rest go t a b =
      let new = any-quit handed sp h g k (waiting later) t a in
      let old = step-quit handed sp g k (gone past) t b in
      (new.0, both-quit ks (k ∷ past) later rest go _ new.1 old.1)

  both-gone :
      (ks past later : List ℕ) (rest : Tree) → ((k : ℕ) → is_in ks k ≡ true → is_in past k ≡ true) →
      ((t : Table) → At handed sp h (waiting later) t → Goes handed rest t) →
      (t : Table) → At handed sp h (waiting later) t → At handed sp g (gone past) t → Goes handed (awaits_gone sp.image g ks rest) t
  both-gone [] past later rest in_past go t a b = go t a
  both-gone (k ∷ ks) past later rest in_past go t a b =
      let off = b.idle k (in_past k (in-here k k ks refl)) in
      let new = any-gone handed sp h g k (waiting later) t off a in
      let old = step-gone handed sp g k (gone past) (in_past k (in-here k k ks refl)) t b in
      (new.0, both-gone ks past later rest (λ i e. in_past i (in-there k i ks e)) go _ new.1 old.1)

  -- of the old ones nothing is known at first
  unknown : (later : List ℕ) (t : Table) → At handed sp h (waiting later) t → At handed sp g bare t
  unknown later t s = record {
    holds = s.holds;
    lives = s.lives;
    told = s.told;
    beside = s.beside;
    busy = λ k e. absurd (cc);
    idle = λ k e. absurd (cc);
    room = omega (arith, s.room);
    unheld = tt;
    apart = tt;
    limit = s.limit;
  }

  old-go :
      (ks later : List ℕ) (rest : Tree) → Onward handed sp h (waiting later) rest →
      Onward handed sp h (waiting later) (tells sp.image (map (Quit g) ks) (awaits_gone sp.image g ks rest))
  old-go ks later rest go t s =
      both-quit ks [] later (awaits_gone sp.image g ks rest)
      (λ t a b. both-gone ks (piled ks []) later rest (λ k e. in-piled ks [] k e) go t a b) t s (unknown later t s)

  -- new ones start before others
  first-start :
      (crew : Crew) (ks later : List ℕ) (ok : Tree) (bad : List ℕ → Tree) → crew.generation ≡ h → Distinct (ks ++ later) →
      Onward handed sp h (waiting later) ok → Onward handed sp h (waiting (ks ++ later)) (starts sp.image crew ks ok bad)
  first-start crew ks later ok bad same d on =
      let x1 : State = record { busy = piled ks []; idle = later; room = later; unheld = []; fresh = false } in
      go-forks handed sp h crew ks [] _ bad _ x1 (chain-forks-first handed sp h crew ks later [] same d)
      (λ forked. subst (λ g. Onward handed sp h x1 (awaits sp.image g ks ok (bad forked))) (sym same)
      (go-awaits handed sp h h ks ok (bad forked) x1 x1 (chain-awaits handed sp h ks x1 (λ k e. in-piled ks [] k e))
      (λ t s. on t (idle-alone later t s))))
    where
      idle-alone :
          (later : List ℕ) (t : Table) →
          At handed sp h (record { busy = piled ks []; idle = later; room = later; unheld = []; fresh = false }) t →
          At handed sp h (waiting later) t
      idle-alone later t s = record {
        holds = s.holds;
        lives = s.lives;
        told = s.told;
        beside = s.beside;
        busy = λ k e. absurd (cc);
        idle = s.idle;
        room = s.room;
        unheld = tt;
        apart = tt;
        limit = s.limit;
      }

  later-distinct : (ks more : List ℕ) → Distinct (ks ++ more) → Distinct more
  later-distinct [] more d = d
  later-distinct (k ∷ ks) more d = later-distinct ks more d.1

  module _ (old new : Crew) (same : new.generation ≡ h) (was : old.generation ≡ g) (retries n : ℕ) (dropped : List Address) where
    last-go :
        (numbers left : List ℕ) (first : Bool) (back : Tree) → Distinct numbers →
        Onward handed sp h (waiting numbers) (last_step false sp.image old new numbers left retries dropped n first back)
    last-go numbers left first back d =
        go-starts handed sp h new numbers _ _ same d
        (go-count handed sp h new.generation (numbers_below n) _ (quits_new sp.image new (not first) numbers back (reverse numbers)) bare
        (go-quits handed sp h old.generation (reverse left) _ (go-closes handed sp h dropped _
        (go-settle handed sp h new (numbers_below n) side.Target retries bare))))

    steps-go :
        (steps : List Step) (last left : List ℕ) (first : Bool) (back : Tree) → Distinct (started steps last) →
        Onward handed sp h (waiting (started steps last))
        (in_steps false first sp.image old new steps (last_step false sp.image old new last left retries dropped n) back)
    steps-go [] last left first back d = last-go last left first back d
    steps-go (step ∷ steps) last left first back d =
        let taken : Tree = taken_back sp.image old new (not first) step back in
        let rest : Tree = in_steps false false sp.image old new steps (last_step false sp.image old new last left retries dropped n) taken in
        let leaving : Generation → Tree = λ z. tells sp.image (map (Quit z) (reverse step.quits)) (awaits_gone sp.image z (reverse step.quits) rest) in
        first-start new step.starts (started steps last) (leaving old.generation) (quits_new sp.image new (not first) step.starts back) same d
        (subst (λ z. Onward handed sp h (waiting (started steps last)) (leaving z)) (sym was)
        (old-go (reverse step.quits) (started steps last) rest
        (steps-go steps last left false taken (later-distinct step.starts (started steps last) d))))

module _ (t : Table) (r : Record) (start : IsStart t r) (handed : Handed) where
  pub go-reload : (s : Settings) (turns : List Turn) → HasResources t r (Reload s) → Goes handed (plan_tree r (Reload s) turns) t
  go-reload s turns res =
      let g = r.generation in
      let new = crew_wanted r (Reload s) in
      let h = reload_generation r.generation in
      let S = numbers_below s.workers in
      let held = addresses_of r in
      let rollout = rollout_of r s s.surge in
      let x0 : State = record { busy = []; idle = S; room = S; unheld = only_in s.listeners held; fresh = false } in
      let is = all-started (is_enough r s) s.workers s.surge [] S r.ready in
      go-opens handed (lone r) h (only_in s.listeners held) [] _ _ x0 (waiting S) (chain-opens handed (lone r) h
      (only_in s.listeners held) [] S S)
      (λ opened. subst
      (λ z. Onward handed (lone r) h (waiting z) (in_steps false true r.generation.image (crew_of r) new rollout.steps (last_step false r.generation.image (crew_of r) new rollout.last rollout.left r.retries (only_in held s.listeners) s.workers) (closes_opened r.generation.image (crew_of r) r.ready r.retries opened)))
      is
      (steps-go handed (lone r) g h (crew_of r) new refl refl r.retries s.workers (only_in held s.listeners) rollout.steps rollout.last rollout.left true (closes_opened r.generation.image (crew_of r) r.ready r.retries opened)
      (subst (λ z. Distinct z) (sym is) (below-distinct s.workers))))
      t (begins handed t r start h S S (only_in s.listeners held) (λ k e. idle-reload t r start k)
      (let n = below-length s.workers in omega (arith, n, res.processes)) res.unheld res.apart res.descriptors)
