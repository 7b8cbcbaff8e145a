-- Each end of each plan is one that a report names.
use Rattle.std.proofs.Common.{◌≡◌, ◌+◌, ℕ, true, false, Bool, List, [], ◌∷◌, ◌++◌, Option, Some}
use Rattle.std.proofs.Common.{None, refl, subst, map, filter}
use Rattle.std.proofs.Common.{reverse, zero, suc, nat_lt, not, ◌||◌}
use Rattle.std.specs.Prelude.{⊤}
use Rattle.std.specs.List.{AllByRecursion}
use Rattle.listener_set.specs.Numbers.{numbers_below, is_in}
use Rattle.listener_set.specs.declared.generation.Generation.{Generation}
use Rattle.vocabulary.specs.Settings.{Settings}
use Rattle.vocabulary.specs.declared.plans.Side.{Side}
use Rattle.vocabulary.specs.declared.plans.Side.TheVariants as side
use Rattle.vocabulary.specs.declared.plans.Sides.{Sides}
use Rattle.vocabulary.specs.declared.plans.Turn.{Turn}
use Rattle.vocabulary.specs.declared.plans.PidNote.{PidNote}
use Rattle.vocabulary.specs.declared.plans.PidNote.TheVariants.{AtOldbin}
use Rattle.vocabulary.specs.declared.reports.Outcome.TheVariants as outcome
use Rattle.definitions.specs.Table.{Address, FilePath, Table}
use Rattle.definitions.specs.Calls.{Call, OpenAt, CloseAt, Quit, Kill, Usr1, AwaitReady, Census, SpawnMaster, WritePid}
use Rattle.definitions.specs.Calls.{Handed}
use Rattle.definitions.specs.Master.{Record, Target, Workers, Mend, Reopen, Reload, Upgrade, Attended, Stop, Crew}
use Rattle.definitions.specs.Master.{crew_of, fork_of, addresses_of, sides_of, handover_for}
use Rattle.definitions.specs.Run.{Tree, Branches, Ends, Does, Nothing, Branch, Order, Make, Reply}
use Rattle.definitions.specs.Run.{End, Done, RolledBack}
use Rattle.definitions.specs.Run.{ShortOld, ShortTarget, JoinReady, JoinBack, Ending, At, Lost, Pattern, Progress, Ran}
use Rattle.definitions.specs.Run.{run_with, goes_with, after_moment, after_call, reply_of, start_at}
use Rattle.definitions.specs.Run.{outcome_of, report_of}
use Rattle.definitions.specs.Plans.{tells, settle, starts, starts_any, awaits_gone, only_in}
use Rattle.definitions.specs.Plans.{either, reload_on, rollout_of}
use Rattle.definitions.specs.Plans.{has_oldbin, remove_oldbin_too, removes, stopped, move_aside}
use Rattle.definitions.specs.Plans.{move_back, remove_oldbin}
use Rattle.definitions.specs.Plans.{back_alone, back_from, back_late, back_serving, asks, hand_over, retire, relieve}
use Rattle.definitions.specs.Plans.{taken_over, joined, new_calls, new_part, old_part, pid_calls, tries, weave}
use Rattle.definitions.specs.Plans.{upgrade_tree, plan_tree}
use Rattle.definitions.specs.After.{crew_wanted}
use Rattle.definitions.specs.Claims.{Says, run_of}
use Rattle.call_laws.specs.Pieces.{answered, noted, among}
use Rattle.theorems.proofs.Promise.{headline}
use Rattle.further_theorems.proofs.Nodes.{Nodes, NodesAll, Always, Settles, Numbers, PartNodes}
use Rattle.further_theorems.proofs.Nodes.{n-tells, n-map, n-settle, n-stepped}
use Rattle.further_theorems.proofs.Nodes.{n-starts, n-starts-any, n-gone, n-opens, n-tries-all, n-weave}
use Rattle.upgrade_theorems.specs.Marks.{IsEnd, RunsEndAtNoMark}

-- any step, and the ends that a report names
abbrev Step : ℕ → Order → Branches → Type 0
Step by order bs = ⊤

abbrev Real : End → Type 0
Real e = IsEnd (At e)

abbrev pub Well : Tree → Type 0
Well t = Nodes Step Real t

settles : (by : ℕ) (g : Generation) → Settles Step Real by g
settles by g = record { forks = λ crew same bs. tt; awaits = λ bs. tt; kills = λ bs. tt; counts = λ bs. tt }

numbers : (by : ℕ) (g : Generation) → Numbers Step Real by g
numbers by g = record { forks = λ crew k same bs. tt; awaits = λ k bs. tt; kills = λ k bs. tt; gones = λ k bs. tt }

full : (sd : Side) → Real (Rattle.definitions.specs.Plans.full_end sd)
full side.Old = tt
full side.Target = tt

short : (sd : Side) → Real (Rattle.definitions.specs.Plans.short_end sd)
short side.Old = tt
short side.Target = tt

settled : (by : ℕ) (crew : Crew) (set : List ℕ) (sd : Side) (rounds : ℕ) → Well (settle by crew set sd rounds)
settled by crew set sd rounds =
    n-settle Step Real by crew set sd rounds (settles by crew.generation) (full sd) (short sd)

any : (by : ℕ) (calls : List Call) → AllByRecursion (λ c. Always Step Real by (Make c)) calls
any by [] = tt
any by (c ∷ cs) = ((λ bs. tt), any by cs)

told : (by : ℕ) (calls : List Call) (rest : Tree) → Well rest → Well (tells by calls rest)
told by calls rest h = n-tells Step Real by calls rest (any by calls) h

anywhere : (l : List Address) → AllByRecursion (λ a. ⊤) l
anywhere [] = tt
anywhere (a ∷ l) = (tt, anywhere l)

---- Target by target

module _ (r : Record) where
  abbrev by : ℕ
  by = r.generation.image

  abbrev g : Generation
  g = r.generation

  old-settled : Well (settle by (crew_of r) r.ready side.Old r.retries)
  old-settled = settled by (crew_of r) r.ready side.Old r.retries

  workers-well : (n : ℕ) (turns : List Turn) → Well (plan_tree r (Workers n) turns)
  workers-well n turns =
      n-starts Step Real by (crew_of r) (filter (λ k. not (is_in r.ready k)) (numbers_below n)) _ _ (numbers by g)
      (told by (map (Quit g) (reverse (filter (λ k. not (nat_lt k n)) r.ready))) _
      (settled by (crew_of r) (numbers_below n) side.Target r.retries))
      (λ l. told by (map (Quit g) l) _ old-settled)

  mend-well : (overdue : List ℕ) (turns : List Turn) → Well (plan_tree r (Mend overdue) turns)
  mend-well overdue turns =
      told by (map (Kill g) (filter (is_in r.ready) overdue)) _
      (n-starts-any Step Real by (crew_of r) (filter (λ k. not (is_in r.ready k) || is_in overdue k)
      (numbers_below r.wanted)) _ (numbers by g)
      (settled by (crew_of r) (numbers_below r.wanted) side.Target r.retries))

  reopen-well : (turns : List Turn) → Well (plan_tree r Reopen turns)
  reopen-well turns =
      told by (map (Usr1 g) r.ready) _ (settled by (crew_of r) r.ready side.Target r.retries)

  removed : (o : Option FilePath) (note : PidNote) (rest : Tree) → Well rest → Well (removes by o note rest)
  removed None note rest h = h
  removed (Some path) note rest h = let more = go (has_oldbin note) in (tt, (more, (more, tt)))
    where
      go : (b : Bool) → Well (remove_oldbin_too by path b rest)
      go true = (tt, (h, (h, tt)))
      go false = h

  stop-well : (quick : Bool) (turns : List Turn) → Well (plan_tree r (Stop quick) turns)
  stop-well true turns =
      told by (map (Kill g) r.ready) _ (removed r.pid_path r.note (stopped by) (tt, (tt, tt)))
  stop-well false turns =
      told by (map (Quit g) (reverse r.ready)) _
      (n-gone Step Real by g (reverse r.ready) _ (numbers by g)
      (removed r.pid_path r.note (stopped by) (tt, (tt, tt))))

  module _ (s : Settings) where
    abbrev fresh : Crew
    fresh = crew_wanted r (Reload s)

    onward : (left : List ℕ) → Well (reload_on by (crew_of r) fresh left r.retries (only_in (addresses_of r) s.listeners)
        s.workers)
    onward left =
        told by (map (Quit g) (reverse left)) _
        (told by (map CloseAt (only_in (addresses_of r) s.listeners)) _
        (settled by fresh (numbers_below s.workers) side.Target r.retries))

    pub reload-well : (turns : List Turn) → Well (plan_tree r (Reload s) turns)
    reload-well turns =
        let rollout = rollout_of r s s.surge in
        let added = only_in s.listeners (addresses_of r) in
        n-stepped Step Real by (crew_of r) fresh (numbers by g) (numbers by fresh.generation)
        (record { quits_old = λ k bs. tt; quits_new = λ k bs. tt; counts = λ bs. tt; asks = λ bs. tt }) false r.ready
        r.retries (addresses_of r) s.listeners s.workers rollout (opening added) (λ a. ⊤) (anywhere added)
        (onward rollout.left) (λ opened all. told by (map CloseAt opened) _ old-settled)
      where
        opening : (l : List Address) → AllByRecursion (λ a. Always Step Real by (Make (OpenAt a))) l
        opening [] = tt
        opening (a ∷ l) = ((λ bs. tt), opening l)

---- Upgrades

module _ (r : Record) (new : Crew) (n : ℕ) (A : List Address) where
  abbrev old : ℕ
  old = r.generation.image

  abbrev heir : ℕ
  heir = new.generation.image

  abbrev home : Tree
  home = settle old (crew_of r) r.ready side.Old r.retries

  moved : (o : Option FilePath) (rest : Tree) → Well rest → Well (move_back old o rest)
  moved None rest h = h
  moved (Some path) rest h = (tt, (h, (h, tt)))

  alone : Well (back_alone old (crew_of r) r.ready r.retries r.pid_path)
  alone = moved r.pid_path home (old-settled r)

  from : Well (back_from old heir (crew_of r) r.ready r.retries r.pid_path)
  from = (tt, (alone, tt))

  late : Well (back_late old heir (crew_of r) r.ready r.retries r.pid_path)
  late = (tt, (n-starts-any Step Real old (crew_of r) r.ready _ (numbers old r.generation) alone, tt))

  serving : Well (back_serving old heir (crew_of r) r.ready r.retries r.pid_path)
  serving = n-starts-any Step Real old (crew_of r) r.ready _ (numbers old r.generation) from

  asked : (b : Bool) (q : ℕ) (go back : Tree) → Well go → Well back → Well (asks b old q go back)
  asked true q go back h k = (tt, (h, (k, tt)))
  asked false q go back h k = h

  cleared : (o : Option FilePath) (rest : Tree) → Well rest → Well (remove_oldbin heir o rest)
  cleared None rest h = h
  cleared (Some path) rest h = (tt, (h, (h, tt)))

  over : Well (hand_over old new r.retries r.pid_path n)
  over = (tt, (cleared r.pid_path _ (settled heir new (numbers_below n) side.Target r.retries), tt))

  retired : Well (retire old (crew_of r) new r.ready r.retries r.pid_path n)
  retired = (tt, (over, (late, tt)))

  relieved : (b : Bool) → Well (relieve b old (crew_of r) new r.ready r.retries r.pid_path n)
  relieved b =
      asked b 1 _ _
      (told old (map (Quit r.generation) (reverse r.ready)) _
      (n-gone Step Real old r.generation (reverse r.ready) _ (numbers old r.generation)
      (asked b 2 (retire old (crew_of r) new r.ready r.retries r.pid_path n)
      (back_serving old heir (crew_of r) r.ready r.retries r.pid_path) retired serving))) from

  taken : (b : Bool) → Well (taken_over b old (crew_of r) new r.ready r.retries r.pid_path n
      (back_from old heir (crew_of r) r.ready r.retries r.pid_path))
  taken b =
      n-tries-all Step Real heir (pid_calls r.pid_path WritePid) _ _ (any heir (pid_calls r.pid_path WritePid))
      (tt, (relieved b, (from, tt))) from

  part-new : PartNodes Step Real (new_part new (addresses_of r) A n)
  part-new =
      n-tries-all (λ by order bs. Always Step Real by order) (λ e. ⊤) heir (new_calls new (addresses_of r) A n)
      (Ends JoinReady) (Ends JoinBack) (all (new_calls new (addresses_of r) A n)) tt tt
    where
      all : (calls : List Call) → AllByRecursion (λ c. Always (λ by order bs. Always Step Real by order) (λ e. ⊤) heir
          (Make c)) calls
      all [] = tt
      all (c ∷ cs) = ((λ bs bs'. tt), all cs)

  part-old : (rounds : ℕ) → PartNodes Step Real (old_part old (crew_of r) r.ready rounds)
  part-old zero = ((λ bs. tt), (tt, tt))
  part-old (suc rounds) =
      let more = part-old rounds in
      ((λ bs. tt), (tt, (((λ bs. tt), (((λ bs. tt), (more, (((λ bs. tt), (more, tt)), tt))), (more, tt))), tt)))

  aside : (o : Option FilePath) (note : PidNote) (ok bad : Tree) → Well ok → Well bad → Well
      (move_aside old o note ok bad)
  aside None note ok bad h k = h
  aside (Some path) AtOldbin ok bad h k = h
  aside (Some path) note ok bad h k = (tt, (h, (k, tt)))

  pub upgrade-well : (b : Bool) (turns : List Turn) → Well (upgrade_tree b old (crew_of r) new r.ready r.retries
      r.pid_path r.note (addresses_of r) A n turns)
  upgrade-well b turns =
      aside r.pid_path r.note _ _ (
        tt,
        (
          n-weave Step Real (joined (taken_over b old (crew_of r) new r.ready r.retries r.pid_path n
              (back_from old heir (crew_of r) r.ready r.retries r.pid_path))
              (back_from old heir (crew_of r) r.ready r.retries r.pid_path)) joins
              (new_part new (addresses_of r) A n) part-new turns (old_part old (crew_of r) r.ready r.retries)
              (part-old r.retries),
          (alone, tt),
        ),
      ) (old-settled r)
    where
      joins : (e : End) → Well (joined (taken_over b old (crew_of r) new r.ready r.retries r.pid_path n
          (back_from old heir (crew_of r) r.ready r.retries r.pid_path))
          (back_from old heir (crew_of r) r.ready r.retries r.pid_path) e)
      joins JoinReady = taken b
      joins _ = from

plan-well : (r : Record) (target : Target) (turns : List Turn) → Well (plan_tree r target turns)
plan-well r (Workers n) turns = workers-well r n turns
plan-well r (Mend overdue) turns = mend-well r overdue turns
plan-well r Reopen turns = reopen-well r turns
plan-well r (Reload s) turns = reload-well r s turns
plan-well r (Upgrade s) turns = upgrade-well r (crew_wanted r (Upgrade s)) s.workers s.listeners false turns
plan-well r (Attended s) turns = upgrade-well r (crew_wanted r (Attended s)) s.workers s.listeners true turns
plan-well r (Stop quick) turns = stop-well r quick turns

---- Along a run

abbrev EndsWell : Ending → Type 0
EndsWell (At e) = Real e
EndsWell Lost = ⊤

module _ (handed : Handed) (pattern : Pattern) where
  mutual
    run-well : (t : Tree) (p : Progress) → Well t → EndsWell (run_with handed t pattern p).ending
    run-well (Ends e) p h = h
    run-well (Does by order set bs) p h =
        let middle = after_moment (pattern (p.calls + 1)).exits p in
        let s = answered handed by order (pattern (p.calls + 1)).fate middle in
        behind-well bs (reply_of set s.answer) (after_call by order set s middle) h.1

    behind-well : (bs : Branches) (r : Reply) (p : Progress) → NodesAll Step Real bs → EndsWell
        (goes_with handed bs r pattern p).ending
    behind-well Nothing r p h = tt
    behind-well (Branch replies said rest more) r p h =
        elim (among replies r) as (λ b. EndsWell (elim b as (λ c. Ran) [
          | true ↦ run_with handed rest pattern (noted said p)
          | false ↦ goes_with handed more r pattern p
        ]).ending) [
          | true ↦ run-well rest (noted said p) h.0
          | false ↦ behind-well more r p h.1
        ]

-- and none is lost
not-lost : (sides : Sides) (ending : Ending) (lacking : List ℕ) → EndsWell ending →
    (outcome_of sides ending lacking ≡ outcome.Lost → ⊥) → IsEnd ending
not-lost sides (At e) lacking h lost = h
not-lost sides Lost lacking h lost = absurd (lost refl)

pub runs-end-at-no-mark : RunsEndAtNoMark
runs-end-at-no-mark t r target turns pattern accepted =
    let ran = run_of r target turns pattern t in
    not-lost (sides_of r target) ran.ending _
    (run-well (handover_for r target) pattern (plan_tree r target turns) (start_at t r.note) (plan-well r target turns))
    (λ e. subst (λ o. Says r target o t ran.last.table) e (headline t r target turns pattern accepted).says)
