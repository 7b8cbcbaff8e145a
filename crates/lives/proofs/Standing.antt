-- What a run leaves is a standing again.
use Rattle.std.proofs.Common.{◌≡◌, ℕ, ◌+◌, ◌≤◌, Bool, true, false, cond, List, [], ◌∷◌, Option, Some, None, refl, sym, subst, arith, length, nat_lt}
use Rattle.std.specs.Prelude.{⊤, IfSome, map, option_map, option_and_then, ◌==◌, if◌then◌else◌}
use Rattle.std.specs.List.{list_any}
use Rattle.std.specs.Bool.{then_some}
use Rattle.std.proofs.lemmas.Bool.Decides.{nat_tests}
use Rattle.std.proofs.lemmas.Option.{none-some, same_Some}
use Rattle.listener_set.specs.Numbers.{RisesFrom, IsRising}
use Rattle.listener_set.specs.AddressList.{has}
use Rattle.listener_set.proofs.NumberSets.{RisesFrom-filter_below}
use Rattle.listener_set.specs.declared.generation.Generation.{Generation}
use Rattle.vocabulary.specs.Settings.{Settings}
use Rattle.vocabulary.specs.declared.table.Listener.{Listener}
use Rattle.vocabulary.specs.declared.calls.Answer.TheVariants as answer
use Rattle.vocabulary.specs.declared.calls.Fate.TheVariants as fate
use Rattle.vocabulary.specs.declared.plans.Side.TheVariants as side
use Rattle.vocabulary.specs.declared.reports.Outcome.TheVariants as outcome
use Rattle.vocabulary.specs.declared.calls.Call.TheVariants.{OpenAt, CloseAt, Fork, AwaitReady, Quit, Kill, Census}
use Rattle.vocabulary.specs.declared.calls.Call.TheVariants.{AwaitGone, SpawnMaster, Adopt, WritePid, MovePid}
use Rattle.vocabulary.specs.declared.calls.Call.TheVariants.{RemovePid, Alive, Leave, Usr1, TermMaster, Ask}
use Rattle.vocabulary.specs.declared.calls.Call.{Call}
use Rattle.vocabulary.specs.declared.calls.Answer.{Answer}
use Rattle.vocabulary.specs.declared.calls.Fate.{Fate}
use Rattle.vocabulary.specs.declared.calls.Reply.{Reply}
use Rattle.definitions.specs.Table.{Address, FilePath, Process, Table, Caller, is_worker, is_active, is_held, live_master, owner_at}
use Rattle.definitions.specs.Calls.{census_of, is_image, has_process_room, suits, Handed, Stepped, own_step, step_by, fault_of}
use Rattle.definitions.specs.Master.{Record, Target, Workers, Mend, Reopen, Reload, Upgrade, Attended, Stop, handover_for}
use Rattle.definitions.specs.Run.{Tree, Branches, Ends, Does, Nothing, Branch, reply_of, call_of, lacked_by, Pattern}
use Rattle.definitions.specs.Run.{Progress, Ran, Report, Outcome, start_at, run_with, goes_with, after_moment, after_call, ready_after}
use Rattle.definitions.specs.After.{opened_from, all_opened, added, still_wanted, with_added, reloaded, upgraded, renewed}
use Rattle.definitions.specs.After.{next_config, next_image, target_record, old_record, named_record, keeps_rules, reported}
use Rattle.definitions.specs.After.{record_from, record_after, master_of, next_record, listener_at, posts_wanted}
use Rattle.worker_groups.specs.Crews.{Posts}
use Rattle.definitions.specs.Claims.{HasDescriptors, AgreesAfter, KeepsPromise, Accepts}
use Rattle.call_laws.specs.Pieces.{among, noted, answered, fault_at, fault_or_own, asked_alive, moved_if, is_ready, is_starting, is_draining}
use Rattle.definitions.specs.Plans.{Turn, plan_tree}
use Rattle.call_laws.proofs.Choices.{pick}
use Rattle.table_laws.proofs.Views.{eqb-is}
use Rattle.kernel_table.specs.Room.{IsKept}
use Rattle.kernel_model.proofs.CallsKept.{IsKept-exits, IsKept-step}
use Rattle.theorems.proofs.Promise.{headline}
use Rattle.lives.specs.Lives.{Task, run_at, reported_at, table_after, record_left_by, AllowsTarget, IsCarriedOut, IsStanding}

---- What every table of a kernel keeps, a run keeps

mutual
  pub kept-run : (handed : Handed) (tree : Tree) (pattern : Pattern) (p : Progress) → IsKept p.table → IsKept (run_with handed tree pattern p).last.table
  kept-run handed (Ends end) pattern p h = h
  kept-run handed (Does by order set branches) pattern p h =
      let moment = pattern (p.calls + 1) in
      let middle = after_moment moment.exits p in
      let s = answered handed by order moment.fate middle in
      kept-behind handed branches (reply_of set s.answer) pattern (after_call by order set s middle)
      (IsKept-step handed by (call_of order (lacked_by by middle.lacked)) moment.fate middle.table (IsKept-exits moment.exits p.table h))

  kept-behind :
      (handed : Handed) (bs : Branches) (r : Reply) (pattern : Pattern) (p : Progress) → IsKept p.table →
      IsKept (goes_with handed bs r pattern p).last.table
  kept-behind handed Nothing r pattern p h = h
  kept-behind handed (Branch replies said rest more) r pattern p h =
      let here = kept-run handed rest pattern (noted said p) h in
      let there = kept-behind handed more r pattern p h in
      elim (among replies r) as
      (λ b. IsKept (elim b as (λ c. Ran) [ true ↦ run_with handed rest pattern (noted said p) | false ↦ goes_with handed more r pattern p ]).last.table) [
        | true ↦ here
        | false ↦ there
      ]

---- What is counted rises

abbrev pub RisingAnswer : Answer → Type 0
RisingAnswer (answer.Counted ns) = IsRising ns
RisingAnswer _ = ⊤

abbrev Rising : Stepped → Type 0
Rising s = RisingAnswer s.answer

census-rises : (m : ℕ) (g : Generation) (rows : List Process) → IsRising (census_of m g rows)
unfolding census_of
census-rises m g rows = RisesFrom-filter_below (λ k. list_any (is_worker is_ready m g k) rows) 1024

alive-rises : (found : Option Caller) (i : ℕ) (t : Table) → Rising (asked_alive found i t)
alive-rises None i t = tt
alive-rises (Some c) i t = tt

move-rises : (owner : Option ℕ) (from to : FilePath) (t : Table) → Rising (moved_if owner from to t)
move-rises None from to t = tt
move-rises (Some owner) from to t = tt

own-rises : (handed : Handed) (image : ℕ) (c : Caller) (call : Call) (t : Table) → Rising (own_step handed image c call t)
own-rises handed image c (OpenAt a) t =
    pick Rising (is_held a t.rows) _ _ (λ e. tt) (λ e. pick Rising (nat_lt (length c.holds) t.limits.descriptors) _ _ (λ f. tt) (λ f. tt))
own-rises handed image c (CloseAt a) t = tt
own-rises handed image c (Fork g k fds) t =
    pick Rising (list_any (is_worker is_active c.number g k) t.rows) _ _ (λ e. tt) (λ e. pick Rising (has_process_room t) _ _ (λ f. tt) (λ f. tt))
own-rises handed image c (AwaitReady g k) t = pick Rising (list_any (is_worker is_active c.number g k) t.rows) _ _ (λ e. tt) (λ e. tt)
own-rises handed image c (Quit g k) t = tt
own-rises handed image c (Kill g k) t = tt
own-rises handed image c (Census g) t = census-rises c.number g t.rows
own-rises handed image c (AwaitGone g k) t = pick Rising (list_any (is_worker is_active c.number g k) t.rows) _ _ (λ e. tt) (λ e. tt)
own-rises handed image c (SpawnMaster i) t =
    pick Rising (list_any (is_image i) t.rows) _ _ (λ e. tt) (λ e. pick Rising (has_process_room t) _ _ (λ f. tt) (λ f. tt))
own-rises handed image c Adopt t = pick Rising (suits handed image c.holds) _ _ (λ e. tt) (λ e. tt)
own-rises handed image c (WritePid path) t = tt
own-rises handed image c (MovePid from to) t = move-rises (owner_at from t.files) from to t
own-rises handed image c (RemovePid path) t = tt
own-rises handed image c (Alive i) t = alive-rises (live_master i t.rows) i t
own-rises handed image c Leave t = tt
own-rises handed image c (TermMaster i) t = tt
own-rises handed image c (Usr1 g k) t = tt
own-rises handed image c (Ask n) t = tt

some-late : (b : Bool) → IfSome (then_some b answer.Late) RisingAnswer
some-late true = tt
some-late false = tt

-- no fate makes a count
fault-rises : (c : Caller) (call : Call) (f : Fate) (t : Table) → IfSome (fault_of c call f t) RisingAnswer
fault-rises c (OpenAt a) fate.InUse t = tt
fault-rises c (OpenAt a) fate.TooMany t = tt
fault-rises c (OpenAt a) fate.Denied t = tt
fault-rises c (OpenAt a) fate.NoMemory t = tt
fault-rises c (Fork g k fds) fate.Again t = tt
fault-rises c (Fork g k fds) fate.NoMemory t = tt
fault-rises c (AwaitReady g k) fate.Late t = some-late (list_any (is_worker is_starting c.number g k) t.rows)
fault-rises c (AwaitGone g k) fate.Late t = some-late (list_any (is_worker is_draining c.number g k) t.rows)
fault-rises c (SpawnMaster i) fate.Again t = tt
fault-rises c (SpawnMaster i) fate.NoMemory t = tt
fault-rises c (SpawnMaster i) fate.NoImage t = tt
fault-rises c Adopt fate.Refused t = tt
fault-rises c (WritePid path) fate.IoFault t = tt
fault-rises c (MovePid from to) fate.IoFault t = tt
fault-rises c (RemovePid path) fate.IoFault t = tt
fault-rises c (Ask n) fate.Back t = tt
fault-rises c _ _ t = tt

at-fault : (c : Caller) (call : Call) (f : Option Fate) (t : Table) → IfSome (fault_at c call f t) RisingAnswer
at-fault c call None t = tt
at-fault c call (Some f) t = fault-rises c call f t

or-own : (a : Option Answer) (handed : Handed) (image : ℕ) (c : Caller) (call : Call) (t : Table) →
    IfSome a RisingAnswer → Rising (fault_or_own a handed image c call t)
or-own None handed image c call t h = own-rises handed image c call t
or-own (Some a) handed image c call t h = h

by-rises : (handed : Handed) (image : ℕ) (c : Option Caller) (call : Call) (f : Option Fate) (t : Table) → Rising (step_by handed image c call f t)
by-rises handed image None call f t = tt
by-rises handed image (Some c) call f t = or-own (fault_at c call f t) handed image c call t (at-fault c call f t)

ready-rises : (a : Answer) (ready : List ℕ) → RisingAnswer a → IsRising ready → IsRising (ready_after a ready)
ready-rises (answer.Counted ns) ready h r = h
ready-rises _ ready h r = r

mutual
  pub rising-run : (handed : Handed) (tree : Tree) (pattern : Pattern) (p : Progress) → IsRising p.ready → IsRising (run_with handed tree pattern p).last.ready
  rising-run handed (Ends end) pattern p h = h
  rising-run handed (Does by order set branches) pattern p h =
      let moment = pattern (p.calls + 1) in
      let middle = after_moment moment.exits p in
      let s = answered handed by order moment.fate middle in
      rising-behind handed branches (reply_of set s.answer) pattern (after_call by order set s middle)
      (ready-rises s.answer p.ready (by-rises handed by (live_master by middle.table.rows) (call_of order (lacked_by by middle.lacked)) moment.fate middle.table) h)

  rising-behind :
      (handed : Handed) (bs : Branches) (r : Reply) (pattern : Pattern) (p : Progress) → IsRising p.ready →
      IsRising (goes_with handed bs r pattern p).last.ready
  rising-behind handed Nothing r pattern p h = h
  rising-behind handed (Branch replies said rest more) r pattern p h =
      let here = rising-run handed rest pattern (noted said p) h in
      let there = rising-behind handed more r pattern p h in
      elim (among replies r) as
      (λ b. IsRising (elim b as (λ c. Ran) [ true ↦ run_with handed rest pattern (noted said p) | false ↦ goes_with handed more r pattern p ]).last.ready) [
        | true ↦ here
        | false ↦ there
      ]

---- The record that is left

-- The record that a report leaves has what it tells, with the service that it names.
pub record IsLeft (r : Record) (target : Target) (report : Report) (left : Record) : Type 0 where
  pub named : Record
  pub pid : ℕ
  pub by_name : named_record report.outcome r target ≡ Some named
  pub is : left ≡ reported named report pid

from-is :
    (s : Option Record) (r : Record) (target : Target) (report : Report) (pid : ℕ) (left : Record) →
    named_record report.outcome r target ≡ s → record_from s report pid ≡ Some left → IsLeft r target report left
from-is None r target report pid left n e = absurd (none-some left e)
from-is (Some x) r target report pid left n e = go (keeps_rules (reported x report pid)) e
  where
    go : (b : Bool) → then_some b (reported x report pid) ≡ Some left → IsLeft r target report left
    go true e = record { named = x; pid = pid; by_name = n; is = sym (same_Some (reported x report pid) left e) }
    go false e = absurd (none-some left e)

pub left-is :
    (r : Record) (target : Target) (report : Report) (last : Table) (left : Record) →
    next_record r target report last ≡ Some left → IsLeft r target report left
left-is r target report last left e = go (master_of (named_record report.outcome r target) last) e
  where
    go : (m : Option ℕ) → option_and_then (record_after r target report) m ≡ Some left → IsLeft r target report left
    go None e = absurd (none-some left e)
    go (Some pid) e = from-is (named_record report.outcome r target) r target report pid left refl e

---- Descriptors rise

abbrev descriptors : List Listener → List ℕ
descriptors ls = map (λ (l : Listener). l.descriptor) ls

rises-opened : (fd : ℕ) (a : Address) (ls : List Listener) → RisesFrom fd (descriptors ls) → RisesFrom fd (descriptors (opened_from fd a ls))
rises-opened fd a [] h = (omega arith, tt)
rises-opened fd a (l ∷ ls) h = go (l.descriptor == fd) refl (rises-opened (fd + 1) a ls)
  where
    go :
        (b : Bool) → (l.descriptor == fd) ≡ b →
        (RisesFrom (fd + 1) (descriptors ls) → RisesFrom (fd + 1) (descriptors (opened_from (fd + 1) a ls))) →
        RisesFrom fd (descriptors (if b then l ∷ opened_from (fd + 1) a ls else listener_at fd a ∷ l ∷ ls))
    go true is ih =
        let same = eqb-is l.descriptor fd is in (
          h.0,
          subst (λ n. RisesFrom (n + 1) (descriptors (opened_from (fd + 1) a ls))) (sym same)
              (ih (subst (λ n. RisesFrom (n + 1) (descriptors ls)) same h.1)),
        )
    go false is ih =
        let low = h.0 in
        let above : fd + 1 ≤ l.descriptor = grind (arith, nat_tests) in
        (omega arith, (above, h.1))

rises-lower : (xs : List ℕ) (a b : ℕ) → a ≤ b → RisesFrom b xs → RisesFrom a xs
rises-lower [] a b le h = tt
rises-lower (x ∷ xs) a b le h = (omega (arith, le, h.0), h.1)

rises-wanted : (addresses : List Address) (b : ℕ) (ls : List Listener) → RisesFrom b (descriptors ls) → RisesFrom b (descriptors (still_wanted addresses ls))
rises-wanted addresses b [] h = tt
rises-wanted addresses b (l ∷ ls) h = go (has addresses l.address) (rises-wanted addresses (l.descriptor + 1) ls h.1)
  where
    go :
        (c : Bool) → RisesFrom (l.descriptor + 1) (descriptors (still_wanted addresses ls)) →
        RisesFrom b (descriptors (cond c (l ∷ still_wanted addresses ls) (still_wanted addresses ls)))
    go true ih = (h.0, ih)
    go false ih = rises-lower _ b (l.descriptor + 1) (omega (arith, h.0)) ih

abbrev Rise : List Listener → Type 0
Rise ls = RisesFrom 3 (descriptors ls)

rises-all : (more : List Address) (ls : List Listener) → Rise ls → IfSome (all_opened more ls) Rise
rises-all [] ls h = h
rises-all (a ∷ more) ls h = go (nat_lt (length ls) 64) (rises-all more (opened_from 3 a ls) (rises-opened 3 a ls h))
  where
    go : (b : Bool) → IfSome (all_opened more (opened_from 3 a ls)) Rise → IfSome (if b then all_opened more (opened_from 3 a ls) else None) Rise
    go true ih = ih
    go false ih = tt

rises-reloaded : (addresses : List Address) (ls : List Listener) → Rise ls → IfSome (reloaded addresses ls) Rise
rises-reloaded addresses ls h = go (with_added addresses ls) (rises-all (added addresses ls) ls h)
  where
    go : (o : Option (List Listener)) → IfSome o Rise → IfSome (option_map (still_wanted addresses) o) Rise
    go None r = tt
    go (Some more) r = rises-wanted addresses 3 more r

rises-upgraded : (addresses : List Address) (ls : List Listener) → Rise ls → IfSome (upgraded addresses ls) Rise
rises-upgraded addresses ls h = rises-all (added addresses (still_wanted addresses ls)) (still_wanted addresses ls) (rises-wanted addresses 3 ls h)

abbrev Descends : Record → Type 0
Descends x = Rise x.listeners

rises-renewed :
    (r : Record) (s : Settings) (posts : Posts) (ls : Option (List Listener)) (g : Option Generation) → IfSome ls Rise →
    IfSome (renewed r s posts ls g) Descends
rises-renewed r s posts None g h = tt
rises-renewed r s posts (Some ls) None h = tt
rises-renewed r s posts (Some ls) (Some g) h = h

rises-target : (r : Record) (target : Target) → Rise r.listeners → IfSome (target_record r target) Descends
rises-target r (Workers n) h = h
rises-target r (Mend overdue) h = h
rises-target r Reopen h = h
rises-target r (Reload s) h =
    rises-renewed r s (posts_wanted r (Reload s)) (reloaded s.listeners r.listeners) (next_config r.generation) (rises-reloaded s.listeners r.listeners h)
rises-target r (Upgrade s) h =
    rises-renewed r s (posts_wanted r (Upgrade s)) (upgraded s.listeners r.listeners) (next_image r.generation) (rises-upgraded s.listeners r.listeners h)
rises-target r (Attended s) h =
    rises-renewed r s (posts_wanted r (Attended s)) (upgraded s.listeners r.listeners) (next_image r.generation) (rises-upgraded s.listeners r.listeners h)
rises-target r (Stop quick) h = tt

rises-old : (r : Record) (target : Target) → Rise r.listeners → IfSome (old_record r target) Descends
rises-old r (Workers n) h = h
rises-old r (Mend overdue) h = h
rises-old r Reopen h = h
rises-old r (Reload s) h = h
rises-old r (Upgrade s) h = h
rises-old r (Attended s) h = h
rises-old r (Stop quick) h = tt

rises-named : (o : Outcome) (r : Record) (target : Target) → Rise r.listeners → IfSome (named_record o r target) Descends
rises-named outcome.Done r target h = rises-target r target h
rises-named outcome.RolledBack r target h = rises-old r target h
rises-named (outcome.Degraded side.Old shortfalls) r target h = rises-old r target h
rises-named (outcome.Degraded side.Target shortfalls) r target h = rises-target r target h
rises-named outcome.Lost r target h = tt

rises-left : (r : Record) (target : Target) (report : Report) (left : Record) → Rise r.listeners → IsLeft r target report left → Rise left.listeners
rises-left r target report left h is =
    subst (λ (x : Record). Rise x.listeners) (sym is.is)
    (subst (λ (o : Option Record). IfSome o Descends) is.by_name (rises-named report.outcome r target h))

---- A standing again

accepts : (t : Table) (r : Record) (target : Target) → HasDescriptors t r → AllowsTarget r target → Accepts t r target
accepts t r (Workers n) d h = h
accepts t r (Mend overdue) d h = tt
accepts t r Reopen d h = tt
accepts t r (Reload s) d h = (h.0, d, h.1)
accepts t r (Upgrade s) d h = (h.0, d, h.1)
accepts t r (Attended s) d h = (h.0, d, h.1)
accepts t r (Stop quick) d h = tt

-- a task that is carried out keeps the promise of the headline
pub promised :
    (t : Table) (r : Record) (task : Task) → IsStanding t r → IsCarriedOut t r task → KeepsPromise t r task.target (run_at t r task)
promised t r task s c =
    headline t r task.target task.turns task.pattern
    (record { start = s.start; accepts = accepts t r task.target s.descriptors c.allows; spared = c.spared })

again :
    (t : Table) (r : Record) (task : Task) → IsStanding t r → AgreesAfter r task.target (reported_at t r task) (table_after t r task) →
    IfSome (record_left_by t r task) (IsStanding (table_after t r task))
again t r task s a =
    let kept = kept-run (handover_for r task.target) (plan_tree r task.target task.turns) task.pattern (start_at t r.note) s.kept in
    let is = left-is r task.target (reported_at t r task) (table_after t r task) a.record_then a.is in
    subst (λ (o : Option Record). IfSome o (IsStanding (table_after t r task))) (sym a.is)
    (record {
      start = record {
        formed = kept.formed;
        agrees = a.agrees;
        record_in_range = a.record_in_range;
        rising = subst (λ (x : Record). IsRising x.ready) (sym is.is) (rising-run (handover_for r task.target) (plan_tree r task.target task.turns) task.pattern (start_at t r.note) (tt {0}));
      };
      descriptors = record {
        descriptors = rises-left r task.target (reported_at t r task) a.record_then s.descriptors.descriptors is;
        limit = kept.descriptors;
      };
      kept = kept;
    })

abbrev task_of : Target → List Turn → Pattern → Task
task_of target turns pattern = record { target = target; turns = turns; pattern = pattern }

-- after a stop there is none
stands-by :
    (target : Target) (t : Table) (r : Record) (turns : List Turn) (pattern : Pattern) → IsStanding t r →
    IsCarriedOut t r (task_of target turns pattern) →
    IfSome (record_left_by t r (task_of target turns pattern)) (IsStanding (table_after t r (task_of target turns pattern)))
stands-by (Workers n) t r turns pattern s c =
    let task = task_of (Workers n) turns pattern in again t r task s (promised t r task s c).after
stands-by (Mend overdue) t r turns pattern s c =
    let task = task_of (Mend overdue) turns pattern in again t r task s (promised t r task s c).after
stands-by Reopen t r turns pattern s c = let task = task_of Reopen turns pattern in again t r task s (promised t r task s c).after
stands-by (Reload x) t r turns pattern s c =
    let task = task_of (Reload x) turns pattern in again t r task s (promised t r task s c).after
stands-by (Upgrade x) t r turns pattern s c =
    let task = task_of (Upgrade x) turns pattern in again t r task s (promised t r task s c).after
stands-by (Attended x) t r turns pattern s c =
    let task = task_of (Attended x) turns pattern in again t r task s (promised t r task s c).after
stands-by (Stop quick) t r turns pattern s c =
    let task = task_of (Stop quick) turns pattern in
    subst (λ (o : Option Record). IfSome o (IsStanding (table_after t r task))) (sym (promised t r task s c).after.0) tt

pub stands-after :
    (t : Table) (r : Record) (task : Task) → IsStanding t r → IsCarriedOut t r task →
    IfSome (record_left_by t r task) (IsStanding (table_after t r task))
stands-after t r task s c = stands-by task.target t r task.turns task.pattern s c
