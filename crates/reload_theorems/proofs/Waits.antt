-- No step of a reload in one step is a wait for a worker to be gone, and so no entry of its run is one.
use Rattle.std.proofs.Common.{◌≡◌, ℕ, zero, suc, ◌+◌, Bool, true, false, List, [], ◌∷◌, refl, map, reverse, subst, sym}
use Rattle.std.proofs.Common.{nat_lt, length}
use Rattle.std.specs.Prelude.{⊤, ◌&&◌, ◌||◌, if◌then◌else◌}
use Rattle.std.specs.List.{AllByRecursion, list_any}
use Rattle.listener_set.specs.Numbers.{numbers_below}
use Rattle.listener_set.specs.declared.generation.Generation.{Generation}
use Rattle.vocabulary.specs.Settings.{Settings}
use Rattle.vocabulary.specs.declared.plans.Side.TheVariants as side
use Rattle.vocabulary.specs.declared.plans.Turn.{Turn}
use Rattle.vocabulary.specs.declared.reports.Entry.{Entry}
use Rattle.vocabulary.specs.declared.targets.Target.TheVariants.{Reload}
use Rattle.definitions.specs.Table.{Address}
use Rattle.definitions.specs.Calls.{Call, OpenAt, CloseAt, Quit, Handed}
use Rattle.definitions.specs.Master.{Crew, Record, addresses_of, crew_of, handover_for}
use Rattle.definitions.specs.After.{crew_wanted}
use Rattle.definitions.specs.Run.{Tree, Branches, Ends, Does, Nothing, Branch, Reply, Order, End, Pattern, Progress, Ran}
use Rattle.definitions.specs.Run.{run_with, goes_with, call_of, lacked_by, after_moment, after_call, reply_of, start_at}
use Rattle.definitions.specs.Plans.{tells, forks, awaits, starts, reload_on, closes_opened, quits_new}
use Rattle.definitions.specs.Plans.{in_steps, last_step, stepped_tree, only_in, plan_tree, rolled, is_enough, Rollout}
use Rattle.definitions.specs.Claims.{is_wait, run_of}
use Rattle.call_laws.specs.Pieces.{answered, noted, among}
use Rattle.further_theorems.proofs.Nodes.{Nodes, NodesAll, Always, Settles, n-tells, n-map, n-settle, n-opens}
use Rattle.theorems.proofs.Promise.{headline}
use Rattle.theorems.proofs.ReloadManner.{all-stay}
use Rattle.reload_theorems.specs.OneStep.{is_stepped, ReloadsInOneStepWaitForNobody, ReloadsInOneStepLeaveAll}

---- A plan without such a wait

-- whatever was lacking, the step's call is no wait
abbrev Calm : ℕ → Order → Branches → Type 0
Calm by order bs = (lacking : List ℕ) → is_wait (λ g k. true) (call_of order lacking) ≡ false

abbrev Any : End → Type 0
Any e = ⊤

abbrev Waitless : Tree → Type 0
Waitless tree = Nodes Calm Any tree

settles : (by : ℕ) (g : Generation) → Settles Calm Any by g
settles by g = record {
  forks = λ crew same bs l. refl;
  awaits = λ bs l. refl;
  kills = λ bs l. refl;
  counts = λ bs l. refl;
}

w-awaits : (by : ℕ) (g : Generation) (ks : List ℕ) (ok bad : Tree) → Waitless ok → Waitless bad → Waitless (awaits by g ks ok bad)
w-awaits by g [] ok bad o b = o
w-awaits by g (k ∷ ks) ok bad o b =
    ((λ l. refl), (w-awaits by g ks ok bad o b, (b, (((λ l. refl), (b, tt)), tt))))

w-forks :
    (by : ℕ) (crew : Crew) (ks done : List ℕ) (ok bad : List ℕ → Tree) → ((l : List ℕ) → Waitless (ok l)) →
    ((l : List ℕ) → Waitless (bad l)) → Waitless (forks by crew ks done ok bad)
w-forks by crew [] done ok bad o b = o done
w-forks by crew (k ∷ ks) done ok bad o b = ((λ l. refl), (w-forks by crew ks (k ∷ done) ok bad o b, (b done, tt)))

w-starts :
    (by : ℕ) (crew : Crew) (ks : List ℕ) (ok : Tree) (bad : List ℕ → Tree) → Waitless ok →
    ((l : List ℕ) → Waitless (bad l)) → Waitless (starts by crew ks ok bad)
w-starts by crew ks ok bad o b =
    w-forks by crew ks [] (λ forked. awaits by crew.generation ks ok (bad forked)) bad
    (λ l. w-awaits by crew.generation ks ok (bad l) o (b l)) b

w-tells : {X : Type 0} (by : ℕ) (f : X → Call) (xs : List X) (rest : Tree) →
    ((x : X) → is_wait (λ g k. true) (f x) ≡ false) → Waitless rest → Waitless (tells by (map f xs) rest)
w-tells by f xs rest calm h = n-tells Calm Any by (map f xs) rest (n-map Calm Any by f xs (λ x bs l. calm x)) h

---- The reload

module _ (r : Record) (s : Settings) where
  abbrev by : ℕ
  by = r.generation.image

  abbrev new : Crew
  new = crew_wanted r (Reload s)

  abbrev dropped : List Address
  dropped = only_in (addresses_of r) s.listeners

  abbrev once : Rollout
  once = record { steps = []; last = numbers_below s.workers; left = r.ready }

  onward : Waitless (reload_on by (crew_of r) new r.ready r.retries dropped s.workers)
  onward =
      w-tells by (Quit r.generation) (reverse r.ready) _ (λ x. refl)
      (w-tells by CloseAt dropped _ (λ a. refl)
      (n-settle Calm Any by new (numbers_below s.workers) side.Target r.retries (settles by new.generation) tt tt))

  closed : (opened : List Address) → Waitless (closes_opened by (crew_of r) r.ready r.retries opened)
  closed opened =
      w-tells by CloseAt opened _ (λ a. refl)
      (n-settle Calm Any by (crew_of r) r.ready side.Old r.retries (settles by r.generation) tt tt)

  undone : (opened : List Address) (forked : List ℕ) → Waitless
      (quits_new by new false (numbers_below s.workers) (closes_opened by (crew_of r) r.ready r.retries opened) forked)
  undone opened forked = w-tells by (Quit new.generation) forked _ (λ x. refl) (closed opened)

  opening : (l : List Address) → AllByRecursion (λ a. Always Calm Any by (Order.Make (OpenAt a))) l
  opening [] = tt
  opening (a ∷ l) = ((λ bs l. refl), opening l)

  anywhere : (l : List Address) → AllByRecursion (λ (a : Address). ⊤) l
  anywhere [] = tt
  anywhere (a ∷ l) = (tt, anywhere l)

  in-one : Waitless (stepped_tree false by (crew_of r) new r.ready r.retries (addresses_of r) s.listeners s.workers once)
  in-one =
      n-opens Calm Any by (only_in s.listeners (addresses_of r)) []
      (λ opened. in_steps false true by (crew_of r) new []
      (last_step false by (crew_of r) new (numbers_below s.workers) r.ready r.retries dropped s.workers)
      (closes_opened by (crew_of r) r.ready r.retries opened))
      (closes_opened by (crew_of r) r.ready r.retries) (opening (only_in s.listeners (addresses_of r))) (λ a. ⊤)
      (anywhere (only_in s.listeners (addresses_of r))) tt
      (λ opened all. w-starts by new (numbers_below s.workers) _ _
      ((λ l. refl), (onward, (undone opened (reverse (numbers_below s.workers)), tt))) (undone opened))
      (λ opened all. closed opened)

-- where the test fails it is the other one
otherwise : {A : Type 0} (b : Bool) (x y : A) → b ≡ false → (if b then x else y) ≡ y
otherwise true x y e = absurd (cc e)
otherwise false x y e = refl

rolled-once :
    (enough : List ℕ → List ℕ → Bool) (tries surge : ℕ) (started todo left : List ℕ) →
    (nat_lt 0 surge && nat_lt surge (length todo)) ≡ false →
    rolled enough tries surge started todo left ≡ record { steps = []; last = todo; left = left }
rolled-once enough zero surge started todo left e = refl
rolled-once enough (suc tries) surge started todo left e = otherwise _ _ _ e

waitless : (r : Record) (s : Settings) (turns : List Turn) → is_stepped s ≡ false → Waitless (plan_tree r (Reload s) turns)
waitless r s turns e =
    subst
    (λ rollout. Waitless
    (stepped_tree false r.generation.image (crew_of r) (crew_wanted r (Reload s)) r.ready r.retries (addresses_of r)
    s.listeners s.workers rollout))
    (sym (rolled-once (is_enough r s) s.workers s.surge [] (numbers_below s.workers) r.ready e)) (in-one r s)

---- Its run

abbrev NoWait : Entry → Type 0
NoWait e = is_wait (λ g k. true) e.call ≡ false

module _ (handed : Handed) (pattern : Pattern) where
  mutual
    tree-entries : (tree : Tree) (p : Progress) → Waitless tree → AllByRecursion NoWait (run_with handed tree pattern p).entries
    tree-entries (Ends end) p h = tt
    tree-entries (Does by order set bs) p h =
        let middle = after_moment (pattern (p.calls + 1)).exits p in
        let done = answered handed by order (pattern (p.calls + 1)).fate middle in (
          h.0 (lacked_by by middle.lacked),
          behind-entries bs (reply_of set done.answer) (after_call by order set done middle) h.1,
        )

    behind-entries : (bs : Branches) (reply : Reply) (p : Progress) → NodesAll Calm Any bs → AllByRecursion NoWait
        (goes_with handed bs reply pattern p).entries
    behind-entries Nothing reply p h = tt
    behind-entries (Branch replies said rest more) reply p h =
        elim (among replies reply) as
        (λ b. AllByRecursion NoWait (elim b as (λ c. Ran) [
          | true ↦ run_with handed rest pattern
              (noted said p)
          | false ↦ goes_with handed more reply pattern p
        ]).entries) [
          | true ↦ tree-entries rest (noted said p) h.0
          | false ↦ behind-entries more reply p h.1
        ]

none-waits : (entries : List Entry) → AllByRecursion NoWait entries → list_any (λ e. is_wait (λ g k. true) e.call) entries ≡ false
none-waits [] h = refl
none-waits (e ∷ entries) h = both _ _ h.0 (none-waits entries h.1)
  where
    both : (a b : Bool) → a ≡ false → b ≡ false → (a || b) ≡ false
    both true b x y = absurd (cc x)
    both false b x y = y

pub reloads-wait-for-nobody : ReloadsInOneStepWaitForNobody
reloads-wait-for-nobody t r s turns pattern e =
    none-waits (run_of r (Reload s) turns pattern t).entries
    (tree-entries (handover_for r (Reload s)) pattern (plan_tree r (Reload s) turns) (start_at t r.note) (waitless r s turns e))

pub reloads-leave-all : ReloadsInOneStepLeaveAll
reloads-leave-all t r s turns pattern a e back =
    all-stay r _ t (run_of r (Reload s) turns pattern t) (headline t r (Reload s) turns pattern a).manner back
    (reloads-wait-for-nobody t r s turns pattern e)
