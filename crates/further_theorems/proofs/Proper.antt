-- The calls of each plan are proper.
use Rattle.std.proofs.Common.{◌≡◌, ℕ, zero, suc, Bool, true, false, not, List, [], ◌∷◌, ◌++◌, Option, Some, None, refl}
use Rattle.std.proofs.Common.{sym}
use Rattle.std.proofs.Common.{subst, map, reverse, filter, ◌⊎◌, inl, inr, cond, nat_lt}
use Rattle.std.specs.Prelude.{⊤, ◌||◌, bytes_eq}
use Rattle.std.specs.List.{AllByRecursion}
use Rattle.vocabulary.specs.Settings.{Settings}
use Rattle.listener_set.specs.AddressList.{has}
use Rattle.listener_set.specs.Numbers.{is_in, numbers_below}
use Rattle.listener_set.specs.declared.generation.Generation.{Generation}
use Rattle.vocabulary.specs.declared.plans.Side.{Side}
use Rattle.vocabulary.specs.declared.plans.Side.TheVariants as side
use Rattle.vocabulary.specs.declared.plans.Turn.{Turn}
use Rattle.vocabulary.specs.declared.plans.PidNote.{PidNote}
use Rattle.vocabulary.specs.declared.plans.PidNote.TheVariants.{AtOldbin}
use Rattle.definitions.specs.Table.{Address, FilePath}
use Rattle.definitions.specs.Calls.{Call, OpenAt, CloseAt, Fork, AwaitReady, Quit, Kill, Census, AwaitGone, Usr1}
use Rattle.definitions.specs.Calls.{WritePid, Adopt, Leave}
use Rattle.definitions.specs.Calls.{Handed, TermMaster}
use Rattle.definitions.specs.Master.{Record, Target, Workers, Mend, Reopen, Reload, Upgrade, Attended, Stop, Crew}
use Rattle.definitions.specs.Master.{crew_of, addresses_of, oldbin}
use Rattle.definitions.specs.Master.{upgrade_generation, generation_wanted, addresses_wanted, fork_of}
use Rattle.definitions.specs.Run.{Tree, Branches, Ends, Does, Nothing, Branch, Order, Reply, End, Pattern, Progress}
use Rattle.definitions.specs.Run.{Ran, run_with, goes_with}
use Rattle.definitions.specs.Run.{JoinReady, call_of, lacked_by, after_moment, after_call, reply_of, start_at}
use Rattle.definitions.specs.Plans.{tells, settle, only_in, removes, remove_oldbin_too, has_oldbin, stopped, plan_tree}
use Rattle.definitions.specs.Plans.{rollout_of}
use Rattle.definitions.specs.Plans.{move_aside, move_back, remove_oldbin, back_alone, back_from, back_late}
use Rattle.definitions.specs.Plans.{back_serving, asks, hand_over, retire}
use Rattle.definitions.specs.Plans.{reload_on, starts_any, awaits_gone, relieve, taken_over, joined, new_calls}
use Rattle.definitions.specs.Plans.{new_part, old_part, pid_calls, upgrade_tree, either, tries_all}
use Rattle.definitions.specs.After.{crew_wanted}
use Rattle.table_laws.proofs.Rows.{every-more, or-left, or-right}
use Rattle.table_laws.proofs.Addresses.{address-refl}
use Rattle.further_theorems.specs.Proper.{own_files, IsOfOwn, IsProperFor}
use Rattle.further_theorems.proofs.Nodes.{Nodes, Always, Settles, Numbers, PartNodes, n-tells, n-map, n-settle}
use Rattle.further_theorems.proofs.Nodes.{n-starts, n-stepped}
use Rattle.further_theorems.proofs.Nodes.{n-starts-any, n-gone, n-opens, n-tries-all, n-weave}

---- Addresses of which one list has what another lacks

self-has : (xs : List Address) → AllByRecursion (λ a. has xs a ≡ true) xs
self-has [] = tt
self-has (x ∷ xs) = (
  or-left (bytes_eq x x) _ (address-refl x),
  every-more (λ a. has xs a ≡ true) (λ a. has
      (x ∷ xs) a ≡ true) (λ a h. or-right (bytes_eq x a) (has xs a) h) xs (self-has xs),
)

not-true : (b : Bool) → not b ≡ true → b ≡ false
not-true true e = sym e
not-true false e = refl

only-has : (whole others xs : List Address) → AllByRecursion (λ a. has whole a ≡ true) xs → AllByRecursion (λ a.
    (has whole a ≡ true) × (has others a ≡ false)) (only_in xs others)
only-has whole others [] all = tt
only-has whole others (x ∷ xs) all = go (not (has others x)) refl (only-has whole others xs all.1)
  where
    Q : Address → Type 0
    Q a = (has whole a ≡ true) × (has others a ≡ false)

    go : (b : Bool) → not (has others x) ≡ b → AllByRecursion (λ a. (has whole a ≡ true) × (has others a ≡ false))
        (only_in xs others) →
        AllByRecursion (λ a. (has whole a ≡ true) × (has others a ≡ false)) (cond b (x ∷ only_in xs others)
        (only_in xs others))
    go true e ih = ((all.0, not-true (has others x) e), ih)
    go false e ih = ih

only-in : (xs others : List Address) → AllByRecursion (λ a. (has xs a ≡ true) × (has others a ≡ false))
    (only_in xs others)
only-in xs others = only-has xs others xs (self-has xs)

---- What is proper of each step

module _ (r : Record) (wanted : Generation) (addresses : List Address) where
  abbrev pub Right : ℕ → Order → Branches → Type 0
  Right by order bs = (lacking : List ℕ) → IsProperFor r wanted addresses by (call_of order lacking)

  abbrev pub Any : End → Type 0
  Any e = ⊤

  abbrev pub All : Tree → Type 0
  All t = Nodes Right Any t

  abbrev pub Own : ℕ → Generation → Type 0
  Own by g = IsOfOwn r wanted by g

  settles : (by : ℕ) (g : Generation) → Own by g → Settles Right Any by g
  settles by g own = record {
    forks = λ crew same bs lacking. subst (λ h. IsOfOwn r wanted by h) (sym same) own;
    awaits = λ bs lacking. own;
    kills = λ bs lacking. own;
    counts = λ bs lacking. own;
  }

  numbers : (by : ℕ) (g : Generation) → Own by g → Numbers Right Any by g
  numbers by g own = record {
    forks = λ crew k same bs lacking. subst (λ h. IsOfOwn r wanted by h) (sym same) own;
    awaits = λ k bs lacking. own;
    kills = λ k bs lacking. own;
    gones = λ k bs lacking. own;
  }

  settled : (by : ℕ) (crew : Crew) (S : List ℕ) (sd : Side) (rounds : ℕ) → Own by crew.generation → All
      (settle by crew S sd rounds)
  settled by crew S sd rounds own = n-settle Right Any by crew S sd rounds (settles by crew.generation own) tt tt

  quits : (by : ℕ) (g : Generation) (ks : List ℕ) (rest : Tree) → Own by g → All rest → All (tells by (map
      (Quit g) ks) rest)
  quits by g ks rest own h = n-tells Right Any by (map (Quit g) ks) rest (n-map Right Any by (Quit g) ks
      (λ k bs lacking. own)) h

  kills : (by : ℕ) (g : Generation) (ks : List ℕ) (rest : Tree) → Own by g → All rest → All (tells by (map
      (Kill g) ks) rest)
  kills by g ks rest own h = n-tells Right Any by (map (Kill g) ks) rest (n-map Right Any by (Kill g) ks
      (λ k bs lacking. own)) h

  usr1s : (by : ℕ) (g : Generation) (ks : List ℕ) (rest : Tree) → Own by g → All rest → All (tells by (map
      (Usr1 g) ks) rest)
  usr1s by g ks rest own h = n-tells Right Any by (map (Usr1 g) ks) rest (n-map Right Any by (Usr1 g) ks
      (λ k bs lacking. own)) h

  -- addresses that are not both listened on and wanted
  abbrev OnOne : Address → Type 0
  OnOne a = (has (addresses_of r) a ≡ false) ⊎ (has addresses a ≡ false)

  close-calls : (l : List Address) → AllByRecursion OnOne l → AllByRecursion (λ c. Always Right Any wanted.image
      (Rattle.definitions.specs.Run.Make c)) (map CloseAt l)
  close-calls [] all = tt
  close-calls (a ∷ l) all = ((λ bs lacking. (refl, all.0)), close-calls l all.1)

  closes : (l : List Address) (rest : Tree) → AllByRecursion OnOne l → All rest → All (tells wanted.image
      (map CloseAt l) rest)
  closes l rest all h = n-tells Right Any wanted.image (map CloseAt l) rest (close-calls l all) h

  abbrev Added : Address → Type 0
  Added a = (has addresses a ≡ true) × (has (addresses_of r) a ≡ false)

  added : AllByRecursion Added (only_in addresses (addresses_of r))
  added = only-in addresses (addresses_of r)

  dropped : AllByRecursion OnOne (only_in (addresses_of r) addresses)
  dropped = every-more (λ a. (has (addresses_of r) a ≡ true) × (has addresses a ≡ false)) OnOne (λ a h. inr h.1) _
      (only-in (addresses_of r) addresses)

  undone : (l : List Address) → AllByRecursion Added l → AllByRecursion OnOne l
  undone l all = every-more Added OnOne (λ a h. inl h.1) l all

  open-calls : (l : List Address) → AllByRecursion Added l → AllByRecursion (λ a. Always Right Any wanted.image
      (Rattle.definitions.specs.Run.Make (OpenAt a))) l
  open-calls [] all = tt
  open-calls (a ∷ l) all = ((λ bs lacking. (refl, all.0.0, all.0.1)), open-calls l all.1)

  own-file : (path : FilePath) → r.pid_path ≡ Some path → has (own_files r.pid_path) path ≡ true
  own-file path e = subst (λ (o : Option FilePath). has (own_files o) path ≡ true) (sym e) (or-left
      (bytes_eq path path) _ (address-refl path))

  own-oldbin : (path : FilePath) → r.pid_path ≡ Some path → has (own_files r.pid_path) (oldbin path) ≡ true
  own-oldbin path e =
      subst (λ (o : Option FilePath). has (own_files o) (oldbin path) ≡ true) (sym e)
      (or-right (bytes_eq path (oldbin path)) _ (or-left (bytes_eq (oldbin path) (oldbin path)) _ (address-refl
      (oldbin path))))

---- Target by target

module _ (r : Record) where
  abbrev old : ℕ
  old = r.generation.image

  abbrev g : Generation
  g = r.generation

  of-old : (wanted : Generation) → IsOfOwn r wanted old g
  of-old wanted = (refl, inl refl)

  pub workers-proper : (n : ℕ) (turns : List Turn) → All r g (addresses_of r) (plan_tree r (Workers n) turns)
  workers-proper n turns =
      let A = addresses_of r in
      let settling = settle old (crew_of r) (numbers_below n) side.Target r.retries in
      let gone = reverse (filter (λ k. not (nat_lt k n)) r.ready) in
      n-starts (Right r g A) (Any r g A) old (crew_of r) (filter (λ k. not (is_in r.ready k)) (numbers_below n))
      (tells old (map (Quit g) gone) settling)
      (λ l. tells old (map (Quit g) l) (settle old (crew_of r) r.ready side.Old r.retries)) (numbers r g A old g
      (of-old g))
      (quits r g A old g gone settling (of-old g) (settled r g A old (crew_of r)
      (numbers_below n) side.Target r.retries (of-old g)))
      (λ l. quits r g A old g l (settle old (crew_of r) r.ready side.Old r.retries) (of-old g) (settled r g A old
      (crew_of r) r.ready side.Old r.retries (of-old g)))

  pub mend-proper : (overdue : List ℕ) (turns : List Turn) → All r g (addresses_of r) (plan_tree r (Mend overdue) turns)
  mend-proper overdue turns =
      let A = addresses_of r in
      let ks = filter (λ k. not (is_in r.ready k) || is_in overdue k) (numbers_below r.wanted) in
      let settling = settle old (crew_of r) (numbers_below r.wanted) side.Target r.retries in
      kills r g A old g (filter (is_in r.ready) overdue) (starts_any old (crew_of r) ks settling) (of-old g)
      (n-starts-any (Right r g A) (Any r g A) old (crew_of r) ks settling (numbers r g A old g (of-old g))
      (settled r g A old (crew_of r) (numbers_below r.wanted) side.Target r.retries (of-old g)))

  pub reopen-proper : (turns : List Turn) → All r g (addresses_of r) (plan_tree r Reopen turns)
  reopen-proper turns =
      let A = addresses_of r in usr1s r g A old g r.ready (settle old (crew_of r) r.ready side.Target r.retries)
      (of-old g) (settled r g A old (crew_of r) r.ready side.Target r.retries (of-old g))

  removed : (A : List Address) (o : Option FilePath) (note : PidNote) (rest : Tree) → r.pid_path ≡ o → All r g A rest →
      All r g A (removes old o note rest)
  removed A None note rest e h = h
  removed A (Some path) note rest e h = let more = go (has_oldbin note) in (
    (λ lacking.
        (inl refl, own-file r g A path e)),
    (more, (more, tt)),
  )
    where
      go : (b : Bool) → All r g A (remove_oldbin_too old path b rest)
      go true = ((λ lacking. (inl refl, own-oldbin r g A path e)), (h, (h, tt)))
      go false = h

  leaves : (A : List Address) → All r g A (stopped old)
  leaves A = ((λ lacking. refl), (tt, tt))

  pub stop-proper : (quick : Bool) (turns : List Turn) → All r g [] (plan_tree r (Stop quick) turns)
  stop-proper true turns =
      kills r g [] old g r.ready (removes old r.pid_path r.note (stopped old)) (of-old g) (removed [] r.pid_path r.note
      (stopped old) refl (leaves []))
  stop-proper false turns =
      let removing = removes old r.pid_path r.note (stopped old) in
      quits r g [] old g (reverse r.ready) (awaits_gone old g (reverse r.ready) removing) (of-old g)
      (n-gone (Right r g []) (Any r g []) old g (reverse r.ready) removing (numbers r g [] old g (of-old g))
      (removed [] r.pid_path r.note (stopped old) refl (leaves [])))

  module _ (s : Settings) where
    abbrev h : Generation
    h = generation_wanted r (Reload s)

    abbrev A : List Address
    A = s.listeners

    abbrev fresh : Crew
    fresh = crew_wanted r (Reload s)

    of-new : IsOfOwn r h old h
    of-new = (refl, inr refl)

    abbrev old-settle : Tree
    old-settle = settle old (crew_of r) r.ready side.Old r.retries

    onward : (left : List ℕ) → All r h A (reload_on old (crew_of r) fresh left r.retries (only_in (addresses_of r) A)
        s.workers)
    onward left =
        let settling = settle old fresh (numbers_below s.workers) side.Target r.retries in
        let l = only_in (addresses_of r) A in
        quits r h A old g (reverse left) (tells old (map CloseAt l) settling) (of-old h)
        (closes r h A l settling (dropped r h A) (settled r h A old fresh
        (numbers_below s.workers) side.Target r.retries of-new))

    pub reload-proper : (turns : List Turn) → All r h A (plan_tree r (Reload s) turns)
    reload-proper turns =
        let rollout = rollout_of r s s.surge in
        n-stepped (Right r h A) (Any r h A) old (crew_of r) fresh (numbers r h A old g (of-old h))
        (numbers r h A old h of-new)
        (record {
          quits_old = λ k bs lacking. of-old h;
          quits_new = λ k bs lacking. of-new;
          counts = λ bs lacking. of-new;
          asks = λ bs lacking. refl;
        })
        false r.ready r.retries (addresses_of r) A s.workers rollout
        (open-calls r h A (only_in A (addresses_of r)) (added r h A)) (Added r h A) (added r h A) (onward rollout.left)
        (λ opened all. closes r h A opened old-settle (undone r h A opened all) (settled r h A old
        (crew_of r) r.ready side.Old r.retries (of-old h)))

---- Upgrades

module _ (r : Record) (A : List Address) where
  abbrev w : Generation
  w = upgrade_generation r.generation

  abbrev by : ℕ
  by = r.generation.image

  abbrev heir : ℕ
  heir = w.image

  of-old-one : IsOfOwn r w by r.generation
  of-old-one = (refl, inl refl)

  of-heir : IsOfOwn r w heir w
  of-heir = (refl, inr refl)

  old-settled : All r w A (settle by (crew_of r) r.ready side.Old r.retries)
  old-settled = settled r w A by (crew_of r) r.ready side.Old r.retries of-old-one

  moved-back : (o : Option FilePath) (rest : Tree) → r.pid_path ≡ o → All r w A rest → All r w A (move_back by o rest)
  moved-back None rest e h = h
  moved-back (Some path) rest e h = ((λ lacking. (refl, own-oldbin r w A path e, own-file r w A path e)), (h, (h, tt)))

  alone : All r w A (back_alone by (crew_of r) r.ready r.retries r.pid_path)
  alone = moved-back r.pid_path (settle by (crew_of r) r.ready side.Old r.retries) refl old-settled

  from : All r w A (back_from by heir (crew_of r) r.ready r.retries r.pid_path)
  from = ((λ lacking. (refl, refl)), (alone, tt))

  late : All r w A (back_late by heir (crew_of r) r.ready r.retries r.pid_path)
  late = (
    (λ lacking. (refl, refl)),
    (
      n-starts-any (Right r w A) (Any r w A) by (crew_of r) r.ready (back_alone by
          (crew_of r) r.ready r.retries r.pid_path) (numbers r w A by r.generation of-old-one) alone,
      tt,
    ),
  )

  serving : All r w A (back_serving by heir (crew_of r) r.ready r.retries r.pid_path)
  serving = n-starts-any (Right r w A) (Any r w A) by (crew_of r) r.ready (back_from by heir
      (crew_of r) r.ready r.retries r.pid_path) (numbers r w A by r.generation of-old-one) from

  asked : (b : Bool) (q : ℕ) (on_go on_back : Tree) → All r w A on_go → All r w A on_back → All r w A
      (asks b by q on_go on_back)
  asked true q on_go on_back h k = ((λ lacking. refl), (h, (k, tt)))
  asked false q on_go on_back h k = h

  removed-oldbin : (o : Option FilePath) (rest : Tree) → r.pid_path ≡ o → All r w A rest → All r w A
      (remove_oldbin heir o rest)
  removed-oldbin None rest e h = h
  removed-oldbin (Some path) rest e h = ((λ lacking. (inr refl, own-oldbin r w A path e)), (h, (h, tt)))

  module _ (new : Crew) (same : new.generation ≡ w) (n : ℕ) where
    handed-over : All r w A (hand_over by new r.retries r.pid_path n)
    handed-over = (
      (λ lacking. refl),
      (
        subst (λ (h : Generation). All r w A (remove_oldbin h.image r.pid_path (settle h.image new
            (numbers_below n) side.Target r.retries))) (sym same)
            (removed-oldbin r.pid_path (settle heir new (numbers_below n) side.Target r.retries) refl
            (settled r w A heir new (numbers_below n) side.Target r.retries (subst (λ h. IsOfOwn r w heir h)
            (sym same) of-heir))),
        tt,
      ),
    )

    retired : All r w A (retire by (crew_of r) new r.ready r.retries r.pid_path n)
    retired =
        subst (λ (h : Generation). All r w A (either by (Rattle.definitions.specs.Calls.Alive h.image) []
        (hand_over by new r.retries r.pid_path n) (back_late by h.image (crew_of r) r.ready r.retries r.pid_path)))
        (sym same)
        ((λ lacking. (refl, refl)), (handed-over, (late, tt)))

    relieved : (attended : Bool) → All r w A (relieve attended by (crew_of r) new r.ready r.retries r.pid_path n)
    relieved attended =
        let qs = reverse r.ready in
        let second = asks attended by 2 (retire by (crew_of r) new r.ready r.retries r.pid_path n)
        (back_serving by heir (crew_of r) r.ready r.retries r.pid_path) in
        subst (λ (h : Generation). All r w A (asks attended by 1
        (tells by (map (Quit r.generation) (reverse r.ready))
        (Rattle.definitions.specs.Plans.awaits_gone by r.generation (reverse r.ready)
        (asks attended by 2 (retire by (crew_of r) new r.ready r.retries r.pid_path n) (back_serving by h.image
        (crew_of r) r.ready r.retries r.pid_path))))
        (back_from by h.image (crew_of r) r.ready r.retries r.pid_path))) (sym same)
        (asked attended 1 (tells by (map (Quit r.generation) qs) (awaits_gone by r.generation qs second))
        (back_from by heir (crew_of r) r.ready r.retries r.pid_path)
        (quits r w A by r.generation qs (awaits_gone by r.generation qs second) of-old-one
        (n-gone (Right r w A) (Any r w A) by r.generation qs second (numbers r w A by r.generation of-old-one)
        (asked attended 2 (retire by (crew_of r) new r.ready r.retries r.pid_path n) (back_serving by heir
        (crew_of r) r.ready r.retries r.pid_path) retired serving))) from)

    written : (o : Option FilePath) → r.pid_path ≡ o → AllByRecursion (λ c. Always (Right r w A) (Any r w A) heir
        (Rattle.definitions.specs.Run.Make c)) (pid_calls o WritePid)
    written None e = tt
    written (Some path) e = ((λ bs lacking. (refl, own-file r w A path e)), tt)

    taken : (attended : Bool) (back : Tree) → All r w A back → All r w A (taken_over attended by
        (crew_of r) new r.ready r.retries r.pid_path n back)
    taken attended back h =
        subst (λ (k : Generation). All r w A (tries_all k.image (pid_calls r.pid_path WritePid)
        (Rattle.definitions.specs.Plans.tries k.image (Census k) (numbers_below n) (relieve attended by
        (crew_of r) new r.ready r.retries r.pid_path n) back) back)) (sym same)
        (n-tries-all (Right r w A) (Any r w A) heir (pid_calls r.pid_path WritePid)
        (Rattle.definitions.specs.Plans.tries heir (Census w) (numbers_below n) (relieve attended by
        (crew_of r) new r.ready r.retries r.pid_path n) back) back (written r.pid_path refl) (
          (λ lacking. of-heir),
          (relieved attended, (h, tt)),
        ) h)

    -- all that the heir does by itself
    abbrev IsStep : Call → Type 0
    IsStep c = Always (Right r w A) (Any r w A) heir (Rattle.definitions.specs.Run.Make c)

    joined-calls : (xs ys : List Call) → AllByRecursion IsStep xs → AllByRecursion IsStep ys → AllByRecursion IsStep
        (xs ++ ys)
    joined-calls [] ys a b = b
    joined-calls (x ∷ xs) ys a b = (a.0, joined-calls xs ys a.1 b)

    opened-calls : (l : List Address) → AllByRecursion (Added r w A) l → AllByRecursion IsStep (map OpenAt l)
    opened-calls [] all = tt
    opened-calls (a ∷ l) all = ((λ bs lacking. (refl, all.0.0, all.0.1)), opened-calls l all.1)

    heirs-calls : AllByRecursion IsStep (new_calls new (addresses_of r) A n)
    heirs-calls =
        let closes = map CloseAt (only_in (addresses_of r) A) in
        let opens = map OpenAt (only_in A (addresses_of r)) in
        let forks = map (fork_of new) (numbers_below n) in (
          (λ bs lacking. refl),
          joined-calls (closes ++ opens ++ forks) (map (AwaitReady new.generation) (numbers_below n))
              (joined-calls (closes ++ opens) forks
              (joined-calls closes opens (close-calls r w A (only_in (addresses_of r) A) (dropped r w A)) (opened-calls
              (only_in A (addresses_of r)) (added r w A)))
              (n-map (Right r w A) (Any r w A) heir (fork_of new) (numbers_below n) (λ k bs lacking. subst
              (λ h. IsOfOwn r w heir h) (sym same) of-heir)))
              (n-map (Right r w A) (Any r w A) heir (AwaitReady new.generation) (numbers_below n)
              (λ k bs lacking. subst (λ h. IsOfOwn r w heir h) (sym same) of-heir)),
        )

    -- the heir's part, and the old master's beside it
    heirs-part : PartNodes (Right r w A) (Any r w A) (new_part new (addresses_of r) A n)
    heirs-part =
        subst (λ (h : Generation). PartNodes (Right r w A) (Any r w A) (tries_all h.image (new_calls new
        (addresses_of r) A n) (Ends Rattle.definitions.specs.Run.JoinReady)
        (Ends Rattle.definitions.specs.Run.JoinBack))) (sym same)
        (n-tries-all (λ by order bs. Always (Right r w A) (Any r w A) by order) (λ e. ⊤) heir (new_calls new
        (addresses_of r) A n) (Ends Rattle.definitions.specs.Run.JoinReady)
        (Ends Rattle.definitions.specs.Run.JoinBack)
        (every-more IsStep (λ c. Always (λ by order bs. Always (Right r w A) (Any r w A) by order) (λ e. ⊤) heir
        (Rattle.definitions.specs.Run.Make c)) (λ c h bs. h) (new_calls new
        (addresses_of r) A n) heirs-calls) tt tt)

    olds-part : (rounds : ℕ) → PartNodes (Right r w A) (Any r w A) (old_part by (crew_of r) r.ready rounds)
    olds-part zero = ((λ bs lacking. of-old-one), (tt, tt))
    olds-part (suc rounds) =
        let more = olds-part rounds in (
          (λ bs lacking. of-old-one),
          (
            tt,
            (
              (
                (λ bs lacking. of-old-one),
                (
                  (
                    (λ bs lacking. of-old-one),
                    (
                      more,
                      (
                        (
                          (λ bs lacking. of-old-one),
                          (more, tt),
                        ),
                        tt,
                      ),
                    ),
                  ),
                  (more, tt),
                ),
              ),
              tt,
            ),
          ),
        )

    moved-aside : (o : Option FilePath) (note : PidNote) (ok bad : Tree) → r.pid_path ≡ o → All r w A ok →
        All r w A bad → All r w A (move_aside by o note ok bad)
    moved-aside None note ok bad e h k = h
    moved-aside (Some path) AtOldbin ok bad e h k = h
    moved-aside (Some path) note ok bad e h k = (
      (λ lacking. (refl, own-file r w A path e, own-oldbin r w A path e)),
      (h, (k, tt)),
    )

    pub upgrade-proper :
        (attended : Bool) (turns : List Turn) →
        All r w A (upgrade_tree attended by (crew_of r) new r.ready r.retries r.pid_path r.note
        (addresses_of r) A n turns)
    upgrade-proper attended turns =
        subst (λ (h : Generation). All r w A (move_aside by r.pid_path r.note
        (either by (Rattle.definitions.specs.Calls.SpawnMaster h.image) []
        (Rattle.definitions.specs.Plans.weave (joined (taken_over attended by
        (crew_of r) new r.ready r.retries r.pid_path n (back_from by h.image
        (crew_of r) r.ready r.retries r.pid_path)) (back_from by h.image (crew_of r) r.ready r.retries r.pid_path))
        (new_part new (addresses_of r) A n) turns (old_part by (crew_of r) r.ready r.retries))
        (back_alone by (crew_of r) r.ready r.retries r.pid_path)) (settle by (crew_of r) r.ready side.Old r.retries)))
        (sym same)
        (moved-aside r.pid_path r.note _ _ refl (
          (λ lacking. (refl, refl)),
          (
            n-weave (Right r w A) (Any r w A) (joined (taken_over attended by
                (crew_of r) new r.ready r.retries r.pid_path n (back_from by heir
                (crew_of r) r.ready r.retries r.pid_path)) (back_from by heir (crew_of r) r.ready r.retries r.pid_path))
                joins (new_part new (addresses_of r) A n) heirs-part turns (old_part by (crew_of r) r.ready r.retries)
                (olds-part r.retries),
            (alone, tt),
          ),
        )
        old-settled)
      where
        joins : (e : End) → All r w A (joined (taken_over attended by (crew_of r) new r.ready r.retries r.pid_path n
            (back_from by heir (crew_of r) r.ready r.retries r.pid_path)) (back_from by heir
            (crew_of r) r.ready r.retries r.pid_path) e)
        joins JoinReady = taken attended (back_from by heir (crew_of r) r.ready r.retries r.pid_path) from
        joins _ = from

pub plan-proper : (r : Record) (target : Target) (turns : List Turn) → All r (generation_wanted r target)
    (addresses_wanted r target) (plan_tree r target turns)
plan-proper r (Workers n) turns = workers-proper r n turns
plan-proper r (Mend overdue) turns = mend-proper r overdue turns
plan-proper r Reopen turns = reopen-proper r turns
plan-proper r (Reload s) turns = reload-proper r s turns
plan-proper r (Upgrade s) turns = upgrade-proper r s.listeners (crew_wanted r (Upgrade s)) refl s.workers false turns
plan-proper r (Attended s) turns = upgrade-proper r s.listeners (crew_wanted r (Attended s)) refl s.workers true turns
plan-proper r (Stop quick) turns = stop-proper r quick turns
