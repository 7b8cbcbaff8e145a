-- Behind each question the way back tells nobody to quit, and ends on the old side.
use Rattle.std.proofs.Common.{◌≡◌, ℕ, ◌+◌, zero, suc, Bool, true, false, List, [], ◌∷◌, ◌++◌, Option, Some, None, refl}
use Rattle.std.proofs.Common.{subst, map}
use Rattle.std.proofs.Common.{reverse}
use Rattle.std.specs.Prelude.{⊤, ◌&&◌, ◌||◌}
use Rattle.std.specs.List.{AllByRecursion, list_any}
use Rattle.vocabulary.specs.Settings.{Settings}
use Rattle.listener_set.specs.Numbers.{numbers_below}
use Rattle.listener_set.specs.declared.generation.Generation.{Generation}
use Rattle.vocabulary.specs.declared.plans.Side.TheVariants as side
use Rattle.vocabulary.specs.declared.plans.Turn.{Turn}
use Rattle.vocabulary.specs.declared.plans.PidNote.{PidNote}
use Rattle.vocabulary.specs.declared.plans.PidNote.TheVariants.{AtOldbin}
use Rattle.vocabulary.specs.declared.calls.Answer.{Answer}
use Rattle.vocabulary.specs.declared.calls.Answer.TheVariants as answer
use Rattle.vocabulary.specs.declared.calls.Reply.TheVariants as reply
use Rattle.vocabulary.specs.declared.reports.Entry.{Entry}
use Rattle.vocabulary.specs.declared.reports.Outcome.TheVariants as outcome
use Rattle.definitions.specs.Table.{Address, FilePath, Table}
use Rattle.definitions.specs.Calls.{Call, Ask, OpenAt, CloseAt, AwaitReady, Quit, WritePid, Handed, Census, SpawnMaster}
use Rattle.definitions.specs.Master.{Record, Attended, Crew, crew_of, fork_of, addresses_of, sides_of, handover_for}
use Rattle.definitions.specs.Run.{Tree, Branches, Ends, Does, Nothing, Branch, Order, Make, ForkLacking, AwaitLacking}
use Rattle.definitions.specs.Run.{KillLacking, Reply, End}
use Rattle.definitions.specs.Run.{RolledBack, ShortOld, JoinReady, JoinBack, Ending, At, Lost, Pattern, Progress}
use Rattle.definitions.specs.Run.{Ran, run_with, goes_with, call_of, lacked_by, after_moment, after_call, reply_of}
use Rattle.definitions.specs.Run.{start_at, report_of, outcome_of}
use Rattle.definitions.specs.Plans.{tells, settle, move_aside, move_back, remove_oldbin, back_alone, back_from}
use Rattle.definitions.specs.Plans.{back_late, back_serving, asks, either}
use Rattle.definitions.specs.Plans.{hand_over, retire, relieve, taken_over, joined, new_calls, new_part, old_part}
use Rattle.definitions.specs.Plans.{pid_calls, upgrade_tree, tries, tries_all, weave}
use Rattle.definitions.specs.Plans.{awaits_gone, plan_tree}
use Rattle.definitions.specs.After.{crew_wanted}
use Rattle.definitions.specs.Claims.{is_quit, is_old_side, one_then, Says, KeepsPromise, run_of}
use Rattle.call_laws.specs.Pieces.{answered, noted, among}
use Rattle.theorems.proofs.Promise.{headline}
use Rattle.further_theorems.specs.Bound.{is_back, is_back_answer, OperatorsAreObeyed}
use Rattle.further_theorems.proofs.Nodes.{Nodes, NodesAll, Always, Settles, Numbers, PartNodes, n-tells, n-map}
use Rattle.further_theorems.proofs.Nodes.{n-settle, n-starts-any, n-gone}
use Rattle.further_theorems.proofs.Nodes.{n-tries-all, n-weave}

-- no quit, and the ends of the old side
abbrev NoQuit : ℕ → Order → Branches → Type 0
NoQuit by order bs = (lacking : List ℕ) → is_quit (λ g k. true) (call_of order lacking) ≡ false

abbrev pub OldEnd : End → Type 0
OldEnd RolledBack = ⊤
OldEnd ShortOld = ⊤
OldEnd _ = ⊥

abbrev Homeward : Tree → Type 0
Homeward t = Nodes NoQuit OldEnd t

-- behind each edge of a question that has `Back`
abbrev BackEdges : Branches → Type 0
BackEdges Nothing = ⊤
BackEdges (Branch replies said rest more) = (among replies reply.Back ≡ true → Homeward rest) × BackEdges more

abbrev Obeys : ℕ → Order → Branches → Type 0
Obeys by (Make (Ask q)) bs = BackEdges bs
Obeys by order bs = ⊤

abbrev Any : End → Type 0
Any e = ⊤

abbrev All : Tree → Type 0
All t = Nodes Obeys Any t

---- The ways back

module _ (r : Record) (heir : ℕ) where
  abbrev by : ℕ
  by = r.generation.image

  homeward-settle : Homeward (settle by (crew_of r) r.ready side.Old r.retries)
  homeward-settle =
      n-settle NoQuit OldEnd by (crew_of r) r.ready side.Old r.retries
      (record {
        forks = λ crew same bs lacking. refl;
        awaits = λ bs lacking. refl;
        kills = λ bs lacking. refl;
        counts = λ bs lacking. refl;
      }) tt tt

  homeward-move : (o : Option FilePath) (rest : Tree) → Homeward rest → Homeward (move_back by o rest)
  homeward-move None rest h = h
  homeward-move (Some path) rest h = ((λ lacking. refl), (h, (h, tt)))

  homeward-from : Homeward (back_from by heir (crew_of r) r.ready r.retries r.pid_path)
  homeward-from = (
    (λ lacking. refl),
    (
      homeward-move r.pid_path (settle by
          (crew_of r) r.ready side.Old r.retries) homeward-settle,
      tt,
    ),
  )

  homeward-serving : Homeward (back_serving by heir (crew_of r) r.ready r.retries r.pid_path)
  homeward-serving =
      n-starts-any NoQuit OldEnd by (crew_of r) r.ready (back_from by heir (crew_of r) r.ready r.retries r.pid_path)
      (record {
        forks = λ crew k same bs lacking. refl;
        awaits = λ k bs lacking. refl;
        kills = λ k bs lacking. refl;
        gones = λ k bs lacking. refl;
      })
      homeward-from

---- The rest of an upgrade asks nothing else

settles : (image : ℕ) (g : Generation) → Settles Obeys Any image g
settles image g = record { forks = λ crew same bs. tt; awaits = λ bs. tt; kills = λ bs. tt; counts = λ bs. tt }

numbers : (image : ℕ) (g : Generation) → Numbers Obeys Any image g
numbers image g = record { forks = λ crew k same bs. tt; awaits = λ k bs. tt; kills = λ k bs. tt; gones = λ k bs. tt }

module _ (r : Record) (new : Crew) (n : ℕ) (A : List Address) where
  abbrev old : ℕ
  old = r.generation.image

  abbrev heir : ℕ
  heir = new.generation.image

  all-settle : (crew : Crew) (S : List ℕ) (sd : Rattle.vocabulary.specs.declared.plans.Side.Side) (image : ℕ) → All
      (settle image crew S sd r.retries)
  all-settle crew S sd image = n-settle Obeys Any image crew S sd r.retries (settles image crew.generation) tt tt

  all-move : (o : Option FilePath) (rest : Tree) → All rest → All (move_back old o rest)
  all-move None rest h = h
  all-move (Some path) rest h = (tt, (h, (h, tt)))

  all-alone : All (back_alone old (crew_of r) r.ready r.retries r.pid_path)
  all-alone = all-move r.pid_path (settle old (crew_of r) r.ready side.Old r.retries) (all-settle
      (crew_of r) r.ready side.Old old)

  all-from : All (back_from old heir (crew_of r) r.ready r.retries r.pid_path)
  all-from = (tt, (all-alone, tt))

  all-late : All (back_late old heir (crew_of r) r.ready r.retries r.pid_path)
  all-late = (
    tt,
    (
      n-starts-any Obeys Any old (crew_of r) r.ready (back_alone old
          (crew_of r) r.ready r.retries r.pid_path) (numbers old r.generation) all-alone,
      tt,
    ),
  )

  all-serving : All (back_serving old heir (crew_of r) r.ready r.retries r.pid_path)
  all-serving = n-starts-any Obeys Any old (crew_of r) r.ready (back_from old heir
      (crew_of r) r.ready r.retries r.pid_path) (numbers old r.generation) all-from

  all-asked : (q : ℕ) (go back : Tree) → All go → All back → Homeward back → All (asks true old q go back)
  all-asked q go back h k home = (((λ e. absurd (cc)), ((λ e. home), tt)), (h, (k, tt)))

  all-remove : (o : Option FilePath) (rest : Tree) → All rest → All (remove_oldbin heir o rest)
  all-remove None rest h = h
  all-remove (Some path) rest h = (tt, (h, (h, tt)))

  all-over : All (hand_over old new r.retries r.pid_path n)
  all-over = (
    tt,
    (
      all-remove r.pid_path (settle heir new (numbers_below n) side.Target r.retries) (all-settle new
          (numbers_below n) side.Target heir),
      tt,
    ),
  )

  all-retire : All (retire old (crew_of r) new r.ready r.retries r.pid_path n)
  all-retire = (tt, (all-over, (all-late, tt)))

  all-relieve : All (relieve true old (crew_of r) new r.ready r.retries r.pid_path n)
  all-relieve =
      let qs = reverse r.ready in
      let second = asks true old 2 (retire old (crew_of r) new r.ready r.retries r.pid_path n) (back_serving old heir
      (crew_of r) r.ready r.retries r.pid_path) in
      all-asked 1 (tells old (map (Quit r.generation) qs) (awaits_gone old r.generation qs second)) (back_from old heir
      (crew_of r) r.ready r.retries r.pid_path)
      (n-tells Obeys Any old (map (Quit r.generation) qs) (awaits_gone old r.generation qs second) (n-map Obeys Any old
      (Quit r.generation) qs (λ k bs. tt))
      (n-gone Obeys Any old r.generation qs second (numbers old r.generation)
      (all-asked 2 (retire old (crew_of r) new r.ready r.retries r.pid_path n) (back_serving old heir
      (crew_of r) r.ready r.retries r.pid_path) all-retire all-serving (homeward-serving r heir))))
      all-from (homeward-from r heir)

  all-pid : (o : Option FilePath) → AllByRecursion (λ c. Always Obeys Any heir (Make c)) (pid_calls o WritePid)
  all-pid None = tt
  all-pid (Some path) = ((λ bs. tt), tt)

  all-taken : (back : Tree) → All back → All (taken_over true old (crew_of r) new r.ready r.retries r.pid_path n back)
  all-taken back h =
      n-tries-all Obeys Any heir (pid_calls r.pid_path WritePid) (tries heir (Census new.generation) (numbers_below n)
      (relieve true old (crew_of r) new r.ready r.retries r.pid_path n) back) back
      (all-pid r.pid_path) (tt, (all-relieve, (h, tt))) h

  abbrev IsStep : Call → Type 0
  IsStep c = (bs : Branches) → Always Obeys Any heir (Make c)

  joined-calls : (xs ys : List Call) → AllByRecursion IsStep xs → AllByRecursion IsStep ys → AllByRecursion IsStep
      (xs ++ ys)
  joined-calls [] ys a b = b
  joined-calls (x ∷ xs) ys a b = (a.0, joined-calls xs ys a.1 b)

  mapped : {X : Type 0} (f : X → Call) → ((x : X) → IsStep (f x)) → (xs : List X) → AllByRecursion IsStep (map f xs)
  mapped f h [] = tt
  mapped f h (x ∷ xs) = (h x, mapped f h xs)

  part-new : PartNodes Obeys Any (new_part new (addresses_of r) A n)
  part-new =
      let closes = map CloseAt (Rattle.definitions.specs.Plans.only_in (addresses_of r) A) in
      let opens = map OpenAt (Rattle.definitions.specs.Plans.only_in A (addresses_of r)) in
      let forks = map (fork_of new) (numbers_below n) in
      n-tries-all (λ by order bs. Always Obeys Any by order) (λ e. ⊤) heir (new_calls new (addresses_of r) A n)
      (Ends JoinReady) (Ends JoinBack) (
        (λ bs bs'. tt),
        joined-calls (closes ++ opens ++ forks) (map (AwaitReady new.generation) (numbers_below n))
            (joined-calls (closes ++ opens) forks
            (joined-calls closes opens (mapped CloseAt (λ a bs bs'. tt) _) (mapped OpenAt (λ a bs bs'. tt) _))
            (mapped (fork_of new) (λ k bs bs'. tt) (numbers_below n)))
            (mapped (AwaitReady new.generation) (λ k bs bs'. tt) (numbers_below n)),
      ) tt tt

  part-old : (rounds : ℕ) → PartNodes Obeys Any (old_part old (crew_of r) r.ready rounds)
  part-old zero = ((λ bs. tt), (tt, tt))
  part-old (suc rounds) =
      let more = part-old rounds in
      ((λ bs. tt), (tt, (((λ bs. tt), (((λ bs. tt), (more, (((λ bs. tt), (more, tt)), tt))), (more, tt))), tt)))

  all-aside : (o : Option FilePath) (note : PidNote) (ok bad : Tree) → All ok → All bad → All
      (move_aside old o note ok bad)
  all-aside None note ok bad h k = h
  all-aside (Some path) AtOldbin ok bad h k = h
  all-aside (Some path) note ok bad h k = (tt, (h, (k, tt)))

  all-upgrade : (turns : List Turn) → All (upgrade_tree true old (crew_of r) new r.ready r.retries r.pid_path r.note
      (addresses_of r) A n turns)
  all-upgrade turns =
      let back = back_from old heir (crew_of r) r.ready r.retries r.pid_path in
      let join = joined (taken_over true old (crew_of r) new r.ready r.retries r.pid_path n back) back in
      all-aside r.pid_path r.note
      (either old (SpawnMaster heir) [] (weave join (new_part new (addresses_of r) A n) turns (old_part old
      (crew_of r) r.ready r.retries)) (back_alone old (crew_of r) r.ready r.retries r.pid_path))
      (settle old (crew_of r) r.ready side.Old r.retries) (
        tt,
        (
          n-weave Obeys Any join joins (new_part new (addresses_of r) A n) part-new turns (old_part old
              (crew_of r) r.ready r.retries) (part-old r.retries),
          (all-alone, tt),
        ),
      )
      (all-settle (crew_of r) r.ready side.Old old)
    where
      joins : (e : End) → All (joined (taken_over true old (crew_of r) new r.ready r.retries r.pid_path n
          (back_from old heir (crew_of r) r.ready r.retries r.pid_path)) (back_from old heir
          (crew_of r) r.ready r.retries r.pid_path) e)
      joins JoinReady = all-taken (back_from old heir (crew_of r) r.ready r.retries r.pid_path) all-from
      joins _ = all-from

---- Along a run

abbrev pub EndsOld : Ending → Type 0
EndsOld (At e) = OldEnd e
EndsOld Lost = ⊤

abbrev pub is_q : Entry → Bool
is_q e = is_quit (λ g k. true) e.call

abbrev Home : Ran → Type 0
Home ran = (list_any is_q ran.entries ≡ false) × EndsOld ran.ending

abbrev pub Bound : Ran → Type 0
Bound ran = (one_then is_back is_q ran.entries ≡ false) × (list_any is_back ran.entries ≡ true → EndsOld ran.ending)

neither : (a b : Bool) → a ≡ false → b ≡ false → (a || b) ≡ false
neither true b e f = e
neither false b e f = f

module _ (handed : Handed) (pattern : Pattern) where
  mutual
    home-tree : (tree : Tree) (p : Progress) → Homeward tree → Home (run_with handed tree pattern p)
    home-tree (Ends e) p h = (refl, h)
    home-tree (Does by order set bs) p h =
        let middle = after_moment (pattern (p.calls + 1)).exits p in
        let s = answered handed by order (pattern (p.calls + 1)).fate middle in
        let rest = home-behind bs (reply_of set s.answer) (after_call by order set s middle) h.1 in (
          neither (is_quit (λ g k. true) (call_of order (lacked_by by middle.lacked))) _ (h.0
              (lacked_by by middle.lacked)) rest.0,
          rest.1,
        )

    home-behind : (bs : Branches) (r : Reply) (p : Progress) → NodesAll NoQuit OldEnd bs → Home
        (goes_with handed bs r pattern p)
    home-behind Nothing r p h = (refl, tt)
    home-behind (Branch replies said rest more) r p h =
        elim (among replies r) as (λ b. Home (elim b as (λ c. Ran) [
          | true ↦ run_with handed rest pattern
              (noted said p)
          | false ↦ goes_with handed more r pattern p
        ])) [
          | true ↦ home-tree rest (noted said p) h.0
          | false ↦ home-behind more r p h.1
        ]

  -- behind a question whose answer was Back
  home-back : (bs : Branches) (p : Progress) → BackEdges bs → Home (goes_with handed bs reply.Back pattern p)
  home-back Nothing p h = (refl, tt)
  home-back (Branch replies said rest more) p h =
      elim (among replies reply.Back) as
      (λ b. (b ≡ true → Homeward rest) → Home (elim b as (λ c. Ran) [
        | true ↦ run_with handed rest pattern
            (noted said p)
        | false ↦ goes_with handed more reply.Back pattern p
      ])) [
        | true ↦ λ k. home-tree rest (noted said p) (k refl)
        | false ↦ λ k. home-back more p h.1
      ] h.0

  -- one entry more
  more-bound : (first : Bool) (es : List Entry) (ending : Ending) → (first ≡ true → (list_any is_q es ≡ false) ×
      EndsOld ending) →
      (one_then is_back is_q es ≡ false) × (list_any is_back es ≡ true → EndsOld ending) →
      (((first && list_any is_q es) || one_then is_back is_q es) ≡ false) × ((first || list_any is_back es) ≡ true →
      EndsOld ending)
  more-bound true es ending home bound = let h = home refl in (neither (list_any is_q es) _ h.0 bound.0, λ e. h.1)
  more-bound false es ending home bound = bound

  -- an answer that is Back, behind a step that obeys
  obeyed :
      (by : ℕ) (order : Order) (bs : Branches) (lacking set : List ℕ) (a : Answer) (p : Progress) → Obeys by order bs →
      is_back_answer (call_of order lacking) a ≡ true → Home (goes_with handed bs (reply_of set a) pattern p)
  obeyed by (Make (Ask q)) bs lacking set answer.Back p obeys e = home-back bs p obeys
  obeyed by (Make call) bs lacking set a p obeys e = absurd (cc)
  obeyed by (ForkLacking crew) bs lacking set a p obeys e = absurd (cc)
  obeyed by (AwaitLacking g) bs lacking set a p obeys e = absurd (cc)
  obeyed by (KillLacking g) bs lacking set a p obeys e = absurd (cc)

  mutual
    bound-tree : (tree : Tree) (p : Progress) → All tree → Bound (run_with handed tree pattern p)
    bound-tree (Ends e) p h = (refl, λ f. absurd (cc))
    bound-tree (Does by order set bs) p h =
        let middle = after_moment (pattern (p.calls + 1)).exits p in
        let lacking = lacked_by by middle.lacked in
        let s = answered handed by order (pattern (p.calls + 1)).fate middle in
        let next = after_call by order set s middle in
        let rest = goes_with handed bs (reply_of set s.answer) pattern next in
        more-bound (is_back_answer (call_of order lacking) s.answer) rest.entries rest.ending
        (λ e. obeyed by order bs lacking set s.answer next h.0 e) (bound-behind bs (reply_of set s.answer) next h.1)

    bound-behind : (bs : Branches) (r : Reply) (p : Progress) → NodesAll Obeys Any bs → Bound
        (goes_with handed bs r pattern p)
    bound-behind Nothing r p h = (refl, λ f. absurd (cc))
    bound-behind (Branch replies said rest more) r p h =
        elim (among replies r) as (λ b. Bound (elim b as (λ c. Ran) [
          | true ↦ run_with handed rest pattern
              (noted said p)
          | false ↦ goes_with handed more r pattern p
        ])) [
          | true ↦ bound-tree rest (noted said p) h.0
          | false ↦ bound-behind more r p h.1
        ]

-- what an end of the old side is reported as
old-reported :
    (sides : Rattle.vocabulary.specs.declared.plans.Sides.Sides) (ending : Ending) (lacking : List ℕ) → EndsOld ending →
    (outcome_of sides ending lacking ≡ outcome.Lost → ⊥) → is_old_side (outcome_of sides ending lacking) ≡ true
old-reported sides (At RolledBack) lacking h lost = refl
old-reported sides (At ShortOld) lacking h lost = refl
old-reported sides Lost lacking h lost = absurd (lost refl)
old-reported sides (At e) lacking h lost = absurd h

-- so each attended upgrade
pub attended-bound : (t : Table) (r : Record) (s : Settings) (turns : List Turn) (pattern : Pattern) → Bound (run_of r
    (Attended s) turns pattern t)
attended-bound t r s turns pattern =
    bound-tree (handover_for r (Attended s)) pattern (plan_tree r (Attended s) turns) (start_at t r.note)
    (all-upgrade r (crew_wanted r (Attended s)) s.workers s.listeners turns)

-- A run that keeps the promise obeys.
pub obeyed-of-kept :
    (t : Table) (r : Record) (s : Settings) (turns : List Turn) (pattern : Pattern) →
    let ran = run_of r (Attended s) turns pattern t in
    KeepsPromise t r (Attended s) ran → list_any is_back ran.entries ≡ true → is_old_side (report_of (sides_of r
    (Attended s)) ran).outcome ≡ true
obeyed-of-kept t r s turns pattern kept went =
    let ran = run_of r (Attended s) turns pattern t in
    old-reported (sides_of r (Attended s)) ran.ending _ ((attended-bound t r s turns pattern).1 went)
    (λ e. subst (λ o. Says r (Attended s) o t ran.last.table) e kept.says)

pub operators-are-obeyed : OperatorsAreObeyed
operators-are-obeyed t r s turns pattern = record {
  quits = (attended-bound t r s turns pattern).0;
  ends =
      λ accepted went. obeyed-of-kept t r s turns pattern (headline t r (Attended s) turns pattern accepted) went;
}
