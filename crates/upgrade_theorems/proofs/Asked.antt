-- What an upgrade does only after its new master adopted, or after the operator went on.
use Rattle.std.proofs.Common.{◌≡◌, ◌==◌, ◌&&◌, ℕ, ◌+◌, zero, suc, Bool, true, false, List, []}
use Rattle.std.proofs.Common.{◌∷◌, ◌++◌, Option, Some, None}
use Rattle.std.proofs.Common.{refl, sym, ap, subst, map, reverse, not, arith, inl, inr}
use Rattle.std.specs.Prelude.{⊤, ◌⊎◌}
use Rattle.std.specs.List.{AllByRecursion}
use Rattle.listener_set.specs.Numbers.{numbers_below}
use Rattle.listener_set.specs.declared.generation.Generation.{Generation}
use Rattle.listener_set.proofs.NumberBits.{and_false}
use Rattle.vocabulary.specs.Settings.{Settings}
use Rattle.vocabulary.specs.declared.plans.Side.TheVariants as side
use Rattle.vocabulary.specs.declared.plans.Turn.{Turn}
use Rattle.vocabulary.specs.declared.plans.PidNote.{PidNote}
use Rattle.vocabulary.specs.declared.plans.PidNote.TheVariants.{AtOldbin}
use Rattle.vocabulary.specs.declared.calls.Answer.{Answer}
use Rattle.vocabulary.specs.declared.calls.Answer.TheVariants as answer
use Rattle.definitions.specs.Table.{Address, FilePath, Table}
use Rattle.definitions.specs.Calls.{Call, OpenAt, CloseAt, Fork, AwaitReady, Quit, Kill, Census, AwaitGone, SpawnMaster}
use Rattle.definitions.specs.Calls.{Adopt, WritePid, MovePid, TermMaster, Ask}
use Rattle.definitions.specs.Master.{Record, Upgrade, Attended, Crew, crew_of, fork_of, addresses_of, handover_for}
use Rattle.definitions.specs.Run.{Tree, Ends, Does, Order, Make, End, JoinReady, JoinBack}
use Rattle.definitions.specs.Run.{Pattern, start_at, plain_reply}
use Rattle.definitions.specs.Plans.{tells, settle, starts_any, awaits_gone, only_in, either}
use Rattle.definitions.specs.Plans.{failed_replies, on, move_aside}
use Rattle.definitions.specs.Plans.{move_back, back_alone, back_from, back_serving, asks, retire, relieve, taken_over}
use Rattle.definitions.specs.Plans.{joined, new_calls, new_part, old_part, pid_calls, tries}
use Rattle.definitions.specs.Plans.{tries_all, weave, weave_all}
use Rattle.definitions.specs.Plans.{upgrade_tree, plan_tree}
use Rattle.definitions.specs.Run.{Branch, Nothing}
use Rattle.vocabulary.specs.declared.calls.Reply.TheVariants as reply
use Rattle.definitions.specs.After.{crew_wanted}
use Rattle.definitions.specs.Claims.{is_quit, is_leave_call}
use Rattle.call_laws.specs.Pieces.{among}
use Rattle.table_laws.proofs.Views.{eqb-off, eqb-refl}
use Rattle.further_theorems.proofs.Nodes.{Nodes, Always, Settles, Numbers, n-settle, n-starts-any, n-tries-all}
use Rattle.upgrade_theorems.specs.First.{is_adopt, is_adopted, is_go_answer, AdoptsFirst, HeirsAdoptFirst}
use Rattle.upgrade_theorems.specs.First.{IsAsked, OperatorsAreAsked}
use Rattle.upgrade_theorems.proofs.Shut.{Harmless, Any, Calm, Shut, calm-shut, shut-tells, shut-gone, shut-tries}
use Rattle.upgrade_theorems.proofs.Shut.{shut-graft, shut-beside, shut-weave, shut-run}

-- the calls of the old master beside its quits and its leave do not have to wait
record Spared (bad : ℕ → Call → Bool) (old : ℕ) : Type 0 where
  forks : (g : Generation) (k : ℕ) (fds : Option (List ℕ)) → bad old (Fork g k fds) ≡ false
  awaits : (g : Generation) (k : ℕ) → bad old (AwaitReady g k) ≡ false
  kills : (g : Generation) (k : ℕ) → bad old (Kill g k) ≡ false
  gones : (g : Generation) (k : ℕ) → bad old (AwaitGone g k) ≡ false
  counts : (g : Generation) → bad old (Census g) ≡ false
  moves : (from to : FilePath) → bad old (MovePid from to) ≡ false
  spawns : (i : ℕ) → bad old (SpawnMaster i) ≡ false
  terms : (i : ℕ) → bad old (TermMaster i) ≡ false

module _ (bad : ℕ → Call → Bool) (opens : ℕ → Call → Answer → Bool) (r : Record) (new : Crew) (n : ℕ)
    (A : List Address) (m : Spared bad r.generation.image) where
  abbrev old : ℕ
  old = r.generation.image

  abbrev heir : ℕ
  heir = new.generation.image

  settles : (g : Generation) → Settles (Harmless bad opens) (Any bad opens) old g
  settles g = record {
    forks = λ crew same bs lacking. m.forks _ _ _;
    awaits = λ bs lacking. m.awaits _ _;
    kills = λ bs lacking. m.kills _ _;
    counts = λ bs lacking. m.counts _;
  }

  numbers : (g : Generation) → Numbers (Harmless bad opens) (Any bad opens) old g
  numbers g = record {
    forks = λ crew k same bs lacking. m.forks _ _ _;
    awaits = λ k bs lacking. m.awaits _ _;
    kills = λ k bs lacking. m.kills _ _;
    gones = λ k bs lacking. m.gones _ _;
  }

  abbrev Quietly : Tree → Type 0
  Quietly t = Calm bad opens t

  home : Quietly (settle old (crew_of r) r.ready side.Old r.retries)
  home = n-settle (Harmless bad opens) (Any bad opens) old (crew_of r) r.ready side.Old r.retries
      (settles r.generation) tt tt

  moved : (o : Option FilePath) (rest : Tree) → Quietly rest → Quietly (move_back old o rest)
  moved None rest h = h
  moved (Some path) rest h = ((λ lacking. m.moves _ _), (h, (h, tt)))

  alone : Quietly (back_alone old (crew_of r) r.ready r.retries r.pid_path)
  alone = moved r.pid_path (settle old (crew_of r) r.ready side.Old r.retries) home

  from : Quietly (back_from old heir (crew_of r) r.ready r.retries r.pid_path)
  from = ((λ lacking. m.terms _), (alone, tt))

  serving : Quietly (back_serving old heir (crew_of r) r.ready r.retries r.pid_path)
  serving = n-starts-any (Harmless bad opens) (Any bad opens) old (crew_of r) r.ready (back_from old heir (crew_of r)
      r.ready r.retries r.pid_path) (numbers r.generation) from

  part-old : (rounds : ℕ) → Quietly (old_part old (crew_of r) r.ready rounds)
  part-old zero = ((λ lacking. m.counts _), (tt, tt))
  part-old (suc rounds) =
      let more = part-old rounds in (
        (λ lacking. m.counts _),
        (
          tt,
          (
            (
              (λ lacking. m.forks _ _ _),
              (((λ lacking. m.awaits _ _), (more, (((λ lacking. m.kills _ _), (more, tt)), tt))), (more, tt)),
            ),
            tt,
          ),
        ),
      )

  abbrev Closed : Tree → Type 0
  Closed t = Shut bad opens t

  closed : (t : Tree) → Quietly t → Closed t
  closed t h = calm-shut bad opens t h

  aside : (o : Option FilePath) (note : PidNote) (ok back : Tree) → Closed ok → Closed back → Closed
      (move_aside old o note ok back)
  aside None note ok back h k = h
  aside (Some path) AtOldbin ok back h k = h
  aside (Some path) note ok back h k = ((λ lacking. m.moves _ _), (inl h, (inl k, tt)))

  -- what an upgrade does once both parts have ended
  abbrev Join : Bool → End → Tree
  Join b = joined (taken_over b old (crew_of r) new r.ready r.retries r.pid_path n
      (back_from old heir (crew_of r) r.ready r.retries r.pid_path))
      (back_from old heir (crew_of r) r.ready r.retries r.pid_path)

  abbrev Parts : Bool → List Turn → Tree
  Parts b turns = weave (Join b) (new_part new (addresses_of r) A n) turns (old_part old (crew_of r) r.ready r.retries)

  whole : (b : Bool) (turns : List Turn) → Closed (Parts b turns) → Closed (upgrade_tree b old (crew_of r) new r.ready
      r.retries r.pid_path r.note (addresses_of r) A n turns)
  whole b turns h =
      aside r.pid_path r.note _ _
      ((λ lacking. m.spawns _), (inl h, (inl (closed _ alone), tt))) (closed _ home)

---- The new master adopts first

and-true : (b : Bool) → b ≡ true → (b && true) ≡ true
and-true b e = subst (λ x. (x && true) ≡ true) (sym e) refl

false-and : (a b : Bool) → a ≡ false → (a && b) ≡ false
false-and a b e = subst (λ x. (x && b) ≡ false) (sym e) refl

module _ (r : Record) (s : Settings) (new : Crew) (same : new.generation.image ≡ r.generation.image + 1) where
  abbrev next : ℕ
  next = r.generation.image + 1

  abbrev early : ℕ → Call → Bool
  early by c = (by == next) && not (is_adopt c)

  abbrev adopted : ℕ → Call → Answer → Bool
  adopted by c a = (by == next) && is_adopted c a

  off : (c : Call) → early r.generation.image c ≡ false
  off c = false-and (r.generation.image == next) (not (is_adopt c)) (eqb-off r.generation.image next
      (λ e. omega (arith, e)))

  of-old : Spared early r.generation.image
  of-old = record {
    forks = λ g k fds. off (Fork g k fds);
    awaits = λ g k. off (AwaitReady g k);
    kills = λ g k. off (Kill g k);
    gones = λ g k. off (AwaitGone g k);
    counts = λ g. off (Census g);
    moves = λ from to. off (MovePid from to);
    spawns = λ i. off (SpawnMaster i);
    terms = λ i. off (TermMaster i);
  }

  opens-way : (by : ℕ) → by ≡ next → (a : Answer) → among (reply.Adopted ∷ [])
      (Rattle.definitions.specs.Run.reply_of [] a) ≡ true → adopted by Adopt a ≡ true
  opens-way by e answer.Adopted f =
      and-true (by == next) (subst (λ x. (x == next) ≡ true) (sym e) (eqb-refl next next refl))
  opens-way by e a f = absurd (cc)

  parts : (b : Bool) (turns : List Turn) → Shut early adopted (Parts early adopted r new s.workers s.listeners of-old b
      turns)
  parts b turns =
      let join = Join early adopted r new s.workers s.listeners of-old b in
      let olds = old_part r.generation.image (crew_of r) r.ready r.retries in
      let edges = on (plain_reply Adopt ∷ [])
      (tries_all new.generation.image (map CloseAt (only_in (addresses_of r) s.listeners) ++ map OpenAt
      (only_in s.listeners (addresses_of r)) ++ map (fork_of new) (numbers_below s.workers) ++ map
      (AwaitReady new.generation) (numbers_below s.workers)) (Ends JoinReady) (Ends JoinBack))
      (on (failed_replies Adopt ++ reply.MasterGone ∷ []) (Ends JoinBack) Nothing) in
      shut-beside early adopted (λ later still. Does new.generation.image (Make Adopt) [] (weave_all join edges later
      still))
      (λ later still h. (
        (λ lacking. and_false (new.generation.image == next)),
        (
          inr (λ lacking a e. opens-way new.generation.image same a e),
          (
            inl (shut-graft early adopted (λ e. join JoinBack)
                (λ e. closed early adopted r new s.workers s.listeners of-old (back_from r.generation.image
                new.generation.image (crew_of r) r.ready r.retries r.pid_path)
                (from early adopted r new s.workers s.listeners of-old)) still h),
            tt,
          ),
        ),
      )) turns olds (part-old early adopted r new s.workers s.listeners of-old r.retries)

pub heirs-adopt-first : HeirsAdoptFirst
heirs-adopt-first t r s turns pattern = (
  shut-run (early r s (crew_wanted r (Upgrade s)) refl) (adopted r s (crew_wanted r (Upgrade s)) refl)
      (handover_for r (Upgrade s)) pattern (plan_tree r (Upgrade s) turns) (start_at t r.note)
      (whole (early r s (crew_wanted r (Upgrade s)) refl) (adopted r s (crew_wanted r (Upgrade s)) refl) r
      (crew_wanted r (Upgrade s)) s.workers s.listeners (of-old r s (crew_wanted r (Upgrade s)) refl) false turns
      (parts r s (crew_wanted r (Upgrade s)) refl false turns)),
  shut-run (early r s (crew_wanted r (Attended s)) refl) (adopted r s (crew_wanted r (Attended s)) refl)
      (handover_for r (Attended s)) pattern (plan_tree r (Attended s) turns) (start_at t r.note)
      (whole (early r s (crew_wanted r (Attended s)) refl) (adopted r s (crew_wanted r (Attended s)) refl) r
      (crew_wanted r (Attended s)) s.workers s.listeners (of-old r s (crew_wanted r (Attended s)) refl) true turns
      (parts r s (crew_wanted r (Attended s)) refl true turns)),
)

---- The operator is asked

-- a test of calls that both masters' parts of an upgrade do not pass
record Unasked (test : Call → Bool) : Type 0 where
  opens : (a : Address) → test (OpenAt a) ≡ false
  closes : (a : Address) → test (CloseAt a) ≡ false
  forks : (g : Generation) (k : ℕ) (fds : Option (List ℕ)) → test (Fork g k fds) ≡ false
  awaits : (g : Generation) (k : ℕ) → test (AwaitReady g k) ≡ false
  kills : (g : Generation) (k : ℕ) → test (Kill g k) ≡ false
  gones : (g : Generation) (k : ℕ) → test (AwaitGone g k) ≡ false
  counts : (g : Generation) → test (Census g) ≡ false
  adopts : test Adopt ≡ false
  writes : (path : FilePath) → test (WritePid path) ≡ false
  moves : (from to : FilePath) → test (MovePid from to) ≡ false
  spawns : (i : ℕ) → test (SpawnMaster i) ≡ false
  terms : (i : ℕ) → test (TermMaster i) ≡ false
  asks : (q : ℕ) → test (Ask q) ≡ false

module _ (test : Call → Bool) (question : ℕ) (u : Unasked test) (r : Record) (new : Crew) (n : ℕ)
    (A : List Address) where
  abbrev bad : ℕ → Call → Bool
  bad by c = test c

  abbrev go : ℕ → Call → Answer → Bool
  go by c a = is_go_answer question c a

  spared : Spared bad r.generation.image
  spared = record {
    forks = u.forks;
    awaits = u.awaits;
    kills = u.kills;
    gones = u.gones;
    counts = u.counts;
    moves = u.moves;
    spawns = u.spawns;
    terms = u.terms;
  }

  abbrev IsStep : Call → Type 0
  IsStep c = Always (Harmless bad go) (Any bad go) new.generation.image (Make c)

  joined-calls : (xs ys : List Call) → AllByRecursion IsStep xs → AllByRecursion IsStep ys → AllByRecursion IsStep
      (xs ++ ys)
  joined-calls [] ys a b = b
  joined-calls (x ∷ xs) ys a b = (a.0, joined-calls xs ys a.1 b)

  mapped : {X : Type 0} (f : X → Call) → ((x : X) → test (f x) ≡ false) → (xs : List X) → AllByRecursion IsStep
      (map f xs)
  mapped f h [] = tt
  mapped f h (x ∷ xs) = ((λ bs lacking. h x), mapped f h xs)

  part-new : Calm bad go (new_part new (addresses_of r) A n)
  part-new =
      let closes = map CloseAt (only_in (addresses_of r) A) in
      let opens = map OpenAt (only_in A (addresses_of r)) in
      let forks = map (fork_of new) (numbers_below n) in
      n-tries-all (Harmless bad go) (Any bad go) new.generation.image (new_calls new (addresses_of r) A n)
      (Ends JoinReady) (Ends JoinBack) (
        (λ bs lacking. u.adopts),
        joined-calls (closes ++ opens ++ forks) (map (AwaitReady new.generation) (numbers_below n))
            (joined-calls (closes ++ opens) forks
            (joined-calls closes opens (mapped CloseAt u.closes _) (mapped OpenAt u.opens _))
            (mapped (fork_of new) (λ k. u.forks _ _ _) (numbers_below n)))
            (mapped (AwaitReady new.generation) (λ k. u.awaits _ _) (numbers_below n)),
      ) tt tt

  abbrev Later : Tree → Type 0
  Later t = Shut bad go t

  back-later : Later (back_from r.generation.image new.generation.image (crew_of r) r.ready r.retries r.pid_path)
  back-later =
      closed bad go r new n A spared (back_from r.generation.image new.generation.image (crew_of r) r.ready r.retries
      r.pid_path) (from bad go r new n A spared)

  written : (o : Option FilePath) → AllByRecursion (λ c. bad new.generation.image c ≡ false) (pid_calls o WritePid)
  written None = tt
  written (Some path) = (u.writes path, tt)

  taken : Later (relieve true r.generation.image (crew_of r) new r.ready r.retries r.pid_path n) → Later
      (taken_over true r.generation.image (crew_of r) new r.ready r.retries r.pid_path n
      (back_from r.generation.image new.generation.image (crew_of r) r.ready r.retries r.pid_path))
  taken h =
      shut-tries bad go new.generation.image (pid_calls r.pid_path WritePid) _ _ (written r.pid_path)
      ((λ lacking. u.counts _), (inl h, (inl back-later, tt))) back-later

  asking : Later (relieve true r.generation.image (crew_of r) new r.ready r.retries r.pid_path n) →
      (turns : List Turn) →
      Later (upgrade_tree true r.generation.image (crew_of r) new r.ready r.retries r.pid_path r.note (addresses_of r) A
      n turns)
  asking h turns =
      whole bad go r new n A spared true turns
      (shut-weave bad go (Join bad go r new n A spared true) joins (new_part new (addresses_of r) A n) part-new turns
      (old_part r.generation.image (crew_of r) r.ready r.retries) (part-old bad go r new n A spared r.retries))
    where
      joins : (e : End) → Later (Join bad go r new n A spared true e)
      joins JoinReady = taken h
      joins _ = back-later

  goes : (a : Answer) → among (reply.Go ∷ []) (Rattle.definitions.specs.Run.reply_of [] a) ≡ true →
      is_go_answer question (Ask question) a ≡ true
  goes answer.Go e = eqb-refl question question refl
  goes a e = absurd (cc)

no-quits : Unasked (is_quit (λ g k. true))
no-quits = record {
  opens = λ a. refl;
  closes = λ a. refl;
  forks = λ g k fds. refl;
  awaits = λ g k. refl;
  kills = λ g k. refl;
  gones = λ g k. refl;
  counts = λ g. refl;
  adopts = refl;
  writes = λ path. refl;
  moves = λ from to. refl;
  spawns = λ i. refl;
  terms = λ i. refl;
  asks = λ q. refl;
}

no-leaves : Unasked is_leave_call
no-leaves = record {
  opens = λ a. refl;
  closes = λ a. refl;
  forks = λ g k fds. refl;
  awaits = λ g k. refl;
  kills = λ g k. refl;
  gones = λ g k. refl;
  counts = λ g. refl;
  adopts = refl;
  writes = λ path. refl;
  moves = λ from to. refl;
  spawns = λ i. refl;
  terms = λ i. refl;
  asks = λ q. refl;
}

-- at the first question, and at the second one
quits-later : (r : Record) (s : Settings) (turns : List Turn) → Shut (bad (is_quit (λ g k. true)) 1 no-quits r
    (crew_wanted r (Attended s)) s.workers s.listeners) (go (is_quit (λ g k. true)) 1 no-quits r
    (crew_wanted r (Attended s)) s.workers s.listeners) (plan_tree r (Attended s) turns)
quits-later r s turns =
    let new = crew_wanted r (Attended s) in
    asking (is_quit (λ g k. true)) 1 no-quits r new s.workers s.listeners (
      (λ lacking. refl),
      (
        inr (λ lacking a e. goes (is_quit (λ g k. true)) 1 no-quits r new s.workers s.listeners a e),
        (inl (back-later (is_quit (λ g k. true)) 1 no-quits r new s.workers s.listeners), tt),
      ),
    ) turns

leaves-later : (r : Record) (s : Settings) (turns : List Turn) → Shut (bad is_leave_call 2 no-leaves r
    (crew_wanted r (Attended s)) s.workers s.listeners) (go is_leave_call 2 no-leaves r
    (crew_wanted r (Attended s)) s.workers s.listeners) (plan_tree r (Attended s) turns)
leaves-later r s turns =
    let new = crew_wanted r (Attended s) in
    let test = bad is_leave_call 2 no-leaves r new s.workers s.listeners in
    let went = go is_leave_call 2 no-leaves r new s.workers s.listeners in
    let by = r.generation.image in
    asking is_leave_call 2 no-leaves r new s.workers s.listeners (
      (λ lacking. refl),
      (
        inl (shut-tells test went by (map (Quit r.generation) (reverse r.ready)) _ (all (reverse r.ready) r.generation)
            (shut-gone test went by r.generation (reverse r.ready) _ (λ k. refl) (λ k. refl) (
              (λ lacking. refl),
              (
                inr (λ lacking a e. goes is_leave_call 2 no-leaves r new s.workers s.listeners a e),
                (
                  inl (closed test went r new s.workers s.listeners (spared is_leave_call 2 no-leaves r new s.workers
                      s.listeners) (back_serving by new.generation.image (crew_of r) r.ready r.retries r.pid_path)
                      (serving test went r new s.workers s.listeners (spared is_leave_call 2 no-leaves r
                      new s.workers s.listeners))),
                  tt,
                ),
              ),
            ))),
        (inl (back-later is_leave_call 2 no-leaves r new s.workers s.listeners), tt),
      ),
    ) turns
  where
    all : (ks : List ℕ) (g : Generation) → AllByRecursion (λ c. is_leave_call c ≡ false) (map (Quit g) ks)
    all [] g = tt
    all (k ∷ ks) g = (refl, all ks g)

pub operators-are-asked : OperatorsAreAsked
operators-are-asked t r s turns pattern =
    let new = crew_wanted r (Attended s) in
    record {
      quits =
          shut-run (bad (is_quit (λ g k. true)) 1 no-quits r new s.workers s.listeners)
          (go (is_quit (λ g k. true)) 1 no-quits r new s.workers s.listeners) (handover_for r (Attended s)) pattern
          (plan_tree r (Attended s) turns) (start_at t r.note) (quits-later r s turns);
      leaves =
          shut-run (bad is_leave_call 2 no-leaves r new s.workers s.listeners)
          (go is_leave_call 2 no-leaves r new s.workers s.listeners) (handover_for r (Attended s)) pattern
          (plan_tree r (Attended s) turns) (start_at t r.note) (leaves-later r s turns);
    }
