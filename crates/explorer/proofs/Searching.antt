-- The tables that runs pass, one call after another.
use Rattle.std.proofs.Common.{◌≡◌, ◌<◌, ◌+◌, ℕ, Bool, List, [], ◌∷◌, ◌++◌, map, length, Option}
use Rattle.std.proofs.Common.{Some, None, refl, sym, ap, subst, ◌∙◌, arith, true, drop, get_or, inl, inr}
use Rattle.std.specs.Prelude.{Contains, ◌⊎◌}
use Rattle.std.specs.List.{AllByRecursion}
use Rattle.std.proofs.lemmas.List.Elements.{Contains-append_right}
use Rattle.definitions.specs.Table.{Table}
use Rattle.vocabulary.specs.declared.calls.Answer.{Answer}
use Rattle.vocabulary.specs.declared.targets.Target.{Target}
use Rattle.definitions.specs.Calls.{Handed, Name, after_exits, step_with}
use Rattle.definitions.specs.Master.{Record, handover_for}
use Rattle.definitions.specs.Plans.{Turn}
use Rattle.definitions.specs.Claims.{run_of}
use Rattle.definitions.specs.Run.{Tree, Ends, Does, Moment, Pattern, Progress, after_moment, start_at}
use Rattle.plan_walk.specs.Path.{IsOver, Trail, Asks}
use Rattle.plan_walk.specs.Course.{turns_of, trail_on}
use Rattle.plan_walk.specs.Walk.{AsksFor}
use Rattle.plan_walk.specs.declared.walk.Due.{Due}
use Rattle.explorer.specs.declared.branching.BranchPoint.{BranchPoint}
use Rattle.explorer.specs.declared.events.Event.{Event}
use Rattle.explorer.specs.declared.events.Mishap.{Mishap}
use Rattle.explorer.specs.declared.events.Mishap.TheVariants.{Exit, Fail}
use Rattle.explorer.specs.declared.events.Tried.TheVariants.{Nothing, One, Two}
use Rattle.explorer.specs.declared.events.Tried.{Tried}
use Rattle.explorer.specs.declared.findings.Findings.{Findings}
use Rattle.explorer.specs.declared.position.Position.{Position}
use Rattle.explorer.specs.Events.{pattern_of, with_mishap, event_at}
use Rattle.call_laws.specs.Pieces.{quiet}
use Rattle.explorer.specs.Positions.{rest_run, IsSameUpTo, IsAt, IsLater, IsStartOf, after_due, left, open_now, moment_of}
use Rattle.explorer.specs.Branching.{IsDue, pairs_here, runs_with, runs_with_all}
use Rattle.explorer.specs.Looking.{IsSameSo, IsSeenIn, IsLooked, IsLookedBetween, IsSeenBetween}
use Rattle.explorer.specs.Searched.{Subject, subject_of, passed_under, IsSeenAt, AreSeen, IsWider, HasSeen, IsOnward, AreSearched}
use Rattle.explorer.specs.Searched.{AreSearchedBehind, AreSearchedBeside, AreSearchedHere, AreSeenKnown, IsSeenKnown}
use Rattle.explorer.specs.Searched.{IsSeenPassed, ArePassedSeen}
use Rattle.explorer.specs.declared.known.Known.{Known}
use Rattle.explorer.specs.Known.{passes_by}
use Rattle.std.proofs.lemmas.List.{drop_more}
use Rattle.table_laws.proofs.Rows.{every-more, every-append}
use Rattle.explorer.proofs.Coming.{GoesOn, goes}
use Rattle.explorer.proofs.Later.{entry_of, elsewhere}
use Rattle.handover_text.specs.Reading.{handed_by}
use Rattle.explorer.specs.Explored.{all_tried, each_with_pairs, events_after}
use Rattle.explorer.specs.Readiness.{HaveAtLeast, low_after}
use Rattle.explorer.proofs.Keeping.{low-kept}
use Rattle.explorer.proofs.Meeting.{left-over}
use Rattle.explorer.proofs.Seeing.{widen, widen-runs, wider-on, wider-same, onward-looked, onward-on, onward-same}

---- Lists

pub every-join : {X : Type 0} (P : X → Type 0) (xs ys : List X) → AllByRecursion P xs → AllByRecursion P ys → AllByRecursion P (xs ++ ys)
every-join P [] ys all more = more
every-join P (x ∷ xs) ys all more = (all.0, every-join P xs ys all.1 more)

pub every-behind : {X : Type 0} (P : X → Type 0) (xs ys : List X) → AllByRecursion P (xs ++ ys) → AllByRecursion P ys
every-behind P [] ys all = all
every-behind P (x ∷ xs) ys all = every-behind P xs ys all.1

pub every-front : {X : Type 0} (P : X → Type 0) (xs ys : List X) → AllByRecursion P (xs ++ ys) → AllByRecursion P xs
every-front P [] ys all = tt
every-front P (x ∷ xs) ys all = (all.0, every-front P xs ys all.1)

first-there : {X : Type 0} (x : X) (xs : List X) → Contains (x ∷ xs) x
first-there x xs = (0, omega arith, refl)

pub joined-map : {X : Type 0} (P : Tried → Type 0) (f : X → Tried) (xs ys : List X) →
    AllByRecursion P (map f xs) → AllByRecursion P (map f ys) → AllByRecursion P (map f (xs ++ ys))
joined-map P f [] ys all more = more
joined-map P f (x ∷ xs) ys all more = (all.0, joined-map P f xs ys all.1 more)

---- What is left of a run

pub head-passed : (handed : Handed) (rest : Option Tree) (q : Pattern) (p : Progress) → (more : List Progress) × ((rest_run handed rest q p).passed ≡ p ∷ more)
head-passed handed None q p = ([], refl)
head-passed handed (Some (Ends end)) q p = ([], refl)
head-passed handed (Some (Does by order set branches)) q p = (_, refl)

over-passed : (handed : Handed) (rest : Option Tree) (q : Pattern) (p : Progress) → IsOver rest → (rest_run handed rest q p).passed ≡ p ∷ []
over-passed handed None q p over = refl
over-passed handed (Some (Ends end)) q p over = refl
over-passed handed (Some (Does by order set branches)) q p over = absurd over

pub same-subject : (before : Position) (due : Due) (m : Moment) (after : Position) → IsLater before due m after → subject_of after ≡ subject_of before
same-subject before due m after is = λ i. record { state = is.state i; target = is.target i; turns = is.turns i; table = (is.first i).table }

module _ (run : Position) (p : Progress) (at : IsAt run p) where
  abbrev handed : Handed
  handed = handover_for run.state.now run.target.now

  abbrev whole : Pattern → List Progress
  whole q = (run_of run.state.now run.target.now (turns_of run.course) q run.first.now.table).passed

  -- a run passes what is left of it
  left-there : (q : Pattern) → IsSameUpTo run.made (pattern_of run.tried) q → (x : Progress) →
      Contains (rest_run handed (trail_on run.course).rest q p).passed x → Contains (whole q) x
  left-there q same x there =
      let w = at.come.passes q same in
      subst (λ xs. Contains xs x) (sym w.1) (Contains-append_right w.0 (rest_run handed (trail_on run.course).rest q p).passed x there)

  pub left-seen : (P : Progress → Type 0) (q : Pattern) → IsSameUpTo run.made (pattern_of run.tried) q → AllByRecursion P (whole q) →
      AllByRecursion P (rest_run handed (trail_on run.course).rest q p).passed
  left-seen P q same all =
      let w = at.come.passes q same in
      every-behind P w.0 _ (subst (AllByRecursion P) w.1 all)

  pub here-there : (q : Pattern) → IsSameUpTo run.made (pattern_of run.tried) q → Contains (whole q) p
  here-there q same =
      let h = head-passed handed (trail_on run.course).rest q p in
      left-there q same p (subst (λ xs. Contains xs p) (sym h.1) (first-there p h.0))

  module _ (due : Due) (asks : AsksFor (trail_on run.course) due.by due.call) (m : Moment) where
    abbrev answer_here : Answer
    answer_here = (step_with handed due.by due.call m.fate (after_exits m.exits p.table)).answer

    on : GoesOn run.state.now run.target.now (trail_on run.course).rest p m (entry_of due answer_here)
    on = goes run.state.now run.target.now (trail_on run.course).rest p m (entry_of due answer_here)
        (subst (λ ks. Asks (trail_on run.course).rest ks (entry_of due answer_here)) (sym (ap (λ (t : Trail). t.lacked) at.trail)) (asks answer_here)) refl

    next : (q : Pattern) → q (run.made + 1) ≡ m → (more : List Progress) ×
        ((rest_run handed (trail_on run.course).rest q p).passed ≡ p ∷ after_moment m.exits p ∷ more)
    next q is = (_, on.passed q (ap (λ k. q (k + 1)) at.come.calls ∙ is))

    -- and what is between the exits of its next moment and the call
    pub middle-there : (q : Pattern) → IsSameUpTo run.made (pattern_of run.tried) q → q (run.made + 1) ≡ m → Contains (whole q) (after_moment m.exits p)
    middle-there q same is =
        let n = next q is in
        left-there q same (after_moment m.exits p) (subst (λ xs. Contains xs (after_moment m.exits p)) (sym n.1) (1, omega arith, refl))

    pub middle-seen : (P : Progress → Type 0) (q : Pattern) → IsSameUpTo run.made (pattern_of run.tried) q → q (run.made + 1) ≡ m →
        AllByRecursion P (whole q) → P (after_moment m.exits p)
    middle-seen P q same is all =
        let n = next q is in
        (subst (AllByRecursion P) n.1 (left-seen P q same all)).1.0

---- What was seen

pub seen-wider : (run : Position) (p : Progress) (a b : Findings) → IsWider a b → HasSeen run p a → HasSeen run p b
seen-wider run p a b is seen = λ later wide. seen later (wider-on a b later is wide)

pub seen-elsewhere : (run : Position) (p : Progress) (other : Tried) (found : Findings) →
    IsSameUpTo run.made (pattern_of run.tried) (pattern_of other) → HasSeen run p found → HasSeen (record run { tried = other }) p found
seen-elsewhere run p other found same seen = λ later wide q is. seen later wide q (λ m le. is m le ∙ same m le)

-- one call later
pub seen-later : (before : Position) (due : Due) (m : Moment) (after : Position) (p : Progress) (found : Findings) →
    IsAt before p → IsLater before due m after → pattern_of before.tried (before.made + 1) ≡ m →
    IsSeenAt found p → IsSeenAt found (after_moment m.exits p) → HasSeen before p found → HasSeen after (after_due before m p) found
seen-later before due m after p found at is moment here middle seen = λ later wide q same all.
    let up : IsSameUpTo before.made (pattern_of before.tried) q =
    λ n le. same n (omega (arith, le, is.made)) ∙ ap (λ (x : Tried). pattern_of x n) is.tried in
    let now : q (before.made + 1) ≡ m = same (before.made + 1) (omega (arith, is.made)) ∙ ap (λ (x : Tried). pattern_of x (before.made + 1)) is.tried ∙ moment in
    let rest : AllByRecursion (IsSeenAt later) (rest_run (handover_for before.state.now before.target.now) (trail_on after.course).rest q (after_due before m p)).passed =
    subst (λ (handed : Handed). AllByRecursion (IsSeenAt later) (rest_run handed (trail_on after.course).rest q (after_due before m p)).passed)
    (λ i. handover_for (is.state i) (is.target i)) all in
    let here' = widen found later p.table wide here in
    let middle' = widen found later (after_moment m.exits p).table wide middle in
    subst (λ (s : Subject). AllByRecursion (IsSeenAt later) (run_of s.state s.target s.turns q s.table).passed) (sym (same-subject before due m after is))
    (seen later wide q up (subst (AllByRecursion (IsSeenAt later)) (sym (is.passes p q at now)) (here', (middle', rest))))

-- at the end
pub seen-over : (run : Position) (p : Progress) (found : Findings) → IsOver (trail_on run.course).rest → IsWider found found →
    IsSeenAt found p → HasSeen run p found → AreSeen (subject_of run) found (run.tried ∷ [])
seen-over run p found over wide here seen = (
  seen found wide (pattern_of run.tried) (λ m le. refl)
      (subst (AllByRecursion (IsSeenAt found)) (sym (over-passed (handover_for run.state.now run.target.now) (trail_on run.course).rest (pattern_of run.tried) p over)) (here, tt)),
  tt,
)

---- A table on the way

-- What is found in the table here is found in the run.
pub onward-here : (run : Position) (p : Progress) (a b : Findings) → IsAt run p → IsLooked run.kernel.table run.tried run.made a b →
    IsOnward (subject_of run) a b
onward-here run p a b at is =
    onward-looked (subject_of run) p run.tried a b (here-there run p at (pattern_of run.tried) (λ m le. refl))
    (subst (λ n. IsLooked p.table run.tried n a b) (sym at.come.calls) (subst (λ (t : Table). IsLooked t run.tried run.made a b) (sym at.table) is))

-- What is found between exits and their call is found in the run in which they come so.
pub onward-between : (run : Position) (p : Progress) (due : Due) (m : Moment) (other : Tried) (a b : Findings) → IsAt run p →
    AsksFor (trail_on run.course) due.by due.call → IsSameUpTo run.made (pattern_of run.tried) (pattern_of other) →
    pattern_of other (run.made + 1) ≡ m → IsLooked (after_exits m.exits run.kernel.table) other run.made a b → IsOnward (subject_of run) a b
onward-between run p due m other a b at asks same moment is =
    onward-looked (subject_of run) (after_moment m.exits p) other a b (middle-there run p at due asks m (pattern_of other) same moment)
    (subst (λ n. IsLooked (after_exits m.exits p.table) other n a b) (sym at.come.calls)
    (subst (λ (t : Table). IsLooked (after_exits m.exits t) other run.made a b) (sym at.table) is))

---- Steps of a search

-- What is found of a run stays, where nothing else is found behind it.
pub reported : (run : Position) (p : Progress) (runs : List Tried) (a b c : Findings) → AreSearched run p runs a b → IsSameSo b c → AreSearched run p runs a c
reported run p runs a b c is same = record {
  onward = onward-on (subject_of run) a b c is.onward (onward-same (subject_of run) b c same);
  seen = λ before. widen-runs (subject_of run) b c runs (wider-same b c same) (is.seen before);
}

pub wider-itself : (a : Findings) → IsWider a a
wider-itself a = record { common = refl; fewer = omega arith; more = λ n le. le }

-- Once the tables of the runs that are left are seen, those of all are.
abbrev pub OnceSeen : Subject → Findings → List Tried → List Tried → Type 0
OnceSeen s found rest all = (later : Findings) → IsWider found later → AreSeen s later rest → AreSeen s later all

pub once-started : (s : Subject) (found : Findings) (all : List Tried) → OnceSeen s found all all
once-started s found all = λ later wide seen. seen

pub once-turned : (s : Subject) (a b : Findings) (xs ys all : List Tried) → IsWider a b → AreSeen s b xs → OnceSeen s a (xs ++ ys) all → OnceSeen s b ys all
once-turned s a b xs ys all is seen once = λ later wide more.
    once later (wider-on a b later is wide) (every-join (λ tried. AllByRecursion (IsSeenAt later) (passed_under s tried)) xs ys (widen-runs s b later xs wide seen) more)

pub once-over : (s : Subject) (found : Findings) (all : List Tried) → OnceSeen s found [] all → AreSeen s found all
once-over s found all once = once found (wider-itself found) tt

-- The run has come here, and what it passed on the way was looked at, with the runs that branch off.
pub record IsOnWay (start : Position) (p : Progress) (last : Option Event) (runs : List Event → List Tried) (before : Findings)
    (run : Position) (found : Findings) : Type 0 where
  pub here : Progress
  pub at : IsAt run here
  pub onward : IsOnward (subject_of start) before found
  pub seen : HasSeen start p before → HasSeen run here found
  pub once : HasSeen start p before → OnceSeen (subject_of start) found (runs (left run here last)) (runs (left start p last))

-- How events make runs: those of two lists are those of the one, and then those of the other.
abbrev pub Splits : (List Event → List Tried) → Type 0
Splits runs = (xs ys : List Event) → runs (xs ++ ys) ≡ runs xs ++ runs ys

-- What a turn of the loop over the calls finds.
pub record IsTurn (start : Position) (p : Progress) (last : Option Event) (runs : List Event → List Tried) (before : Findings)
    (run : Position) (due : Due) (q : Progress) (looked counted : Findings) : Type 0 where
  pub onward : IsOnward (subject_of run) looked counted
  pub seen : HasSeen start p before → HasSeen run q looked → IsSeenAt looked q → AreSeen (subject_of run) counted (runs (open_now run due quiet last))

module _ (start : Position) (last : Option Event) (runs : List Event → List Tried) (splits : Splits runs) where
  -- a turn of the loop over the calls
  pub way-turned : (run after : Position) (due : Due) (p : Progress) (before found looked counted : Findings) →
      IsLater run due quiet after → pattern_of run.tried (run.made + 1) ≡ quiet → subject_of run ≡ subject_of start →
      IsLooked run.kernel.table run.tried run.made found looked → IsSeenIn looked run.kernel.table →
      ((q : Progress) → IsAt run q → IsTurn start p last runs before run due q looked counted) →
      IsOnWay start p last runs before run found → IsOnWay start p last runs before after counted
  way-turned run after due p before found looked counted is moment same look seen turn way =
      let q = way.here in
      let now = turn q way.at in
      let on = onward-here run q found looked way.at look in
      let here : IsSeenAt looked q = subst (IsSeenIn looked) (sym way.at.table) seen in
      let onto = after_due run quiet q in
      record {
        here = onto;
        at = is.at q way.at;
        onward = onward-on (subject_of start) before found counted way.onward
            (subst (λ s. IsOnward s found counted) same (onward-on (subject_of run) found looked counted on now.onward));
        seen = λ first.
            let so = seen-wider run q found looked on.wider (way.seen first) in
            seen-wider after onto looked counted now.onward.wider (seen-later run due quiet after q looked way.at is moment here here so);
        once = λ first.
            let so = seen-wider run q found looked on.wider (way.seen first) in
            once-turned (subject_of start) found counted (runs (open_now run due quiet last)) (runs (left after onto last)) (runs (left start p last))
            (wider-on found looked counted on.wider now.onward.wider)
            (subst (λ s. AreSeen s counted (runs (open_now run due quiet last))) same (now.seen first so here))
            (subst (λ rest. OnceSeen (subject_of start) found rest (runs (left start p last)))
            (ap runs (is.left q last way.at) ∙ splits (open_now run due quiet last) (left after onto last)) (way.once first));
      }

  -- nothing is left behind the last call
  pub way-over : (run : Position) (p : Progress) (before found : Findings) → IsOver (trail_on run.course).rest → runs [] ≡ [] →
      IsOnWay start p last runs before run found → AreSearched start p (runs (left start p last)) before found
  way-over run p before found ends none way = record {
    onward = way.onward;
    seen = λ first. once-over (subject_of start) found (runs (left start p last))
        (subst (λ rest. OnceSeen (subject_of start) found rest (runs (left start p last))) (ap runs (left-over run way.here last ends) ∙ none) (way.once first));
  }

---- Runs that branch off

between-onward : (point : BranchPoint) (p : Progress) (gone : Option Name) (mishap : Mishap) (other : Tried) (a b : Findings) →
    IsAt point.run.now p → IsDue point → IsSameUpTo point.run.now.made (pattern_of point.run.now.tried) (pattern_of other) →
    pattern_of other (point.run.now.made + 1) ≡ with_mishap mishap (moment_of gone) → IsLookedBetween point gone mishap other a b →
    IsOnward (subject_of point.run.now) a b
between-onward point p None (Exit name process) other a b at due same moment is =
    onward-between point.run.now p point.due.now (with_mishap (Exit name process) (moment_of None)) other a b at due same moment is
between-onward point p (Some gone) (Exit name process) other a b at due same moment is =
    onward-between point.run.now p point.due.now (with_mishap (Exit name process) (moment_of (Some gone))) other a b at due same moment is
between-onward point p leaves (Fail failure) other a b at due same moment is = onward-same (subject_of point.run.now) a b is

between-seen : (point : BranchPoint) (p : Progress) (gone : Option Name) (mishap : Mishap) (b : Findings) → IsAt point.run.now p →
    IsSeenAt b (after_moment (moment_of gone).exits p) → IsSeenBetween point gone mishap b →
    IsSeenAt b (after_moment (with_mishap mishap (moment_of gone)).exits p)
between-seen point p None (Exit name process) b at before is =
    subst (λ (t : Table). IsSeenIn b (after_exits (name ∷ []) t)) (sym at.table) is
between-seen point p (Some gone) (Exit name process) b at before is =
    subst (λ (t : Table). IsSeenIn b (after_exits (gone ∷ name ∷ []) t)) (sym at.table) is
between-seen point p leaves (Fail failure) b at before is = before

-- The run with this mishap at the call, looked at between its exits and its call, and carried out from there on.
pub branched : (point : BranchPoint) (p : Progress) (gone : Option Name) (mishap : Mishap) (other : Tried) (branch : Position)
    (a mid end : Findings) → IsAt point.run.now p → IsDue point →
    IsSameUpTo point.run.now.made (pattern_of point.run.now.tried) (pattern_of other) →
    pattern_of other (point.run.now.made + 1) ≡ with_mishap mishap (moment_of gone) →
    IsLater (record point.run.now { tried = other }) point.due.now (with_mishap mishap (moment_of gone)) branch →
    IsLookedBetween point gone mishap other a mid → IsSeenBetween point gone mishap mid →
    AreSearched branch (after_due (record point.run.now { tried = other }) (with_mishap mishap (moment_of gone)) p) (branch.tried ∷ []) mid end →
    AreSearchedBehind point.run.now p gone (other ∷ []) a end
branched point p gone mishap other branch a mid end at due same moment is look between search =
    let run = point.run.now in
    let m = with_mishap mishap (moment_of gone) in
    let there = record run { tried = other } in
    let first = between-onward point p gone mishap other a mid at due same moment look in
    let subject = same-subject there point.due.now m branch is in
    record {
      onward = onward-on (subject_of run) a mid end first (subst (λ s. IsOnward s mid end) subject search.onward);
      seen = λ before here behind.
          let middle = between-seen point p gone mishap mid at (widen a mid (after_moment (moment_of gone).exits p).table first.wider behind) between in
          let up = seen-elsewhere run p other mid same (seen-wider run p a mid first.wider before) in
          let done = search.seen (seen-later there point.due.now m branch p mid (elsewhere run p other same at) is moment (widen a mid p.table first.wider here) middle up) in
          subst (λ (x : Tried). AreSeen (subject_of run) end (x ∷ [])) is.tried (subst (λ s. AreSeen s end (branch.tried ∷ [])) subject done);
    }

-- without an exit before
pub branched-here : (point : BranchPoint) (p : Progress) (runs : List Tried) (a b : Findings) → AreSearchedBehind point.run.now p None runs a b →
    AreSearchedHere point p runs a b
branched-here point p runs a b is = record { onward = is.onward; seen = λ before here known. is.seen before here here }

-- The run that is known: each of its tables was seen already.
pub known-searched : (point : BranchPoint) (p : Progress) (event : Event) (a end : Findings) → IsSameSo a end →
    (AreSeenKnown point a → AreSeen (subject_of point.run.now) a (One event ∷ [])) → AreSearchedHere point p (One event ∷ []) a end
known-searched point p event a end same known =
    let s = subject_of point.run.now in
    let on = onward-same s a end same in
    record { onward = on; seen = λ before here is. widen-runs s a end (One event ∷ []) on.wider (known is) }

---- A run from its start on

pub started : (t : Table) (r : Record) (to : Target) (turns : List Turn) (run : Position) (found : Findings) → IsStartOf t r to turns run →
    HasSeen run (start_at t r.note) found
started t r to turns run found is = λ later wide q same all.
    let rest = subst (λ (handed : Handed). AllByRecursion (IsSeenAt later) (rest_run handed (trail_on run.course).rest q (start_at t r.note)).passed)
    (λ i. handover_for (is.of.state i) (is.of.target i)) all in
    subst (λ (s : Subject). AllByRecursion (IsSeenAt later) (run_of s.state s.target s.turns q s.table).passed)
    (λ i. record { state = sym is.of.state i; target = sym is.of.target i; turns = sym is.of.turns i; table = sym is.of.first i })
    (subst (AllByRecursion (IsSeenAt later)) (sym (is.whole q)) rest)

---- Pairs with a first event

-- Behind a first event, all of whose run was seen: what was seen up to its call was seen up to the next one.
pub seen-behind : (point : BranchPoint) (p : Progress) (mishap : Mishap) (first : Event) (behind : Position) (a b : Findings) → IsAt point.run.now p → IsDue point →
    IsSameUpTo point.run.now.made (pattern_of point.run.now.tried) (pattern_of (One first)) →
    pattern_of (One first) (point.run.now.made + 1) ≡ with_mishap mishap quiet →
    IsLater (record point.run.now { tried = One first }) point.due.now (with_mishap mishap quiet) behind → IsWider a b →
    HasSeen point.run.now p a → IsSeenAt a p → AreSeen (subject_of point.run.now) b (One first ∷ []) →
    HasSeen behind (after_due (record point.run.now { tried = One first }) (with_mishap mishap quiet) p) b
seen-behind point p mishap first behind a b at due same moment is wide seen here all =
    let run = point.run.now in
    let m = with_mishap mishap quiet in
    seen-later (record run { tried = One first }) point.due.now m behind p b (elsewhere run p (One first) same at) is moment (widen a b p.table wide here)
    (middle-seen run p at point.due.now due m (IsSeenAt b) (pattern_of (One first)) same moment all.0)
    (seen-elsewhere run p (One first) b same (seen-wider run p a b wide seen))

-- A run with its first event, then the pairs at the call of it, and then those behind: each was looked at.
pub with-pairs : (point : BranchPoint) (p : Progress) (first : Event) (here late : List Event) (a b c d : Findings) →
    AreSearchedHere point p (One first ∷ []) a b → AreSearchedBeside point.run.now p (One first) (map (Two first) here) b c →
    IsOnward (subject_of point.run.now) c d →
    (HasSeen point.run.now p a → IsSeenAt a p → AreSeen (subject_of point.run.now) c (One first ∷ []) → AreSeen (subject_of point.run.now) d (map (Two first) late)) →
    AreSearchedHere point p (One first ∷ map (Two first) (here ++ late)) a d
with-pairs point p first here late a b c d one beside on later =
    let run = point.run.now in
    let s = subject_of run in
    record {
      onward = onward-on s a b d one.onward (onward-on s b c d beside.onward on);
      seen = λ seen at known.
          let all = one.seen seen at known in
          let wide = one.onward.wider in
          let pairs = beside.seen (seen-wider run p a b wide seen) (widen a b p.table wide at) all in
          let on-all = widen-runs s b c (One first ∷ []) beside.onward.wider all in (
            (widen-runs s c d (One first ∷ []) on.wider on-all).0,
            joined-map (λ tried. AllByRecursion (IsSeenAt d) (passed_under s tried)) (Two first) here late
                (widen-runs s c d (map (Two first) here) on.wider pairs) (later seen at on-all),
          );
    }

-- What is counted of a run finds nothing.
pub reported-here : (point : BranchPoint) (p : Progress) (runs : List Tried) (a b c : Findings) → AreSearchedHere point p runs a b → IsSameSo b c →
    AreSearchedHere point p runs a c
reported-here point p runs a b c is same = record {
  onward = onward-on (subject_of point.run.now) a b c is.onward (onward-same (subject_of point.run.now) b c same);
  seen = λ seen here known. widen-runs (subject_of point.run.now) b c runs (wider-same b c same) (is.seen seen here known);
}

pub widen-known : (point : BranchPoint) (a b : Findings) → IsWider a b → AreSeenKnown point a → AreSeenKnown point b
widen-known point a b wide all =
    every-more (IsSeenKnown (subject_of point.run.now) a (point.run.now.made + 1)) (IsSeenKnown (subject_of point.run.now) b (point.run.now.made + 1))
    (λ k seen. widen-runs (subject_of point.run.now) a b (One (event_at (point.run.now.made + 1) (Exit k.name k.process)) ∷ []) wide seen) point.known.now all

---- A run that is carried out to its end

-- The run has come here, and each table up to this one is seen.
pub record IsFinishing (start : Position) (p : Progress) (before : Findings) (run : Position) (found : Findings) : Type 0 where
  pub here : Progress
  pub at : IsAt run here
  pub onward : IsOnward (subject_of start) before found
  pub shown : IsSeenAt found here
  pub seen : HasSeen start p before → HasSeen run here found

pub finish-begun : (start : Position) (p : Progress) (a b : Findings) → IsAt start p → IsLooked start.kernel.table start.tried start.made a b →
    IsSeenIn b start.kernel.table → IsFinishing start p a start b
finish-begun start p a b at is seen = record {
  here = p;
  at = at;
  onward = onward-here start p a b at is;
  shown = subst (IsSeenIn b) (sym at.table) seen;
  seen = λ before. seen-wider start p a b (onward-here start p a b at is).wider before;
}

pub finish-turned : (start : Position) (p : Progress) (before : Findings) (run : Position) (due : Due) (after : Position) (a b : Findings) →
    IsLater run due quiet after → pattern_of run.tried (run.made + 1) ≡ quiet → subject_of run ≡ subject_of start →
    IsLooked after.kernel.table after.tried after.made a b → IsSeenIn b after.kernel.table → IsFinishing start p before run a →
    IsFinishing start p before after b
finish-turned start p before run due after a b is moment same look table way =
    let q = way.here in
    let onto = after_due run quiet q in
    let at = is.at q way.at in
    let on = onward-here after onto a b at look in
    record {
      here = onto;
      at = at;
      onward = onward-on (subject_of start) before a b way.onward
          (subst (λ s. IsOnward s a b) (same-subject run due quiet after is ∙ same) on);
      shown = subst (IsSeenIn b) (sym at.table) table;
      seen = λ first. seen-wider after onto a b on.wider (seen-later run due quiet after q a way.at is moment way.shown way.shown (way.seen first));
    }

pub finished : (start : Position) (p : Progress) (before : Findings) (run : Position) (found : Findings) → IsOver (trail_on run.course).rest →
    subject_of run ≡ subject_of start → run.tried ≡ start.tried → IsFinishing start p before run found →
    AreSearched start p (start.tried ∷ []) before found
finished start p before run found over same tried way = record {
  onward = way.onward;
  seen = λ first.
      subst (λ (x : Tried). AreSeen (subject_of start) found (x ∷ [])) tried
      (subst (λ s. AreSeen s found (run.tried ∷ [])) same (seen-over run way.here found over (wider-itself found) way.shown (way.seen first)));
}

pub low-turned : (run : Position) (due : Due) (after : Position) (found : Findings) (low : ℕ) → IsLater run due quiet after →
    HaveAtLeast found.common.items run.kernel.table low → HaveAtLeast found.common.items after.kernel.table (low_after due.call low)
low-turned run due after found low is has =
    subst (λ (t : Table). HaveAtLeast found.common.items t (low_after due.call low)) (sym is.table)
    (low-kept (handed_by run.text.now) due.by due.call run.kernel.table low found.common.items has)

---- All of it

-- Each table of each run is seen.
pub record IsWhole (s : Subject) (pairs : Bool) (before after : Findings) : Type 0 where
  pub onward : IsOnward s before after
  pub seen : AreSeen s after (all_tried s.state s.target s.turns s.table pairs)

pub explored : (t : Table) (r : Record) (to : Target) (turns : List Turn) (pairs : Bool) (whole run : Position) (a b c : Findings) →
    IsStartOf t r to turns whole → IsStartOf t r to turns run →
    AreSearched whole (start_at t r.note) (whole.tried ∷ []) a b →
    AreSearched run (start_at t r.note) (each_with_pairs run.state.now run.target.now (turns_of run.course) run.first.now.table pairs (left run (start_at t r.note) None)) b c →
    IsWhole (record { state = r; target = to; turns = turns; table = t }) pairs a c
explored t r to turns pairs whole run a b c w is quiet more =
    let s : Subject = record { state = r; target = to; turns = turns; table = t } in
    let first : subject_of whole ≡ s = λ i. record { state = w.of.state i; target = w.of.target i; turns = w.of.turns i; table = w.of.first i } in
    let second : subject_of run ≡ s = λ i. record { state = is.of.state i; target = is.of.target i; turns = is.of.turns i; table = is.of.first i } in
    let on : IsOnward s b c = subst (λ x. IsOnward x b c) second more.onward in
    let one : AreSeen s b (Nothing ∷ []) = subst (λ (x : Tried). AreSeen s b (x ∷ [])) w.tried (subst (λ x. AreSeen x b (whole.tried ∷ [])) first (quiet.seen (started t r to turns whole a w))) in
    let rest : AreSeen s c (each_with_pairs r to turns t pairs (events_after r to turns t Nothing)) =
    subst (λ (es : List Event). AreSeen s c (each_with_pairs r to turns t pairs es)) is.meets
    (subst (λ x. AreSeen x c (each_with_pairs x.state x.target x.turns x.table pairs (left run (start_at t r.note) None))) second (more.seen (started t r to turns run b is))) in
    record {
      onward = onward-on s a b c (subst (λ x. IsOnward x a b) first quiet.onward) on;
      seen = ((widen-runs s b c (Nothing ∷ []) on.wider one).0, rest);
    }

---- Turns of the loops over what can go wrong

-- The pairs up to the i-th mishap were looked at.
pub record PairsSoFar (point : BranchPoint) (p : Progress) (gone : Option Name) (first : Event) (ms : List Mishap) (i : ℕ) (a b : Findings) : Type 0 where
  pub onward : IsOnward (subject_of point.run.now) a b
  pub once : HasSeen point.run.now p a → IsSeenAt a p → IsSeenAt a (after_moment (moment_of gone).exits p) →
      OnceSeen (subject_of point.run.now) b (pairs_here point first (drop i ms)) (pairs_here point first ms)

pub pairs-turned : (point : BranchPoint) (p : Progress) (gone : Option Name) (first : Event) (ms : List Mishap) (i : ℕ) (d : Mishap) (a b c : Findings) →
    i < length ms → AreSearchedBehind point.run.now p gone (pairs_here point first (get_or ms i d ∷ [])) b c →
    PairsSoFar point p gone first ms i a b → PairsSoFar point p gone first ms (i + 1) a c
pairs-turned point p gone first ms i d a b c within turn kept =
    let s = subject_of point.run.now in
    let wide = kept.onward.wider in
    record {
      onward = onward-on s a b c kept.onward turn.onward;
      once = λ seen here behind.
          let found = turn.seen (seen-wider point.run.now p a b wide seen) (widen a b p.table wide here) (widen a b (after_moment (moment_of gone).exits p).table wide behind) in
          once-turned s b c (pairs_here point first (get_or ms i d ∷ [])) (pairs_here point first (drop (i + 1) ms)) (pairs_here point first ms) turn.onward.wider found
          (subst (λ (xs : List Mishap). OnceSeen s b (pairs_here point first xs) (pairs_here point first ms)) (drop_more ms i d within) (kept.once seen here behind));
    }

-- The runs with each mishap up to the i-th one first were looked at.
pub record FirstsSoFar (point : BranchPoint) (p : Progress) (pairs : Bool) (ms : List Mishap) (i : ℕ) (a b : Findings) (next : List Known) : Type 0 where
  pub onward : IsOnward (subject_of point.run.now) a b
  pub once : HasSeen point.run.now p a → IsSeenAt a p → AreSeenKnown point a →
      OnceSeen (subject_of point.run.now) b (runs_with_all point pairs (drop i ms)) (runs_with_all point pairs ms)
  pub passed : ArePassedSeen point p a b next

-- What is known at the next call is the same as before, or that and this run.
abbrev pub IsNext : BranchPoint → Mishap → List Known → List Known → Type 0
IsNext point m before after =
    ((k : Known) × (passes_by point.due.now.call k.name ≡ true) × (m ≡ Exit k.name k.process) × (after ≡ before ++ k ∷ [])) ⊎ (after ≡ before)

next-passed : (point : BranchPoint) (m : Mishap) (c : Findings) (before after : List Known) →
    AreSeen (subject_of point.run.now) c (One (event_at (point.run.now.made + 1) m) ∷ []) →
    AllByRecursion (IsSeenPassed point.run.now point.due.now.call c) before → IsNext point m before after →
    AllByRecursion (IsSeenPassed point.run.now point.due.now.call c) after
next-passed point m c before after seen all (inl (k, passes, is, more)) =
    subst (AllByRecursion (IsSeenPassed point.run.now point.due.now.call c)) (sym more)
    (every-append (IsSeenPassed point.run.now point.due.now.call c) before k all
    (passes, subst (λ (x : Mishap). AreSeen (subject_of point.run.now) c (One (event_at (point.run.now.made + 1) x) ∷ [])) is seen))
next-passed point m c before after seen all (inr same) = subst (AllByRecursion (IsSeenPassed point.run.now point.due.now.call c)) (sym same) all

pub firsts-turned : (point : BranchPoint) (p : Progress) (pairs : Bool) (ms : List Mishap) (i : ℕ) (d : Mishap) (a b c : Findings) (before after : List Known) →
    i < length ms → AreSearchedHere point p (runs_with point pairs (get_or ms i d)) b c → IsNext point (get_or ms i d) before after →
    FirstsSoFar point p pairs ms i a b before → FirstsSoFar point p pairs ms (i + 1) a c after
firsts-turned point p pairs ms i d a b c before after within turn next kept =
    let s = subject_of point.run.now in
    let wide = kept.onward.wider in
    let found : HasSeen point.run.now p a → IsSeenAt a p → AreSeenKnown point a → AreSeen s c (runs_with point pairs (get_or ms i d)) =
    λ seen here all. turn.seen (seen-wider point.run.now p a b wide seen) (widen a b p.table wide here) (widen-known point a b wide all) in
    record {
      onward = onward-on s a b c kept.onward turn.onward;
      once = λ seen here all.
          once-turned s b c (runs_with point pairs (get_or ms i d)) (runs_with_all point pairs (drop (i + 1) ms)) (runs_with_all point pairs ms) turn.onward.wider (found seen here all)
          (subst (λ (xs : List Mishap). OnceSeen s b (runs_with_all point pairs xs) (runs_with_all point pairs ms)) (drop_more ms i d within) (kept.once seen here all));
      passed = λ seen here all.
          next-passed point (get_or ms i d) c before after ((found seen here all).0, tt)
          (every-more (IsSeenPassed point.run.now point.due.now.call b) (IsSeenPassed point.run.now point.due.now.call c)
          (λ k so. (so.0, widen-runs s b c (One (event_at (point.run.now.made + 1) (Exit k.name k.process)) ∷ []) turn.onward.wider so.1)) before (kept.passed seen here all)) next;
    }
