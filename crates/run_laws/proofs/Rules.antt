-- A rule for each piece of a plan of one master.
use Rattle.std.proofs.Common.{◌≡◌, ◌≢◌, ℕ, zero, suc, ◌+◌, ◌<◌, ◌≤◌, Bool, true, false, cond, not, List, [], ◌∷◌, ◌++◌}
use Rattle.std.proofs.Common.{length, Option, Some, None, refl, sym, ap, ◌∙◌, subst, arith, ◌⊎◌, inl, inr, ⊎_elim}
use Rattle.std.proofs.Common.{nat_lt}
use Rattle.std.specs.List.{filter_map, list_any}
use Rattle.std.specs.Prelude.{if◌then◌else◌, count_by, filter, ◌&&◌, ◌||◌, ◌==◌, ⊤, is_some}
use Rattle.vocabulary.specs.declared.table.Limits.{Limits}
use Rattle.definitions.specs.Table.{same_generation, has_address, Hold, Process, Master, Worker, Foreign, File, Table}
use Rattle.definitions.specs.Table.{bears, Caller, is_worker, is_active, Address}
use Rattle.call_laws.specs.Pieces.{with_rows, is_ready, is_starting, is_exited, is_any, is_at, made_ready}
use Rattle.call_laws.specs.Pieces.{made_draining, lacks_address, with_new_socket, is_row, full_or_short, gone_edges}
use Rattle.call_laws.specs.Pieces.{usr1s, kills, fork_edges, await_edges, census_edges, census, quits, first_cause}
use Rattle.call_laws.specs.Pieces.{lowest, is_ready_with, answered, lacked_last, went_wrong}
use Rattle.vocabulary.specs.declared.table.Stance.TheVariants.{Starting}
use Rattle.listener_set.specs.declared.generation.Generation.{Generation}
use Rattle.definitions.specs.Calls.{Stepped, gives, step_by, own_step, with_new_row, shared, each_row, is_exited_of}
use Rattle.definitions.specs.Calls.{drop_where, census_of, is_of, with_holds, lowest_free, put_hold, is_active_worker}
use Rattle.definitions.specs.Calls.{change, losses_of, all_exited, after_exits}
use Rattle.vocabulary.specs.declared.calls.Fate.{Fate}
use Rattle.vocabulary.specs.declared.names.Name.{Name}
use Rattle.vocabulary.specs.declared.calls.Call.{Call}
use Rattle.vocabulary.specs.declared.calls.Call.TheVariants.{AwaitGone, Fork, AwaitReady, Quit, Kill, Census, CloseAt, OpenAt, Usr1}
use Rattle.vocabulary.specs.declared.calls.Answer.TheVariants.{IsReady, Gone, Opened, Counted as Told}
use Rattle.definitions.specs.Run.{Tree, Branches, Ends, Does, Nothing, call_of, reply_of, Progress, Return}
use Rattle.definitions.specs.Run.{after_moment, after_call, Ending, At, Lack, lacked_by, newest_of_others, lacked_after}
use Rattle.listener_set.specs.Numbers.{is_in, lacks}
use Rattle.definitions.specs.Plans.{awaits_gone, on, forks_any, awaits_any, then_edge, does, forks, awaits, starts}
use Rattle.definitions.specs.Plans.{settle, round, full_end, short_end, await_any_edges}
use Rattle.vocabulary.specs.declared.plans.Side.{Side}
use Rattle.vocabulary.specs.declared.plans.Order.{Order}
use Rattle.vocabulary.specs.declared.plans.Order.TheVariants.{Make, ForkLacking, AwaitLacking, KillLacking}
use Rattle.vocabulary.specs.declared.calls.Reply.{Reply}
use Rattle.vocabulary.specs.declared.calls.Reply.TheVariants as reply
use Rattle.vocabulary.specs.declared.plans.PidNote.{PidNote}
use Rattle.definitions.specs.Claims.{names_any}
use Rattle.definitions.specs.Master.{Crew, fds_of, fork_of}
use Rattle.run_laws.proofs.Refusals.{is_leave}
use Rattle.vocabulary.specs.declared.calls.Reply.TheVariants as reply
use Rattle.table_laws.proofs.Rows.{one, weigh, weigh-le-all, count-weigh, both-true, or-left, or-right}
use Rattle.call_laws.proofs.Choices.{and-left, and-right}
use Rattle.table_laws.proofs.Views.{HoldsShare, Names, named, View, Once, Looks, live_any, ready_in, finds, eqb-is, eqb-refl, eqb-off}
use Rattle.table_laws.proofs.Exits.{Spares, spares-each, shrinks}
use Rattle.table_laws.proofs.Effects.{same-is, Allows, Mine, mine-worker, mine-exited, StaysOther, ready-stays}
use Rattle.table_laws.proofs.Effects.{draining-stays, none, looks-allows, fork-looks, fork-weigh, await-looks}
use Rattle.table_laws.proofs.Effects.{await-gains, gone-looks, gone-weigh, kill-looks, kill-weigh, quit-looks}
use Rattle.table_laws.proofs.Effects.{quit-weigh, bears-is, bears-refl, same-refl, cut-weigh, after_close, cut-looks}
use Rattle.table_laws.proofs.Effects.{after_open, close-weigh, close-looks, mine-of, holds-stay, open-weigh, unheld}
use Rattle.table_laws.proofs.Effects.{open-looks, mine-row}
use Rattle.table_laws.proofs.Counts.{census-looks, census-weigh, census-in, Counted, counted, counted-all, Distinct, filter-distinct}
use Rattle.table_laws.proofs.Sets.{in-here, in-there, in-cases, in-filter-of, every-in, weigh-either, weigh-set, weigh-part}
use Rattle.table_laws.proofs.Small.{or-elim}
use Rattle.table_laws.proofs.Services.{ready-floor}
use Rattle.table_laws.proofs.After.{census-exact}
use Rattle.run_laws.proofs.Logic.{Unasked, Exiting, Anyhow, Course, course_after, Along, Behind}
use Rattle.call_laws.proofs.Cases.{Unfailing, fork-cases, await-cases, unfailing, open-cases, gone-cases}

-- the edges of an open, and of a fork that goes on whatever is answered
abbrev open_edges : Tree → Tree → Branches
open_edges ok bad =
    on (reply.Opened ∷ []) ok (on (reply.InUse ∷ reply.TooMany ∷ reply.Denied ∷ reply.NoMemory ∷ []) bad Nothing)

abbrev fork_any_edges : Tree → Branches
fork_any_edges next = on (reply.Forked ∷ reply.Again ∷ reply.NoMemory ∷ []) next Nothing

-- the view with these names
abbrev pub view : View → Names → Names → View
view u s r = record { number = u.number; others = u.others; image = u.image; holds = u.holds; starting = s; ready = r; held = u.held }

abbrev pub any : Names
any g k = true

abbrev pub plus : Names → Generation → ℕ → Names
plus r g x h k = r h k || bears g x h k

abbrev pub minus : Names → Generation → ℕ → Names
minus r g x h k = r h k && not (bears g x h k)

abbrev pub seen : Names → Generation → List ℕ → Names
seen r g cs h k = r h k && (is_in cs k || not (same_generation h g))

abbrev pub ready_of : View → Names → Progress → ℕ
ready_of u t p = weigh (ready_in u.number t) p.table.rows

sub-one : (a b d e : Bool) → (d ≡ true → e ≡ true) → one (a && (b && d)) ≤ one (a && (b && e))
sub-one true true true e h = omega (arith, ap one (h refl))
sub-one true true false e h = omega arith
sub-one true false d e h = omega arith
sub-one false b d e h = omega arith

abbrev pub Sub : Names → Names → Type 0
Sub t t' = (g : Generation) (k : ℕ) → t g k ≡ true → t' g k ≡ true

sub-row : (m : ℕ) (t t' : Names) → Sub t t' → (p : Process) → ready_in m t p ≤ ready_in m t' p
sub-row m t t' sub (Master n q i live hs) = omega arith
sub-row m t t' sub (Worker n q g k st hs) = sub-one (is_ready st) (q == m) (t g k) (t' g k) (sub g k)
sub-row m t t' sub (Foreign n hs) = omega arith

pub weigh-sub : (m : ℕ) (t t' : Names) → Sub t t' → (rows : List Process) → weigh (ready_in m t) rows ≤ weigh (ready_in m t') rows
weigh-sub m t t' sub rows = weigh-le-all (ready_in m t) (ready_in m t') (sub-row m t t' sub) rows

-- Ready ones only of the set and the generation
abbrev pub Only : Generation → List ℕ → Names → Type 0
Only g S r = (h : Generation) (k : ℕ) → r h k ≡ true → (h ≡ g) × (is_in S k ≡ true)

-- r' is within r, without these numbers of the generation
abbrev pub Less : Generation → Names → List ℕ → Names → Type 0
Less g r ks r' = (h : Generation) (k : ℕ) → r' h k ≡ true → (r h k ≡ true) × (h ≡ g → is_in ks k ≡ false)

-- the names of t, and one more
abbrev pub also : Generation → ℕ → Names → Names
also g x t h k = t h k || bears g x h k

-- what a master's own count lacked
pub own-lacked : (image : ℕ) (set ns : List ℕ) (lacked : List Lack) → lacked_by image (lacked_after image set (Told ns) lacked) ≡ lacks set ns
own-lacked image set ns lacked = rw (eqb-refl image image refl) refl

beside-none : (image other : ℕ) (lacked : List Lack) → other ≢ image → lacked_by image lacked ≡ [] → lacked_by image (newest_of_others other lacked) ≡ []
beside-none image other [] ne h = refl
beside-none image other (lack ∷ lacked) ne h =
    elim (lack.by == other) as (λ b. lack.by == other ≡ b → lacked_by image (if b then newest_of_others other lacked else lack ∷ []) ≡ []) [
      | true ↦ λ same.
          let off : (lack.by == image) ≡ false = eqb-off lack.by image (λ e. ne (sym (eqb-is lack.by other same) ∙ e)) in
          beside-none image other lacked ne (subst (λ (b : Bool). (if b then lack.numbers else lacked_by image lacked) ≡ []) off h)
      | false ↦ λ off.
          elim (lack.by == image) as (λ b. (if b then lack.numbers else lacked_by image lacked) ≡ [] → (if b then lack.numbers else []) ≡ []) [
            | true ↦ λ e. e
            | false ↦ λ e. refl
          ] h
    ] refl

-- a master whose last count lacked nothing lacks nothing after another's count
pub other-lacked :
    (image other : ℕ) (set ns : List ℕ) (lacked : List Lack) → image ≢ other → lacked_by image lacked ≡ [] →
    lacked_by image (lacked_after other set (Told ns) lacked) ≡ []
other-lacked image other set ns lacked ne none = rw (eqb-off other image (λ e. ne (sym e))) (beside-none image other lacked (λ e. ne (sym e)) none)

---- The floor

-- Of `n` names in t some serve, no fewer than the least; and no more of them are not Ready than of those in t.
pub record Covers (m least : ℕ) (serves t : Names) (n : ℕ) : Type 0 where
  pub names : Names
  pub many : ℕ
  pub serve : Sub names serves
  pub part : (rows : List Process) → Once m rows → weigh (ready_in m t) rows + many ≤ weigh (ready_in m names) rows + n
  pub enough : least ≤ many

-- so at each address that has a floor
abbrev pub Enough : ℕ → (Address → ℕ) → (Address → Names) → Names → ℕ → Type 0
Enough m floor serves t n = (a : Address) → 1 ≤ floor a → Covers m (floor a) (serves a) t n

pub enough-also :
    (m : ℕ) (floor : Address → ℕ) (serves : Address → Names) (t : Names) (n : ℕ) (g : Generation) (x : ℕ) →
    Enough m floor serves t n → Enough m floor serves (also g x t) (n + 1)
enough-also m floor serves t n g x enough a e =
    let c = enough a e in
    let one_more = named g (is_in (x ∷ [])) in
    let joins : (h : Generation) (k : ℕ) → also g x t h k ≡ true → (t h k ≡ true) ⊎ (one_more h k ≡ true) =
    λ h k on. ⊎_elim (λ is. inl is)
    (λ is. inr (both-true (same_generation h g) (is_in (x ∷ []) k) (and-left _ _ is) (in-here x k [] (sym (bears-is g x h k is).1))))
    (or-elim (t h k) (bears g x h k) on) in
    record {
      names = c.names;
      many = c.many;
      serve = c.serve;
      part = λ rows once. omega (arith, c.part rows once, weigh-either m (also g x t) t one_more joins rows, weigh-set m g rows once (x ∷ []));
      enough = c.enough;
    }

-- A set of one generation, of which those that pass a test serve.
pub covers-part :
    (m least : ℕ) (serves : Names) (g : Generation) (S : List ℕ) (test : ℕ → Bool) → Distinct S →
    ((k : ℕ) → test k ≡ true → serves g k ≡ true) → least ≤ length (filter test S) →
    Covers m least serves (named g (is_in S)) (length S)
covers-part m least serves g S test d serve enough = record {
  names = named g (is_in (filter test S));
  many = length (filter test S);
  serve =
      λ h k e. subst (λ f. serves f k ≡ true) (sym (same-is h g (and-left _ _ e)))
      (serve k (in-filter-of test S k (and-right (same_generation h g) _ e)).1);
  part = λ rows once. weigh-part m g rows once S (filter test S) (filter-distinct test S d) (λ k e. (in-filter-of test S k e).0);
  enough = enough;
}

-- Those that serve hold the address, and those of t that are not Ready were lost: so many hold it, losses aside.
pub level-by :
    (v : View) (least : ℕ) (serves t : Names) (n : ℕ) (a : Address) (rows : List Process) (losses : ℕ) →
    ((h : Generation) (k : ℕ) → serves h k ≡ true → has_address a (v.held h k) ≡ true) →
    Covers v.number least serves t n → Looks v rows → n ≤ weigh (ready_in v.number t) rows + losses →
    least ≤ count_by (is_ready_with a) rows + losses
level-by v least serves t n a rows losses holds c looks secured =
    omega (arith, c.enough, c.part rows looks.once, secured, ready-floor v c.names a rows (λ h k e. holds h k (c.serve h k e)) looks)

-- a floor of none is kept
pub floor-by : (f x : ℕ) → (1 ≤ f → f ≤ x) → f ≤ x
floor-by zero x h = omega arith
floor-by (suc f) x h = h (omega arith)

---- The cause

-- no fault without a cause, no cause without a fault, a loss or a return; where `w` is true there is a cause; and the returns
-- are these
pub record Marks (w : Bool) (these : List Return) (faults losses : ℕ) (returns : List Return) (cause : Option ℕ) : Type 0 where
  pub clean : is_some cause ≡ false → faults ≡ 0
  pub blamed : is_some cause ≡ true → 1 ≤ faults + losses + length returns
  pub caused : w ≡ true → is_some cause ≡ true
  pub returned : returns ≡ these

is_some-plain : (c : Option ℕ) (n : ℕ) → is_some (first_cause c false n) ≡ is_some c
is_some-plain None n = refl
is_some-plain (Some k) n = refl

is_some-wrong : (c : Option ℕ) (n : ℕ) → is_some (first_cause c true n) ≡ true
is_some-wrong None n = refl
is_some-wrong (Some k) n = refl

pub marks-exits :
    {these returns : List Return} (w : Bool) (faults losses more : ℕ) (cause : Option ℕ) →
    Marks w these faults losses returns cause → Marks w these faults (losses + more) returns cause
marks-exits w faults losses more cause m = record { clean = m.clean; blamed = λ e. omega (arith, m.blamed e); caused = m.caused; returned = m.returned }

pub marks-plain :
    {these returns : List Return} (w : Bool) (faults losses n : ℕ) (cause : Option ℕ) →
    Marks w these faults losses returns cause → Marks w these faults losses returns (first_cause cause false n)
marks-plain w faults losses n cause m = record {
  clean = λ e. m.clean (sym (is_some-plain cause n) ∙ e);
  blamed = λ e. m.blamed (sym (is_some-plain cause n) ∙ e);
  caused = λ e. is_some-plain cause n ∙ m.caused e;
  returned = m.returned;
}

pub marks-wrong :
    {these returns : List Return} (w : Bool) (faults faults' losses n : ℕ) (cause : Option ℕ) → 1 ≤ faults' + losses →
    Marks w these faults losses returns cause → Marks true these faults' losses returns (first_cause cause true n)
marks-wrong w faults faults' losses n cause le m = record {
  clean = λ e. let on = is_some-wrong cause n in absurd (cc);
  blamed = λ e. omega (arith, le);
  caused = λ e. is_some-wrong cause n;
  returned = m.returned;
}

-- the old service was wanted back
pub marks-back :
    {these returns : List Return} (w : Bool) (r : Return) (faults losses n : ℕ) (cause : Option ℕ) →
    Marks w these faults losses returns cause →
    Marks true (r ∷ these) faults losses (r ∷ returns) (first_cause cause true n)
marks-back w r faults losses n cause m = record {
  clean = λ e. let on = is_some-wrong cause n in absurd (cc);
  blamed = λ e. omega arith;
  caused = λ e. is_some-wrong cause n;
  returned = ap (λ l. r ∷ l) m.returned;
}

---- What is kept beside

-- What a plan's steps are proved against: the floor that is kept at each address and the names that serve there, the
-- files and the note, which stay, the returns so far, how many faults count beside the losses for the floor, what is
-- known of the exits, and a fact on the rows, the losses and the faults that the calls of one master, and all mild
-- exits, keep.
pub record Scene (m image : ℕ) : Type 1 where
  pub floor : Address → ℕ
  pub serves : Address → Names
  pub files : List File
  pub note : PidNote
  pub limits : Limits
  pub returns : List Return
  pub excused : ℕ
  pub Mild : Exiting
  pub Holds : List Process → ℕ → ℕ → Type 0
  pub exits :
      (es : List Name) (rows : List Process) (losses more faults : ℕ) → Spares image es → Mild es rows →
      more + weigh live_any (all_exited es rows) ≡ weigh live_any rows → Holds rows losses faults →
      Holds (all_exited es rows) (losses + more) faults
  pub changes :
      (test : Process → Bool) (f : Process → Process) (rows : List Process) (losses faults : ℕ) →
      Mine m test × ((n : ℕ) (hs : List Hold) → test (Foreign n hs) ≡ false) → StaysOther f → Holds rows losses faults →
      Holds (filter_map (change test f) rows) losses faults
  pub drops :
      (test : Process → Bool) (rows : List Process) (losses faults : ℕ) →
      Mine m test × ((n : ℕ) (hs : List Hold) → test (Foreign n hs) ≡ false) → Holds rows losses faults →
      Holds (filter_map (drop_where test) rows) losses faults
  pub grows :
      (n : ℕ) (g : Generation) (x : ℕ) (hs : List Hold) (rows : List Process) (losses faults : ℕ) →
      Holds rows losses faults → Holds (rows ++ Worker n m g x Starting hs ∷ []) losses faults
  pub fails : (rows : List Process) (losses faults : ℕ) → Holds rows losses faults → Holds rows losses (faults + 1)

-- Nothing is kept beside.
abbrev pub plain_scene : (m image : ℕ) → (Address → ℕ) → (Address → Names) → List File → PidNote → Limits → Scene m image
plain_scene m image floor serves files note limits = record {
  floor = floor;
  serves = serves;
  files = files;
  note = note;
  limits = limits;
  returns = [];
  excused = 0;
  Mild = Anyhow;
  Holds = λ rows losses faults. ⊤;
  exits = λ es rows losses more faults sp mild e h. tt;
  changes = λ test f rows losses faults mine stays h. tt;
  drops = λ test rows losses faults mine h. tt;
  grows = λ n g x hs rows losses faults h. tt;
  fails = λ rows losses faults h. tt;
}

-- The files, the note and the limits are as they were.
pub record Still (files : List File) (note : PidNote) (limits : Limits) (files_now : List File) (note_now : PidNote) (limits_now : Limits) : Type 0 where
  pub files_stay : files_now ≡ files
  pub note_stays : note_now ≡ note
  pub limits_stay : limits_now ≡ limits

-- What is known between two steps. Of `n` names in `t`, all that are not Ready were lost; and `c` more than those that are not Ready were lost or failed.
pub record Band (u : View) (sc : Scene u.number u.image) (s r t : Names) (n c : ℕ) (w : Bool) (ls : List ℕ) (p : Progress) : Type 0 where
  pub looks : Looks (view u s r) p.table.rows
  pub enough : Enough u.number sc.floor sc.serves t n
  -- asked only where there is a floor
  pub secured : (a : Address) → 1 ≤ sc.floor a → n ≤ ready_of u t p + p.losses + sc.excused
  pub budget : n + c ≤ ready_of u t p + p.losses + p.faults
  -- what its last count lacked
  pub lacking : lacked_by u.image p.lacked ≡ ls
  pub marks : Marks w sc.returns p.faults p.losses p.returns p.cause
  pub still : Still sc.files sc.note sc.limits p.table.files p.note p.table.limits
  pub beside : sc.Holds p.table.rows p.losses p.faults

-- the master and its workers, seen as they are seen elsewhere
abbrev pub seen_as : View → View → View
seen_as u v = record { number = u.number; others = u.others; image = u.image; holds = v.holds; starting = v.starting; ready = v.ready; held = v.held }

-- the same is known where nobody starts, and the master and those that are ready hold the same
pub band-holds :
    (u v : View) (sc : Scene u.number u.image) (s r t : Names) (n c : ℕ) (w : Bool) (ls : List ℕ) (p : Progress) →
    u.holds ≡ v.holds → ((g : Generation) (k : ℕ) → s g k ≡ true → ⊥) →
    ((g : Generation) (k : ℕ) → r g k ≡ true → u.held g k ≡ v.held g k)
    → Band u sc s r t n c w ls p → Band (seen_as u v) sc none r t n c w ls p
band-holds u v sc s r t n c w ls p holds idle held b =
    let same : Allows (view u s r) (view (seen_as u v) none r) =
    record
    { number = refl; others = λ n e. e; image = refl; holds = holds; starting = λ g k e. absurd (idle g k e); ready = λ g k e. e; held_starting = λ g k e. absurd (idle g k e); held = held }
    in
    record { looks = looks-allows (view u s r) (view (seen_as u v) none r) same p.table.rows b.looks; enough = b.enough; secured = b.secured; budget = b.budget; lacking = b.lacking; marks = b.marks; still = b.still; beside = b.beside }

pub losses-are :
    (es : List Name) (t : Table) → weigh live_any (all_exited es t.rows) ≤ weigh live_any t.rows →
    losses_of es t + weigh live_any (all_exited es t.rows) ≡ weigh live_any t.rows
losses-are es t le = omega (arith, count-weigh is_active_worker t.rows, count-weigh is_active_worker (all_exited es t.rows))

pub band-exits :
    (u : View) (sc : Scene u.number u.image) (s r t : Names) (n c : ℕ) (w : Bool) (ls : List ℕ) (es : List Name)
    (p : Progress) → Spares u.image es → sc.Mild es p.table.rows → Band u sc s r t n c w ls p → Band u sc s r t n c w ls
    (after_moment es p)
band-exits u sc s r t n c w ls es p sp mild b =
    let sh = shrinks (view u s r) es p.table.rows sp b.looks in
    let lost = losses-are es p.table sh.fewer in
    let falls = sh.falls t in
    record {
      looks = sh.looks;
      enough = b.enough;
      secured = λ a e. omega (arith, b.secured a e, falls, lost);
      budget = omega (arith, b.budget, falls, lost);
      lacking = b.lacking;
      still = b.still;
      marks = marks-exits w p.faults p.losses (losses_of es p.table) p.cause b.marks;
      beside = sc.exits es p.table.rows p.losses (losses_of es p.table) p.faults sp mild lost b.beside;
    }

-- What is known between two steps gives what holds at each moment.
abbrev pub IsGood : (u : View) → Scene u.number u.image → (Progress → Type 0) → Type 0
IsGood u sc inv =
    (t : Names) (n : ℕ) (w : Bool) (q : Progress) → Enough u.number sc.floor sc.serves t n →
    Looks (view u any any) q.table.rows → ((a : Address) → 1 ≤ sc.floor a → n ≤ ready_of u t q + q.losses + sc.excused)
    → Marks w sc.returns q.faults q.losses q.returns q.cause → sc.Holds q.table.rows q.losses q.faults → inv q

-- What the rules rest on: what holds at each moment and at an end, the course, and that the master is one of those that act.
pub record Ground (u : View) (sc : Scene u.number u.image) : Type 1 where
  pub inv : Progress → Type 0
  pub post : Ending → Progress → Type 0
  pub co : Course
  pub acts : is_in co.executing u.image ≡ true
  pub good : IsGood u sc inv

abbrev pub grounded :
    {u : View} {sc : Scene u.number u.image} (inv : Progress → Type 0) (post : Ending → Progress → Type 0) (co : Course)
    → is_in co.executing u.image ≡ true → IsGood u sc inv → Ground u sc
grounded inv post co acts good = record { inv = inv; post = post; co = co; acts = acts; good = good }

module _ (u : View) (sc : Scene u.number u.image) (gr : Ground u sc) where
  abbrev inv : Progress → Type 0
  inv = gr.inv

  abbrev post : Ending → Progress → Type 0
  post = gr.post

  abbrev co : Course
  co = gr.co

  acts : is_in co.executing u.image ≡ true
  acts = gr.acts

  good : IsGood u sc inv
  good = gr.good

  pub band-inv : (s r t : Names) (n c : ℕ) (w : Bool) (ls : List ℕ) (p : Progress) → Band u sc s r t n c w ls p → inv p
  band-inv s r t n c w ls p b =
      good t n w p b.enough
      (looks-allows (view u s r) (view u any any) (record { number = refl; others = λ n e. e; image = refl; holds = refl; starting = λ h k e. refl; ready = λ h k e. refl; held_starting = λ h k e. refl; held = λ h k e. refl }) p.table.rows b.looks)
      b.secured b.marks b.beside

  abbrev pub Runs : Tree → Progress → Type 0
  Runs t p = Along inv post sc.Mild Unasked co t p

  abbrev me : Caller
  me = record { number = u.number; holds = u.holds }

  abbrev pub Edge : Branches → Reply → Progress → Type 0
  Edge bs r p = Behind inv post sc.Mild Unasked co bs r p

  -- what a step does with its answer
  abbrev pub Answers : Order → List ℕ → Branches → Progress → Stepped → Type 0
  Answers order set bs q st = Edge bs (reply_of set st.answer) (after_call u.image order set st q)

  -- a step, from what it does after the exits
  pub rule-step-at :
      (order : Order) (set : List ℕ) (bs : Branches) (s r t : Names) (n c : ℕ) (w : Bool) (ls : List ℕ) (p : Progress) →
      is_leave order ≡ false → Band u sc s r t n c w ls p →
      ((es : List Name) → Band u sc s r t n c w ls (after_moment es p) → (fate : Option Fate) → Answers order set bs (after_moment es p) (step_by co.handed u.image (Some me) (call_of order (lacked_by u.image p.lacked)) fate (after_exits es p.table)))
      → Runs (Does u.image order set bs) p
  rule-step-at order set bs s r t n c w ls p stays b h =
      let moment = co.pattern (p.calls + 1) in
      let middle = after_moment moment.exits p in
      let at : (if is_leave order then co.executing ++ co.heirs else co.executing) ≡ co.executing = rw stays in
      let after : course_after order co ≡ co = go (is_leave order) stays in
      λ spared mild.
      let sp = spares-each co.executing u.image moment.exits acts (subst (λ images. names_any images moment.exits ≡ false) at spared) in
      let b' = band-exits u sc s r t n c w ls moment.exits p sp mild b in (
        band-inv s r t n c w ls p b,
        band-inv s r t n c w ls middle b',
        tt,
        subst
            (λ (x : Course). Behind inv post sc.Mild Unasked x bs (reply_of set (answered co.handed u.image order moment.fate middle).answer) (after_call u.image order set (answered co.handed u.image order moment.fate middle) middle))
            (sym after)
            (subst (λ (o : Option Caller). Answers order set bs middle (step_by co.handed u.image o (call_of order (lacked_by u.image middle.lacked)) moment.fate middle.table)) (sym (finds (view u s r) middle.table.rows b'.looks)) (h moment.exits b' moment.fate)),
      )
    where
      go : (b : Bool) → b ≡ false → record { handed = co.handed; pattern = co.pattern; executing = if b then co.heirs else co.executing; heirs = co.heirs } ≡ co
      go true e = absurd (cc)
      go false e = refl

  pub rule-step :
      (order : Order) (set : List ℕ) (bs : Branches) (s r t : Names) (n c : ℕ) (w : Bool) (ls : List ℕ) (p : Progress) →
      is_leave order ≡ false → Band u sc s r t n c w ls p →
      ((q : Progress) → Band u sc s r t n c w ls q → (fate : Option Fate) → Answers order set bs q (step_by co.handed u.image (Some me) (call_of order (lacked_by u.image q.lacked)) fate q.table))
      → Runs (Does u.image order set bs) p
  rule-step order set bs s r t n c w ls p stays b h = rule-step-at order set bs s r t n c w ls p stays b (λ es b'. h (after_moment es p) b')

  -- A call failed, and all is as it was.
  abbrev pub failed_at : Progress → Progress
  failed_at q = record q { calls = q.calls + 1; faults = q.faults + 1; cause = first_cause q.cause true (q.calls + 1) }

  pub band-failed :
      (s r t : Names) (n c : ℕ) (w : Bool) (ls : List ℕ) (q : Progress) → Band u sc s r t n c w ls q →
      Band u sc s r t n (c + 1) true ls (failed_at q)
  band-failed s r t n c w ls q b = record {
    looks = b.looks;
    enough = b.enough;
    secured = b.secured;
    budget = omega (arith, b.budget);
    lacking = b.lacking;
    still = b.still;
    marks = marks-wrong w q.faults (q.faults + 1) q.losses (q.calls + 1) q.cause (omega arith) b.marks;
    beside = sc.fails q.table.rows q.losses q.faults b.beside;
  }

  -- A call went well, and left this table.
  abbrev passed_at : Table → Progress → Progress
  passed_at t q = record q { table = t; calls = q.calls + 1; cause = first_cause q.cause false (q.calls + 1) }

  -- Of the names of t as many are Ready as before the call, which may change who holds what.
  band-moved :
      (v : View) (s s' r r' t : Names) (n c : ℕ) (w : Bool) (ls : List ℕ) (after : Table) (q : Progress) →
      Looks (view (seen_as u v) s' r') after.rows → weigh (ready_in u.number t) after.rows ≡ ready_of u t q →
      Still sc.files sc.note sc.limits after.files q.note after.limits → sc.Holds after.rows q.losses q.faults →
      Band u sc s r t n c w ls q → Band (seen_as u v) sc s' r' t n c w ls (passed_at after q)
  band-moved v s s' r r' t n c w ls after q looks same still beside b = record {
    looks = looks;
    enough = b.enough;
    secured = λ a e. omega (arith, b.secured a e, same);
    budget = omega (arith, b.budget, same);
    lacking = b.lacking;
    still = still;
    marks = marks-plain w q.faults q.losses (q.calls + 1) q.cause b.marks;
    beside = beside;
  }

  -- A step whose call nothing makes fail.
  rule-sure :
      (call : Call) (rest : Tree) (s r t : Names) (n c : ℕ) (w : Bool) (ls : List ℕ) (p : Progress) → is_leave
      (Make call) ≡ false → Unfailing call →
      ((q : Progress) → Band u sc s r t n c w ls q → Answers (Make call) [] (then_edge rest) q (own_step co.handed u.image me call q.table))
      → Band u sc s r t n c w ls p → Runs (does u.image call (then_edge rest)) p
  rule-sure call rest s r t n c w ls p stays sure next b =
      rule-step (Make call) [] (then_edge rest) s r t n c w ls p stays b (λ q b' fate.
      subst (λ st. Answers (Make call) [] (then_edge rest) q st) (sym (unfailing co.handed u.image me call fate q.table sure)) (next q b'))

  -- more names may be Starting
  pub band-still : (s s' r t : Names) (n c : ℕ) (w : Bool) (ls : List ℕ) (p : Progress) → Sub s s' → Band u sc s r t n c w ls p → Band u sc s' r t n c w ls p
  band-still s s' r t n c w ls p sub b = record {
    looks =
        looks-allows (view u s r) (view u s' r)
        (record {
          number = refl;
          others = λ n e. e;
          image = refl;
          holds = refl;
          starting = sub;
          ready = λ h k e. e;
          held_starting = λ h k e. refl;
          held = λ h k e. refl;
        })
        p.table.rows b.looks;
    enough = b.enough;
    secured = b.secured;
    budget = b.budget;
    lacking = b.lacking;
    still = b.still;
    marks = b.marks;
    beside = b.beside;
  }

  ---- Fork, AwaitReady, Kill

  pub rule-fork-on :
      (bs : Branches) (g : Generation) (x : ℕ) (fds : Option (List ℕ)) (s r t : Names) (n c : ℕ) (w : Bool)
      (ls : List ℕ) (p : Progress) → u.held g x ≡ shared fds u.holds →
      ((q : Progress) → Band u sc (plus s g x) r t n c w ls q → Edge bs reply.Forked q) →
      ((q : Progress) → Band u sc s r t n (c + 1) true ls q → Edge bs reply.Again q × Edge bs reply.NoMemory q) → Band u
      sc s r t n c w ls p → Runs (does u.image (Fork g x fds) bs) p
  rule-fork-on bs g x fds s r t n c w ls p same on_ok on_bad b =
      let order = Make (Fork g x fds) in
      let hs = shared fds u.holds in
      rule-step order [] bs s r t n c w ls p refl b (λ q b' fate.
      let failed = on_bad (failed_at q) (band-failed s r t n c w ls q b') in
      fork-cases co.handed u.image me g x fds fate q.table (λ st. Answers order [] bs q st)
      failed.0 failed.1
      (λ off.
      let k = q.table.next_process in
      let after = with_new_row q.table (λ j. Worker j u.number g x Starting hs) in
      on_ok (passed_at after q) (band-moved u s (plus s g x) r r t n c w ls after q
      (fork-looks (view u s r) g x k hs q.table.rows same off b'.looks) (fork-weigh u.number g t x k hs q.table.rows)
      b'.still (sc.grows k g x hs q.table.rows q.losses q.faults b'.beside) b')))

  pub rule-fork :
      (ok bad : Tree) (g : Generation) (x : ℕ) (fds : Option (List ℕ)) (s r t : Names) (n c : ℕ) (w : Bool)
      (ls : List ℕ) (p : Progress) → u.held g x ≡ shared fds u.holds →
      ((q : Progress) → Band u sc (plus s g x) r t n c w ls q → Runs ok q) →
      ((q : Progress) → Band u sc s r t n (c + 1) true ls q → Runs bad q) → Band u sc s r t n c w ls p → Runs
      (does u.image (Fork g x fds) (fork_edges ok bad)) p
  rule-fork ok bad g x fds s r t n c w ls p same on_ok on_bad b =
      rule-fork-on (fork_edges ok bad) g x fds s r t n c w ls p same on_ok (λ q b'. let h = on_bad q b' in (h, h)) b

  drops-name :
      (g : Generation) (x : ℕ) (q : Progress) → sc.Holds q.table.rows q.losses q.faults →
      sc.Holds (filter_map (drop_where (is_worker is_any u.number g x)) q.table.rows) q.losses q.faults
  drops-name g x q beside = sc.drops (is_worker is_any u.number g x) q.table.rows q.losses q.faults (mine-worker is_any u.number g x, λ z zs. refl) beside

  pub rule-kill :
      (rest : Tree) (g : Generation) (x : ℕ) (s r t : Names) (n c : ℕ) (w : Bool) (ls : List ℕ) (p : Progress) →
      r g x ≡ false → ((q : Progress) → Band u sc (minus s g x) r t n c w ls q → Runs rest q) →
      Band u sc s r t n c w ls p → Runs (does u.image (Kill g x) (then_edge rest)) p
  rule-kill rest g x s r t n c w ls p off next b =
      rule-sure (Kill g x) rest s r t n c w ls p refl tt (λ q b'.
      let after = each_row (drop_where (is_worker is_any u.number g x)) q.table in
      next (passed_at after q) (band-moved u s (minus s g x) r r t n c w ls after q
      (kill-looks (view u s r) g x q.table.rows b'.looks) (kill-weigh (view u s r) g x t q.table.rows off b'.looks)
      b'.still (drops-name g x q b'.beside) b')) b

  -- the name that became Ready joins the names of t
  pub record Joins (g : Generation) (x : ℕ) (t t' : Names) (n n' c c' : ℕ) : Type 0 where
    pub has : t' g x ≡ true
    pub sub : Sub t t'
    pub more : n' ≤ n + 1
    pub count : n' + c' ≤ n + c + 1
    pub enough : Enough u.number sc.floor sc.serves t' n'

  pub rule-await :
      (bs : Branches) (g : Generation) (x : ℕ) (s r t t' : Names) (n n' c c' : ℕ) (w : Bool) (ls : List ℕ)
      (p : Progress) → r g x ≡ false → Joins g x t t' n n' c c' →
      ((q : Progress) → Band u sc (minus s g x) (plus r g x) t' n' c' w ls q → Edge bs reply.IsReady q) →
      ((q : Progress) → Band u sc s r t n (c + 1) true ls q → Edge bs reply.Late q) →
      ((q : Progress) → Band u sc (minus s g x) r t n (c + 1) true ls q → Edge bs reply.Gone q) → Band u sc s r t n c w
      ls p → Runs (does u.image (AwaitReady g x) bs) p
  rule-await bs g x s r t t' n n' c c' w ls p off j on_ok on_late on_bad b =
      let order = Make (AwaitReady g x) in
      rule-step order [] bs s r t n c w ls p refl b (λ q b' fate.
      await-cases co.handed u.image me g x fate q.table (λ st. Answers order [] bs q st)
      (on_late (failed_at q) (band-failed s r t n c w ls q b'))
      (λ live.
      let gain = await-gains (view u s r) g t' x q.table.rows j.has off live b'.looks in
      let sub = weigh-sub u.number t t' j.sub q.table.rows in
      on_ok (after_call u.image order [] (gives IsReady (each_row (change (is_worker is_starting u.number g x) made_ready) q.table)) q) (record {
        looks = await-looks (view u s r) g x q.table.rows b'.looks;
        enough = j.enough;
        secured = λ a e. omega (arith, b'.secured a e, gain, sub, j.more);
        budget = omega (arith, b'.budget, gain, sub, j.count);
        lacking = b'.lacking;
        still = b'.still;
        marks = marks-plain w q.faults q.losses (q.calls + 1) q.cause b'.marks;
        beside =
            sc.changes (is_worker is_starting u.number g x) made_ready q.table.rows q.losses q.faults
            (mine-worker is_starting u.number g x, λ z zs. refl) ready-stays b'.beside;
      }))
      (λ gone.
      let same = gone-weigh u.number g x t q.table.rows in
      on_bad (after_call u.image order [] (gives Gone (each_row (drop_where (is_worker is_exited u.number g x)) q.table)) q) (record {
        looks = gone-looks (view u s r) g x q.table.rows gone b'.looks;
        enough = b'.enough;
        secured = λ a e. omega (arith, b'.secured a e, same);
        budget = omega (arith, b'.budget, same);
        lacking = b'.lacking;
        still = b'.still;
        marks = marks-wrong w q.faults (q.faults + 1) q.losses (q.calls + 1) q.cause (omega arith) b'.marks;
        beside =
            sc.fails (filter_map (drop_where (is_worker is_exited u.number g x)) q.table.rows) q.losses q.faults
            (sc.drops (is_worker is_exited u.number g x) q.table.rows q.losses q.faults (mine-worker is_exited u.number g x, λ z zs. refl) b'.beside);
      })))

  ---- Quit

  pub rule-quit :
      (rest : Tree) (g : Generation) (x : ℕ) (s r t : Names) (n c : ℕ) (w : Bool) (ls : List ℕ) (p : Progress) →
      t g x ≡ false → ((q : Progress) → Band u sc (minus s g x) (minus r g x) t n c w ls q → Runs rest q) →
      Band u sc s r t n c w ls p → Runs (does u.image (Quit g x) (then_edge rest)) p
  rule-quit rest g x s r t n c w ls p off next b =
      rule-sure (Quit g x) rest s r t n c w ls p refl tt (λ q b'.
      let after = each_row (change (is_worker is_active u.number g x) made_draining) q.table in
      next (passed_at after q) (band-moved u s (minus s g x) r (minus r g x) t n c w ls after q
      (quit-looks (view u s r) g x q.table.rows b'.looks) (quit-weigh u.number g x t q.table.rows off) b'.still
      (sc.changes (is_worker is_active u.number g x) made_draining q.table.rows q.losses q.faults (mine-worker is_active u.number g x, λ z zs. refl) draining-stays b'.beside)
      b')) b

  ---- OpenAt, CloseAt

  pub rule-open :
      (ok bad : Tree) (a : Address) (r t : Names) (n c : ℕ) (w : Bool) (ls : List ℕ) (p : Progress) →
      ((h : Hold) (q : Progress) → h.address ≡ a → h.fd ≡ lowest_free u.holds → nat_lt (length u.holds) sc.limits.descriptors ≡ true → list_any (is_at a) u.holds ≡ false → Band (after_open h u) sc none r t n c w ls q → Runs ok q)
      → ((q : Progress) → Band u sc none r t n (c + 1) true ls q → Runs bad q) → Band u sc none r t n c w ls p → Runs
      (does u.image (OpenAt a) (open_edges ok bad)) p
  rule-open ok bad a r t n c w ls p on_ok on_bad b =
      let order = Make (OpenAt a) in
      rule-step order [] (open_edges ok bad) none r t n c w ls p refl b (λ q b' fate.
      let failed = on_bad (failed_at q) (band-failed none r t n c w ls q b') in
      open-cases co.handed u.image me a fate q.table (λ st. Answers order [] (open_edges ok bad) q st)
      failed failed failed failed
      (λ off room.
      let h : Hold = record { fd = lowest_free u.holds; socket = q.table.next_socket; address = a } in
      let same = open-weigh u.number t h q.table.rows in
      on_ok h
      (after_call u.image order [] (gives (Opened (lowest_free u.holds)) (with_new_socket q.table u.number h)) q) refl
      refl (ap (λ (l : Limits). nat_lt (length u.holds) l.descriptors) (sym b'.still.limits_stay) ∙ room)
      (unheld (view u none r) a q.table.rows off b'.looks.fine (omega (arith, b'.looks.alone)))
      (band-moved (after_open h u) none none r r t n c w ls (with_new_socket q.table u.number h) q (open-looks (view u none r) h q.table.rows b'.looks) same b'.still
      (sc.changes (is_row u.number) (with_holds (put_hold h)) q.table.rows q.losses q.faults (mine-row u.number, λ z zs. refl) (holds-stay (put_hold h)) b'.beside)
      b')))

  pub rule-close :
      (rest : Tree) (a : Address) (r t : Names) (n c : ℕ) (w : Bool) (ls : List ℕ) (p : Progress) →
      ((q : Progress) → Band (after_close a u) sc none r t n c w ls q → Runs rest q) → Band u sc none r t n c w ls p →
      Runs (does u.image (CloseAt a) (then_edge rest)) p
  rule-close rest a r t n c w ls p next b =
      rule-sure (CloseAt a) rest none r t n c w ls p refl tt (λ q b'.
      let same = close-weigh u.number t a q.table.rows in
      let after = each_row (change (is_of u.number) (with_holds (lacks_address a))) q.table in
      next (passed_at after q)
      (band-moved (after_close a u) none none r r t n c w ls after q (close-looks (view u none r) a q.table.rows b'.looks) same b'.still
      (sc.changes (is_of u.number) (with_holds (lacks_address a)) q.table.rows q.losses q.faults (mine-of u.number, λ z zs. refl) (holds-stay (lacks_address a)) b'.beside)
      b')) b

  ---- Census

  -- what a count of a set saw
  abbrev pub Saw : Generation → List ℕ → Progress → Type 0
  Saw g T q = Counted u.number g T (lacked_last q.lacked) q.table.rows

  -- the count is exactly what is Ready
  abbrev pub Exact : Generation → Progress → Type 0
  Exact g q = (k : ℕ) → list_any (is_worker is_ready u.number g k) q.table.rows ≡ is_in q.ready k

  -- the names of t that are not Ready are no fewer than those of the set that are not
  abbrev pub Part : View → Names → ℕ → Generation → List ℕ → Type 0
  Part v t n g T = (rows : List Process) → Looks v rows → weigh (ready_in u.number t) rows + length T ≤ weigh (ready_in u.number (named g (is_in T))) rows + n

  pub rule-count-on :
      (bs : Branches) (g : Generation) (T : List ℕ) (r t : Names) (n c : ℕ) (w : Bool) (ls : List ℕ) (p : Progress) →
      Distinct T → ((k : ℕ) → is_in T k ≡ true → k < 1024) → ((k : ℕ) → r g k ≡ true → k < 1024) → Part (view u none r)
      t n g T →
      ((cs : List ℕ) (q : Progress) → lacks T cs ≡ [] → Band u sc none (seen r g cs) t n c w [] q → (lacked_last q.lacked) ≡ [] → Saw g T q → Exact g q → Edge bs reply.Full q)
      →
      ((cs : List ℕ) (x : ℕ) (xs : List ℕ) (q : Progress) → lacks T cs ≡ x ∷ xs → Band u sc none (seen r g cs) t n c true (x ∷ xs) q → (lacked_last q.lacked) ≡ x ∷ xs → Saw g T q → Exact g q → Edge bs reply.Short q)
      → Band u sc none r t n c w ls p → Runs (census u.image g T bs) p
  rule-count-on bs g T r t n c w ls p dT below_T below_r part on_full on_short b =
      let order = Make (Census g) in
      rule-step order T bs none r t n c w ls p refl b (λ q b' fate.
      let cs = census_of u.number g q.table.rows in
      let rows' = filter_map (drop_where (is_exited_of u.number)) q.table.rows in
      let same = census-weigh u.number u.number t q.table.rows in
      let seen_now =
      counted (view u none r) g q.table.rows cs b'.looks T dT
      (every-in (λ k. list_any (is_worker is_ready u.number g k) q.table.rows ≡ is_in cs k) T (λ k e. sym (census-in u.number g q.table.rows k (below_T k e))))
      in
      let saw : Counted u.number g T (lacks T cs) rows' =
      λ some. omega
      (arith, seen_now some, census-weigh u.number u.number (named g (is_in (filter some T))) q.table.rows) in
      let looks' = census-looks (view u none r) g q.table.rows below_r b'.looks in
      let exact : (k : ℕ) → list_any (is_worker is_ready u.number g k) rows' ≡ is_in cs k = census-exact (view u none r) g q.table.rows below_r b'.looks in
      let lost = part q.table.rows b'.looks in
      let before : (l : List ℕ) → lacks T cs ≡ l → length l ≤ q.faults + q.losses =
      λ l e. omega
      (arith, lost, b'.budget, counted-all u.number g T (lacks T cs) q.table.rows seen_now, ap length e) in
      let after : List ℕ → Progress =
      λ l. record
      { table = with_rows q.table rows'; calls = q.calls + 1; ready = cs; lacked = lacked_after u.image T (Told cs) q.lacked; faults = q.faults; losses = q.losses; returns = q.returns; cause = first_cause q.cause (went_wrong (Census g) (full_or_short l)) (q.calls + 1); note = q.note }
      in
      subst (λ st. Answers order T bs q st) (sym (unfailing co.handed u.image me (Census g) fate q.table tt))
      (elim (lacks T cs) as (λ l. lacks T cs ≡ l → Edge bs (full_or_short l) (after l)) [
        | [] ↦ λ e. on_full cs (after []) e
            (record {
              looks = looks';
              enough = b'.enough;
              secured = λ a e. omega (arith, b'.secured a e, same);
              budget = omega (arith, b'.budget, same);
              lacking = own-lacked u.image T cs q.lacked ∙ e;
              still = b'.still;
              marks = marks-plain w q.faults q.losses (q.calls + 1) q.cause b'.marks;
              beside = sc.drops (is_exited_of u.number) q.table.rows q.losses q.faults (mine-exited u.number, λ z zs. refl) b'.beside;
            })
            e saw exact
        | x ∷ xs ↦ λ e. on_short cs x xs (after (x ∷ xs)) e
            (record {
              looks = looks';
              enough = b'.enough;
              secured = λ a e. omega (arith, b'.secured a e, same);
              budget = omega (arith, b'.budget, same);
              lacking = own-lacked u.image T cs q.lacked ∙ e;
              still = b'.still;
              marks = marks-wrong w q.faults q.faults q.losses (q.calls + 1) q.cause (omega (arith, before (x ∷ xs) e)) b'.marks;
              beside = sc.drops (is_exited_of u.number) q.table.rows q.losses q.faults (mine-exited u.number, λ z zs. refl) b'.beside;
            })
            e saw exact
      ] refl))

  pub rule-count :
      (ok short : Tree) (g : Generation) (T : List ℕ) (r t : Names) (n c : ℕ) (w : Bool) (ls : List ℕ) (p : Progress) →
      Distinct T → ((k : ℕ) → is_in T k ≡ true → k < 1024) → ((k : ℕ) → r g k ≡ true → k < 1024) → Part (view u none r)
      t n g T →
      ((cs : List ℕ) (q : Progress) → lacks T cs ≡ [] → Band u sc none (seen r g cs) t n c w [] q → (lacked_last q.lacked) ≡ [] → Saw g T q → Exact g q → Runs ok q)
      →
      ((cs : List ℕ) (x : ℕ) (xs : List ℕ) (q : Progress) → lacks T cs ≡ x ∷ xs → Band u sc none (seen r g cs) t n c true (x ∷ xs) q → (lacked_last q.lacked) ≡ x ∷ xs → Saw g T q → Exact g q → Runs short q)
      → Band u sc none r t n c w ls p → Runs (census u.image g T (census_edges ok short)) p
  rule-count ok short g T r t n c w ls p dT below_T below_r part on_full on_short b =
      rule-count-on (census_edges ok short) g T r t n c w ls p dT below_T below_r part on_full on_short b

  ---- Settle

  -- a worker that a count lacks
  pub in-filter : (t : ℕ → Bool) (S : List ℕ) (x : ℕ) (xs : List ℕ) → filter t S ≡ x ∷ xs → (is_in S x ≡ true) × (t x ≡ true)
  in-filter t [] x xs e = absurd (cc)
  in-filter t (y ∷ S) x xs e = go (t y) refl e (in-filter t S x xs)
    where
      go :
          (b : Bool) → t y ≡ b → cond b (y ∷ filter t S) (filter t S) ≡ x ∷ xs →
          (filter t S ≡ x ∷ xs → (is_in S x ≡ true) × (t x ≡ true)) → (is_in (y ∷ S) x ≡ true) × (t x ≡ true)
      go true is e ih =
          let same : y ≡ x = cc in
          (in-here y x S same, subst (λ z. t z ≡ true) same is)
      go false is e ih =
          let both = ih e in
          (in-there y x S both.0, both.1)

  pub not-true : (b : Bool) → not b ≡ true → b ≡ false
  not-true true e = cc
  not-true false e = refl

  pub unseen : (a b c : Bool) → b ≡ false → c ≡ true → (a && (b || not c)) ≡ false
  unseen true true c e f = cc
  unseen true false true e f = refl
  unseen true false false e f = cc
  unseen false b c e f = refl

  pub only-plus : (g : Generation) (S : List ℕ) (r : Names) (x : ℕ) → is_in S x ≡ true → Only g S r → Only g S (plus r g x)
  only-plus g S r x in_x only h k e =
      ⊎_elim (λ a. only h k a) (λ b. let is = bears-is g x h k b in (is.0, subst (λ y. is_in S y ≡ true) (sym is.1) in_x)) (or-elim (r h k) (bears g x h k) e)

  pub only-seen : (g : Generation) (S cs : List ℕ) (r : Names) → Only g S r → Only g S (seen r g cs)
  only-seen g S cs r only h k e = only h k (and-left (r h k) _ e)

  -- a step that names its worker when it runs
  pub to-fork :
      (crew : Crew) (bs : Branches) (q : Progress) (x : ℕ) (xs : List ℕ) → lacked_by u.image q.lacked ≡ x ∷ xs →
      Runs (does u.image (fork_of crew x) bs) q → Runs (Does u.image (ForkLacking crew) [] bs) q
  to-fork crew bs q x xs e h = subst (λ (l : List ℕ). Runs (does u.image (fork_of crew (lowest l)) bs) q) (sym e) h

  pub to-await :
      (g : Generation) (bs : Branches) (q : Progress) (x : ℕ) (xs : List ℕ) → lacked_by u.image q.lacked ≡ x ∷ xs →
      Runs (does u.image (AwaitReady g x) bs) q → Runs (Does u.image (AwaitLacking g) [] bs) q
  to-await g bs q x xs e h = subst (λ (l : List ℕ). Runs (does u.image (AwaitReady g (lowest l)) bs) q) (sym e) h

  pub to-kill :
      (g : Generation) (bs : Branches) (q : Progress) (x : ℕ) (xs : List ℕ) → lacked_by u.image q.lacked ≡ x ∷ xs →
      Runs (does u.image (Kill g x) bs) q → Runs (Does u.image (KillLacking g) [] bs) q
  to-kill g bs q x xs e h = subst (λ (l : List ℕ). Runs (does u.image (Kill g (lowest l)) bs) q) (sym e) h

  -- no name is Starting once the one that was forked is left out
  pub over : (g : Generation) (x : ℕ) (h : Generation) (k : ℕ) → minus (plus none g x) g x h k ≡ true → none h k ≡ true
  over g x h k e = go (bears g x h k) e
    where
      go : (b : Bool) → (b && not b) ≡ true → false ≡ true
      go true e = e
      go false e = e

  pub rule-round :
      (rest : Tree) (crew : Crew) (x : ℕ) (xs : List ℕ) (r : Names) (S : List ℕ) (n c : ℕ) (p : Progress) → HoldsShare u
      crew → r crew.generation x ≡ false → is_in S x ≡ true → Only crew.generation S r →
      ((r' : Names) (q : Progress) → Only crew.generation S r' → Band u sc none r' (named crew.generation (is_in S)) n (c + 1) true (x ∷ xs) q → Runs rest q)
      → Band u sc none r (named crew.generation (is_in S)) n c true (x ∷ xs) p → Runs (round u.image crew rest) p
  rule-round rest crew x xs r S n c p same off in_x only next b =
      let t = named crew.generation (is_in S) in
      let joins : Joins crew.generation x t t n n c (c + 1) =
      record
      { has = both-true (same_generation crew.generation crew.generation) (is_in S x) (same-refl crew.generation) in_x; sub = λ h k e. e; more = omega arith; count = omega arith; enough = b.enough }
      in
      let s = plus none crew.generation x in
      let bad =
      λ (q : Progress) (b' : Band u sc (minus s crew.generation x) r t n (c + 1) true (x ∷ xs) q). next r q only
      (band-still (minus s crew.generation x) none r t n (c + 1) true (x ∷ xs) q (over crew.generation x) b') in
      let killed = Does u.image (KillLacking crew.generation) [] (then_edge rest) in
      to-fork crew (fork_edges (Does u.image (AwaitLacking crew.generation) [] (await_any_edges rest killed)) rest) p x xs b.lacking
      (rule-fork (Does u.image (AwaitLacking crew.generation) [] (await_any_edges rest killed)) rest crew.generation x (fds_of crew.posts x) none r t n c true (x ∷ xs) p (same x)
      (λ q b'. to-await crew.generation (await_any_edges rest killed) q x xs b'.lacking
      (rule-await (await_any_edges rest killed) crew.generation x s r t t n n c (c + 1) true (x ∷ xs) q off joins
      (λ q' b''. next (plus r crew.generation x) q' (only-plus crew.generation S r x in_x only) (band-still (minus s crew.generation x) none (plus r crew.generation x) t n (c + 1) true (x ∷ xs) q' (over crew.generation x) b''))
      (λ q' b''. to-kill crew.generation (then_edge rest) q' x xs b''.lacking (rule-kill rest crew.generation x s r t n (c + 1) true (x ∷ xs) q' off bad b''))
      bad b'))
      (λ q b'. next r q only b') b)

  pub rule-settle :
      (side : Side) (crew : Crew) (S : List ℕ) → HoldsShare u crew → Distinct S →
      ((k : ℕ) → is_in S k ≡ true → k < 1024) → (d : ℕ) (w : Bool) →
      ((r : Names) (q : Progress) (c : ℕ) (w' : Bool) → (w ≡ true → w' ≡ true) → Only crew.generation S r → Band u sc none r (named crew.generation (is_in S)) (length S) c w' [] q → (lacked_last q.lacked) ≡ [] → Saw crew.generation S q → Exact crew.generation q → post (At (full_end side)) q)
      →
      ((r : Names) (q : Progress) (x : ℕ) (xs : List ℕ) → Only crew.generation S r → Band u sc none r (named crew.generation (is_in S)) (length S) d true (x ∷ xs) q → (lacked_last q.lacked) ≡ x ∷ xs → Saw crew.generation S q → Exact crew.generation q → post (At (short_end side)) q)
      → (rounds c : ℕ) → c + rounds ≡ d → (w' : Bool) → (w ≡ true → w' ≡ true) → (r : Names) (ls : List ℕ)
      (p : Progress) → Only crew.generation S r → Band u sc none r (named crew.generation (is_in S)) (length S) c w' ls
      p → Runs (settle u.image crew S side rounds) p
  rule-settle side crew S same dS below_S d w full short zero c sum w' up r ls p only b =
      rule-count (Ends (full_end side)) (Ends (short_end side)) crew.generation S r (named crew.generation (is_in S))
      (length S) c w' ls p dS below_S (λ k e. below_S k (only crew.generation k e).1) (λ rows looks. omega arith)
      (λ cs q e b' is saw exact. (band-inv none (seen r crew.generation cs) (named crew.generation (is_in S)) (length S) c w' [] q b', full (seen r crew.generation cs) q c w' up (only-seen crew.generation S cs r only) b' is saw exact))
      (λ cs x xs q e b' is saw exact. (band-inv none (seen r crew.generation cs) (named crew.generation (is_in S)) (length S) c true (x ∷ xs) q b', short (seen r crew.generation cs) q x xs (only-seen crew.generation S cs r only) (recount (omega arith) b') is saw exact))
      b
    where
      recount :
          {r : Names} {ls : List ℕ} {q : Progress} → c ≡ d →
          Band u sc none r (named crew.generation (is_in S)) (length S) c true ls q →
          Band u sc none r (named crew.generation (is_in S)) (length S) d true ls q
      recount e b = record {
        looks = b.looks;
        enough = b.enough;
        secured = b.secured;
        budget = omega (arith, b.budget);
        lacking = b.lacking;
        still = b.still;
        marks = b.marks;
        beside = b.beside;
      }
  rule-settle side crew S same dS below_S d w full short (suc rounds) c sum w' up r ls p only b =
      rule-count (Ends (full_end side)) (round u.image crew (settle u.image crew S side rounds)) crew.generation S r
      (named crew.generation (is_in S)) (length S) c w' ls p dS below_S (λ k e. below_S k (only crew.generation k e).1)
      (λ rows looks. omega arith)
      (λ cs q e b' is saw exact. (band-inv none (seen r crew.generation cs) (named crew.generation (is_in S)) (length S) c w' [] q b', full (seen r crew.generation cs) q c w' up (only-seen crew.generation S cs r only) b' is saw exact))
      (λ cs x xs q e b' is saw exact.
      let lack = in-filter (λ k. not (is_in cs k)) S x xs e in
      let off : seen r crew.generation cs crew.generation x ≡ false =
      unseen (r crew.generation x) (is_in cs x) (same_generation crew.generation crew.generation)
      (not-true (is_in cs x) lack.1) (same-refl crew.generation) in
      rule-round (settle u.image crew S side rounds) crew x xs (seen r crew.generation cs) S (length S) c q same off
      lack.0 (only-seen crew.generation S cs r only)
      (λ r' q' only' b''. rule-settle side crew S same dS below_S d w full short rounds (c + 1) (omega arith) true (λ e. refl) r' (x ∷ xs) q' only' b'') b')
      b

  ---- Several quits, several starts, and fewer names

  pub band-part :
      (s r t t' : Names) (n n' c : ℕ) (w : Bool) (ls : List ℕ) (p : Progress) →
      ((rows : List Process) → Looks (view u s r) rows → weigh (ready_in u.number t) rows + n' ≤ weigh (ready_in u.number t') rows + n)
      → Enough u.number sc.floor sc.serves t' n' → Band u sc s r t n c w ls p → Band u sc s r t' n' c w ls p
  band-part s r t t' n n' c w ls p part le b =
      let lost = part p.table.rows b.looks in
      record { looks = b.looks; enough = le; secured = λ a e. omega (arith, b.secured a e, lost); budget = omega (arith, b.budget, lost); lacking = b.lacking; still = b.still; marks = b.marks; beside = b.beside }

  pub band-anew : (s r t : Names) (n c : ℕ) (w : Bool) (ls : List ℕ) (p : Progress) → Band u sc s r t n c w ls p → Band u sc s r t n 0 w ls p
  band-anew s r t n c w ls p b = record {
    looks = b.looks;
    enough = b.enough;
    secured = b.secured;
    budget = omega (arith, b.budget);
    lacking = b.lacking;
    still = b.still;
    marks = b.marks;
    beside = b.beside;
  }

  -- and fewer failures are counted beside
  pub band-fewer : (s r t : Names) (n c c' : ℕ) (w : Bool) (ls : List ℕ) (p : Progress) → c' ≤ c → Band u sc s r t n c w ls p → Band u sc s r t n c' w ls p
  band-fewer s r t n c c' w ls p le b = record {
    looks = b.looks;
    enough = b.enough;
    secured = b.secured;
    budget = omega (arith, b.budget, le);
    lacking = b.lacking;
    still = b.still;
    marks = b.marks;
    beside = b.beside;
  }

  less-cons : (g : Generation) (r r' : Names) (x : ℕ) (ks : List ℕ) → Less g (minus r g x) ks r' → Less g r (x ∷ ks) r'
  less-cons g r r' x ks less h k e =
      let a = less h k e in
      (and-left (r h k) _ a.0, λ is. go (x == k) refl (a.1 is) (subst (λ y. not (bears g x y k) ≡ true) is (and-right (r h k) _ a.0)))
    where
      go : (b : Bool) → (x == k) ≡ b → is_in ks k ≡ false → not (bears g x g k) ≡ true → (b || is_in ks k) ≡ false
      go true is f e' =
          let on = bears-refl g x in
          let same : bears g x g k ≡ true = subst (λ y. bears g x g y ≡ true) (eqb-is x k is) on in
          absurd (cc)
      go false is f e' = f

  sub-minus : (s : Names) (g : Generation) (x : ℕ) → Sub (minus s g x) s
  sub-minus s g x h k e = and-left (s h k) _ e

  -- Both what may be Starting and what may be Ready is without these numbers.
  pub rule-quits :
      (rest : Tree) (g : Generation) (ks : List ℕ) (s r t : Names) (n c : ℕ) (w : Bool) (ls : List ℕ) (p : Progress) →
      ((k : ℕ) → is_in ks k ≡ true → t g k ≡ false) →
      ((s' r' : Names) (q : Progress) → Less g s ks s' → Less g r ks r' → Band u sc s' r' t n c w ls q → Runs rest q) →
      Band u sc s r t n c w ls p → Runs (quits u.image g ks rest) p
  rule-quits rest g [] s r t n c w ls p off next b = next s r p (λ h k e. (e, λ is. refl)) (λ h k e. (e, λ is. refl)) b
  rule-quits rest g (x ∷ ks) s r t n c w ls p off next b =
      rule-quit (quits u.image g ks rest) g x s r t n c w ls p (off x (in-here x x ks refl))
      (λ q b'. rule-quits rest g ks (minus s g x) (minus r g x) t n c w ls q (λ k e. off k (in-there x k ks e)) (λ s' r' q' less_s less b''. next s' r' q' (less-cons g s s' x ks less_s) (less-cons g r r' x ks less) b'') b')
      b

  -- how far the forks have come: what is left and what was forked are the whole list, and no other number may be Starting
  pub record Forking (g : Generation) (all ks done : List ℕ) (s : Names) : Type 0 where
    pub left : (k : ℕ) → is_in ks k ≡ true → is_in all k ≡ true
    pub within : (k : ℕ) → is_in done k ≡ true → is_in all k ≡ true
    pub covers : (k : ℕ) → is_in all k ≡ true → (is_in ks k ≡ true) ⊎ (is_in done k ≡ true)
    pub only : Only g done s

  forking-first : (g : Generation) (all : List ℕ) → Forking g all all [] none
  forking-first g all = record { left = λ k e. e; within = λ k e. absurd (cc); covers = λ k e. inl e; only = λ h k e. absurd (cc) }

  forking-next :
      (g : Generation) (all : List ℕ) (x : ℕ) (ks done : List ℕ) (s : Names) → Forking g all (x ∷ ks) done s →
      Forking g all ks (x ∷ done) (plus s g x)
  forking-next g all x ks done s h = record {
    left = λ k e. h.left k (in-there x k ks e);
    within = λ k e. ⊎_elim (λ same. subst (λ y. is_in all y ≡ true) same (h.left x (in-here x x ks refl))) (λ a. h.within k a) (in-cases x k done e);
    covers = λ k e. ⊎_elim (λ a. ⊎_elim (λ same. inr (in-here x k done same)) (λ b. inl b) (in-cases x k ks a)) (λ a. inr (in-there x k done a)) (h.covers k e);
    only =
        λ j k e. ⊎_elim (λ a. let o = h.only j k a in (o.0, in-there x k done o.1))
        (λ a. let is = bears-is g x j k a in (is.0, in-here x k done (sym is.1))) (or-elim (s j k) (bears g x j k) e);
  }

  -- Fork all: nothing is counted until the waits.
  pub rule-forks :
      (ok bad : List ℕ → Tree) (crew : Crew) (all : List ℕ) → HoldsShare u crew → (r t : Names) (n : ℕ) (w : Bool)
      (ls : List ℕ) (c : ℕ) →
      ((done : List ℕ) (s : Names) (q : Progress) → Forking crew.generation all [] done s → Band u sc s r t n c w ls q → Runs (ok done) q)
      →
      ((ks done : List ℕ) (s : Names) (q : Progress) → Forking crew.generation all ks done s → Band u sc s r t n (c + 1) true ls q → Runs (bad done) q)
      → (ks done : List ℕ) (s : Names) (p : Progress) → Forking crew.generation all ks done s → Band u sc s r t n c w ls
      p → Runs (forks u.image crew ks done ok bad) p
  rule-forks ok bad crew all same r t n w ls c on_ok on_bad [] done s p h b = on_ok done s p h b
  rule-forks ok bad crew all same r t n w ls c on_ok on_bad (x ∷ ks) done s p h b =
      rule-fork (forks u.image crew ks (x ∷ done) ok bad) (bad done) crew.generation x (fds_of crew.posts x) s r t n c w ls p (same x)
      (λ q b'. rule-forks ok bad crew all same r t n w ls c on_ok on_bad ks (x ∷ done) (plus s crew.generation x) q (forking-next crew.generation all x ks done s h) b')
      (λ q b'. on_bad (x ∷ ks) done s q h b') b

  -- what is known before the rest of the waits: what is left, what became Ready, what may be Ready, and the names
  abbrev pub Known : Type 1
  Known = List ℕ → List ℕ → Names → Names → ℕ → Type 0

  sub-trans : (a b c : Names) → Sub a b → Sub b c → Sub a c
  sub-trans a b c x y g k e = y g k (x g k e)

  -- Wait for all: each that becomes Ready joins the names.
  pub rule-awaits :
      (Q : Known) (ok bad : Tree) (g : Generation) →
      ((x : ℕ) (ks done : List ℕ) (r t : Names) (n : ℕ) → Q (x ∷ ks) done r t n → (r g x ≡ false) × Q ks (x ∷ done) (plus r g x) (also g x t) (n + 1))
      → (ls : List ℕ) (w : Bool) (c : ℕ) (ks done : List ℕ) (s r t : Names) (n : ℕ) (p : Progress) →
      ((done' : List ℕ) (s' r' t' : Names) (n' : ℕ) (q : Progress) → Q [] done' r' t' n' → Less g s ks s' → Band u sc s' r' t' n' c w ls q → Runs ok q)
      →
      ((ks' done' : List ℕ) (s' r' t' : Names) (n' : ℕ) (q : Progress) → Q ks' done' r' t' n' → Sub s' s → Band u sc s' r' t' n' (c + 1) true ls q → Runs bad q)
      → Q ks done r t n → Band u sc s r t n c w ls p → Runs (awaits u.image g ks ok bad) p
  rule-awaits Q ok bad g more ls w c [] done s r t n p on_ok on_bad h b = on_ok done s r t n p h (λ j k e. (e, λ is. refl)) b
  rule-awaits Q ok bad g more ls w c (x ∷ ks) done s r t n p on_ok on_bad h b =
      let next = more x ks done r t n h in
      let joins : Joins g x t (also g x t) n (n + 1) c c =
      record
      { has = or-right (t g x) (bears g x g x) (bears-refl g x); sub = λ h k e. or-left (t h k) (bears g x h k) e; more = omega arith; count = omega arith; enough = enough-also u.number sc.floor sc.serves t n g x b.enough }
      in
      let failed = λ (q : Progress) (b' : Band u sc (minus s g x) r t n (c + 1) true ls q). on_bad (x ∷ ks) done (minus s g x) r t n q h (sub-minus s g x) b' in
      rule-await (await_edges (awaits u.image g ks ok bad) bad (does u.image (Kill g x) (then_edge bad))) g x s r t
      (also g x t) n (n + 1) c c w ls p next.0 joins
      (λ q b'. rule-awaits Q ok bad g more ls w c ks (x ∷ done) (minus s g x) (plus r g x) (also g x t) (n + 1) q
      (λ done' s' r' t' n' q' h' less b''. on_ok done' s' r' t' n' q' h' (less-cons g s s' x ks less) b'')
      (λ ks' done' s' r' t' n' q' h' sub b''. on_bad ks' done' s' r' t' n' q' h' (sub-trans s' (minus s g x) s sub (sub-minus s g x)) b'')
      next.1 b')
      (λ q b'. rule-kill bad g x s r t n (c + 1) true ls q next.0 failed b')
      failed b

  -- Fork all, then wait for all. On the way on no number is Starting; on the way back at most those that were forked.
  pub rule-starts :
      (Q : Known) (ok : Tree) (bad : List ℕ → Tree) (crew : Crew) → HoldsShare u crew →
      ((x : ℕ) (ks done : List ℕ) (r t : Names) (n : ℕ) → Q (x ∷ ks) done r t n → (r crew.generation x ≡ false) × Q ks (x ∷ done) (plus r crew.generation x) (also crew.generation x t) (n + 1))
      → (ls : List ℕ) (w : Bool) (c : ℕ) (all : List ℕ) (r t : Names) (n : ℕ) →
      ((done : List ℕ) (r' t' : Names) (n' : ℕ) (q : Progress) → Q [] done r' t' n' → Band u sc none r' t' n' c w ls q → Runs ok q)
      →
      ((forked ks done : List ℕ) (s r' t' : Names) (n' : ℕ) (q : Progress) → ((k : ℕ) → is_in forked k ≡ true → is_in all k ≡ true) → Only crew.generation forked s → Q ks done r' t' n' → ((ks ≡ all) × (done ≡ [])) ⊎ ((k : ℕ) → is_in all k ≡ true → is_in forked k ≡ true) → Band u sc s r' t' n' (c + 1) true ls q → Runs (bad forked) q)
      → (p : Progress) → Q all [] r t n → Band u sc none r t n c w ls p → Runs (starts u.image crew all ok bad) p
  rule-starts Q ok bad crew same more ls w c all r t n on_ok on_bad p h b =
      rule-forks (λ forked. awaits u.image crew.generation all ok (bad forked)) bad crew all same r t n w ls c
      (λ forked s q fk b'. rule-awaits Q ok (bad forked) crew.generation more ls w c all [] s r t n q
      (λ done s' r' t' n' q' h' less b''. on_ok done r' t' n' q' h' (band-still s' none r' t' n' c w ls q'
      (λ j k e. let l = less j k e in let o = fk.only j k l.0 in let off = l.1 o.0 in let in_it = fk.within k o.1 in absurd (cc)) b''))
      (λ ks done s' r' t' n' q' h' sub b''. on_bad forked ks done s' r' t' n' q' fk.within (λ j k e. fk.only j k (sub j k e)) h'
      (inr (λ k e. ⊎_elim (λ a. absurd (cc)) (λ a. a) (fk.covers k e))) b'')
      h b')
      (λ ks done s q fk b'. on_bad done all [] s r t n q fk.within fk.only h (inl (refl, refl)) b')
      all [] none p (forking-first crew.generation all) b

  ---- Usr1

  pub rule-usr1s :
      (rest : Tree) (g : Generation) (ks : List ℕ) (s r t : Names) (n c : ℕ) (w : Bool) (ls : List ℕ) (p : Progress) →
      ((q : Progress) → Band u sc s r t n c w ls q → Runs rest q) → Band u sc s r t n c w ls p →
      Runs (usr1s u.image g ks rest) p
  rule-usr1s rest g [] s r t n c w ls p next b = next p b
  rule-usr1s rest g (x ∷ ks) s r t n c w ls p next b =
      rule-sure (Usr1 g x) (usr1s u.image g ks rest) s r t n c w ls p refl tt (λ q b'.
      rule-usr1s rest g ks s r t n c w ls (passed_at q.table q) next (band-moved u s s r r t n c w ls q.table q b'.looks refl b'.still b'.beside b')) b

  ---- Start whatever is answered

  -- the workers of the name are gone
  abbrev cut_at : Generation → ℕ → Progress → Progress
  cut_at g x q = passed_at (each_row (drop_where (is_worker is_any u.number g x)) q.table) q

  band-cut :
      (g : Generation) (x : ℕ) (s r t : Names) (n c : ℕ) (w : Bool) (ls : List ℕ) (q : Progress) → t g x ≡ false →
      Band u sc s r t n c w ls q → Band u sc (minus s g x) (minus r g x) t n c w ls (cut_at g x q)
  band-cut g x s r t n c w ls q off b =
      band-moved u s (minus s g x) r (minus r g x) t n c w ls (cut_at g x q).table q
      (cut-looks (view u s r) g x q.table.rows b.looks) (cut-weigh u.number g x t q.table.rows off) b.still (drops-name g x q b.beside) b

  pub rule-cut :
      (rest : Tree) (g : Generation) (x : ℕ) (s r t : Names) (n c : ℕ) (w : Bool) (ls : List ℕ) (p : Progress) →
      t g x ≡ false → ((q : Progress) → Band u sc (minus s g x) (minus r g x) t n c w ls q → Runs rest q) →
      Band u sc s r t n c w ls p → Runs (does u.image (Kill g x) (then_edge rest)) p
  rule-cut rest g x s r t n c w ls p off next b =
      rule-sure (Kill g x) rest s r t n c w ls p refl tt (λ q b'. next (cut_at g x q) (band-cut g x s r t n c w ls q off b')) b

  pub rule-kills :
      (rest : Tree) (g : Generation) (ks : List ℕ) (s r t : Names) (n c : ℕ) (w : Bool) (ls : List ℕ) (p : Progress) →
      ((k : ℕ) → is_in ks k ≡ true → t g k ≡ false) →
      ((s' r' : Names) (q : Progress) → Less g s ks s' → Less g r ks r' → Band u sc s' r' t n c w ls q → Runs rest q) →
      Band u sc s r t n c w ls p → Runs (kills u.image g ks rest) p
  rule-kills rest g [] s r t n c w ls p off next b = next s r p (λ h k e. (e, λ is. refl)) (λ h k e. (e, λ is. refl)) b
  rule-kills rest g (x ∷ ks) s r t n c w ls p off next b =
      rule-cut (kills u.image g ks rest) g x s r t n c w ls p (off x (in-here x x ks refl))
      (λ q b'. rule-kills rest g ks (minus s g x) (minus r g x) t n c w ls q (λ k e. off k (in-there x k ks e)) (λ s' r' q' less_s less b''. next s' r' q' (less-cons g s s' x ks less_s) (less-cons g r r' x ks less) b'') b')
      b

  -- Wait until these are gone; one that is late is killed.
  pub rule-waits :
      (rest : Tree) (g : Generation) (ks : List ℕ) (s r t : Names) (n : ℕ) (w : Bool) (ls : List ℕ) (p : Progress) →
      ((k : ℕ) → is_in ks k ≡ true → t g k ≡ false) →
      ((s' r' : Names) (w' : Bool) (c' : ℕ) (q : Progress) → Sub s' s → Sub r' r → (w ≡ true → w' ≡ true) → Band u sc s' r' t n c' w' ls q → Runs rest q)
      → (c : ℕ) → Band u sc s r t n c w ls p → Runs (awaits_gone u.image g ks rest) p
  rule-waits rest g [] s r t n w ls p off next c b = next s r w c p (λ h k e. e) (λ h k e. e) (λ e. e) b
  rule-waits rest g (x ∷ ks) s r t n w ls p off next c b =
      let order = Make (AwaitGone g x) in
      let more = awaits_gone u.image g ks rest in
      let bs = gone_edges more (does u.image (Kill g x) (then_edge more)) in
      let off' : (k : ℕ) → is_in ks k ≡ true → t g k ≡ false = λ k e. off k (in-there x k ks e) in
      rule-step order [] bs s r t n c w ls p refl b (λ q b' fate.
      gone-cases co.handed u.image me g x fate q.table (λ st. Answers order [] bs q st)
      (rule-cut more g x s r t n (c + 1) true ls (failed_at q) (off x (in-here x x ks refl))
      (λ q' b''. rule-waits rest g ks (minus s g x) (minus r g x) t n true ls q' off'
      (λ s' r' w' c' q'' sub_s sub_r up b3. next s' r' w' c' q'' (λ h k e. and-left (s h k) _ (sub_s h k e)) (λ h k e. and-left (r h k) _ (sub_r h k e)) (λ e. up refl) b3)
      (c + 1) b'')
      (band-failed s r t n c w ls q b'))
      (rule-waits rest g ks (minus s g x) (minus r g x) t n w ls (cut_at g x q) off'
      (λ s' r' w' c' q'' sub_s sub_r up b3. next s' r' w' c' q'' (λ h k e. and-left (s h k) _ (sub_s h k e)) (λ h k e. and-left (r h k) _ (sub_r h k e)) up b3)
      c
      (band-cut g x s r t n c w ls q (off x (in-here x x ks refl)) b')))

  -- Only these may be Starting beside those of s.
  abbrev pub Within_or : Generation → List ℕ → Names → Names → Type 0
  Within_or g ks s s' = (h : Generation) (k : ℕ) → s' h k ≡ true → (s h k ≡ true) ⊎ ((h ≡ g) × (is_in ks k ≡ true))

  pub rule-forks-any :
      (rest : Tree) (crew : Crew) → HoldsShare u crew → (ks : List ℕ) (s r t : Names) (n c : ℕ) (w : Bool) (ls : List ℕ)
      (p : Progress) →
      ((s' : Names) (c' : ℕ) (w' : Bool) (q : Progress) → Within_or crew.generation ks s s' → c ≤ c' → (w ≡ true → w' ≡ true) → Band u sc s' r t n c' w' ls q → Runs rest q)
      → Band u sc s r t n c w ls p → Runs (forks_any u.image crew ks rest) p
  rule-forks-any rest crew same [] s r t n c w ls p next b = next s c w p (λ h k e. inl e) (omega arith) (λ e. e) b
  rule-forks-any rest crew same (x ∷ ks) s r t n c w ls p next b =
      rule-fork-on (fork_any_edges (forks_any u.image crew ks rest)) crew.generation x (fds_of crew.posts x) s r t n c w ls p (same x)
      (λ q b'. rule-forks-any rest crew same ks (plus s crew.generation x) r t n c w ls q
      (λ s' c' w' q' within more up b''. next s' c' w' q' (λ h k e. ⊎_elim (λ a. ⊎_elim (λ z. inl z) (λ z. let is = bears-is crew.generation x h k z in inr (is.0, in-here x k ks (sym is.1))) (or-elim (s h k) (bears crew.generation x h k) a)) (λ a. inr (a.0, in-there x k ks a.1)) (within h k e)) more up b'')
      b')
      (λ q b'.
      let h = rule-forks-any rest crew same ks s r t n (c + 1) true ls q
      (λ s' c' w' q' within more up b''. next s' c' w' q' (λ h k e. ⊎_elim (λ a. inl a) (λ a. inr (a.0, in-there x k ks a.1)) (within h k e)) (omega (arith, more)) (λ e. up refl) b'')
      b' in
      (h, h)) b

  -- a name that failed joins the names too, since its fault pays for it. There is no floor
  band-owed :
      (g : Generation) (x : ℕ) (s r t : Names) (n c : ℕ) (w : Bool) (ls : List ℕ) (p : Progress) →
      ((a : Address) → sc.floor a ≡ 0) → Band u sc s r t n (c + 1) w ls p → Band u sc s r (also g x t) (n + 1) c w ls p
  band-owed g x s r t n c w ls p zero_f b =
      let sub = weigh-sub u.number t (also g x t) (λ h k e. or-left (t h k) (bears g x h k) e) p.table.rows in
      record { looks = b.looks; enough = enough-also u.number sc.floor sc.serves t n g x b.enough; secured = λ a e. absurd (omega (arith, zero_f a, e)); budget = omega (arith, b.budget, sub); lacking = b.lacking; still = b.still; marks = b.marks; beside = b.beside }

  pub rule-awaits-any :
      (Q : Known) (rest : Tree) (g : Generation) → ((a : Address) → sc.floor a ≡ 0) →
      ((x : ℕ) (ks done : List ℕ) (r t : Names) (n : ℕ) → Q (x ∷ ks) done r t n → (r g x ≡ false) × Q ks (x ∷ done) (plus r g x) (also g x t) (n + 1) × Q ks (x ∷ done) r (also g x t) (n + 1))
      → (ls : List ℕ) (c : ℕ) (ks done : List ℕ) (s r t : Names) (n : ℕ) (w : Bool) (p : Progress) →
      ((done' : List ℕ) (s' r' t' : Names) (n' : ℕ) (w' : Bool) (q : Progress) → Q [] done' r' t' n' → Less g s ks s' → (w ≡ true → w' ≡ true) → Band u sc s' r' t' n' c w' ls q → Runs rest q)
      → Q ks done r t n → Band u sc s r t n c w ls p → Runs (awaits_any u.image g ks rest) p
  rule-awaits-any Q rest g zero_f more ls c [] done s r t n w p next h b = next done s r t n w p h (λ j k e. (e, λ is. refl)) (λ e. e) b
  rule-awaits-any Q rest g zero_f more ls c (x ∷ ks) done s r t n w p next h b =
      let after = more x ks done r t n h in
      let tree = awaits_any u.image g ks rest in
      let joins : Joins g x t (also g x t) n (n + 1) c c =
      record
      { has = or-right (t g x) (bears g x g x) (bears-refl g x); sub = λ h k e. or-left (t h k) (bears g x h k) e; more = omega arith; count = omega arith; enough = enough-also u.number sc.floor sc.serves t n g x b.enough }
      in
      let failed = λ (q : Progress) (b' : Band u sc (minus s g x) r t n (c + 1) true ls q).
      rule-awaits-any Q rest g zero_f more ls c ks (x ∷ done) (minus s g x) r (also g x t) (n + 1) true q
      (λ done' s' r' t' n' w' q' h' less up b''. next done' s' r' t' n' w' q' h' (less-cons g s s' x ks less) (λ e. up refl) b'')
      after.2 (band-owed g x (minus s g x) r t n c true ls q zero_f b') in
      rule-await (await_any_edges tree (does u.image (Kill g x) (then_edge tree))) g x s r t (also g x t) n (n + 1) c c w ls p after.0 joins
      (λ q b'. rule-awaits-any Q rest g zero_f more ls c ks (x ∷ done) (minus s g x) (plus r g x) (also g x t) (n + 1) w q
      (λ done' s' r' t' n' w' q' h' less up b''. next done' s' r' t' n' w' q' h' (less-cons g s s' x ks less) up b'')
      after.1 b')
      (λ q b'. rule-kill tree g x s r t n (c + 1) true ls q after.0 failed b')
      failed b
