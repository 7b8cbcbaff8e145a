-- Plans of one master that keep its addresses and its generation: what they start from, what they keep, and their ends.
use Rattle.std.proofs.Common.{◌≡◌, ℕ, ◌+◌, ◌<◌, ◌≤◌, Bool, true, false, List, [], ◌∷◌, length, Some, None, refl, sym, ap, ◌∙◌, subst, arith}
use Rattle.std.specs.Prelude.{sum}
use Rattle.std.specs.List.{AllByRecursion, list_any}
use Rattle.listener_set.specs.Numbers.{is_in}
use Rattle.listener_set.specs.declared.generation.Generation.{Generation}
use Rattle.definitions.specs.Table.{Address, Table, is_worker, has_address, Service, service, serving}
use Rattle.call_laws.specs.Pieces.{is_ready, share, lacked_last, has_socket}
use Rattle.definitions.specs.Master.{Layout, served, shortfalls_of, Crew, Record, Agrees, addresses_of, crew_of}
use Rattle.definitions.specs.Master.{layout_of, want, layout_wanted, sides_of, Sides}
use Rattle.vocabulary.specs.declared.targets.Target.{Target}
use Rattle.vocabulary.specs.declared.reports.Outcome.TheVariants as outcome
use Rattle.vocabulary.specs.declared.plans.Side.TheVariants.{Old, Target as New}
use Rattle.vocabulary.specs.declared.plans.End.TheVariants.{Done, RolledBack, ShortOld, ShortTarget}
use Rattle.definitions.specs.Run.{Tree, Pattern, Progress, Ending, At, Ran, start_at, outcome_of, report_of}
use Rattle.definitions.specs.After.{named_record, reported}
use Rattle.definitions.specs.Claims.{IsStart, FallsShort, Says, Kept, IsBlamed, HasCause, IsPaid, IsCommon, ready_with}
use Rattle.definitions.specs.Claims.{AgreesAfter, IsSucceeded}
use Rattle.theorems.proofs.Headlines.{EndsAsReported}
use Rattle.table_laws.proofs.Rows.{every-more}
use Rattle.table_laws.proofs.Views.{Names, named, View, Looks}
use Rattle.table_laws.proofs.Effects.{none}
use Rattle.table_laws.proofs.Sets.{in-here}
use Rattle.table_laws.proofs.Services.{live-with, live-with-on, falls-same}
use Rattle.table_laws.proofs.Counts.{Counted, counted-all, Distinct}
use Rattle.table_laws.proofs.Shares.{shortfalls-sum}
use Rattle.table_laws.proofs.Begins.{first_view, begin, begin-count, rising-distinct}
use Rattle.table_laws.proofs.Small.{every-is_in}
use Rattle.table_laws.proofs.After.{agrees-after}
use Rattle.theorems.proofs.Ends.{resized, report_at, ListensBy, service-of, service-short, first-keys, first-listens}
use Rattle.theorems.proofs.Ends.{first-served, first-service, census-within, files-still, kept-after}
use Rattle.run_laws.proofs.Logic.{Unasked, Anyhow, Along, Course, from-along, are-mild-anyhow, refused_in, run_in}
use Rattle.run_laws.proofs.Rules.{Enough, covers-part, level-by, IsGood, Ground, Scene, plain_scene, Still, Band, Only, view, any, floor-by}

-- A target that wants the workers of a set at the record's addresses, as the record lays them out, and its floor at each.
pub record Like (rec : Record) (target : Target) : Type 0 where
  pub set : List ℕ
  pub wanted : ℕ
  pub floor : Address → ℕ
  pub layout : layout_wanted rec target ≡ layout_of rec
  pub wants : want rec target ≡ serving (addresses_of rec) rec.generation (served (layout_of rec) set)
  pub below : (k : ℕ) → is_in set k ≡ true → k < wanted
  pub most : wanted ≤ 1024
  pub done : named_record outcome.Done rec target ≡ Some (resized rec wanted)
  pub short : (shortfalls : List ℕ) → named_record (outcome.Degraded New shortfalls) rec target ≡ Some (resized rec wanted)
  pub rolled_back : named_record outcome.RolledBack rec target ≡ Some (resized rec rec.wanted)
  pub short_old : (shortfalls : List ℕ) → named_record (outcome.Degraded Old shortfalls) rec target ≡ Some (resized rec rec.wanted)
  pub leaves : (t : Table) (ran : Ran) → AgreesAfter rec target (report_of (sides_of rec target) ran) ran.last.table → IsSucceeded rec target t ran

module _ (t : Table) (rec : Record) (target : Target) (pattern : Pattern) (s : IsStart t rec) (like : Like rec target) where
  abbrev g : Generation
  g = rec.generation

  abbrev pub first : View
  first = first_view rec s.agrees.holds

  abbrev R : List ℕ
  R = rec.ready

  abbrev crew : Crew
  crew = crew_of rec

  abbrev layout : Layout
  layout = layout_of rec

  abbrev sides : Sides
  sides = sides_of rec target

  -- the names whose workers hold an address
  abbrev serves : Address → Names
  serves a h k = has_address a (first.held h k)

  abbrev pub scene : Scene rec.pid rec.generation.image
  scene = plain_scene rec.pid rec.generation.image like.floor serves t.files rec.note t.limits

  abbrev pub course : Course
  course = record { handed = None; pattern = pattern; executing = rec.generation.image ∷ []; heirs = [] }

  pub acts : is_in (rec.generation.image ∷ []) rec.generation.image ≡ true
  acts = in-here rec.generation.image rec.generation.image [] refl

  -- at each address of both services so many Ready workers, losses aside
  abbrev pub Level : Progress → Type 0
  Level q = (a : Address) → IsCommon (service t) (want rec target) a → like.floor a ≤ ready_with a q.table + q.losses

  abbrev pub inv : Progress → Type 0
  inv q = Kept (service t) (want rec target) t q.table × Level q × IsBlamed q

  abbrev pub post : Ending → Progress → Type 0
  post e q =
      Says rec target (outcome_of sides e (lacked_last q.lacked)) t q.table × IsPaid rec.retries (outcome_of sides e (lacked_last q.lacked)) q
      × HasCause (outcome_of sides e (lacked_last q.lacked)) q.cause × AgreesAfter rec target (report_at sides e q) q.table

  abbrev pub Goes : Tree → Progress → Type 0
  Goes tree q = Along inv post Anyhow Unasked course tree q

  looks0 : Looks first t.rows
  looks0 = begin t rec s

  -- what is known between two steps of the plan gives what is claimed at each moment
  pub good : IsGood first scene inv
  good names count w q enough looks secured marks beside = (
    λ a socket common on. live-with-on (view first any any) (has_socket a socket) q.table.rows looks
        (sym (live-with first (λ n. refl) (has_socket a socket) t.rows looks0) ∙ on),
    λ a common. floor-by (like.floor a) (ready_with a q.table + q.losses)
        (λ e. level-by (view first any any) (like.floor a) (serves a) names count a q.table.rows q.losses (λ h k on. on) (enough a e) looks (omega (arith, secured a e))),
    (marks.clean, marks.blamed),
  )

  abbrev pub ground : Ground first scene
  ground = record { inv = inv; post = post; co = course; acts = acts; good = good }

  ---- The ends

  -- each worker listens where its group does
  listens : ListensBy first g layout
  listens k a on = first-listens t rec s k a

  some : 1 ≤ length rec.posts.groups
  some = s.record_in_range.groups.some

  abbrev pub Exactly : Progress → Type 0
  Exactly q = (k : ℕ) → list_any (is_worker is_ready rec.pid g k) q.table.rows ≡ is_in q.ready k

  -- What a last census says of the record that is left.
  agrees-then :
      (S : List ℕ) (r : Names) (q : Progress) (wanted : ℕ) → Only g S r → Looks (view first none r) q.table.rows →
      Exactly q → Still t.files rec.note t.limits q.table.files q.note q.table.limits → (e : Ending) →
      Agrees q.table (reported (resized rec wanted) (report_at sides e q) rec.pid)
  agrees-then S r q wanted only looks exact still e =
      agrees-after (view first none r) crew q.table _ (λ n. refl) (λ k. refl) (λ h k on. (only h k on).0) looks exact
      refl refl refl s.agrees.listeners
      (files-still rec.note q.note rec.pid_path rec.pid t.files q.table.files t.limits q.table.limits s.agrees.files still)

  within-old : (r : Names) (q : Progress) → Only g R r → Looks (view first none r) q.table.rows → Exactly q → (k : ℕ) → is_in q.ready k ≡ true → k < rec.wanted
  within-old r q only looks exact k e =
      every-is_in (λ j. j < rec.wanted) R s.record_in_range.ready k
      (census-within first (λ n. refl) g R r q.table.rows q.ready only looks exact k e)

  pub old-full :
      (r : Names) (q : Progress) (c : ℕ) (w : Bool) → (true ≡ true → w ≡ true) → Only g R r →
      Band first scene none r (named g (is_in R)) (length R) c w [] q → (lacked_last q.lacked) ≡ [] →
      Counted rec.pid g R (lacked_last q.lacked) q.table.rows → Exactly q → post (At RolledBack) q
  old-full r q c w up only b is saw exact = (
    λ a. service-of first (λ n. refl) g R (addresses_of rec) layout listens (first-keys t rec s) r q.table (lacked_last q.lacked)
        only b.looks is saw a ∙ sym (first-service t rec s a),
    tt,
    b.marks.caused (up refl),
    kept-after rec target (report_at sides (At RolledBack) q) q.table rec.wanted like.rolled_back s.record_in_range
        s.record_in_range.wanted (within-old r q only b.looks exact)
        (agrees-then R r q rec.wanted only b.looks exact b.still (At RolledBack)),
  )

  pub old-short :
      (r : Names) (q : Progress) (x : ℕ) (xs : List ℕ) → Only g R r →
      Band first scene none r (named g (is_in R)) (length R) rec.retries true (x ∷ xs) q → (lacked_last q.lacked) ≡ x ∷ xs →
      Counted rec.pid g R (lacked_last q.lacked) q.table.rows → Exactly q → post (At ShortOld) q
  old-short r q x xs only b is saw exact = (
    falls-same layout (shortfalls_of rec.posts.groups (lacked_last q.lacked)) _ _ _ (λ a. sym (first-service t rec s a))
        (service-short first (λ n. refl) g R (addresses_of rec) layout listens (first-keys t rec s) r q.table (lacked_last q.lacked) only b.looks some (omega (arith, ap length is)) saw),
    omega (arith, b.budget, counted-all rec.pid g R (lacked_last q.lacked) q.table.rows saw, shortfalls-sum rec.posts.groups (lacked_last q.lacked) some),
    b.marks.caused refl,
    kept-after rec target (report_at sides (At ShortOld) q) q.table rec.wanted
        (like.short_old (shortfalls_of rec.posts.groups (lacked_last q.lacked))) s.record_in_range s.record_in_range.wanted
        (within-old r q only b.looks exact) (agrees-then R r q rec.wanted only b.looks exact b.still (At ShortOld)),
  )

  within-new :
      (r : Names) (q : Progress) → Only g like.set r → Looks (view first none r) q.table.rows → Exactly q → (k : ℕ) →
      is_in q.ready k ≡ true → k < like.wanted
  within-new r q only looks exact k e = like.below k (census-within first (λ n. refl) g like.set r q.table.rows q.ready only looks exact k e)

  pub new-full :
      (v : Bool) (r : Names) (q : Progress) (c : ℕ) (w : Bool) → (v ≡ true → w ≡ true) → Only g like.set r →
      Band first scene none r (named g (is_in like.set)) (length like.set) c w [] q → (lacked_last q.lacked) ≡ [] →
      Counted rec.pid g like.set (lacked_last q.lacked) q.table.rows → Exactly q → post (At Done) q
  new-full v r q c w up only b is saw exact = (
    λ a. service-of first (λ n. refl) g like.set (addresses_of rec) layout listens (first-keys t rec s) r q.table
        (lacked_last q.lacked) only b.looks is saw a ∙ ap (λ (f : Service). f a) (sym like.wants),
    tt,
    tt,
    kept-after rec target (report_at sides (At Done) q) q.table like.wanted like.done s.record_in_range like.most
        (within-new r q only b.looks exact) (agrees-then like.set r q like.wanted only b.looks exact b.still (At Done)),
  )

  pub new-short :
      (r : Names) (q : Progress) (x : ℕ) (xs : List ℕ) → Only g like.set r →
      Band first scene none r (named g (is_in like.set)) (length like.set) rec.retries true (x ∷ xs) q →
      (lacked_last q.lacked) ≡ x ∷ xs → Counted rec.pid g like.set (lacked_last q.lacked) q.table.rows → Exactly q → post (At ShortTarget) q
  new-short r q x xs only b is saw exact = (
    subst (λ (l : Layout). FallsShort l (shortfalls_of l.groups (lacked_last q.lacked)) (want rec target) (service q.table)) (sym like.layout)
        (falls-same layout (shortfalls_of rec.posts.groups (lacked_last q.lacked)) _ _ _ (λ a. ap (λ (f : Service). f a) (sym like.wants))
        (service-short first (λ n. refl) g like.set (addresses_of rec) layout listens (first-keys t rec s) r q.table (lacked_last q.lacked) only b.looks some (omega (arith, ap length is)) saw)),
    omega
        (arith, b.budget, counted-all rec.pid g like.set (lacked_last q.lacked) q.table.rows saw, shortfalls-sum rec.posts.groups (lacked_last q.lacked) some, ap (λ (l : Layout). sum (shortfalls_of l.groups (lacked_last q.lacked))) like.layout),
    b.marks.caused refl,
    kept-after rec target (report_at sides (At ShortTarget) q) q.table like.wanted
        (like.short (shortfalls_of sides.target (lacked_last q.lacked))) s.record_in_range like.most (within-new r q only b.looks exact)
        (agrees-then like.set r q like.wanted only b.looks exact b.still (At ShortTarget)),
  )

  ---- The start, and the whole run

  -- where the numbers of a set that an address counts are no fewer than its floor
  pub covers : (S : List ℕ) → Distinct S → ((a : Address) → like.floor a ≤ served layout S a) → Enough rec.pid like.floor serves (named g (is_in S)) (length S)
  covers S d le a e =
      covers-part rec.pid (like.floor a) (serves a) g S (λ k. has_address a (share rec.posts k s.agrees.holds)) d
      (λ k on. on) (omega (arith, le a, first-served t rec s S a))

  pub start-band :
      ((a : Address) → like.floor a ≤ served layout R a) →
      Band first scene none first.ready (named g (is_in R)) (length R) 0 false [] (start_at t rec.note)
  start-band enough =
      let count = begin-count t rec s in
      record { looks = looks0; enough = covers R (rising-distinct R s.rising) enough; secured = λ a e. omega (arith, count); budget = omega (arith, count); lacking = refl; marks = record { clean = λ e. refl; blamed = λ e. absurd (cc e); caused = λ e. absurd (cc e); returned = refl }; still = record { files_stay = refl; note_stays = refl; limits_stay = refl }; beside = tt }

  pub whole : (tree : Tree) → Goes tree (start_at t rec.note) → refused_in course tree (start_at t rec.note) ≡ None →
      let ran = run_in course tree (start_at t rec.note) in
      EndsAsReported t rec target ran × AllByRecursion Level ran.passed
  whole tree goes spared =
      let ran = run_in course tree (start_at t rec.note) in
      let all = from-along inv post Anyhow Unasked course tree (start_at t rec.note) goes spared (are-mild-anyhow course tree (start_at t rec.note)) in (
        record {
          says = all.last.0;
          after = like.leaves t ran all.last.3;
          kept = every-more inv (λ q. Kept (service t) (want rec target) t q.table) (λ q h. h.0) ran.passed all.always;
          blamed = every-more inv IsBlamed (λ q h. h.2) ran.passed all.always;
          cause = all.last.2;
          paid = all.last.1;
        },
        every-more inv Level (λ q h. h.1) ran.passed all.always,
      )
