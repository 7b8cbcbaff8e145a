-- The headline for a reload, in one step or more.
use Rattle.std.proofs.Common.{◌≡◌, ℕ, ◌+◌, ◌<◌, ◌≤◌, Bool, true, false, cond, not, List, [], ◌∷◌, length, Some, None}
use Rattle.std.proofs.Common.{refl, sym, ap, ◌∙◌, subst, arith, ◌⊎◌, inl, inr, ⊎_elim}
use Rattle.std.specs.Prelude.{⊤, option_map, unwrap_or, filter, map, reverse, min, ◌&&◌, ◌||◌, ◌==◌, if◌then◌else◌, bytes_eq, is_some}
use Rattle.std.specs.List.{AllByRecursion, list_any}
use Rattle.definitions.specs.Table.{Address, same_generation, Hold, Process, Table, bears, is_worker, has_address}
use Rattle.definitions.specs.Table.{Service, service}
use Rattle.call_laws.specs.Pieces.{is_at, is_ready, lacks_address, closes, census, census_edges, share, lacked_last}
use Rattle.call_laws.specs.Pieces.{has_socket, listener_of}
use Rattle.listener_set.specs.declared.generation.Generation.{Generation}
use Rattle.definitions.specs.Calls.{put_hold}
use Rattle.definitions.specs.Run.{Tree, Pattern, Progress, Ending, At, start_at, outcome_of}
use Rattle.listener_set.specs.Numbers.{RisesFrom, is_in, numbers_below}
use Rattle.definitions.specs.Plans.{reload_on, settle, opens, only_in, asks, awaits_gone, on, awaits_any}
use Rattle.listener_set.specs.AddressList.{has}
use Rattle.definitions.specs.Master.{Posts, Crew, Layout, group_of, layout_in, short_at, shortfalls_of, Sides}
use Rattle.definitions.specs.Master.{reload_generation, want, wanted_at, sides_of, Record, Agrees, addresses_of}
use Rattle.definitions.specs.Master.{crew_of, layout_of}
use Rattle.definitions.specs.After.{next_config, crew_wanted, posts_wanted, named_record, reported, renewed, reloaded}
use Rattle.definitions.specs.After.{with_added, all_opened, still_wanted, posts_of}
use Rattle.vocabulary.specs.declared.targets.Target.TheVariants.{Reload}
use Rattle.vocabulary.specs.Settings.{Settings, IsInRange}
use Rattle.table_laws.proofs.Listeners.{fds, opens-on, all_closed, closed-kept, added-is, fds-listed, some-held}
use Rattle.table_laws.proofs.Layouts.{told, share-lacks-none, share-listens}
use Rattle.table_laws.proofs.Shares.{share-lacks, shortfalls-sum}
use Rattle.std.proofs.lemmas.List.Sums.{length-filter}
use Rattle.theorems.proofs.Ends.{numbered-config}
use Rattle.theorems.proofs.Ends.{ListensBy, first-listens, next-is, moved-after, resized, report_at, service-of}
use Rattle.theorems.proofs.Ends.{service-short, first-keys, first-service, first-held, first-few, census-within}
use Rattle.theorems.proofs.Ends.{files-still, kept-after}
use Rattle.vocabulary.specs.declared.plans.Side.TheVariants.{Old, Target}
use Rattle.vocabulary.specs.declared.plans.End.TheVariants.{Done, RolledBack, ShortOld, ShortTarget}
use Rattle.definitions.specs.Claims.{AgreesAfter, IsStart, Says, IsPaid, Kept, Floor, IsCommon, IsBlamed, HasCause}
use Rattle.definitions.specs.Claims.{HasDescriptors, ready_with}
use Rattle.vocabulary.specs.declared.table.Listener.{Listener}
use Rattle.table_laws.proofs.Rows.{weigh, every-more, both-true}
use Rattle.call_laws.proofs.Choices.{and-left, and-right}
use Rattle.table_laws.proofs.Views.{Names, named, View, Looks, ready_in, eqb-off}
use Rattle.table_laws.proofs.Effects.{none, after_open, after_close, same-is, same-refl, bears-is, looks-allows}
use Rattle.table_laws.proofs.Counts.{Distinct, Counted, counted-all}
use Rattle.table_laws.proofs.Sets.{in-here, in-there, in-cases, below-of, below-on, below-distinct, weigh-either, weigh-set, weigh-part}
use Rattle.table_laws.proofs.Services.{live-with, live-with-on, fewer-same}
use Rattle.table_laws.proofs.Begins.{first_view, begin, begin-count, rising-distinct}
use Rattle.table_laws.proofs.Addresses.{stays-lacks, stays-put, any-put, has-lacks, lacks-put, stands-filter}
use Rattle.table_laws.proofs.After.{agrees-after}
use Rattle.run_laws.proofs.Logic.{Unasked, Course, Along, Anyhow, from-along, are-mild-anyhow}
use Rattle.table_laws.proofs.Small.{in-reverse, every-is_in, off-from, true-false, or-elim, map-addresses}
use Rattle.run_laws.proofs.Rules.{IsGood, Enough, covers-part, level-by, Scene, Ground, Still, floor-by}
use Rattle.run_laws.proofs.Rules.{view, any, plus, seen, ready_of, also, Marks, Band, band-holds, Less, Only, band-part}
use Rattle.run_laws.proofs.Rules.{band-anew, band-still, rule-quits, rule-starts, rule-settle, rule-count, rule-open}
use Rattle.run_laws.proofs.Rules.{rule-close, rule-waits, rule-step, Answers, marks-plain, marks-back}
use Rattle.std.proofs.Common.{zero, suc, ◌++◌}
use Rattle.std.specs.Prelude.{take, drop, nat_lt}
use Rattle.std.proofs.lemmas.List.{append-nil, take-append-drop, reverse-append, reverse-reverse, append_assoc}
use Rattle.std.proofs.lemmas.Bool.Decides.{nat_tests}
use Rattle.listener_set.specs.Numbers.{lacks}
use Rattle.definitions.specs.Master.{served}
use Rattle.definitions.specs.Calls.{shared, gives}
use Rattle.definitions.specs.Run.{Return, Nothing, after_call}
use Rattle.definitions.specs.Table.{Master, Worker, Foreign, Caller}
use Rattle.definitions.specs.Calls.{Ask}
use Rattle.vocabulary.specs.declared.calls.Reply.TheVariants as reply
use Rattle.vocabulary.specs.declared.calls.Answer.TheVariants as answer
use Rattle.vocabulary.specs.declared.plans.Order.TheVariants.{Make}
use Rattle.call_laws.proofs.Cases.{ask-cases}
use Rattle.definitions.specs.Master.{fds_of}
use Rattle.call_laws.specs.Pieces.{quits}
use Rattle.table_laws.proofs.Rows.{one, weigh-le-all, weigh-add}
use Rattle.table_laws.proofs.Counts.{filter-distinct}
use Rattle.table_laws.proofs.Sets.{in-filter-of, Within}
use Rattle.definitions.specs.Plans.{Step, Rollout, staying, rolled, is_enough, rollout_of, quits_new, taken_back, in_steps, last_step}
use Rattle.definitions.specs.Plans.{closes_opened, reload_plan}
use Rattle.definitions.specs.Claims.{run_of, owed_in}
use Rattle.theorems.proofs.Headlines.{ReloadHeadline}
use Rattle.table_laws.proofs.Rolling.{stays, parted, Parted, every-at, enough-first, enough-more}
use Rattle.theorems.proofs.Owed.{owed_scene, fewer, forks-owed, awaits-owed}
use Rattle.std.proofs.Common.{Option}
use Rattle.table_laws.proofs.Addresses.{any-put}
use Rattle.run_laws.proofs.Rules.{weigh-sub}
use Rattle.table_laws.proofs.Counts.{is_in-append}
use Rattle.table_laws.proofs.Rows.{or-left, or-right}
use Rattle.std.proofs.lemmas.List.{length-append}

next-other : (g : Generation) → same_generation (reload_generation g) g ≡ false
next-other g = go (g.image == g.image) (eqb-off (g.config + 1) g.config (omega arith))
  where
    go : (a : Bool) → (g.config + 1 == g.config) ≡ false → (a && (g.config + 1 == g.config)) ≡ false
    go true e = e
    go false e = refl

pub other-next : (g : Generation) → same_generation g (reload_generation g) ≡ false
other-next g = go (g.image == g.image) (eqb-off g.config (g.config + 1) (omega arith))
  where
    go : (a : Bool) → (g.config == g.config + 1) ≡ false → (a && (g.config == g.config + 1)) ≡ false
    go true e = e
    go false e = refl

-- what was opened, the last first
record HasOpened (a : Address) (holds : List Hold) (H0 : List Hold) (Common Rest : List Hold → Type 0) : Type 0 where
  hold : Hold
  before : List Hold
  is : holds ≡ put_hold hold before
  names : hold.address ≡ a
  fresh : has_address a before ≡ false
  apart : has_address a H0 ≡ false
  common : Common before
  rest : Rest before

abbrev From : List Hold → (List Hold → Type 0) → List Address → List Hold → Type 0
From H0 C [] hs = hs ≡ H0
From H0 C (a ∷ l) hs = HasOpened a hs H0 C (From H0 C l)

from-has :
    (H0 : List Hold) (C : List Hold → Type 0) (l : List Address) (hs : List Hold) → From H0 C l hs → (a : Address) →
    has_address a hs ≡ (has l a || has_address a H0)
from-has H0 C [] hs o a = ap (has_address a) o
from-has H0 C (b ∷ l) hs o a =
    ap (has_address a) o.is ∙ any-put (is_at a) o.hold o.before ∙ ap (λ z. bytes_eq z a || has_address a o.before)
    o.names ∙ ap (λ z. bytes_eq b a || z) (from-has H0 C l o.before o.rest a) ∙ assoc (bytes_eq b a) (has l a)
    (has_address a H0)
  where
    assoc : (x y z : Bool) → (x || (y || z)) ≡ ((x || y) || z)
    assoc true y z = refl
    assoc false y z = refl

-- what is known before the rest of the starts
record Started (g new : Generation) (R : List ℕ) (n : ℕ) (ks done : List ℕ) (r t : Names) (count : ℕ) : Type 0 where
  only : (h : Generation) (k : ℕ) → r h k ≡ true → ((h ≡ g) × (is_in R k ≡ true)) ⊎ ((h ≡ new) × (is_in done k ≡ true))
  fresh : (k : ℕ) → is_in ks k ≡ true → (is_in done k ≡ false) × (k < n)
  apart : Distinct ks
  started : (k : ℕ) → is_in done k ≡ true → k < n
  all : (k : ℕ) → k < n → (is_in done k ≡ true) ⊎ (is_in ks k ≡ true)
  names : (h : Generation) (k : ℕ) → t h k ≡ true → (named g (is_in R) h k ≡ true) ⊎ (named new (is_in done) h k ≡ true)
  counted : count ≡ length R + length done

not-on : (b : Bool) → (b ≡ true → ⊥) → b ≡ false
not-on true h = absurd (h refl)
not-on false h = refl

one-more :
    (g : Generation) (R : List ℕ) (n x : ℕ) (ks done : List ℕ) (r t : Names) (count : ℕ) → Started g
    (reload_generation g) R n (x ∷ ks) done r t count → (r (reload_generation g) x ≡ false) × Started g
    (reload_generation g) R n ks (x ∷ done) (plus r (reload_generation g) x) (also (reload_generation g) x t)
    (count + 1)
one-more g R n x ks done r t count s =
    let new = reload_generation g in
    let f = s.fresh x (in-here x x ks refl) in (
      not-on (r new x)
          (λ on. ⊎_elim (λ a. true-false (same_generation new g) (subst (λ h. same_generation new h ≡ true) a.0 (same-refl new)) (next-other g)) (λ a. true-false (is_in done x) a.1 f.0) (s.only new x on)),
      record {
        only =
            λ h k e. ⊎_elim (λ a. ⊎_elim (λ b. inl b) (λ b. inr (b.0, in-there x k done b.1)) (s.only h k a))
            (λ a. let is = bears-is new x h k a in inr (is.0, in-here x k done (sym is.1)))
            (or-elim (r h k) (bears new x h k) e);
        fresh = λ k e.
            let o = s.fresh k (in-there x k ks e) in
            (off-from (x ∷ done) k (λ on. ⊎_elim (λ same. true-false (is_in ks x) (subst (λ y. is_in ks y ≡ true) (sym same) e) s.apart.0) (λ a. true-false (is_in done k) a o.0) (in-cases x k done on)), o.1);
        apart = s.apart.1;
        started = λ k e. ⊎_elim (λ same. subst (λ y. y < n) same f.1) (λ a. s.started k a) (in-cases x k done e);
        all = λ k lt. ⊎_elim (λ a. inl (in-there x k done a)) (λ a. ⊎_elim (λ same. inl (in-here x k done same)) (λ b. inr b) (in-cases x k ks a)) (s.all k lt);
        names =
            λ h k e. ⊎_elim
            (λ a. ⊎_elim (λ b. inl b) (λ b. inr (both-true (same_generation h new) (is_in (x ∷ done) k) (and-left _ _ b) (in-there x k done (and-right (same_generation h new) _ b)))) (s.names h k a))
            (λ a. let is = bears-is new x h k a in inr (both-true (same_generation h new) (is_in (x ∷ done) k) (and-left _ _ a) (in-here x k done (sym is.1))))
            (or-elim (t h k) (bears new x h k) e);
        counted = omega (arith, s.counted);
      },
    )

module _ (t : Table) (rec : Record) (st : Settings) (pattern : Pattern) (s : IsStart t rec) (range : IsInRange st)
    (ds : HasDescriptors t rec) (numbered : is_some (next_config rec.generation) ≡ true) (stepped : Bool) where
  abbrev g : Generation
  g = rec.generation

  abbrev new : Generation
  new = reload_generation rec.generation

  -- the old workers and the new ones
  abbrev old_crew : Crew
  old_crew = crew_of rec

  abbrev new_crew : Crew
  new_crew = crew_wanted rec (Reload st)

  abbrev posts : Posts
  posts = posts_wanted rec (Reload st)

  -- where the groups of the new ones listen
  abbrev layout : Layout
  layout = layout_in st.groups st.listeners

  abbrev sides : Sides
  sides = sides_of rec (Reload st)

  abbrev R : List ℕ
  R = rec.ready

  abbrev H0 : List Hold
  H0 = s.agrees.holds

  abbrev A0 : List Address
  A0 = addresses_of rec

  abbrev wanted : List Address
  wanted = st.listeners

  abbrev n : ℕ
  n = st.workers

  low : n ≤ 1024
  low = range.workers

  abbrev S : List ℕ
  S = numbers_below n

  -- the floor of an address
  abbrev f : Address → ℕ
  f a = if has A0 a then min (ready_with a t) (wanted_at rec (Reload st) a) else 0

  -- what is excused after so many faults
  abbrev exc : ℕ → ℕ
  exc k = if stepped then k else 0

  exc-more : (k : ℕ) → exc k ≤ exc (k + 1)
  exc-more k = go stepped
    where
      go : (b : Bool) → (if b then k else 0) ≤ (if b then k + 1 else 0)
      go true = omega arith
      go false = omega arith

  exc-full : stepped ≡ true → (k : ℕ) → k ≤ exc k
  exc-full is k = go stepped is
    where
      go : (b : Bool) → b ≡ true → k ≤ (if b then k else 0)
      go true e = omega arith
      go false e = absurd (cc e)

  f-least : (a : Address) → f a ≤ min (ready_with a t) (wanted_at rec (Reload st) a)
  f-least a = go (has A0 a)
    where
      go : (b : Bool) → (if b then min (ready_with a t) (wanted_at rec (Reload st) a) else 0) ≤ min (ready_with a t) (wanted_at rec (Reload st) a)
      go true = omega arith
      go false = omega arith

  f-has : (a : Address) → 1 ≤ f a → has A0 a ≡ true
  f-has a e = go (has A0 a) e
    where
      go : (b : Bool) → 1 ≤ (if b then min (ready_with a t) (wanted_at rec (Reload st) a) else 0) → b ≡ true
      go true e = refl
      go false e = absurd (omega (arith, e))

  f-is : (a : Address) → has A0 a ≡ true → f a ≡ min (ready_with a t) (wanted_at rec (Reload st) a)
  f-is a e = rw e refl

  -- the numbers whose groups listen at an address
  abbrev old_at : Address → ℕ → Bool
  old_at a k = (layout_of rec).listens (group_of rec.posts.groups k) a

  abbrev new_at : Address → ℕ → Bool
  new_at a k = layout.listens (group_of st.groups k) a

  -- Who serves there: the old workers while addresses are opened, or closed again; both when all are open; at last the new ones.
  abbrev serves_old : Address → Names
  serves_old a h k = same_generation h g && old_at a k

  abbrev serves : Address → Names
  serves a h k = if same_generation h g then old_at a k else new_at a k

  abbrev serves_new : Address → Names
  serves_new a h k = new_at a k

  -- and what is known of the way back: the returns, and the faults that are owed
  abbrev scene_of : List Return → ℕ → (Address → Names) → Scene rec.pid rec.generation.image
  scene_of rs owed who = owed_scene exc exc-more rec.pid rec.generation.image f who t.files rec.note t.limits rs owed

  abbrev sc : Scene rec.pid rec.generation.image
  sc = scene_of [] 0 serves

  abbrev sc1 : Scene rec.pid rec.generation.image
  sc1 = scene_of [] 0 serves_new

  abbrev co : Course
  co = record { handed = None; pattern = pattern; executing = rec.generation.image ∷ []; heirs = [] }

  acts : is_in (rec.generation.image ∷ []) rec.generation.image ≡ true
  acts = in-here rec.generation.image rec.generation.image [] refl

  abbrev old : Service
  old = service t

  abbrev target : Service
  target = want rec (Reload st)

  -- at each address of both services so many Ready workers, losses aside
  abbrev Level : Progress → Type 0
  Level q = (a : Address) → IsCommon old target a → f a ≤ ready_with a q.table + q.losses + exc q.faults

  abbrev inv : Progress → Type 0
  inv q = Kept old target t q.table × Level q × IsBlamed q

  abbrev post : Ending → Progress → Type 0
  post e q =
      Says rec (Reload st) (outcome_of sides e (lacked_last q.lacked)) t q.table
      × IsPaid rec.retries (outcome_of sides e (lacked_last q.lacked)) q × HasCause (outcome_of sides e (lacked_last q.lacked)) q.cause
      × AgreesAfter rec (Reload st) (report_at sides e q) q.table

  abbrev Goes : Tree → Progress → Type 0
  Goes tree q = Along inv post Anyhow Unasked co tree q

  -- a view of the record's master
  abbrev ours : View → View
  ours v = record { number = rec.pid; others = v.others; image = g.image; holds = v.holds; starting = v.starting; ready = v.ready; held = v.held }

  -- Old workers hold their shares of what was held at first, and those that were started again, as the new ones, of what the
  -- master holds.
  abbrev both : (ℕ → Bool) → List Hold → View
  both again hs = record {
    number = rec.pid;
    others = λ n. false;
    image = g.image;
    holds = hs;
    starting = none;
    ready = none;
    held = λ h k. if same_generation h g then (if again k then share rec.posts k hs else share rec.posts k H0) else share posts k hs;
  }

  -- all are new, and hold their shares of what the master holds
  abbrev same : List Hold → View
  same hs = record { number = rec.pid; others = λ n. false; image = g.image; holds = hs; starting = none; ready = none; held = λ h k. share posts k hs }

  low-R : (k : ℕ) → is_in R k ≡ true → k < 1024
  low-R k e = let lt = every-is_in (λ j. j < rec.wanted) R s.record_in_range.ready k e in omega (arith, lt, s.record_in_range.wanted)

  dR : Distinct R
  dR = rising-distinct R s.rising

  looks0 : Looks (first_view rec H0) t.rows
  looks0 = begin t rec s

  held-of : (a : Address) → is_some (old a) ≡ true → has_address a H0 ≡ true
  held-of a e = first-held t rec s a e

  wanted-of : (a : Address) → is_some (target a) ≡ true → has wanted a ≡ true
  wanted-of a e = go (has wanted a) e
    where
      go :
          (b : Bool) → is_some {T = Generation → ℕ}
          (if b then Some (λ h. if same_generation h new then wanted_at rec (Reload st) a else 0) else None) ≡ true → b
          ≡ true
      go true e = refl
      go false e = e

  -- the common addresses are held, on their sockets
  abbrev Common : List Hold → Type 0
  Common hs = (a : Address) → IsCommon old target a → (has_address a hs ≡ true) × ((k : ℕ) → has_socket a k H0 ≡ true → has_socket a k hs ≡ true)

  common0 : Common H0
  common0 a c = (held-of a c.0, λ k e. e)

  -- each new worker holds an address that is wanted and held, where its group listens
  abbrev Laid : List Hold → Type 0
  Laid hs = (k : ℕ) (a : Address) → has wanted a ≡ true → has_address a (share posts k hs) ≡ (has_address a hs && new_at a k)

  -- an old worker that is started again holds at least what it held
  abbrev Too : List Hold → Type 0
  Too hs = (a : Address) (k : ℕ) → has_address a (share rec.posts k H0) ≡ true → has_address a (share rec.posts k hs) ≡ true

  abbrev Held : List Hold → Type 0
  Held hs = Common hs × Too hs

  good :
      (rs : List Return) (owed : ℕ) (who : Address → Names) (v : View) (hs : List Hold) → v.number ≡ rec.pid → v.holds ≡ hs →
      ((a : Address) → IsCommon old target a → (h : Generation) (k : ℕ) → who a h k ≡ true → has_address a (v.held h k) ≡ true)
      → Common hs → (names : Names) (count : ℕ) (w : Bool) (q : Progress) → Enough v.number f who names count → Looks
      (view v any any) q.table.rows → ((a : Address) → 1 ≤ f a → count ≤ ready_of v names q + q.losses + owed) → Marks w rs
      q.faults q.losses q.returns q.cause → owed ≤ exc q.faults → inv q
  good rs owed who v hs num is held common names count w q enough looks secured marks beside = (
    λ a k c on. live-with-on (view v any any) (has_socket a k) q.table.rows looks
        (ap (has_socket a k) is ∙ (common a c).1 k (sym (live-with (first_view rec H0) (λ n. refl) (has_socket a k) t.rows looks0) ∙ on)),
    λ a c. floor-by (f a) (ready_with a q.table + q.losses + exc q.faults)
        (λ e.
        let l : f a ≤ ready_with a q.table + (q.losses + owed) = level-by (view v any any) (f a) (who a) names count a q.table.rows (q.losses + owed) (held a c) (enough a e) looks (omega (arith, secured a e)) in
        omega (arith, l, beside)),
    (marks.clean, marks.blamed),
  )

  -- the old workers hold what their groups listen on
  holds-old : (a : Address) (k : ℕ) → old_at a k ≡ true → has_address a (share rec.posts k H0) ≡ true
  holds-old a k on = first-listens t rec s k a ∙ on

  -- and the new ones
  holds-new :
      (hs : List Hold) → Laid hs → Common hs → (a : Address) → IsCommon old target a → (k : ℕ) → new_at a k ≡ true →
      has_address a (share posts k hs) ≡ true
  holds-new hs laid common a c k on = laid k a (wanted-of a c.1) ∙ both-true (has_address a hs) (new_at a k) (common a c).0 on

  again-holds : (again : ℕ → Bool) (hs : List Hold) → Too hs → (a : Address) (k : ℕ) → old_at a k ≡ true → has_address a (if again k then share rec.posts k hs else share rec.posts k H0) ≡ true
  again-holds again hs too a k on = go (again k)
    where
      go : (b : Bool) → has_address a (if b then share rec.posts k hs else share rec.posts k H0) ≡ true
      go true = too a k (holds-old a k on)
      go false = holds-old a k on

  good-old : (rs : List Return) (owed : ℕ) (again : ℕ → Bool) (hs : List Hold) → Held hs → IsGood (both again hs) (scene_of rs owed serves_old) inv
  good-old rs owed again hs held = good rs owed serves_old (both again hs) hs refl refl (λ a c h k. go (same_generation h g) a k) held.0
    where
      go : (b : Bool) (a : Address) (k : ℕ) → (b && old_at a k) ≡ true → has_address a (if b then (if again k then share rec.posts k hs else share rec.posts k H0) else share posts k hs) ≡ true
      go true a k on = again-holds again hs held.1 a k on
      go false a k on = absurd (cc)

  abbrev on-old : (rs : List Return) (owed : ℕ) (again : ℕ → Bool) (hs : List Hold) → Held hs → Ground (both again hs) (scene_of rs owed serves_old)
  on-old rs owed again hs held = record { inv = inv; post = post; co = co; acts = acts; good = good-old rs owed again hs held }

  good-both : (rs : List Return) (owed : ℕ) (again : ℕ → Bool) (hs : List Hold) → Laid hs → Held hs → IsGood (both again hs) (scene_of rs owed serves) inv
  good-both rs owed again hs laid held = good rs owed serves (both again hs) hs refl refl (λ a c h k. go (same_generation h g) a c k) held.0
    where
      go :
          (b : Bool) (a : Address) → IsCommon old target a → (k : ℕ) → (if b then old_at a k else new_at a k) ≡ true →
          has_address a (if b then (if again k then share rec.posts k hs else share rec.posts k H0) else share posts k hs) ≡ true
      go true a c k on = again-holds again hs held.1 a k on
      go false a c k on = holds-new hs laid held.0 a c k on

  abbrev on-both : (rs : List Return) (owed : ℕ) (again : ℕ → Bool) (hs : List Hold) → Laid hs → Held hs → Ground (both again hs) (scene_of rs owed serves)
  on-both rs owed again hs laid held = record { inv = inv; post = post; co = co; acts = acts; good = good-both rs owed again hs laid held }

  good-same : (hs : List Hold) → Laid hs → Common hs → IsGood (same hs) sc1 inv
  good-same hs laid common = good [] 0 serves_new (same hs) hs refl refl (λ a c h k on. holds-new hs laid common a c k on) common

  abbrev on-same : (hs : List Hold) → Laid hs → Common hs → Ground (same hs) sc1
  on-same hs laid common = record { inv = inv; post = post; co = co; acts = acts; good = good-same hs laid common }

  -- the old workers are enough, and so are the new ones
  enough-old : (who : Address → Names) → ((a : Address) (k : ℕ) → old_at a k ≡ true → who a g k ≡ true) → Enough rec.pid f who (named g (is_in R)) (length R)
  enough-old who serve a e = covers-part rec.pid (f a) (who a) g R (old_at a) dR (serve a) (omega (arith, f-least a, first-few t rec s a, length-filter (old_at a) R))

  enough-new :
      (who : Address → Names) → ((a : Address) (k : ℕ) → new_at a k ≡ true → who a new k ≡ true) →
      Enough rec.pid f who (named new (is_in S)) (length S)
  enough-new who serve a e = covers-part rec.pid (f a) (who a) new S (new_at a) (below-distinct n) (serve a) (omega (arith, f-least a, length-filter (new_at a) S))

  old-serve-alone : (a : Address) (k : ℕ) → old_at a k ≡ true → serves_old a g k ≡ true
  old-serve-alone a k on = both-true (same_generation g g) (old_at a k) (same-refl g) on

  old-serve : (a : Address) (k : ℕ) → old_at a k ≡ true → serves a g k ≡ true
  old-serve a k on = rw (same-refl g) on

  new-serve : (a : Address) (k : ℕ) → new_at a k ≡ true → serves a new k ≡ true
  new-serve a k on = rw (next-other g) on

  -- the same is known where others serve
  by-others :
      (rs : List Return) (owed : ℕ) (who who' : Address → Names) (v : View) (ss r names : Names) (count c : ℕ) (w : Bool) (ls : List ℕ) (q : Progress)
      → Enough rec.pid f who' names count → Band (ours v) (scene_of rs owed who) ss r names count c w ls q → Band (ours v)
      (scene_of rs owed who') ss r names count c w ls q
  by-others rs owed who who' v ss r names count c w ls q enough b = record {
    looks = b.looks;
    enough = enough;
    secured = b.secured;
    budget = b.budget;
    lacking = b.lacking;
    still = b.still;
    marks = b.marks;
    beside = b.beside;
  }

  abbrev old_held : (ℕ → Bool) → List Hold → Generation → ℕ → List Hold
  old_held again hs h k = if same_generation h g then (if again k then share rec.posts k hs else share rec.posts k H0) else share posts k hs

  held-old : (again : ℕ → Bool) (hs : List Hold) (h : Generation) (k : ℕ) → h ≡ g → old_held again hs h k ≡ (if again k then share rec.posts k hs else share rec.posts k H0)
  held-old again hs h k e = go (same_generation h g) (subst (λ x. same_generation x g ≡ true) (sym e) (same-refl g))
    where
      go : (b : Bool) → b ≡ true → (if b then (if again k then share rec.posts k hs else share rec.posts k H0) else share posts k hs) ≡ (if again k then share rec.posts k hs else share rec.posts k H0)
      go true e = refl
      go false e = cc

  held-first : (again : ℕ → Bool) (h : Generation) (k : ℕ) → h ≡ g → old_held again H0 h k ≡ share rec.posts k H0
  held-first again h k e = held-old again H0 h k e ∙ same-both (again k)
    where
      same-both : (b : Bool) → (if b then share rec.posts k H0 else share rec.posts k H0) ≡ share rec.posts k H0
      same-both true = refl
      same-both false = refl

  held-new : (again : ℕ → Bool) (hs : List Hold) (h : Generation) (k : ℕ) → h ≡ new → old_held again hs h k ≡ share posts k hs
  held-new again hs h k e = go (same_generation h g) (subst (λ x. same_generation x g ≡ false) (sym e) (next-other g))
    where
      go : (b : Bool) → b ≡ false → (if b then (if again k then share rec.posts k hs else share rec.posts k H0) else share posts k hs) ≡ share posts k hs
      go true e = cc
      go false e = refl

  ---- The ends

  abbrev Exactly : Generation → Progress → Type 0
  Exactly h q = (k : ℕ) → list_any (is_worker is_ready rec.pid h k) q.table.rows ≡ is_in q.ready k

  -- Where its groups listen the old side serves.
  listens-old : (again : ℕ → Bool) → ListensBy (both again H0) g (layout_of rec)
  listens-old again k a on = ap (has_address a) (held-first again g k refl) ∙ first-listens t rec s k a

  agrees-old :
      (again : ℕ → Bool) (r : Names) (q : Progress) → Only g R r → Looks (view (both again H0) none r) q.table.rows → Exactly g q →
      Still t.files rec.note t.limits q.table.files q.note q.table.limits → (e : Ending) →
      Agrees q.table (reported (resized rec rec.wanted) (report_at sides e q) rec.pid)
  agrees-old again r q only looks exact still e =
      agrees-after (view (both again H0) none r) old_crew q.table _ (λ n. refl) (λ k. held-first again g k refl)
      (λ h k on. (only h k on).0) looks exact refl refl refl s.agrees.listeners
      (files-still rec.note q.note rec.pid_path rec.pid t.files q.table.files t.limits q.table.limits s.agrees.files still)

  within-old :
      (again : ℕ → Bool) (r : Names) (q : Progress) → Only g R r → Looks (view (both again H0) none r) q.table.rows → Exactly g q → (k : ℕ) →
      is_in q.ready k ≡ true → k < rec.wanted
  within-old again r q only looks exact k e =
      every-is_in (λ j. j < rec.wanted) R s.record_in_range.ready k
      (census-within (both again H0) (λ n. refl) g R r q.table.rows q.ready only looks exact k e)

  old-full :
      (rs : List Return) (owed : ℕ) (again : ℕ → Bool) (r : Names) (q : Progress) (c : ℕ) (w : Bool) → (true ≡ true → w ≡ true) → Only g R r →
      Band (both again H0) (scene_of rs owed serves_old) none r (named g (is_in R)) (length R) c w [] q → (lacked_last q.lacked) ≡ [] →
      Counted rec.pid g R (lacked_last q.lacked) q.table.rows → Exactly g q → post (At RolledBack) q
  old-full rs owed again r q c w up only b is saw exact = (
    λ a. service-of (both again H0) (λ n. refl) g R (addresses_of rec) (layout_of rec) (listens-old again) (first-keys t rec s) r
        q.table (lacked_last q.lacked) only b.looks is saw a ∙ sym (first-service t rec s a),
    tt,
    b.marks.caused (up refl),
    kept-after rec (Reload st) (report_at sides (At RolledBack) q) q.table rec.wanted refl s.record_in_range
        s.record_in_range.wanted (within-old again r q only b.looks exact)
        (agrees-old again r q only b.looks exact b.still (At RolledBack)),
  )

  old-short :
      (rs : List Return) (owed : ℕ) (again : ℕ → Bool) (r : Names) (q : Progress) (x : ℕ) (xs : List ℕ) → Only g R r →
      Band (both again H0) (scene_of rs owed serves_old) none r (named g (is_in R)) (length R) rec.retries true (x ∷ xs) q → (lacked_last q.lacked) ≡ x ∷ xs →
      Counted rec.pid g R (lacked_last q.lacked) q.table.rows → Exactly g q → post (At ShortOld) q
  old-short rs owed again r q x xs only b is saw exact =
      let some = s.record_in_range.groups.some in
      let less =
      service-short (both again H0) (λ n. refl) g R (addresses_of rec) (layout_of rec) (listens-old again) (first-keys t rec s) r
      q.table (lacked_last q.lacked) only b.looks some (omega (arith, ap length is)) saw in (
        (less.0, less.1, fewer-same (short_at (layout_of rec) (shortfalls_of rec.posts.groups (lacked_last q.lacked))) _ _ _ _ (λ a. sym (first-service t rec s a)) (λ a. refl) less.2),
        omega (arith, b.budget, counted-all rec.pid g R (lacked_last q.lacked) q.table.rows saw, shortfalls-sum rec.posts.groups (lacked_last q.lacked) some),
        b.marks.caused refl,
        kept-after rec (Reload st) (report_at sides (At ShortOld) q) q.table rec.wanted refl s.record_in_range
            s.record_in_range.wanted (within-old again r q only b.looks exact)
            (agrees-old again r q only b.looks exact b.still (At ShortOld)),
      )

  -- the record with the target's service and these holds
  abbrev moved : List Hold → Record
  moved hs = record rec { listeners = map listener_of hs; posts = posts; generation = new; wanted = n; retries = st.retries; timeout = st.timeout }

  -- the listeners that the record will have
  abbrev Lists : List Hold → Type 0
  Lists hs = reloaded st.listeners rec.listeners ≡ Some (map listener_of hs)

  moved-is : (hs : List Hold) → Lists hs → renewed rec st posts (reloaded st.listeners rec.listeners) (next_config rec.generation) ≡ Some (moved hs)
  moved-is hs lists =
      ap (λ ls. renewed rec st posts ls (next_config rec.generation)) lists ∙ ap
      (λ o. renewed rec st posts (Some (map listener_of hs)) o) (next-is rec.generation numbered)

  moved-agrees :
      (hs : List Hold) (r : Names) (q : Progress) → Only new S r → Looks (view (same hs) none r) q.table.rows →
      Exactly new q → Still t.files rec.note t.limits q.table.files q.note q.table.limits → (e : Ending) →
      Agrees q.table (reported (moved hs) (report_at sides e q) rec.pid)
  moved-agrees hs r q only looks exact still e =
      agrees-after (view (same hs) none r) new_crew q.table _ (λ n. refl) (λ k. refl) (λ h k on. (only h k on).0) looks
      exact refl refl refl refl
      (files-still rec.note q.note rec.pid_path rec.pid t.files q.table.files t.limits q.table.limits s.agrees.files still)

  within-new :
      (hs : List Hold) (r : Names) (q : Progress) → Only new S r → Looks (view (same hs) none r) q.table.rows →
      Exactly new q → (k : ℕ) → is_in q.ready k ≡ true → k < n
  within-new hs r q only looks exact k e = below-of n k (census-within (same hs) (λ n. refl) new S r q.table.rows q.ready only looks exact k e)

  moved-left :
      (hs : List Hold) → ((a : Address) → has_address a hs ≡ has wanted a) → (e : Ending) (q : Progress) →
      named_record (outcome_of sides e (lacked_last q.lacked)) rec (Reload st) ≡ Some (moved hs) →
      ((k : ℕ) → is_in q.ready k ≡ true → k < n) →
      Agrees q.table (reported (moved hs) (report_at sides e q) rec.pid) →
      AgreesAfter rec (Reload st) (report_at sides e q) q.table
  moved-left hs keys e q is below agrees =
      moved-after rec (Reload st) (report_at sides e q) q.table (moved hs) rec.pid is
      (some-held hs wanted keys range.listens) range.groups low range.retries range.timeout_least range.timeout_most
      s.record_in_range.pid_path s.record_in_range.pid (λ e. refl) below agrees

  -- What is left of the holds, when all that is dropped is closed.
  record Left (hs : List Hold) : Type 0 where
    lists : Lists hs
    keys : (a : Address) → has_address a hs ≡ has wanted a
    laid : Laid hs

  listens-new : (hs : List Hold) → Left hs → ListensBy (same hs) new layout
  listens-new hs left k a on = left.laid k a (sym (left.keys a) ∙ on) ∙ ap (λ b. b && new_at a k) on

  new-full :
      (hs : List Hold) → Left hs → (r : Names) (q : Progress) (c : ℕ) (w : Bool) → (false ≡ true → w ≡ true) →
      Only new S r → Band (same hs) sc1 none r (named new (is_in S)) (length S) c w [] q → (lacked_last q.lacked) ≡ [] →
      Counted rec.pid new S (lacked_last q.lacked) q.table.rows → Exactly new q → post (At Done) q
  new-full hs left r q c w up only b is saw exact = (
    service-of (same hs) (λ n. refl) new S wanted layout (listens-new hs left) left.keys r q.table (lacked_last q.lacked) only b.looks is saw,
    tt,
    tt,
    moved-left hs left.keys (At Done) q (moved-is hs left.lists) (within-new hs r q only b.looks exact)
        (moved-agrees hs r q only b.looks exact b.still (At Done)),
  )

  new-short :
      (hs : List Hold) → Left hs → (r : Names) (q : Progress) (x : ℕ) (xs : List ℕ) → Only new S r →
      Band (same hs) sc1 none r (named new (is_in S)) (length S) rec.retries true (x ∷ xs) q → (lacked_last q.lacked) ≡ x ∷ xs →
      Counted rec.pid new S (lacked_last q.lacked) q.table.rows → Exactly new q → post (At ShortTarget) q
  new-short hs left r q x xs only b is saw exact = (
    service-short (same hs) (λ n. refl) new S wanted layout (listens-new hs left) left.keys r q.table (lacked_last q.lacked) only
        b.looks range.groups.some (omega (arith, ap length is)) saw,
    omega (arith, b.budget, counted-all rec.pid new S (lacked_last q.lacked) q.table.rows saw, shortfalls-sum st.groups (lacked_last q.lacked) range.groups.some),
    b.marks.caused refl,
    moved-left hs left.keys (At ShortTarget) q (moved-is hs left.lists) (within-new hs r q only b.looks exact)
        (moved-agrees hs r q only b.looks exact b.still (At ShortTarget)),
  )

  ---- The way back

  abbrev closing : List Address → Tree
  closing l = closes_opened g.image old_crew R rec.retries l

  lacks-again : (again : ℕ → Bool) (a : Address) (hs : List Hold) (o : HasOpened a hs H0 Held (λ x. ⊤)) → (h : Generation) (k : ℕ) → h ≡ g → lacks_address a (old_held again hs h k) ≡ old_held again o.before h k
  lacks-again again a hs o h k e =
      ap (lacks_address a) (held-old again hs h k e) ∙ go (again k) ∙ sym (held-old again o.before h k e)
    where
      go : (b : Bool) → lacks_address a (if b then share rec.posts k hs else share rec.posts k H0) ≡ (if b then share rec.posts k o.before else share rec.posts k H0)
      go true = share-lacks rec.posts k a hs ∙ ap (share rec.posts k) (ap (lacks_address a) o.is ∙ lacks-put a o.hold o.before o.names o.fresh)
      go false = share-lacks-none rec.posts k a H0 o.apart

  close-old :
      (rs : List Return) (owed : ℕ) (again : ℕ → Bool) (l : List Address) (hs : List Hold) → From H0 Held l hs → Held hs →
      (r : Names) (c : ℕ) (ls : List ℕ) (q : Progress) → Only g R r →
      Band (both again hs) (scene_of rs owed serves_old) none r (named g (is_in R)) (length R) c true ls q →
      Goes (closing l) q
  close-old rs owed again [] hs o held r c ls q only b =
      let held0 : Held H0 = (common0, λ a k e. e) in
      let b' = subst (λ x. Band (both again x) (scene_of rs owed serves_old) none r (named g (is_in R)) (length R) c true ls q) o b in
      rule-settle (both again H0) (scene_of rs owed serves_old) (on-old rs owed again H0 held0) Old old_crew R (λ k. held-first again g k refl) dR low-R rec.retries true
      (old-full rs owed again) (old-short rs owed again) rec.retries 0 (omega arith) true (λ e. refl) r ls q only
      (band-anew (both again H0) (scene_of rs owed serves_old) (on-old rs owed again H0 held0) none r (named g (is_in R)) (length R) c true ls q b')
  close-old rs owed again (a ∷ l) hs o held r c ls q only b =
      rule-close (both again hs) (scene_of rs owed serves_old) (on-old rs owed again hs held) (closing l) a r (named g (is_in R)) (length R) c true ls q
      (λ q' b'. close-old rs owed again l o.before o.rest o.common r c ls q' only (band-holds (after_close a (both again hs)) (both again o.before) (scene_of rs owed serves_old) none r (named g (is_in R)) (length R) c true ls q' (ap (lacks_address a) o.is ∙ lacks-put a o.hold o.before o.names o.fresh) (λ h k e. cc e)
      (λ h k e. lacks-again again a hs (record { hold = o.hold; before = o.before; is = o.is; names = o.names; fresh = o.fresh; apart = o.apart; common = o.common; rest = tt }) h k (only h k e).0)
      b')) b

  off-new : (k : ℕ) → named new (is_in S) g k ≡ false
  off-new k = go (same_generation g new) (other-next g)
    where
      go : (b : Bool) → b ≡ false → (b && is_in S k) ≡ false
      go true e = absurd (cc)
      go false e = refl

  ---- The way on

  -- b is not wanted
  common-lacks : (b : Address) (hs : List Hold) → has wanted b ≡ false → Common hs → Common (lacks_address b hs)
  common-lacks b hs off common a c = stays-lacks wanted a b H0 hs off (wanted-of a c.1) (common a c)

  -- a group listens as it did on what is left
  laid-lacks : (b : Address) (hs : List Hold) → Laid hs → Laid (lacks_address b hs)
  laid-lacks b hs laid k a on =
      ap (has_address a) (sym (share-lacks posts k b hs)) ∙ has-lacks a b (share posts k hs) ∙ ap (λ z. z && not (bytes_eq b a)) (laid k a on)
      ∙ swap (has_address a hs) (new_at a k) (not (bytes_eq b a)) ∙ ap (λ z. z && new_at a k) (sym (has-lacks a b hs))
    where
      swap : (x y z : Bool) → ((x && y) && z) ≡ ((x && z) && y)
      swap true true true = refl
      swap true true false = refl
      swap true false true = refl
      swap true false false = refl
      swap false y z = refl

  close-new :
      (l : List Address) (hs : List Hold) → Lists (all_closed l hs) → AllByRecursion (λ b. has wanted b ≡ false) l →
      ((a : Address) → (has_address a hs && not (has l a)) ≡ has wanted a) → Laid hs → Common hs →
      (r : Names) (c : ℕ) (w : Bool) (q : Progress) → Only new S r →
      Band (same hs) sc1 none r (named new (is_in S)) (length S) c w [] q →
      Goes (closes g.image l (settle g.image new_crew S Target rec.retries)) q
  close-new [] hs lists off keys laid common r c w q only b =
      let left : Left hs = record { lists = lists; keys = λ a. sym (and-true (has_address a hs)) ∙ keys a; laid = laid } in
      rule-settle (same hs) sc1 (on-same hs laid common) Target new_crew S (λ k. refl) (below-distinct n)
      (λ k e. omega (arith, below-of n k e)) rec.retries false (new-full hs left) (new-short hs left) rec.retries 0
      (omega arith) w (λ e. absurd (cc e)) r [] q only
      (band-anew (same hs) sc1 (on-same hs laid common) none r (named new (is_in S)) (length S) c w [] q b)
    where
      and-true : (z : Bool) → (z && true) ≡ z
      and-true true = refl
      and-true false = refl
  close-new (x ∷ l) hs lists off keys laid common r c w q only b =
      rule-close (same hs) sc1 (on-same hs laid common)
      (closes g.image l (settle g.image new_crew S Target rec.retries)) x r (named new (is_in S)) (length S) c w []
      q
      (λ q' b'. close-new l (lacks_address x hs) lists off.1 (λ a. ap (λ z. z && not (has l a)) (has-lacks a x hs) ∙ move (has_address a hs) (bytes_eq x a) (has l a) ∙ keys a) (laid-lacks x hs laid) (common-lacks x hs off.0 common) r c w q' only
      (band-holds (after_close x (same hs)) (same (lacks_address x hs)) sc1 none r (named new (is_in S)) (length S) c w [] q' refl (λ h k e. cc e) (λ h k e. share-lacks posts k x hs) b')) b
    where
      move : (h e r : Bool) → ((h && not e) && not r) ≡ (h && not (e || r))
      move true true r = refl
      move true false r = refl
      move false e r = refl

  abbrev dropped : List Address
  dropped = only_in A0 wanted

  abbrev added : List Address
  added = only_in wanted A0

  not-off : (b : Bool) → not b ≡ true → b ≡ false
  not-off true e = cc
  not-off false e = refl

  every-filter : (test : Address → Bool) (P : Address → Type 0) (l : List Address) → ((a : Address) → test a ≡ true → P a) → AllByRecursion P (filter test l)
  every-filter test P [] h = tt
  every-filter test P (x ∷ l) h = go (test x) refl (every-filter test P l h)
    where
      go : (b : Bool) → test x ≡ b → AllByRecursion P (filter test l) → AllByRecursion P (cond b (x ∷ filter test l) (filter test l))
      go true e all = (h x e, all)
      go false e all = all

  -- what is held when all is opened, less what is dropped, is what is wanted
  keys-of :
      (hs : List Hold) → ((a : Address) → has_address a hs ≡ (has added a || has_address a H0)) → (a : Address) →
      (has_address a hs && not (has dropped a)) ≡ has wanted a
  keys-of hs has_it a =
      ap (λ z. z && not (has dropped a)) (has_it a) ∙ ap (λ z. (z || has_address a H0) && not (has dropped a)) (stands-filter (λ b. not (has A0 b)) wanted a)
      ∙ ap (λ z. ((has wanted a && not (has A0 a)) || z) && not (has dropped a)) (held-A0 a)
      ∙ ap (λ z. ((has wanted a && not (has A0 a)) || has A0 a) && not z) (stands-filter (λ b. not (has wanted b)) A0 a) ∙ table (has wanted a) (has A0 a)
    where
      table : (w o : Bool) → (((w && not o) || o) && not (o && not w)) ≡ w
      table true true = refl
      table true false = refl
      table false true = refl
      table false false = refl

      held-A0 : (a : Address) → has_address a H0 ≡ has A0 a
      held-A0 a = held-map H0 ∙ ap (λ l. has l a) (sym (map-addresses H0) ∙ ap (map (λ (l : Listener). l.address)) s.agrees.listeners)
        where
          held-map : (hs : List Hold) → has_address a hs ≡ has (map (λ h. h.address) hs) a
          held-map [] = refl
          held-map (h ∷ hs) = ap (λ b. bytes_eq h.address a || b) (held-map hs)

  ---- Names of both sides

  abbrev pair : List ℕ → List ℕ → Names
  pair L base h k = named g (is_in L) h k || named new (is_in base) h k

  pair-new : (L base : List ℕ) (k : ℕ) → is_in base k ≡ false → pair L base new k ≡ false
  pair-new L base k off = go (same_generation new g) (same_generation new new) (is_in L k) (is_in base k) (next-other g) off
    where
      go : (x y l b : Bool) → x ≡ false → b ≡ false → ((x && l) || (y && b)) ≡ false
      go true y l b e f = absurd (cc)
      go false true l b e f = f
      go false false l b e f = refl

  pair-old : (L base : List ℕ) (k : ℕ) → is_in L k ≡ false → pair L base g k ≡ false
  pair-old L base k off = go (same_generation g g) (same_generation g new) (is_in L k) (is_in base k) (other-next g) off
    where
      go : (x y l b : Bool) → y ≡ false → l ≡ false → ((x && l) || (y && b)) ≡ false
      go true true l b e f = absurd (cc)
      go true false l b e f = go2 l f
        where
          go2 : (l : Bool) → l ≡ false → (l || false) ≡ false
          go2 true e = absurd (cc)
          go2 false e = refl
      go false true l b e f = absurd (cc)
      go false false l b e f = refl

  in-old : (L : List ℕ) (h : Generation) (k : ℕ) → named g (is_in L) h k ≡ true → (h ≡ g) × (is_in L k ≡ true)
  in-old L h k e = (same-is h g (and-left _ _ e), and-right (same_generation h g) _ e)

  in-new : (L : List ℕ) (h : Generation) (k : ℕ) → named new (is_in L) h k ≡ true → (h ≡ new) × (is_in L k ≡ true)
  in-new L h k e = (same-is h new (and-left _ _ e), and-right (same_generation h new) _ e)

  -- Ready ones are those that are left of the old, and of the new these
  abbrev Among : List ℕ → List ℕ → Names → Type 0
  Among L base r = (h : Generation) (k : ℕ) → r h k ≡ true → ((h ≡ g) × (is_in L k ≡ true)) ⊎ ((h ≡ new) × (is_in base k ≡ true))

  one-apart : (a b x y : Bool) → (x ≡ true → y ≡ true → ⊥) → one (a && (b && x)) + one (a && (b && y)) ≤ one (a && (b && (x || y)))
  one-apart true true true true h = absurd (h refl refl)
  one-apart true true true false h = omega arith
  one-apart true true false true h = omega arith
  one-apart true true false false h = omega arith
  one-apart true false x y h = omega arith
  one-apart false b x y h = omega arith

  apart-row : (L base : List ℕ) (p : Process) → ready_in rec.pid (named g (is_in L)) p + ready_in rec.pid (named new (is_in base)) p ≤ ready_in rec.pid (pair L base) p
  apart-row L base (Master n q i live hs) = omega arith
  apart-row L base (Worker n q h k s hs) =
      one-apart (is_ready s) (q == rec.pid) (named g (is_in L) h k) (named new (is_in base) h k)
      (λ x y. true-false (same_generation new g) (subst (λ z. same_generation z g ≡ true) (in-new base h k y).0 (and-left _ _ x)) (next-other g))
  apart-row L base (Foreign n hs) = omega arith

  weigh-apart : (L base : List ℕ) (rows : List Process) → weigh (ready_in rec.pid (named g (is_in L))) rows + weigh (ready_in rec.pid (named new (is_in base))) rows ≤ weigh (ready_in rec.pid (pair L base)) rows
  weigh-apart L base rows =
      omega
      (arith, weigh-add (ready_in rec.pid (named g (is_in L))) (ready_in rec.pid (named new (is_in base))) rows, weigh-le-all (λ p. ready_in rec.pid (named g (is_in L)) p + ready_in rec.pid (named new (is_in base)) p) (ready_in rec.pid (pair L base)) (apart-row L base) rows)

  enough-pair :
      (L base : List ℕ) → Distinct L → Distinct base → is_enough rec st base L ≡ true →
      Enough rec.pid f serves (pair L base) (length L + length base)
  enough-pair L base dL db ok a e =
      let olds = filter (old_at a) L in
      let news = filter (new_at a) base in
      let fits = every-at _ A0 ok a (f-has a e) in
      let le : min (served (layout_of rec) R a) (served layout S a) ≤ served (layout_of rec) L a + served layout base a = grind (arith, nat_tests, fits) in
      record {
        names = pair olds news;
        many = length olds + length news;
        serve = λ h k on. ⊎_elim
            (λ x. let is = in-old olds h k x in subst (λ z. serves a z k ≡ true) (sym is.0) (old-serve a k (in-filter-of (old_at a) L k is.1).1))
            (λ x. let is = in-new news h k x in subst (λ z. serves a z k ≡ true) (sym is.0) (new-serve a k (in-filter-of (new_at a) base k is.1).1))
            (or-elim (named g (is_in olds) h k) (named new (is_in news) h k) on);
        part = λ rows once. omega
            (arith, weigh-either rec.pid (pair L base) (named g (is_in L)) (named new (is_in base)) (λ h k on. or-elim (named g (is_in L) h k) (named new (is_in base) h k) on) rows, weigh-part rec.pid g rows once L olds (filter-distinct (old_at a) L dL) (λ k on. (in-filter-of (old_at a) L k on).0), weigh-part rec.pid new rows once base news (filter-distinct (new_at a) base db) (λ k on. (in-filter-of (new_at a) base k on).0), weigh-apart olds news rows);
        enough = omega (arith, f-least a, first-few t rec s a, le, length-filter (old_at a) L, length-filter (new_at a) base);
      }

  ---- Taken back

  -- From where these are left of the old and these are Ready of the new, it goes back.
  abbrev BackOk : List Hold → List ℕ → List ℕ → Tree → Type 0
  BackOk hs L base back =
      (again : ℕ → Bool) → ((k : ℕ) → is_in L k ≡ false → again k ≡ true) → (rs : List Return) (owed : ℕ) (ls : List ℕ)
      (r : Names) (q : Progress) → Among L base r → Band (both again hs) (scene_of rs owed serves) none r (pair L base) (length L + length base) 0 true ls q → Goes back q

  abbrev EnoughAt : List ℕ → List ℕ → Type 0
  EnoughAt L base = Enough rec.pid f serves (pair L base) (length L + length base)

  ready-caused :
      (again : ℕ → Bool) (hs : List Hold) (rs : List Return) (owed : ℕ) (s r names : Names) (count c : ℕ) (w w' : Bool) (ls : List ℕ) (q : Progress) →
      w' ≡ true → Band (both again hs) (scene_of rs owed serves) s r names count c w' ls q → Band (both again hs) (scene_of rs owed serves) s r names count c true ls q
  ready-caused again hs rs owed s r names count c w w' ls q on b = record {
    looks = b.looks;
    enough = b.enough;
    secured = b.secured;
    budget = b.budget;
    lacking = b.lacking;
    still = b.still;
    marks = record { clean = b.marks.clean; blamed = b.marks.blamed; caused = λ e. b.marks.caused on; returned = b.marks.returned };
    beside = b.beside;
  }

  module _ (hs : List Hold) (laid : Laid hs) (held : Held hs) where
    abbrev gd : (again : ℕ → Bool) (rs : List Return) (owed : ℕ) → Ground (both again hs) (scene_of rs owed serves)
    gd again rs owed = on-both rs owed again hs laid held

    idle : (numbers forked : List ℕ) (ss s' : Names) → Only new forked ss → Less new ss forked s' → (h : Generation) (k : ℕ) → s' h k ≡ true → none h k ≡ true
    idle numbers forked ss s' only less h k e =
        let l = less h k e in
        let o = only h k l.0 in
        absurd (true-false (is_in forked k) o.1 (l.1 o.0))

    -- Of a step's numbers some were forked; of these some became Ready.
    goes-back :
        (waits : Bool) (numbers forked done L base : List ℕ) (back : Tree) → BackOk hs L base back → EnoughAt L base →
        ((k : ℕ) → is_in numbers k ≡ true → is_in base k ≡ false) → ((k : ℕ) → is_in forked k ≡ true → is_in numbers k ≡ true)
        → ((k : ℕ) → is_in done k ≡ true → is_in forked k ≡ true) → (again : ℕ → Bool) →
        ((k : ℕ) → is_in L k ≡ false → again k ≡ true) → (rs : List Return) (owed : ℕ) (ls : List ℕ) (ss r names : Names)
        (count c : ℕ) (q : Progress) → Only new forked ss → Among L (done ++ base) r →
        ((h : Generation) (k : ℕ) → names h k ≡ true → (pair L base h k ≡ true) ⊎ (named new (is_in done) h k ≡ true)) →
        count ≡ length L + length base + length done → Band (both again hs) (scene_of rs owed serves) ss r names count c
        true ls q → Goes (quits_new g.image new_crew waits numbers back forked) q
    goes-back waits numbers forked done L base back hb enough fresh within ready again dead rs owed ls ss r names count c q only among known counted b =
        let N = length L + length base in
        let e = owed in
        let rest = if waits then awaits_gone g.image new (reverse numbers) back else back in
        let b0 = fewer exc exc-more (both again hs) f serves t.files rec.note t.limits rs inv post co acts (λ o. good-both rs o again hs laid held) ss r names count c owed true ls q b in
        let b1 = band-part (both again hs) (scene_of rs e serves) (gd again rs e) ss r names (pair L base) count N 0 true ls q
        (λ rows looks. omega (arith, weigh-either rec.pid names (pair L base) (named new (is_in done)) known rows, weigh-set rec.pid new rows looks.once done, counted))
        enough b0 in
        rule-quits (both again hs) (scene_of rs e serves) (gd again rs e) rest new forked ss r (pair L base) N 0 true ls q
        (λ k on. pair-new L base k (fresh k (within k on)))
        (λ s' r' q' less_s less b2. ends waits s' r' q' (idle numbers forked ss s' only less_s)
        (λ h k on. let l = less h k on in ⊎_elim (λ a. inl a) (λ a. inr (a.0, off-done k (l.1 a.0) a.1)) (among h k l.0))
        b2) b1
      where
        off-done : (k : ℕ) → is_in forked k ≡ false → is_in (done ++ base) k ≡ true → is_in base k ≡ true
        off-done k off on = split done (λ j e. ready j e) on
          where
            split : (l : List ℕ) → ((j : ℕ) → is_in l j ≡ true → is_in forked j ≡ true) → is_in (l ++ base) k ≡ true → is_in base k ≡ true
            split [] h on = on
            split (x ∷ l) h on =
                ⊎_elim (λ same. absurd (true-false (is_in forked k) (h k (in-here x k l same)) off)) (λ rest. split l (λ j e. h j (in-there x j l e)) rest)
                (in-cases x k (l ++ base) on)

        ends :
            (waits : Bool) (s' r' : Names) (q' : Progress) → ((h : Generation) (k : ℕ) → s' h k ≡ true → none h k ≡ true) → Among L base r' →
            Band (both again hs) (scene_of rs owed serves) s' r' (pair L base) (length L + length base) 0 true ls q' →
            Goes (if waits then awaits_gone g.image new (reverse numbers) back else back) q'
        ends false s' r' q' idle' among' b2 =
            hb again dead rs owed ls r' q' among' (band-still (both again hs) (scene_of rs owed serves) (gd again rs owed) s' none r' (pair L base) (length L + length base) 0 true ls q' idle' b2)
        ends true s' r' q' idle' among' b2 =
            rule-waits (both again hs) (scene_of rs owed serves) (gd again rs owed) back new (reverse numbers) s' r' (pair L base) (length L + length base) true ls q'
            (λ k on. pair-new L base k (fresh k (sym (in-reverse numbers k) ∙ on)))
            (λ s2 r2 w2 c2 q2 sub_s sub_r up b3. hb again dead rs owed ls r2 q2 (λ h k on. among' h k (sub_r h k on))
            (ready-caused again hs rs owed none r2 (pair L base) (length L + length base) 0 true w2 ls q2 (up refl)
            (fewer exc exc-more (both again hs) f serves t.files rec.note t.limits rs inv post co acts (λ o. good-both rs o again hs laid held) none r2 (pair L base) (length L + length base) c2 owed w2 ls q2
            (band-still (both again hs) (scene_of rs owed serves) (gd again rs owed) s2 none r2 (pair L base) (length L + length base) c2 w2 ls q2 (λ h k on. idle' h k (sub_s h k on)) b3))))
            0 b2

  ---- The old workers of a step are started again

  in-both : (xs ys : List ℕ) (k : ℕ) → is_in (xs ++ ys) k ≡ true → (is_in xs k ≡ true) ⊎ (is_in ys k ≡ true)
  in-both xs ys k e = or-elim (is_in xs k) (is_in ys k) (sym (is_in-append xs ys k) ∙ e)

  record Again (L L1 base ks done : List ℕ) (r tn : Names) (count : ℕ) : Type 0 where
    only : Among (done ++ L1) base r
    fresh : (k : ℕ) → is_in ks k ≡ true → is_in (done ++ L1) k ≡ false
    apart : Distinct ks
    names : (h : Generation) (k : ℕ) → tn h k ≡ true → pair (done ++ L1) base h k ≡ true
    counted : count ≡ length (done ++ L1) + length base
    within : (k : ℕ) → is_in (done ++ L1) k ≡ true → is_in L k ≡ true
    left : (k : ℕ) → is_in ks k ≡ true → is_in L k ≡ true
    sum : length (done ++ L1) + length ks ≡ length L

  again-more :
      (L L1 base : List ℕ) (x : ℕ) (ks done : List ℕ) (r tn : Names) (count : ℕ) → Again L L1 base (x ∷ ks) done r tn count →
      (r g x ≡ false) × Again L L1 base ks (x ∷ done) (plus r g x) (also g x tn) (count + 1) × Again L L1 base ks (x ∷ done) r (also g x tn) (count + 1)
  again-more L L1 base x ks done r tn count s =
      let here = done ++ L1 in
      let off : is_in here x ≡ false = s.fresh x (in-here x x ks refl) in
      let next : (r' : Names) → Among (x ∷ here) base r' → Again L L1 base ks (x ∷ done) r' (also g x tn) (count + 1) = λ r' only. record {
        only = only;
        fresh = λ k e. off-from (x ∷ here) k
            (λ on. ⊎_elim (λ same. true-false (is_in ks x) (subst (λ y. is_in ks y ≡ true) (sym same) e) s.apart.0) (λ a. true-false (is_in here k) a (s.fresh k (in-there x k ks e))) (in-cases x k here on));
        apart = s.apart.1;
        names = λ h k e. ⊎_elim
            (λ a. ⊎_elim
            (λ b. or-left (named g (is_in (x ∷ here)) h k) (named new (is_in base) h k) (both-true (same_generation h g) (is_in (x ∷ here) k) (and-left _ _ b) (in-there x k here (and-right (same_generation h g) _ b))))
            (λ b. or-right (named g (is_in (x ∷ here)) h k) (named new (is_in base) h k) b)
            (or-elim (named g (is_in here) h k) (named new (is_in base) h k) (s.names h k a)))
            (λ a. let is = bears-is g x h k a in or-left (named g (is_in (x ∷ here)) h k) (named new (is_in base) h k) (both-true (same_generation h g) (is_in (x ∷ here) k) (and-left _ _ a) (in-here x k here (sym is.1))))
            (or-elim (tn h k) (bears g x h k) e);
        counted = omega (arith, s.counted);
        within = λ k e. ⊎_elim (λ same. subst (λ y. is_in L y ≡ true) same (s.left x (in-here x x ks refl))) (λ a. s.within k a) (in-cases x k here e);
        left = λ k e. s.left k (in-there x k ks e);
        sum = omega (arith, s.sum);
      } in (
        not-on (r g x)
            (λ on. ⊎_elim (λ a. true-false (is_in here x) a.1 off) (λ a. true-false (same_generation g new) (subst (λ z. same_generation g z ≡ true) a.0 (same-refl g)) (other-next g)) (s.only g x on)),
        next (plus r g x)
            (λ h k e. ⊎_elim (λ a. ⊎_elim (λ b. inl (b.0, in-there x k here b.1)) (λ b. inr b) (s.only h k a)) (λ a. let is = bears-is g x h k a in inl (is.0, in-here x k here (sym is.1))) (or-elim (r h k) (bears g x h k) e)),
        next r (λ h k e. ⊎_elim (λ b. inl (b.0, in-there x k here b.1)) (λ b. inr b) (s.only h k e)),
      )

  module _ (hs : List Hold) (laid : Laid hs) (held : Held hs) where
    takes-back :
        (is : stepped ≡ true) (waits : Bool) (numbers Q L L1 base : List ℕ) (back : Tree) → BackOk hs L base back → EnoughAt L base →
        EnoughAt L1 (reverse numbers ++ base) → ((k : ℕ) → is_in numbers k ≡ true → is_in base k ≡ false) →
        Within L1 L → Parted L L1 Q →
        BackOk hs L1 (reverse numbers ++ base) (taken_back g.image old_crew new_crew waits (record { starts = numbers; quits = Q }) back)
    takes-back is waits numbers Q L L1 base back hb enough enough1 fresh within1 p again dead rs owed ls r q among b =
        let base1 = reverse numbers ++ base in
        let rest = quits_new g.image new_crew waits numbers back (reverse numbers) in
        let good_at : (o : ℕ) → IsGood (both again hs) (scene_of rs o serves) inv = λ o. good-both rs o again hs laid held in
        forks-owed exc exc-more (both again hs) f serves t.files rec.note t.limits rs inv post co acts good_at (awaits_any g.image g Q rest) old_crew Q
        (λ k e. held-old again hs g k refl ∙ ap (λ z. if z then share rec.posts k hs else share rec.posts k H0) (dead k (p.apart k e)))
        none r (pair L1 base1) (length L1 + length base1) owed true ls q
        (λ s' w' q' within up b2.
        awaits-owed exc exc-more (both again hs) f serves t.files rec.note t.limits rs inv post co acts good_at (exc-full is) (Again L L1 base1) rest g (again-more L L1 base1) ls Q [] s' r (pair L1 base1) (length L1 + length base1) owed w' q'
        (λ done s2 r2 t2 n2 owed2 w2 q2 st less up2 b4.
        let off : (h : Generation) (k : ℕ) → s2 h k ≡ true → none h k ≡ true =
        λ h k e. let l = less h k e in ⊎_elim (λ a. a) (λ a. absurd (true-false (is_in Q k) a.1 (l.1 a.0))) (within h k l.0) in
        let b5 = band-still (both again hs) (scene_of rs owed2 serves) (on-both rs owed2 again hs laid held) s2 none r2 t2 n2 0 w2 ls q2 off b4 in
        goes-back hs laid held waits numbers (reverse numbers) (reverse numbers) L base back hb enough fresh
        (λ k e. sym (in-reverse numbers k) ∙ e) (λ k e. e) again
        (λ k e. dead k (off-from L1 k (λ on. true-false (is_in L k) (within1 k on) e)))
        rs owed2 ls none r2 t2 n2 0 q2 (λ h k e. absurd (cc e))
        (λ h k e. ⊎_elim (λ a. inl (a.0, st.within k a.1)) (λ a. inr a) (st.only h k e))
        (λ h k e. ⊎_elim
        (λ a. inl (or-left (named g (is_in L) h k) (named new (is_in base) h k) (both-true (same_generation h g) (is_in L k) (and-left _ _ a) (st.within k (and-right (same_generation h g) _ a)))))
        (λ a. ⊎_elim
        (λ z. inr (both-true (same_generation h new) (is_in (reverse numbers) k) (and-left _ _ a) z))
        (λ z. inl (or-right (named g (is_in L) h k) (named new (is_in base) h k) (both-true (same_generation h new) (is_in base k) (and-left _ _ a) z)))
        (in-both (reverse numbers) base k (and-right (same_generation h new) _ a)))
        (or-elim (named g (is_in (done ++ L1)) h k) (named new (is_in base1) h k) (st.names h k e)))
        (omega (arith, st.counted, st.sum, length-append (reverse numbers) base))
        (ready-caused again hs rs owed2 none r2 t2 n2 0 true w2 ls q2 (up2 (up refl)) b5))
        (record {
          only = among;
          fresh = λ k e. p.apart k e;
          apart = p.distinct;
          names = λ h k e. e;
          counted = refl;
          within = within1;
          left = p.within;
          sum = p.sum;
        })
        b2)
        b

  ---- Step by step

  -- How far a step has come: the new workers that are left of it, and those that became Ready.
  record Chunk (L later base all ks done : List ℕ) (r tn : Names) (count : ℕ) : Type 0 where
    far : Started g new L n (ks ++ later) (done ++ base) r tn count
    left : (k : ℕ) → is_in ks k ≡ true → is_in all k ≡ true
    within : (k : ℕ) → is_in done k ≡ true → is_in all k ≡ true
    exact : reverse done ++ ks ≡ all
    distinct : Distinct (done ++ base)

  chunk-more :
      (L later base all : List ℕ) (x : ℕ) (ks done : List ℕ) (r tn : Names) (count : ℕ) → Chunk L later base all (x ∷ ks) done r tn count →
      (r new x ≡ false) × Chunk L later base all ks (x ∷ done) (plus r new x) (also new x tn) (count + 1)
  chunk-more L later base all x ks done r tn count c =
      let next = one-more g L n x (ks ++ later) (done ++ base) r tn count c.far in (
        next.0,
        record {
          far = next.1;
          left = λ k e. c.left k (in-there x k ks e);
          within = λ k e. ⊎_elim (λ same. subst (λ y. is_in all y ≡ true) same (c.left x (in-here x x ks refl))) (λ a. c.within k a) (in-cases x k done e);
          exact = ap (λ l. l ++ ks) (reverse-append (x ∷ []) done) ∙ append_assoc (reverse done) (x ∷ []) ks ∙ c.exact;
          distinct = ((c.far.fresh x (in-here x x (ks ++ later) refl)).0, c.distinct);
        },
      )

  chunk-first : (L later base all : List ℕ) (r tn : Names) (count : ℕ) → Distinct base → Started g new L n (all ++ later) base r tn count → Chunk L later base all all [] r tn count
  chunk-first L later base all r tn count d st = record { far = st; left = λ k e. e; within = λ k e. absurd (cc e); exact = refl; distinct = d }

  chunk-done : (L later base all done : List ℕ) (r tn : Names) (count : ℕ) → Chunk L later base all [] done r tn count → Chunk L later base all [] (reverse all) r tn count
  chunk-done L later base all done r tn count c =
      let same : done ≡ reverse all = sym (reverse-reverse done) ∙ ap reverse (sym (append-nil (reverse done)) ∙ c.exact) in
      subst (λ d. Chunk L later base all [] d r tn count) same c

  abbrev gone : List ℕ → ℕ → Bool
  gone L k = not (is_in L k)

  gone-dead : (L : List ℕ) (k : ℕ) → is_in L k ≡ false → gone L k ≡ true
  gone-dead L k e = ap not e

  -- the names of a step on its way, by those before it
  chunk-known :
      (L later base all ks done : List ℕ) (r tn : Names) (count : ℕ) → Chunk L later base all ks done r tn count →
      (h : Generation) (k : ℕ) → tn h k ≡ true → (pair L base h k ≡ true) ⊎ (named new (is_in done) h k ≡ true)
  chunk-known L later base all ks done r tn count c h k e =
      ⊎_elim (λ a. inl (or-left (named g (is_in L) h k) (named new (is_in base) h k) a))
      (λ a. ⊎_elim (λ z. inr (both-true (same_generation h new) (is_in done k) (and-left _ _ a) z))
      (λ z. inl (or-right (named g (is_in L) h k) (named new (is_in base) h k) (both-true (same_generation h new) (is_in base k) (and-left _ _ a) z)))
      (in-both done base k (and-right (same_generation h new) _ a)))
      (c.far.names h k e)

  module _ (hs : List Hold) (laid : Laid hs) (held : Held hs) where
    abbrev v : List ℕ → View
    v L = both (gone L) hs

    abbrev gv : (L : List ℕ) → Ground (v L) sc
    gv L = on-both [] 0 (gone L) hs laid held

    -- Where a start of the step fails, it goes back.
    fails-back :
        (waits : Bool) (L later base all : List ℕ) (back : Tree) → BackOk hs L base back → EnoughAt L base →
        ((k : ℕ) → is_in all k ≡ true → is_in base k ≡ false) → (forked ks done : List ℕ) (ss r' tn' : Names) (n' c : ℕ) (q : Progress) →
        ((k : ℕ) → is_in forked k ≡ true → is_in all k ≡ true) → Only new forked ss → Chunk L later base all ks done r' tn' n' →
        ((ks ≡ all) × (done ≡ [])) ⊎ ((k : ℕ) → is_in all k ≡ true → is_in forked k ≡ true) → Band (v L) sc ss r' tn' n' c true [] q →
        Goes (quits_new g.image new_crew waits all back forked) q
    fails-back waits L later base all back hb enough fresh forked ks done ss r' tn' n' c q within only ck covers b =
        goes-back hs laid held waits all forked done L base back hb enough fresh within
        (λ k e. ⊎_elim (λ z. absurd (let none_in = ap (λ l. is_in l k) z.1 in cc)) (λ every. every k (ck.within k e)) covers)
        (gone L) (gone-dead L) [] 0 [] ss r' tn' n' c q only (λ h k e. ck.far.only h k e)
        (chunk-known L later base all ks done r' tn' n' ck) (omega (arith, ck.far.counted, length-append done base)) b

    asks-on :
        (ask : Bool) (rest back : Tree) (L : List ℕ) (r names : Names) (count c : ℕ) (w : Bool) (q : Progress) →
        ((q' : Progress) → Band (v L) sc none r names count c w [] q' → Goes rest q') →
        ((rs : List Return) (q' : Progress) → Band (v L) (scene_of rs 0 serves) none r names count c true [] q' → Goes back q') →
        Band (v L) sc none r names count c w [] q → Goes (asks ask g.image 1 rest back) q
    asks-on false rest back L r names count c w q next returns b = next q b
    asks-on true rest back L r names count c w q next returns b =
        let order = Make (Ask 1) in
        let bs = on (reply.Go ∷ []) rest (on (reply.Back ∷ []) back Nothing) in
        rule-step (v L) sc (gv L) order [] bs none r names count c w [] q refl b (λ p b' fate.
        let me : Caller = record { number = rec.pid; holds = hs } in
        let back_at : Return = record { question = 1; faults = p.faults } in
        ask-cases co.handed g.image me 1 fate p.table (λ s'. Answers (v L) sc (gv L) order [] bs p s')
        (returns (back_at ∷ []) (after_call g.image order [] (gives answer.Back p.table) p)
        (record { looks = b'.looks; enough = b'.enough; secured = b'.secured; budget = b'.budget; lacking = b'.lacking; marks = marks-back w back_at p.faults p.losses (p.calls + 1) p.cause b'.marks; still = b'.still; beside = b'.beside }))
        (next (after_call g.image order [] (gives answer.Go p.table) p)
        (record { looks = b'.looks; enough = b'.enough; secured = b'.secured; budget = b'.budget; lacking = b'.lacking; marks = marks-plain w p.faults p.losses (p.calls + 1) p.cause b'.marks; still = b'.still; beside = b'.beside })))

    -- All new workers of the step are Ready, and the operator goes back, or they are too few.
    all-back :
        (waits : Bool) (L later base all : List ℕ) (back : Tree) → BackOk hs L base back → EnoughAt L base →
        ((k : ℕ) → is_in all k ≡ true → is_in base k ≡ false) → (rs : List Return) (ls : List ℕ) (r r' tn' : Names) (n' c : ℕ) (q : Progress) →
        Chunk L later base all [] (reverse all) r' tn' n' → ((h : Generation) (k : ℕ) → r h k ≡ true → r' h k ≡ true) →
        Band (v L) (scene_of rs 0 serves) none r tn' n' c true ls q → Goes (quits_new g.image new_crew waits all back (reverse all)) q
    all-back waits L later base all back hb enough fresh rs ls r r' tn' n' c q ck sub b =
        goes-back hs laid held waits all (reverse all) (reverse all) L base back hb enough fresh
        (λ k e. sym (in-reverse all k) ∙ e) (λ k e. e) (gone L) (gone-dead L) rs 0 ls none r tn' n' c q (λ h k e. absurd (cc e))
        (λ h k e. ck.far.only h k (sub h k e)) (chunk-known L later base all [] (reverse all) r' tn' n' ck)
        (omega (arith, ck.far.counted, length-append (reverse all) base)) b

    abbrev Lists' : Type 0
    Lists' = Lists (all_closed dropped hs)

    goes-on :
        Lists' → ((a : Address) → has_address a hs ≡ (has added a || has_address a H0)) → (L base : List ℕ) (r r1 names : Names) (count c : ℕ) (w : Bool)
        (q : Progress) → Started g new L n [] base r names count → ((h : Generation) (k : ℕ) → r1 h k ≡ true → r h k ≡ true) →
        Band (v L) sc none r1 (named new (is_in S)) (length S) c w [] q → Goes (reload_on g.image old_crew new_crew L rec.retries dropped n) q
    goes-on lists has_it L base r r1 names count c w q st within b =
        let tree = closes g.image dropped (settle g.image new_crew S Target rec.retries) in
        rule-quits (v L) sc (gv L) tree g (reverse L) none r1 (named new (is_in S)) (length S) c w [] q (λ k e. off-new k)
        (λ s' r' q' less_s less b0.
        let b' = band-still (v L) sc (gv L) s' none r' (named new (is_in S)) (length S) c w [] q' (λ h k e. (less_s h k e).0) b0 in
        let only : Only new S r' = λ h k e.
        let l = less h k e in
        ⊎_elim (λ a. absurd (true-false (is_in (reverse L) k) (in-reverse L k ∙ a.1) (l.1 a.0)))
        (λ a. (a.0, below-on n k (st.started k a.1))) (st.only h k (within h k l.0)) in
        close-new dropped hs lists
        (every-filter (λ a. not (has wanted a)) (λ b. has wanted b ≡ false) A0 (λ a e. not-off (has wanted a) e))
        (keys-of hs has_it) laid held.0 r' c w q' only
        (by-others [] 0 serves serves_new (same hs) none r' (named new (is_in S)) (length S) c w [] q' (enough-new serves_new (λ a k on. on)) (band-holds (v L) (same hs) sc none r' (named new (is_in S)) (length S) c w [] q' refl (λ h k e. cc e) (λ h k e. held-new (gone L) hs h k (only h k e).0) b'))) b

    new-part :
        (L base : List ℕ) (r names : Names) (count : ℕ) → Started g new L n [] base r names count → (rows : List Process) → Looks (view (v L) none r) rows →
        weigh (ready_in rec.pid names) rows + length S ≤ weigh (ready_in rec.pid (named new (is_in S))) rows + count
    new-part L base r names count st rows looks =
        omega
        (arith, weigh-either rec.pid names (named g (is_in L)) (named new (is_in base)) st.names rows, weigh-set rec.pid g rows looks.once L, weigh-part rec.pid new rows looks.once base S (below-distinct n) (λ k e. ⊎_elim (λ a. a) (λ a. absurd (cc)) (st.all k (below-of n k e))), st.counted)

    last-goes :
        Lists' → ((a : Address) → has_address a hs ≡ (has added a || has_address a H0)) → (asked first : Bool) (todo L base : List ℕ) (back : Tree) →
        BackOk hs L base back → ((k : ℕ) → is_in L k ≡ true → k < 1024) → EnoughAt L base → Distinct base → (r names : Names) (count c : ℕ) (w : Bool) (q : Progress) → Started g new L n todo base r names count →
        Band (v L) sc none r names count c w [] q →
        Goes (last_step asked g.image old_crew new_crew todo L rec.retries dropped n first back) q
    last-goes lists has_it asked first todo L base back hb low_L enough db r names count c w q st b =
        let st' = subst (λ z. Started g new L n z base r names count) (sym (append-nil todo)) st in
        let fresh : (k : ℕ) → is_in todo k ≡ true → is_in base k ≡ false = λ k e. (st.fresh k e).0 in
        let waits = not first in
        let on_back = quits_new g.image new_crew waits todo back (reverse todo) in
        let on_full = asks (asked && first) g.image 1 (reload_on g.image old_crew new_crew L rec.retries dropped n) on_back in
        rule-starts (v L) sc (gv L) (Chunk L [] base todo) (census g.image new S (census_edges on_full on_back)) (quits_new g.image new_crew waits todo back) new_crew (λ k. held-new (gone L) hs new k refl)
        (chunk-more L [] base todo) [] w c todo r names count
        (λ done r' tn' n' q' ck0 b'.
        let ck = chunk-done L [] base todo done r' tn' n' ck0 in
        rule-count (v L) sc (gv L) on_full on_back new S r' tn' n' c w [] q' (below-distinct n) (λ k e. omega (arith, below-of n k e))
        (λ k e. ⊎_elim (λ a. low_L k a.1) (λ a. omega (arith, ck.far.started k a.1, low)) (ck.far.only new k e))
        (new-part L (reverse todo ++ base) r' tn' n' ck.far)
        (λ cs q2 e b2 is saw exact.
        asks-on (asked && first) (reload_on g.image old_crew new_crew L rec.retries dropped n) on_back L (seen r' new cs) tn' n' c w q2
        (λ q3 b3. goes-on lists has_it L (reverse todo ++ base) r' (seen r' new cs) tn' n' c w q3 ck.far (λ h k e'. and-left (r' h k) _ e')
        (band-part (v L) sc (gv L) none (seen r' new cs) tn' (named new (is_in S)) n' (length S) c w [] q3
        (λ rows looks. new-part L (reverse todo ++ base) r' tn' n' ck.far rows (widen L r' cs rows looks)) (enough-new serves new-serve) b3))
        (λ rs q3 b3. all-back waits L [] base todo back hb enough fresh rs [] (seen r' new cs) r' tn' n' c q3 ck (λ h k e'. and-left (r' h k) _ e') b3) b2)
        (λ cs x xs q2 e b2 is saw exact. all-back waits L [] base todo back hb enough fresh [] (x ∷ xs) (seen r' new cs) r' tn' n' c q2 ck (λ h k e'. and-left (r' h k) _ e') b2)
        b')
        (λ forked ks done ss r' tn' n' q' within only_s ck covers b'. fails-back waits L [] base todo back hb enough fresh forked ks done ss r' tn' n' (c + 1) q' within only_s ck covers b')
        q (chunk-first L [] base todo r names count db st') b
      where
        widen : (L : List ℕ) (r : Names) (cs : List ℕ) (rows : List Process) → Looks (view (v L) none (seen r new cs)) rows → Looks (view (v L) none r) rows
        widen L r cs rows looks =
            looks-allows (view (v L) none (seen r new cs)) (view (v L) none r)
            (record {
              number = refl;
              others = λ n e. e;
              image = refl;
              holds = refl;
              starting = λ h k e. e;
              ready = λ h k e. and-left (r h k) _ e;
              held_starting = λ h k e. refl;
              held = λ h k e. refl;
            })
            rows looks

  ---- All steps

  module _ (hs : List Hold) (laid : Laid hs) (held : Held hs) (lists : Lists (all_closed dropped hs))
      (has_it : (a : Address) → has_address a hs ≡ (has added a || has_address a H0)) where
    abbrev en : List ℕ → List ℕ → Bool
    en = is_enough rec st

    abbrev tail : Bool → Bool → Rollout → Tree → Tree
    tail asked first ro back = in_steps asked first g.image old_crew new_crew ro.steps (last_step asked g.image old_crew new_crew ro.last ro.left rec.retries dropped n) back

    steps-go :
        (asked : Bool) (surge tries : ℕ) (first : Bool) (base todo L : List ℕ) → ((nat_lt 0 surge && nat_lt surge (length todo)) ≡ true → stepped ≡ true) → (back : Tree) → BackOk hs L base back → Distinct L → Within L R → Distinct base →
        en base L ≡ true → (r names : Names) (count c : ℕ) (w : Bool) (q : Progress) → Started g new L n todo base r names count →
        Band (both (gone L) hs) sc none r names count c w [] q → Goes (tail asked first (rolled en tries surge base todo L) back) q
    steps-go asked surge zero first base todo L can back hb dL inR db ok r names count c w q far b =
        last-goes hs laid held lists has_it asked first todo L base back hb (λ k e. low-R k (inR k e)) (enough-pair L base dL db ok) db r names count c w q far b
    steps-go asked surge (suc tries) first base todo L can back hb dL inR db ok r names count c w q far b =
        let all = take surge todo in
        let later = drop surge todo in
        let base1 = reverse all ++ base in
        let stay = staying (en base1) L (reverse L) in
        let Q = lacks L stay in
        let more = rolled en tries surge base1 later stay in
        elim (nat_lt 0 surge && nat_lt surge (length todo)) as
        (λ z. (nat_lt 0 surge && nat_lt surge (length todo)) ≡ z → Goes (tail asked first (if z then record { steps = record { starts = all; quits = Q } ∷ more.steps; last = more.last; left = more.left } else record { steps = []; last = todo; left = L }) back) q) [
          | true ↦ λ is.
              let far' = subst (λ z. Started g new L n z base r names count) (sym (take-append-drop surge todo)) far in
              let fresh : (k : ℕ) → is_in all k ≡ true → is_in base k ≡ false = λ k e. (far'.fresh k (is_in-append all later k ∙ here all later k e)).0 in
              let enough = enough-pair L base dL db ok in
              let ok1 : en base1 L ≡ true = enough-more rec st (reverse all) base L ok in
              let s1 = stays (en base1) L (reverse L) dL in
              let p = parted L stay dL s1.distinct s1.within in
              let waits = not first in
              let step : Step = record { starts = all; quits = Q } in
              let back1 = taken_back g.image old_crew new_crew waits step back in
              let next_tree = tail asked false more back1 in
              let quit_tree = quits g.image g (reverse Q) (awaits_gone g.image g (reverse Q) next_tree) in
              let on_back = quits_new g.image new_crew waits all back (reverse all) in
              rule-starts (both (gone L) hs) sc (on-both [] 0 (gone L) hs laid held) (Chunk L later base all) (asks (asked && first) g.image 1 quit_tree on_back) (quits_new g.image new_crew waits all back) new_crew (λ k. held-new (gone L) hs new k refl)
              (chunk-more L later base all) [] w c all r names count
              (λ done r' tn' n' q' ck0 b'.
              let ck = chunk-done L later base all done r' tn' n' ck0 in
              asks-on hs laid held (asked && first) quit_tree on_back L r' tn' n' c w q'
              (λ q2 b2.
              let N = length stay + length base1 in
              let enough1 = enough-pair stay base1 s1.distinct ck.distinct (s1.enough ok1) in
              let b3 = band-part (both (gone L) hs) sc (on-both [] 0 (gone L) hs laid held) none r' tn' (pair stay base1) n' N c w [] q2
              (λ rows looks. omega (arith, weigh-either rec.pid tn' (pair stay base1) (named g (is_in Q)) (stay-or-quit L stay Q base1 p later r' tn' n' ck.far) rows, weigh-set rec.pid g rows looks.once Q, ck.far.counted, p.sum))
              enough1 b2 in
              rule-quits (both (gone L) hs) sc (on-both [] 0 (gone L) hs laid held) (awaits_gone g.image g (reverse Q) next_tree) g (reverse Q) none r' (pair stay base1) N c w [] q2
              (λ k e. pair-old stay base1 k (p.apart k (sym (in-reverse Q k) ∙ e)))
              (λ s' r2 q3 less_s less b4.
              rule-waits (both (gone L) hs) sc (on-both [] 0 (gone L) hs laid held) next_tree g (reverse Q) s' r2 (pair stay base1) N w [] q3
              (λ k e. pair-old stay base1 k (p.apart k (sym (in-reverse Q k) ∙ e)))
              (λ s3 r3 w3 c3 q4 sub_s sub_r up b5.
              let among : Among stay base1 r3 = λ h k e.
              let l = less h k (sub_r h k e) in
              ⊎_elim (λ a. inl (a.0, p.either k a.1 (sym (in-reverse Q k) ∙ l.1 a.0))) (λ a. inr a) (ck.far.only h k l.0) in
              let b6 = band-still (both (gone L) hs) sc (on-both [] 0 (gone L) hs laid held) s3 none r3 (pair stay base1) N c3 w3 [] q4 (λ h k e. (less_s h k (sub_s h k e)).0) b5 in
              let b7 = band-holds (both (gone L) hs) (both (gone stay) hs) sc none r3 (pair stay base1) N c3 w3 [] q4 refl (λ h k e. cc e)
              (λ h k e. ⊎_elim
              (λ a. held-old (gone L) hs h k a.0 ∙ ap (λ z. if z then share rec.posts k hs else share rec.posts k H0) (ap not (s1.within k a.1) ∙ sym (ap not a.1)) ∙ sym (held-old (gone stay) hs h k a.0))
              (λ a. held-new (gone L) hs h k a.0 ∙ sym (held-new (gone stay) hs h k a.0)) (among h k e)) b6 in
              steps-go asked surge tries false base1 later stay (λ e. can is) back1
              (takes-back hs laid held (can is) waits all Q L stay base back hb enough enough1 fresh s1.within p)
              s1.distinct (λ k e. inR k (s1.within k e)) ck.distinct (s1.enough ok1) r3 (pair stay base1) N c3 w3 q4
              (record {
                only = among;
                fresh = ck.far.fresh;
                apart = ck.far.apart;
                started = ck.far.started;
                all = ck.far.all;
                names = λ h k e. or-elim (named g (is_in stay) h k) (named new (is_in base1) h k) e;
                counted = refl;
              }) b7)
              c b4) b3)
              (λ rs q2 b2. all-back hs laid held waits L later base all back hb enough fresh rs [] r' r' tn' n' c q2 ck (λ h k e. e) b2) b')
              (λ forked ks done ss r' tn' n' q' within only_s ck covers b'. fails-back hs laid held waits L later base all back hb enough fresh forked ks done ss r' tn' n' (c + 1) q' within only_s ck covers b')
              q (chunk-first L later base all r names count db far') b
          | false ↦ λ is. last-goes hs laid held lists has_it asked first todo L base back hb (λ k e. low-R k (inR k e)) (enough-pair L base dL db ok) db r names count c w q far b
        ] refl
      where
        here : (xs ys : List ℕ) (k : ℕ) → is_in xs k ≡ true → (is_in xs k || is_in ys k) ≡ true
        here xs ys k e = go (is_in xs k) e
          where
            go : (z : Bool) → z ≡ true → (z || is_in ys k) ≡ true
            go true e = refl
            go false e = cc

        stay-or-quit :
            (L stay Q base1 : List ℕ) → Parted L stay Q → (later : List ℕ) (r' tn' : Names) (n' : ℕ) → Started g new L n ([] ++ later) base1 r' tn' n' →
            (h : Generation) (k : ℕ) → tn' h k ≡ true → (pair stay base1 h k ≡ true) ⊎ (named g (is_in Q) h k ≡ true)
        stay-or-quit L stay Q base1 p later r' tn' n' far h k e =
            ⊎_elim
            (λ a. go (is_in Q k) refl a)
            (λ a. inl (or-right (named g (is_in stay) h k) (named new (is_in base1) h k) a)) (far.names h k e)
          where
            go : (z : Bool) → is_in Q k ≡ z → named g (is_in L) h k ≡ true → (pair stay base1 h k ≡ true) ⊎ (named g (is_in Q) h k ≡ true)
            go true is a = inr (both-true (same_generation h g) (is_in Q k) (and-left _ _ a) is)
            go false is a = inl (or-left (named g (is_in stay) h k) (named new (is_in base1) h k) (both-true (same_generation h g) (is_in stay k) (and-left _ _ a) (p.either k (and-right (same_generation h g) _ a) is)))

  ---- The whole plan

  abbrev sc0 : Scene rec.pid rec.generation.image
  sc0 = scene_of [] 0 serves_old

  pair-nobody : (h : Generation) (k : ℕ) → pair R [] h k ≡ true → named g (is_in R) h k ≡ true
  pair-nobody h k e = ⊎_elim (λ a. a) (λ a. absurd (true-false false (and-right (same_generation h new) _ a) refl)) (or-elim (named g (is_in R) h k) (named new (is_in []) h k) e)

  -- Back before the first step: what was opened is closed.
  closes-back : (l : List Address) (hs : List Hold) → From H0 Held l hs → Laid hs → Held hs → BackOk hs R [] (closing l)
  closes-back l hs o laid held again dead rs owed ls r q among b =
      close-old rs owed again l hs o held r 0 ls q (λ h k e. ⊎_elim (λ a. a) (λ a. absurd (true-false false a.1 refl)) (among h k e))
      (by-others rs owed serves serves_old (both again hs) none r (named g (is_in R)) (length R) 0 true ls q (enough-old serves_old old-serve-alone)
      (band-part (both again hs) (scene_of rs owed serves) (on-both rs owed again hs laid held) none r (pair R []) (named g (is_in R)) (length R + 0) (length R) 0 true ls q
      (λ rows looks. omega (arith, weigh-sub rec.pid (pair R []) (named g (is_in R)) pair-nobody rows))
      (enough-old serves old-serve) b))

  abbrev way : Bool → Rollout → List Address → Tree
  way asked ro l = in_steps asked true g.image old_crew new_crew ro.steps (last_step asked g.image old_crew new_crew ro.last ro.left rec.retries dropped n) (closing l)

  after-opens :
      (asked : Bool) (surge : ℕ) → ((nat_lt 0 surge && nat_lt surge (length S)) ≡ true → stepped ≡ true) → (l : List Address) (hs : List Hold) → Lists (all_closed dropped hs) → From H0 Held l hs →
      ((a : Address) → has_address a hs ≡ (has added a || has_address a H0)) → Laid hs → Held hs → (r : Names) (c : ℕ)
      (q : Progress) → Only g R r → Band (both (gone R) hs) sc0 none r (named g (is_in R)) (length R) c false [] q → Goes
      (way asked (rollout_of rec st surge) l) q
  after-opens asked surge can l hs lists o has_it laid held r c q only b =
      steps-go hs laid held lists has_it asked surge n true [] S R can (closing l) (closes-back l hs o laid held) dR (λ k e. e) tt (enough-first rec st) r (named g (is_in R)) (length R) c false q
      (record {
        only = λ h k e. inl (only h k e);
        fresh = λ k e. (refl, below-of n k e);
        apart = below-distinct n;
        started = λ k e. absurd (cc);
        all = λ k lt. inr (below-on n k lt);
        names = λ h k e. inl e;
        counted = omega arith;
      }) (by-others [] 0 serves_old serves (both (gone R) hs) none r (named g (is_in R)) (length R) c false [] q (enough-old serves old-serve) b)

  put-common : (h : Hold) (hs : List Hold) → Common hs → Common (put_hold h hs)
  put-common h hs common a c = stays-put h a H0 hs (common a c)

  any-filter : (p test : Hold → Bool) (l : List Hold) → list_any test (filter p l) ≡ list_any (λ h. p h && test h) l
  any-filter p test [] = refl
  any-filter p test (x ∷ l) = go (p x) (any-filter p test l)
    where
      go : (b : Bool) → list_any test (filter p l) ≡ list_any (λ h. p h && test h) l → list_any test (cond b (x ∷ filter p l) (filter p l)) ≡ ((b && test x) || list_any (λ h. p h && test h) l)
      go true e = ap (λ z. test x || z) e
      go false e = e

  put-too : (h : Hold) (hs : List Hold) → Too hs → Too (put_hold h hs)
  put-too h hs too a k on = go (fds_of rec.posts k) (too a k on)
    where
      go : (fd : Option (List ℕ)) → has_address a (shared fd hs) ≡ true → has_address a (shared fd (put_hold h hs)) ≡ true
      go None e = any-put (is_at a) h hs ∙ or-right (is_at a h) (has_address a hs) e
      go (Some l) e =
          any-filter (λ (x : Hold). is_in l x.fd) (is_at a) (put_hold h hs) ∙ any-put (λ (x : Hold). is_in l x.fd && is_at a x) h hs
          ∙ or-right (is_in l h.fd && is_at a h) (list_any (λ (x : Hold). is_in l x.fd && is_at a x) hs) (sym (any-filter (λ (x : Hold). is_in l x.fd) (is_at a) hs) ∙ e)

  -- the new workers' descriptors were told from what is held when all is opened
  laid-first : (hs : List Hold) → Some (map listener_of hs) ≡ with_added st.listeners rec.listeners → RisesFrom 3 (fds hs) → Laid hs
  laid-first hs listing rises k a on =
      let told_from : posts ≡ posts_of st.groups st.listeners (map listener_of hs) =
      ap (λ o. posts_of st.groups st.listeners (unwrap_or o rec.listeners)) (sym listing) in
      ap (λ p. has_address a (share p k hs)) told_from ∙ share-listens st.groups st.listeners range.addresses_add_up
      (map listener_of hs) hs (told 3 hs rises) k a on

  opening :
      (asked : Bool) (surge : ℕ) → ((nat_lt 0 surge && nat_lt surge (length S)) ≡ true → stepped ≡ true) → (todo l : List Address) (hs : List Hold) →
      (all_opened todo (map listener_of hs) ≡ with_added st.listeners rec.listeners) × RisesFrom 3 (fds hs) →
      AllByRecursion (λ a. has_address a H0 ≡ false) todo → From H0 Held l hs →
      ((a : Address) → (has l a || has todo a) ≡ has added a) → Held hs → (r : Names) (c : ℕ) (q : Progress) → Only g
      R r → Band (both (gone R) hs) sc0 none r (named g (is_in R)) (length R) c false [] q → Goes
      (opens g.image todo l (way asked (rollout_of rec st surge)) closing) q
  opening asked surge can [] l hs listing off o in_all held r c q only b =
      let keys : (a : Address) → has_address a hs ≡ (has added a || has_address a H0) =
      λ a. from-has H0 Held l hs o a ∙ ap (λ z. z || has_address a H0) (sym (or-false (has l a)) ∙ in_all a) in
      let lists : Lists (all_closed dropped hs) =
      ap (λ o. option_map (still_wanted wanted) o) (sym listing.0) ∙ ap (λ ls. Some ls)
      (sym (closed-kept A0 wanted hs (λ a. keys a ∙ ap (λ z. has added a || z) (first-keys t rec s a)))) in
      after-opens asked surge can l hs lists o keys (laid-first hs listing.0 listing.1) held r c q only b
    where
      or-false : (z : Bool) → (z || false) ≡ z
      or-false true = refl
      or-false false = refl
  opening asked surge can (x ∷ todo) l hs listing off o in_all held r c q only b =
      rule-open (both (gone R) hs) sc0 (on-old [] 0 (gone R) hs held) _ _ x r (named g (is_in R)) (length R) c false [] q
      (λ h q' is fd room fresh b'. opening asked surge can todo (x ∷ l) (put_hold h hs) (opens-on t.limits.descriptors h hs todo (with_added st.listeners rec.listeners) ds.limit listing.1 fd room (subst (λ z. all_opened (z ∷ todo) (map listener_of hs) ≡ with_added st.listeners rec.listeners) (sym is) listing.0)) off.1 (record { hold = h; before = hs; is = refl; names = is; fresh = fresh; apart = off.0; common = held; rest = o }) (λ a. move (bytes_eq x a) (has l a) (has todo a) ∙ in_all a) (put-common h hs held.0, put-too h hs held.1) r c q' only (band-holds (after_open h (both (gone R) hs)) (both (gone R) (put_hold h hs)) sc0 none r (named g (is_in R)) (length R) c false [] q' refl (λ j k e. cc e)
      (λ j k e. was-held hs j k (only j k e) ∙ sym (was-held (put_hold h hs) j k (only j k e))) b'))
      (λ q' b'. close-old [] 0 (gone R) l hs o held r (c + 1) [] q' only b') b
    where
      move : (e p t : Bool) → ((e || p) || t) ≡ (p || (e || t))
      move true true t = refl
      move true false t = refl
      move false p t = refl

      was-held : (hs : List Hold) (j : Generation) (k : ℕ) → (j ≡ g) × (is_in R k ≡ true) → old_held (gone R) hs j k ≡ share rec.posts k H0
      was-held hs j k a = held-old (gone R) hs j k a.0 ∙ ap (λ z. if z then share rec.posts k hs else share rec.posts k H0) (ap not a.1)

  first-listing : (all_opened added (map listener_of H0) ≡ with_added st.listeners rec.listeners) × RisesFrom 3 (fds H0)
  first-listing = (
    ap (λ ls. all_opened added ls) s.agrees.listeners ∙ ap (λ l. all_opened l rec.listeners) (sym (added-is st.listeners rec.listeners)),
    subst (λ l. RisesFrom 3 l) (sym (fds-listed H0 ∙ ap (map (λ (l : Listener). l.descriptor)) s.agrees.listeners)) ds.descriptors,
  )

  goes : (asked : Bool) (surge : ℕ) → ((nat_lt 0 surge && nat_lt surge (length S)) ≡ true → stepped ≡ true) → Goes (reload_plan asked surge rec st) (start_at t rec.note)
  goes asked surge can =
      let count = begin-count t rec s in
      opening asked surge can added [] H0 first-listing
      (every-filter (λ a. not (has A0 a)) (λ a. has_address a H0 ≡ false) wanted (λ a e. held-none a (not-off (has A0 a) e)))
      refl (λ a. refl) (common0, λ a k e. e) (named g (is_in R)) 0 (start_at t rec.note)
      (λ h k e. (same-is h g (and-left _ _ e), and-right (same_generation h g) _ e))
      (record {
        looks =
            looks-allows (first_view rec H0) (view (both (gone R) H0) none (named g (is_in R)))
            (record {
              number = refl;
              others = λ n e. e;
              image = refl;
              holds = refl;
              starting = λ h k e. e;
              ready = λ h k e. e;
              held_starting = λ h k e. absurd (cc e);
              held = λ h k e. sym (held-first (gone R) h k (same-is h g (and-left _ _ e)));
            })
            t.rows looks0;
        enough = enough-old serves_old old-serve-alone;
        secured = λ a e. omega (arith, count);
        budget = omega (arith, count);
        lacking = refl;
        still = record { files_stay = refl; note_stays = refl; limits_stay = refl };
        marks = record { clean = λ e. refl; blamed = λ e. absurd (cc e); caused = λ e. absurd (cc e); returned = refl };
        beside = omega arith;
      })
    where
      held-none : (a : Address) → has A0 a ≡ false → has_address a H0 ≡ false
      held-none a e = first-keys t rec s a ∙ e

pub reload_headline : ReloadHeadline
reload_headline t rec st turns pattern a =
    let s = a.start in
    let (range, ds, later) = a.accepts in
    let numbered = numbered-config rec.generation later in
    let at = start_at t rec.note in
    let many = nat_lt 0 st.surge && nat_lt st.surge (length (numbers_below st.workers)) in
    let tree = reload_plan false st.surge rec st in
    let i = inv t rec st pattern s range ds numbered many in
    let c = co t rec st pattern s range ds numbered many in
    let all =
    from-along i (post t rec st pattern s range ds numbered many) Anyhow Unasked c tree at
    (goes t rec st pattern s range ds numbered many false st.surge (λ e. e)) a.spared (are-mild-anyhow c tree at) in
    let ran = run_of rec (Reload st) turns pattern t in
    let target = want rec (Reload st) in (
      record {
        says = all.last.0;
        after = all.last.3;
        kept = every-more i (λ q. Kept (service t) target t q.table) (λ q h. h.0) ran.passed all.always;
        blamed = every-more i IsBlamed (λ q h. h.2) ran.passed all.always;
        cause = all.last.2;
        paid = all.last.1;
      },
      every-more i (Floor (owed_in st) t rec (Reload st))
          (λ q h address common.
          let in_A0 = sym (first-keys t rec s address) ∙ held-of t rec st pattern s range ds numbered many address common.0 in
          omega (arith, h.1 address common, f-is t rec st pattern s range ds numbered many address in_A0)) ran.passed all.always,
    )
