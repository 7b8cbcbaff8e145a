-- An upgrade: who is on the stage, what each part keeps, and the ends.
use Rattle.std.proofs.Common.{◌≡◌, ◌≢◌, ℕ, ◌+◌, ◌<◌, ◌≤◌, Bool, true, false, List, [], ◌∷◌, length, Some, None, refl, sym, ap, ◌∙◌, arith, ◌⊎◌, ⊎_elim}
use Rattle.std.specs.Prelude.{map, min, ◌-◌, ◌==◌, ◌&&◌, if◌then◌else◌, is_some, unwrap_or}
use Rattle.std.proofs.lemmas.List.Sums.{length-filter}
use Rattle.std.specs.List.{list_any}
use Rattle.listener_set.specs.Numbers.{RisesFrom, is_in, numbers_below}
use Rattle.listener_set.specs.AddressList.{has}
use Rattle.listener_set.specs.declared.generation.Generation.{Generation}
use Rattle.vocabulary.specs.declared.targets.Target.TheVariants.{Upgrade}
use Rattle.vocabulary.specs.declared.plans.PidNote.{PidNote}
use Rattle.vocabulary.specs.declared.plans.End.TheVariants.{Done, RolledBack, ShortOld, ShortTarget}
use Rattle.vocabulary.specs.Settings.{Settings, IsInRange}
use Rattle.definitions.specs.Table.{Address, File, Hold, Process, Table, same_generation, has_address, is_worker}
use Rattle.definitions.specs.Table.{Service, service}
use Rattle.call_laws.specs.Pieces.{is_ready, share, listener_of, lacked_last, has_socket}
use Rattle.definitions.specs.Master.{Posts, Crew, Layout, group_of, layout_in, short_at, shortfalls_of, Record, Agrees}
use Rattle.definitions.specs.Master.{FilesAre, addresses_of, crew_of, layout_of, Sides, upgrade_generation, want}
use Rattle.definitions.specs.Master.{wanted_at, sides_of, handover_for}
use Rattle.definitions.specs.After.{next_image, crew_wanted, posts_wanted, named_record, reported, renewed, upgraded}
use Rattle.definitions.specs.After.{posts_of}
use Rattle.definitions.specs.Run.{Tree, Pattern, Progress, Return, faults_since, Ending, At, outcome_of}
use Rattle.definitions.specs.Claims.{AgreesAfter, IsStart, Says, IsPaid, Kept, IsCommon, IsBlamed, HasCause, HasDescriptors, ready_with}
use Rattle.table_laws.proofs.Rows.{weigh, both-true}
use Rattle.table_laws.proofs.Views.{Names, named, View, Looks, ready_in}
use Rattle.table_laws.proofs.Effects.{none}
use Rattle.table_laws.proofs.Exits.{falls-all}
use Rattle.table_laws.proofs.Counts.{Distinct, Counted, counted-all}
use Rattle.table_laws.proofs.Sets.{filter-le, in-here, below-of, below-distinct, below-length}
use Rattle.table_laws.proofs.Services.{live-with, live-with-on, fewer-same}
use Rattle.table_laws.proofs.Begins.{first_view, begin, rising-distinct}
use Rattle.table_laws.proofs.Small.{every-is_in}
use Rattle.table_laws.proofs.Listeners.{fds, some-held}
use Rattle.table_laws.proofs.Shares.{shortfalls-sum}
use Rattle.table_laws.proofs.Layouts.{told, share-listens}
use Rattle.table_laws.proofs.After.{agrees-after}
use Rattle.theorems.proofs.Ends.{ListensBy, first-few, first-listens, next-image-is, moved-after, resized, report_at}
use Rattle.theorems.proofs.Ends.{service-of, service-short, first-keys, first-service, first-held, census-within}
use Rattle.theorems.proofs.Ends.{files-still, kept-after}
use Rattle.run_laws.proofs.Logic.{Unasked, Course, Along, Anyhow}
use Rattle.run_laws.proofs.Rules.{Scene, Still, Marks, Only, Enough, covers-part, level-by, view, any, ready_of, floor-by}
use Rattle.table_laws.proofs.Duo.{Lives, beside-change, beside-drop, beside-grow, lives-exits, dead-weigh, new_view, sole}

-- What an upgrade is given.
pub record Given : Type 0 where
  pub t : Table
  pub rec : Record
  pub st : Settings
  pub pattern : Pattern
  pub attended : Bool
  pub start : IsStart t rec
  pub range : IsInRange st
  pub ds : HasDescriptors t rec
  pub numbered : is_some (next_image rec.generation) ≡ true

module _ (c : Given) where
  abbrev pub g : Generation
  g = c.rec.generation

  abbrev pub new : Generation
  new = upgrade_generation c.rec.generation

  -- the old workers and the new ones
  abbrev pub old_crew : Crew
  old_crew = crew_of c.rec

  abbrev pub new_crew : Crew
  new_crew = crew_wanted c.rec (Upgrade c.st)

  abbrev pub posts : Posts
  posts = posts_wanted c.rec (Upgrade c.st)

  abbrev pub R : List ℕ
  R = c.rec.ready

  abbrev pub H0 : List Hold
  H0 = c.start.agrees.holds

  abbrev pub A0 : List Address
  A0 = addresses_of c.rec

  abbrev pub wanted : List Address
  wanted = c.st.listeners

  abbrev pub n : ℕ
  n = c.st.workers

  abbrev pub S : List ℕ
  S = numbers_below n

  -- where the new workers listen
  abbrev pub layout : Layout
  layout = layout_in c.st.groups c.st.listeners

  abbrev pub sides : Sides
  sides = sides_of c.rec (Upgrade c.st)

  -- the floor of an address
  abbrev pub f : Address → ℕ
  f a = min (ready_with a c.t) (wanted_at c.rec (Upgrade c.st) a)

  -- the numbers whose groups listen at an address, and the names that serve there
  abbrev pub old_at : Address → ℕ → Bool
  old_at a k = (layout_of c.rec).listens (group_of c.rec.posts.groups k) a

  abbrev pub new_at : Address → ℕ → Bool
  new_at a k = layout.listens (group_of c.st.groups k) a

  abbrev pub serves_old : Address → Names
  serves_old a h k = old_at a k

  abbrev pub serves_new : Address → Names
  serves_new a h k = new_at a k

  pub low : n ≤ 1024
  low = c.range.workers

  pub few-new : (a : Address) → f a ≤ n
  few-new a = omega (arith, length-filter (new_at a) S, filter-le (new_at a) S, below-length n)

  -- the old master executes, and then the new one
  abbrev pub co : Course
  co = record { handed = handover_for c.rec (Upgrade c.st); pattern = c.pattern; executing = g.image ∷ []; heirs = new.image ∷ [] }

  abbrev pub co_after : Course
  co_after = record { handed = handover_for c.rec (Upgrade c.st); pattern = c.pattern; executing = new.image ∷ []; heirs = new.image ∷ [] }

  pub acts : is_in co.executing g.image ≡ true
  acts = in-here g.image g.image [] refl

  pub acts-after : is_in co_after.executing new.image ≡ true
  acts-after = in-here new.image new.image [] refl

  abbrev pub old : Service
  old = service c.t

  abbrev pub target : Service
  target = want c.rec (Upgrade c.st)

  -- at each address of both services so many Ready workers, losses aside, and the faults behind the second question's return
  abbrev pub Level : Progress → Type 0
  Level q = (a : Address) → IsCommon old target a → f a ≤ ready_with a q.table + q.losses + faults_since 2 q.returns q.faults

  -- who is not asked wants nothing back
  abbrev pub inv : Progress → Type 0
  inv q = Kept old target c.t q.table × Level q × IsBlamed q × (c.attended ≡ false → q.returns ≡ [])

  abbrev pub post : Ending → Progress → Type 0
  post e q =
      Says c.rec (Upgrade c.st) (outcome_of sides e (lacked_last q.lacked)) c.t q.table
      × IsPaid c.rec.retries (outcome_of sides e (lacked_last q.lacked)) q × HasCause (outcome_of sides e (lacked_last q.lacked)) q.cause
      × AgreesAfter c.rec (Upgrade c.st) (report_at sides e q) q.table

  abbrev pub Goes : Course → Tree → Progress → Type 0
  Goes x tree q = Along inv post Anyhow Unasked x tree q

  ---- The masters

  -- the old one, alone or beside another
  abbrev pub u : View
  u = first_view c.rec H0

  pub looks0 : Looks u c.t.rows
  looks0 = begin c.t c.rec c.start

  pub low-R : (k : ℕ) → is_in R k ≡ true → k < 1024
  low-R k e = let lt = every-is_in (λ j. j < c.rec.wanted) R c.start.record_in_range.ready k e in omega (arith, lt, c.start.record_in_range.wanted)

  pub dR : Distinct R
  dR = rising-distinct R c.start.rising

  -- the new one
  abbrev pub w : ℕ → List Hold → Names → Names → View
  w m hs s r = new_view m new.image c.rec.pid posts hs s r

  held-of : (a : Address) → is_some (old a) ≡ true → has_address a H0 ≡ true
  held-of a e = first-held c.t c.rec c.start a e

  pub wanted-of : (a : Address) → is_some (target a) ≡ true → has wanted a ≡ true
  wanted-of a e = go (has wanted a) e
    where
      go :
          (b : Bool) → is_some {T = Generation → ℕ}
          (if b then Some (λ h. if same_generation h new then wanted_at c.rec (Upgrade c.st) a else 0) else None) ≡ true
          → b ≡ true
      go true e = refl
      go false e = e

  -- the common addresses are held, on their sockets
  abbrev pub Common : List Hold → Type 0
  Common hs = (a : Address) → IsCommon old target a → (has_address a hs ≡ true) × ((k : ℕ) → has_socket a k H0 ≡ true → has_socket a k hs ≡ true)

  pub common0 : Common H0
  common0 a h = (held-of a h.0, λ k e. e)

  kept-by : (v : View) (hs : List Hold) → v.holds ≡ hs → Common hs → (q : Progress) → Looks v q.table.rows → Kept old target c.t q.table
  kept-by v hs is common q looks =
      λ a k h on. live-with-on v (has_socket a k) q.table.rows looks
      (ap (has_socket a k) is ∙ (common a h).1 k (sym (live-with u (λ n. refl) (has_socket a k) c.t.rows looks0) ∙ on))

  -- each new worker holds an address that is wanted and held, where its group listens
  abbrev pub Laid : List Hold → Type 0
  Laid hs = (k : ℕ) (a : Address) → has wanted a ≡ true → has_address a (share posts k hs) ≡ (has_address a hs && new_at a k)

  -- Who serves at a common address holds it.
  abbrev pub HoldAll : View → (Address → Names) → Type 0
  HoldAll v serves = (a : Address) → IsCommon old target a → (h : Generation) (k : ℕ) → serves a h k ≡ true → has_address a (v.held h k) ≡ true

  pub hold-old : HoldAll u serves_old
  hold-old a h j k on = first-listens c.t c.rec c.start k a ∙ on

  pub hold-new : (m : ℕ) (hs : List Hold) (s r : Names) → Laid hs → Common hs → HoldAll (w m hs s r) serves_new
  hold-new m hs s r laid common a h j k on = laid k a (wanted-of a h.1) ∙ both-true (has_address a hs) (new_at a k) (common a h).0 on

  pub level-some :
      (v : View) (floor : Address → ℕ) (serves : Address → Names) → HoldAll v serves →
      (names : Names) (count excused : ℕ) (q : Progress) → ((a : Address) → f a ≤ floor a) →
      Enough v.number floor serves names count → Looks v q.table.rows →
      ((a : Address) → 1 ≤ floor a → count ≤ ready_of v names q + q.losses + excused) →
      excused ≤ faults_since 2 q.returns q.faults → Level q
  level-some v floor serves hold names count excused q most enough looks secured within =
      λ a h. floor-by (f a) (ready_with a q.table + q.losses + faults_since 2 q.returns q.faults) (at a h)
    where
      at : (a : Address) → IsCommon old target a → 1 ≤ f a → f a ≤ ready_with a q.table + q.losses + faults_since 2 q.returns q.faults
      at a h e =
          let some : 1 ≤ floor a = omega (arith, e, most a) in
          omega
          (arith, most a, within, level-by v (floor a) (serves a) names count a q.table.rows (q.losses + excused) (hold a h) (enough a some) looks (omega (arith, secured a some)))

  -- The old workers are enough.
  pub enough-old : Enough c.rec.pid f serves_old (named g (is_in R)) (length R)
  enough-old a e =
      covers-part c.rec.pid (f a) (serves_old a) g R (old_at a) dR (λ k on. on)
      (omega (arith, first-few c.t c.rec c.start a, length-filter (old_at a) R))

  -- and so are the new ones
  pub enough-new : (m : ℕ) → Enough m f serves_new (named new (is_in S)) (length S)
  enough-new m a e = covers-part m (f a) (serves_new a) new S (new_at a) (below-distinct n) (λ k on. on) (omega (arith, length-filter (new_at a) S))

  -- none is asked for where there is no floor
  pub enough-none : (m : ℕ) (serves : Address → Names) (names : Names) (count : ℕ) → Enough m (λ a. 0) serves names count
  enough-none m serves names count a e = absurd (omega (arith, e))

  ---- The parts

  -- faults only grow
  pub since-more : (returns : List Return) (faults e : ℕ) → e ≤ faults_since 2 returns faults → e ≤ faults_since 2 returns (faults + 1)
  since-more [] faults e le = le
  since-more (b ∷ returns) faults e le = go (b.question == 2) le (λ h. since-more returns faults e h)
    where
      go :
          (x : Bool) → e ≤ (if x then faults - b.faults else faults_since 2 returns faults) →
          (e ≤ faults_since 2 returns faults → e ≤ faults_since 2 returns (faults + 1)) →
          e ≤ (if x then faults + 1 - b.faults else faults_since 2 returns (faults + 1))
      go true le ih = omega (arith, le)
      go false le ih = ih le

  -- The master is alone: the floor is its own workers', or so many were lost.
  abbrev pub alone_scene : (m image : ℕ) → (Address → Names) → (Address → ℕ) → (need excused : ℕ) → List Return → List File → PidNote → Scene m image
  alone_scene m image serves floor need excused returns files note = record {
    floor = floor;
    serves = serves;
    files = files;
    note = note;
    limits = c.t.limits;
    returns = returns;
    excused = excused;
    Mild = Anyhow;
    Holds = λ rows losses faults. (need ≤ losses) × (excused ≤ faults_since 2 returns faults);
    exits = λ es rows losses more faults sp mild e h. (omega (arith, h.0), h.1);
    changes = λ test f rows losses faults mine stays h. h;
    drops = λ test rows losses faults mine h. h;
    grows = λ n g x hs rows losses faults h. h;
    fails = λ rows losses faults h. (h.0, since-more returns faults excused h.1);
  }

  -- nothing was wanted back where nobody was asked
  abbrev pub Fits : List Return → Type 0
  Fits returns = c.attended ≡ false → returns ≡ []

  pub good-alone :
      (v : View) (serves : Address → Names) (floor : Address → ℕ) (need excused : ℕ) (returns : List Return) →
      Fits returns → (hs : List Hold) → ((a : Address) → f a ≤ floor a) ⊎ ((a : Address) → f a ≤ need) → v.holds ≡ hs →
      HoldAll v serves → Common hs → (names : Names) (count : ℕ) (b : Bool) (q : Progress) →
      Enough v.number floor serves names count → Looks (view v any any) q.table.rows →
      ((a : Address) → 1 ≤ floor a → count ≤ ready_of v names q + q.losses + excused) →
      Marks b returns q.faults q.losses q.returns q.cause →
      (need ≤ q.losses) × (excused ≤ faults_since 2 returns q.faults) → inv q
  good-alone v serves floor need excused returns fits hs kind is hold common names count b q enough looks secured marks beside = (
    kept-by (view v any any) hs is common q looks,
    ⊎_elim
        (λ most. level-some (view v any any) floor serves hold names count excused q most enough looks secured (omega (arith, beside.1, ap (λ l. faults_since 2 l q.faults) marks.returned)))
        (λ le a h. omega (arith, le a, beside.0)) kind,
    (marks.clean, marks.blamed),
    λ e. marks.returned ∙ fits e,
  )

  -- Two masters, of which the first is spared: the other one lives or is dead, and of so many of its names all that are not Ready were lost.
  abbrev pub Second : View → Names → ℕ → List Process → ℕ → Type 0
  Second v names d rows losses = Lives v rows × (d ≤ weigh (ready_in v.number names) rows + losses)

  abbrev pub pair_scene :
      (v : View) → v.number ≢ c.rec.pid → v.others c.rec.pid ≡ true → (names : Names) (d : ℕ) (floor : Address → ℕ) →
      List Return → List File → PidNote → Scene c.rec.pid g.image
  pair_scene v ne on names d floor returns files note = record {
    floor = floor;
    serves = serves_old;
    files = files;
    note = note;
    limits = c.t.limits;
    returns = returns;
    excused = 0;
    Mild = Anyhow;
    Holds = λ rows losses faults. Second v names d rows losses;
    exits = λ es rows losses more faults sp mild e h. (lives-exits v es rows h.0, omega (arith, h.1, falls-all v.number names es rows, e));
    changes =
        λ test f rows losses faults mine stays h. let b = beside-change v c.rec.pid test f rows ne mine stays h.0 in
        (b.lives, omega (arith, h.1, b.same names));
    drops = λ test rows losses faults mine h. let b = beside-drop v c.rec.pid test rows ne mine h.0 in (b.lives, omega (arith, h.1, b.same names));
    grows = λ k g x hs rows losses faults h. let b = beside-grow v c.rec.pid k g x hs rows ne on h.0 in (b.lives, omega (arith, h.1, b.same names));
    fails = λ rows losses faults h. h;
  }

  -- Those of so many names that are not lost are enough, and so are so many losses.
  abbrev pub Serve : View → Names → ℕ → Type 0
  Serve x names d = ((a : Address) → f a ≤ d) × ((q : Progress) → Looks x q.table.rows → d ≤ ready_of x names q + q.losses → Level q)

  -- The floor is the old one's workers', or the other one's.
  pub good-pair :
      (v x : View) (names : Names) (d : ℕ) (floor : Address → ℕ) (returns : List Return) → Fits returns →
      ((a : Address) → f a ≤ floor a) ⊎ Serve x names d → v.holds ≡ H0 → HoldAll v serves_old →
      (names' : Names) (count : ℕ) (b : Bool) (q : Progress) → Enough v.number floor serves_old names' count →
      Looks (view v any any) q.table.rows → ((a : Address) → 1 ≤ floor a → count ≤ ready_of v names' q + q.losses + 0) →
      Marks b returns q.faults q.losses q.returns q.cause → Second x names d q.table.rows q.losses → inv q
  good-pair v x names d floor returns fits kind is hold names' count b q enough looks secured marks second = (
    kept-by (view v any any) H0 is common0 q looks,
    ⊎_elim (λ most. level-some (view v any any) floor serves_old hold names' count 0 q most enough looks secured (omega arith))
        (λ o. ⊎_elim (λ lives. o.1 q lives second.1) (λ dead a h. omega (arith, o.0 a, second.1, dead-weigh x names q.table.rows dead)) second.0) kind,
    (marks.clean, marks.blamed),
    λ e. marks.returned ∙ fits e,
  )

  ---- The ends on the old side

  abbrev pub Exactly : ℕ → Generation → Progress → Type 0
  Exactly m h q = (k : ℕ) → list_any (is_worker is_ready m h k) q.table.rows ≡ is_in q.ready k

  abbrev pub Saw : ℕ → Generation → List ℕ → Progress → Type 0
  Saw m h S q = Counted m h S (lacked_last q.lacked) q.table.rows

  listens-old : ListensBy u g (layout_of c.rec)
  listens-old k a on = first-listens c.t c.rec c.start k a

  module _ (files : List File) (note : PidNote) (are : FilesAre note c.rec.pid_path c.rec.pid files) where
    agrees-old :
        (r : Names) (q : Progress) → Only g R r → Looks (view u none r) q.table.rows → Exactly c.rec.pid g q →
        Still files note c.t.limits q.table.files q.note q.table.limits → (e : Ending) →
        Agrees q.table (reported (resized c.rec c.rec.wanted) (report_at sides e q) c.rec.pid)
    agrees-old r q only looks exact still e =
        agrees-after (view u none r) old_crew q.table _ (λ n. refl) (λ k. refl) (λ h k on. (only h k on).0) looks exact
        refl refl refl c.start.agrees.listeners
        (files-still note q.note c.rec.pid_path c.rec.pid files q.table.files c.t.limits q.table.limits are still)

    within-old :
        (r : Names) (q : Progress) → Only g R r → Looks (view u none r) q.table.rows → Exactly c.rec.pid g q → (k : ℕ) →
        is_in q.ready k ≡ true → k < c.rec.wanted
    within-old r q only looks exact k e =
        every-is_in (λ j. j < c.rec.wanted) R c.start.record_in_range.ready k
        (census-within u (λ n. refl) g R r q.table.rows q.ready only looks exact k e)

    pub old-full :
        (r : Names) (q : Progress) → Only g R r → Looks (view u none r) q.table.rows → (lacked_last q.lacked) ≡ [] →
        is_some q.cause ≡ true → Still files note c.t.limits q.table.files q.note q.table.limits → Saw c.rec.pid g R q →
        Exactly c.rec.pid g q → post (At RolledBack) q
    old-full r q only looks full caused still saw exact = (
      λ a. service-of u (λ n. refl) g R (addresses_of c.rec) (layout_of c.rec) listens-old
          (first-keys c.t c.rec c.start) r q.table (lacked_last q.lacked) only looks full saw a ∙ sym
          (first-service c.t c.rec c.start a),
      tt,
      caused,
      kept-after c.rec (Upgrade c.st) (report_at sides (At RolledBack) q) q.table c.rec.wanted refl
          c.start.record_in_range c.start.record_in_range.wanted (within-old r q only looks exact)
          (agrees-old r q only looks exact still (At RolledBack)),
    )

    pub old-short :
        (r : Names) (q : Progress) (x : ℕ) (xs : List ℕ) → Only g R r → Looks (view u none r) q.table.rows →
        (lacked_last q.lacked) ≡ x ∷ xs → is_some q.cause ≡ true → Still files note c.t.limits q.table.files q.note q.table.limits →
        length R + c.rec.retries ≤ weigh (ready_in c.rec.pid (named g (is_in R))) q.table.rows + q.losses + q.faults →
        Saw c.rec.pid g R q → Exactly c.rec.pid g q → post (At ShortOld) q
    old-short r q x xs only looks short caused still budget saw exact =
        let some = c.start.record_in_range.groups.some in
        let less =
        service-short u (λ n. refl) g R (addresses_of c.rec) (layout_of c.rec) listens-old
        (first-keys c.t c.rec c.start) r q.table (lacked_last q.lacked) only looks some (omega (arith, ap length short)) saw in (
          (less.0, less.1, fewer-same (short_at (layout_of c.rec) (shortfalls_of c.rec.posts.groups (lacked_last q.lacked))) _ _ _ _ (λ a. sym (first-service c.t c.rec c.start a)) (λ a. refl) less.2),
          omega (arith, budget, counted-all c.rec.pid g R (lacked_last q.lacked) q.table.rows saw, shortfalls-sum c.rec.posts.groups (lacked_last q.lacked) some),
          caused,
          kept-after c.rec (Upgrade c.st) (report_at sides (At ShortOld) q) q.table c.rec.wanted refl
              c.start.record_in_range c.start.record_in_range.wanted (within-old r q only looks exact)
              (agrees-old r q only looks exact still (At ShortOld)),
        )

  ---- The ends on the target's side

  -- the new master alone
  abbrev pub x : ℕ → List Hold → Names → View
  x m hs r = sole (w m hs none r)

  -- the record with the target's service and these holds
  abbrev pub moved : List Hold → Record
  moved hs = record c.rec { listeners = map listener_of hs; posts = posts; generation = new; wanted = n; retries = c.st.retries; timeout = c.st.timeout }

  -- the listeners that the record will have
  abbrev pub Lists : List Hold → Type 0
  Lists hs = upgraded c.st.listeners c.rec.listeners ≡ Some (map listener_of hs)

  moved-is : (hs : List Hold) → Lists hs → renewed c.rec c.st posts (upgraded c.st.listeners c.rec.listeners) (next_image c.rec.generation) ≡ Some (moved hs)
  moved-is hs lists =
      ap (λ ls. renewed c.rec c.st posts ls (next_image c.rec.generation)) lists ∙ ap
      (λ o. renewed c.rec c.st posts (Some (map listener_of hs)) o) (next-image-is c.rec.generation c.numbered)

  -- Its workers' descriptors were told from what it holds when all is closed and opened.
  pub laid-first : (hs : List Hold) → Lists hs → RisesFrom 3 (fds hs) → Laid hs
  laid-first hs lists rises k a on =
      let told_from : posts ≡ posts_of c.st.groups c.st.listeners (map listener_of hs) =
      ap (λ o. posts_of c.st.groups c.st.listeners (unwrap_or o c.rec.listeners)) lists in
      ap (λ p. has_address a (share p k hs)) told_from ∙ share-listens c.st.groups c.st.listeners
      c.range.addresses_add_up (map listener_of hs) hs (told 3 hs rises) k a on

  module _ (m : ℕ) (some : 1 ≤ m) (hs : List Hold) (lists : Lists hs)
      (keys : (a : Address) → has_address a hs ≡ has wanted a) (laid : Laid hs) (files : List File) (note : PidNote)
      (are : FilesAre note c.rec.pid_path m files) where
    listens-new : (r : Names) → ListensBy (x m hs r) new layout
    listens-new r k a on = laid k a (sym (keys a) ∙ on) ∙ ap (λ b. b && new_at a k) on

    moved-left :
        (r : Names) (q : Progress) → Only new S r → Looks (view (x m hs r) none r) q.table.rows → Exactly m new q →
        Still files note c.t.limits q.table.files q.note q.table.limits → (e : Ending) →
        named_record (outcome_of sides e (lacked_last q.lacked)) c.rec (Upgrade c.st) ≡ Some (moved hs) →
        AgreesAfter c.rec (Upgrade c.st) (report_at sides e q) q.table
    moved-left r q only looks exact still e is =
        moved-after c.rec (Upgrade c.st) (report_at sides e q) q.table (moved hs) m is
        (some-held hs wanted keys c.range.listens) c.range.groups low c.range.retries c.range.timeout_least
        c.range.timeout_most c.start.record_in_range.pid_path some (λ e. absurd (omega (arith, e)))
        (λ k on. below-of n k (census-within (x m hs r) (λ n. refl) new S r q.table.rows q.ready only looks exact k on))
        (agrees-after (view (x m hs r) none r) new_crew q.table _ (λ n. refl) (λ k. refl) (λ h k on. (only h k on).0) looks exact refl refl refl refl (files-still note q.note c.rec.pid_path m files q.table.files c.t.limits q.table.limits are still))

    pub new-full :
        (r : Names) (q : Progress) → Only new S r → Looks (view (x m hs r) none r) q.table.rows → (lacked_last q.lacked) ≡ [] →
        Still files note c.t.limits q.table.files q.note q.table.limits → Saw m new S q → Exactly m new q →
        post (At Done) q
    new-full r q only looks full still saw exact = (
      service-of (x m hs r) (λ n. refl) new S wanted layout (listens-new r) keys r q.table (lacked_last q.lacked) only looks full saw,
      tt,
      tt,
      moved-left r q only looks exact still (At Done) (moved-is hs lists),
    )

    pub new-short :
        (r : Names) (q : Progress) (y : ℕ) (ys : List ℕ) → Only new S r → Looks (view (x m hs r) none r) q.table.rows →
        (lacked_last q.lacked) ≡ y ∷ ys → is_some q.cause ≡ true → Still files note c.t.limits q.table.files q.note q.table.limits →
        length S + c.rec.retries ≤ weigh (ready_in m (named new (is_in S))) q.table.rows + q.losses + q.faults →
        Saw m new S q → Exactly m new q → post (At ShortTarget) q
    new-short r q y ys only looks short caused still budget saw exact = (
      service-short (x m hs r) (λ n. refl) new S wanted layout (listens-new r) keys r q.table (lacked_last q.lacked) only looks
          c.range.groups.some (omega (arith, ap length short)) saw,
      omega (arith, budget, counted-all m new S (lacked_last q.lacked) q.table.rows saw, shortfalls-sum c.st.groups (lacked_last q.lacked) c.range.groups.some),
      caused,
      moved-left r q only looks exact still (At ShortTarget) (moved-is hs lists),
    )
