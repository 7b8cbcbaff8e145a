-- What the last census says of the service, and of the record that is left.
use Rattle.std.proofs.Common.{◌≡◌, ℕ, ◌+◌, ◌<◌, ◌≤◌, Bool, true, false, List, [], ◌∷◌, length, Some, None, ⊎_elim, refl, sym, ap, ◌∙◌, subst, arith}
use Rattle.std.specs.Prelude.{nat_le, is_some, option_map, option_and_then, map, filter, ◌&&◌, ◌==◌, if◌then◌else◌, count_by, Option}
use Rattle.std.specs.List.{AllByRecursion, list_any}
use Rattle.std.proofs.lemmas.Bool.Decides.{nat_tests}
use Rattle.std.proofs.lemmas.List.Sums.{length-filter}
use Rattle.worker_groups.specs.Groups.{AreGroups, group_of}
use Rattle.listener_set.specs.Numbers.{is_in, lacks, first_from}
use Rattle.listener_set.specs.declared.generation.Generation.{Generation}
use Rattle.vocabulary.specs.declared.table.Limits.{Limits}
use Rattle.definitions.specs.Table.{Address, Caller, same_generation, Process, Master, Worker, Foreign, Table, File}
use Rattle.definitions.specs.Table.{FilePath, is_worker, has_address, service, serving, IsSame}
use Rattle.call_laws.specs.Pieces.{is_ready, is_live_with, is_serving_as, share, lacked_last, is_ready_with}
use Rattle.vocabulary.specs.declared.table.Stance.TheVariants.{Starting, Ready, Draining, Exited}
use Rattle.vocabulary.specs.declared.plans.PidNote.{PidNote}
use Rattle.vocabulary.specs.declared.table.Listener.{Listener}
use Rattle.definitions.specs.Master.{Layout, served, short_at, shortfalls_of, Record, IsRecord, Agrees, FilesAre}
use Rattle.definitions.specs.Master.{addresses_of, layout_of, reload_generation, upgrade_generation, has_next, Sides}
use Rattle.vocabulary.specs.declared.targets.Target.{Target}
use Rattle.listener_set.specs.AddressList.{has}
use Rattle.definitions.specs.After.{next_config, next_image, named_record, reported, record_from, record_after}
use Rattle.definitions.specs.After.{keeps_rules, master_of}
use Rattle.std.specs.Bool.{then_some}
use Rattle.vocabulary.specs.Settings.{HasSuffixRoom}
use Rattle.definitions.specs.Run.{Ending, Progress, outcome_of}
use Rattle.vocabulary.specs.declared.reports.Report.{Report}
use Rattle.definitions.specs.Claims.{IsStart, FallsShort, AgreesAfter, ready_with}
use Rattle.table_laws.proofs.Rows.{one, weigh-le, count-weigh, both-true}
use Rattle.call_laws.proofs.Choices.{and-left, and-right}
use Rattle.table_laws.proofs.Views.{Names, named, View, Fine, Looks, ready_in, eqb-refl}
use Rattle.table_laws.proofs.Effects.{none, same-is, same-refl, bears-is}
use Rattle.table_laws.proofs.Counts.{Counted, counted}
use Rattle.table_laws.proofs.Sets.{in-here, in-there, in-filter-on, weigh-set}
use Rattle.table_laws.proofs.Shares.{held-listeners, layout_at, share-by-holds, shortfalls-length, shortfalls-sum, shortfalls-at}
use Rattle.table_laws.proofs.Services.{Sole, live-with, sole-fine, holders, held_at, service-by, serving-same, serving-fewer, fewer-same}
use Rattle.table_laws.proofs.Begins.{first_view, begin, rising-distinct, every-all, none-lack}
use Rattle.table_laws.proofs.Small.{or-elim}
use Rattle.run_laws.proofs.Rules.{view, Only, Still}

---- The service

-- its workers of the generation hold an address of the master where their group listens
abbrev pub ListensBy : View → Generation → Layout → Type 0
ListensBy v g layout = (k : ℕ) (a : Address) → has_address a v.holds ≡ true → has_address a (v.held g k) ≡ layout.listens (group_of layout.groups k) a

-- Of a master alone, whose Ready workers are of one generation and a set, and listen as they are laid out.
module _ (v : View) (sole : Sole v) (g : Generation) (S : List ℕ) (addresses : List Address) (layout : Layout)
    (listens : ListensBy v g layout) (keys : (a : Address) → has_address a v.holds ≡ has addresses a) where
  -- at each address those that are Ready and those that are lacking are all that it counts
  at-address :
      (t : Table) (lacking : List ℕ) → Counted v.number g S lacking t.rows → (a : Address) → has addresses a ≡ true →
      served layout S a ≡ held_at v g S t a + count_by (λ k. layout.listens (group_of layout.groups k) a) lacking
  at-address t lacking counts a key =
      let part : ℕ → Bool = λ k. has_address a (v.held g k) in
      let same : part ≡ (λ k. layout.listens (group_of layout.groups k) a) = λ i k. listens k a (keys a ∙ key) i in
      let full : length (filter part S) ≡ served layout S a = length-filter part S ∙ ap (λ p. count_by p S) same in
      let less : length (filter part lacking) ≡ count_by (λ k. layout.listens (group_of layout.groups k) a) lacking =
      length-filter part lacking ∙ ap (λ p. count_by p lacking) same in
      omega (arith, counts part, full, less)

  -- All of the set are Ready.
  pub service-of :
      (r : Names) (t : Table) (lacking : List ℕ) → Only g S r → Looks (view v none r) t.rows → lacking ≡ [] →
      Counted v.number g S lacking t.rows → IsSame (service t) (serving addresses g (served layout S))
  service-of r t lacking only looks empty counts a =
      service-by (view v none r) sole g S addresses keys t only looks a
      ∙ serving-same addresses g (held_at v g S t) (served layout S)
      (λ b key. let all = at-address t lacking counts b key in omega (arith, all, ap (count_by (λ k. layout.listens (group_of layout.groups k) b)) empty)) a

  -- Some are lacking.
  pub service-short :
      (r : Names) (t : Table) (lacking : List ℕ) → Only g S r → Looks (view v none r) t.rows →
      1 ≤ length layout.groups → 1 ≤ length lacking → Counted v.number g S lacking t.rows →
      FallsShort layout (shortfalls_of layout.groups lacking) (serving addresses g (served layout S)) (service t)
  service-short r t lacking only looks some short counts =
      let shortfalls = shortfalls_of layout.groups lacking in (
        shortfalls-length layout.groups lacking,
        omega (arith, short, shortfalls-sum layout.groups lacking some),
        fewer-same (short_at layout shortfalls) _ _ _ _ (λ a. refl) (λ a. sym (service-by (view v none r) sole g S addresses keys t only looks a))
            (serving-fewer addresses g (served layout S) (held_at v g S t) (short_at layout shortfalls) (λ a key. omega (arith, at-address t lacking counts a key, shortfalls-at layout lacking a some))),
      )

---- The first table

pub first-keys : (t : Table) (r : Record) (s : IsStart t r) → (a : Address) → has_address a s.agrees.holds ≡ has (addresses_of r) a
first-keys t r s a = held-listeners a s.agrees.holds ∙ ap (λ ls. has (map (λ (l : Listener). l.address) ls) a) s.agrees.listeners

first-only : (t : Table) (r : Record) (s : IsStart t r) → Only r.generation r.ready (first_view r s.agrees.holds).ready
first-only t r s h k e = (same-is h r.generation (and-left _ _ e), and-right (same_generation h r.generation) _ e)

-- A worker holds an address where its group listens.
pub first-listens :
    (t : Table) (r : Record) (s : IsStart t r) (k : ℕ) (a : Address) →
    has_address a (share r.posts k s.agrees.holds) ≡ (layout_of r).listens (group_of r.posts.groups k) a
first-listens t r s k a = share-by-holds r.posts k s.agrees.holds a ∙ ap (λ ls. (layout_at r.posts ls).listens (group_of r.posts.groups k) a) s.agrees.listeners

-- So many of some numbers hold an address then as it counts.
pub first-served :
    (t : Table) (r : Record) (s : IsStart t r) (S : List ℕ) (a : Address) →
    length (filter (λ k. has_address a (share r.posts k s.agrees.holds)) S) ≡ served (layout_of r) S a
first-served t r s S a =
    let holds : ℕ → Bool = λ k. has_address a (share r.posts k s.agrees.holds) in
    let same : holds ≡ (λ k. (layout_of r).listens (group_of r.posts.groups k) a) = λ i k. first-listens t r s k a i in
    length-filter holds S ∙ ap (λ (p : ℕ → Bool). count_by p S) same

pub first-service : (t : Table) (r : Record) (s : IsStart t r) → IsSame (service t) (serving (addresses_of r) r.generation (served (layout_of r) r.ready))
first-service t r s =
    let u = first_view r s.agrees.holds in
    let looks = begin t r s in
    let all =
    counted u r.generation t.rows r.ready looks r.ready (rising-distinct r.ready s.rising)
    (every-all (λ k. list_any (is_worker is_ready r.pid r.generation k) t.rows ≡ is_in r.ready k) r.ready s.agrees.ready)
    in
    service-of u (λ n. refl) r.generation r.ready (addresses_of r) (layout_of r) (λ k a on. first-listens t r s k a)
    (first-keys t r s) u.ready t (lacks r.ready r.ready) (first-only t r s) looks (none-lack r.ready r.ready (λ k e. e))
    all

-- The keys of its service are what the master holds.
pub first-held : (t : Table) (r : Record) (s : IsStart t r) (a : Address) → is_some (service t a) ≡ true → has_address a s.agrees.holds ≡ true
first-held t r s a e =
    sym (live-with (first_view r s.agrees.holds) (λ n. refl) (has_address a) t.rows (begin t r s)) ∙ go
    (list_any (is_live_with (has_address a)) t.rows) e
  where
    go : (b : Bool) → is_some {T = Generation → ℕ} (if b then Some (λ h. count_by (is_serving_as a h) t.rows) else None) ≡ true → b ≡ true
    go true e = refl
    go false e = e

few-row :
    (v : View) (g : Generation) (S : List ℕ) (a : Address) → Only g S v.ready → (p : Process) → Fine v p →
    one (is_ready_with a p) ≤ ready_in v.number (named g (is_in (holders v g S a))) p
few-row v g S a only (Master n q i live hs) h = omega arith
few-row v g S a only (Worker n q g' k Starting hs) h = omega arith
few-row v g S a only (Worker n q g' k Ready hs) h = go (has_address a hs) refl
  where
    o : (g' ≡ g) × (is_in S k ≡ true)
    o = only g' k h.1.0

    go : (b : Bool) → has_address a hs ≡ b → one b ≤ one ((q == v.number) && (same_generation g' g && is_in (holders v g S a) k))
    go true e =
        let same : same_generation g' g ≡ true = subst (λ f. same_generation f g ≡ true) (sym o.0) (same-refl g) in
        let held : has_address a (v.held g k) ≡ true = ap (λ f. has_address a (v.held f k)) (sym o.0) ∙ ap (has_address a) (sym h.1.1) ∙ e in
        let in_it : is_in (holders v g S a) k ≡ true = in-filter-on (λ j. has_address a (v.held g j)) S k o.1 held in
        omega
        (arith, ap one (both-true (q == v.number) (same_generation g' g && is_in (holders v g S a) k) (eqb-refl q v.number h.0) (both-true (same_generation g' g) (is_in (holders v g S a) k) same in_it)))
    go false e = omega arith
few-row v g S a only (Worker n q g' k Draining hs) h = omega arith
few-row v g S a only (Worker n q g' k Exited hs) h = omega arith
few-row v g S a only (Foreign n hs) h = omega arith

-- No address has more Ready workers at first than ready numbers of its group.
pub first-few : (t : Table) (r : Record) (s : IsStart t r) (a : Address) → ready_with a t ≤ served (layout_of r) r.ready a
first-few t r s a =
    let u = first_view r s.agrees.holds in
    let g = r.generation in
    let looks = begin t r s in
    omega (
      arith,
      count-weigh (is_ready_with a) t.rows,
      weigh-le (Fine u) (λ p. one (is_ready_with a p)) (ready_in u.number (named g (is_in (holders u g r.ready a))))
          (few-row u g r.ready a (first-only t r s)) t.rows (sole-fine u (λ n. refl) t.rows looks.fine),
      weigh-set u.number g t.rows looks.once (holders u g r.ready a),
      first-served t r s r.ready a,
    )

---- The record that is left

-- A name that is Ready is one of those that may be.
ready-row : (v : View) (g : Generation) (k : ℕ) (p : Process) → Fine v p → is_worker is_ready v.number g k p ≡ true → v.ready g k ≡ true
ready-row v g k (Master n q i live hs) f e = absurd (cc e)
ready-row v g k (Worker n q h j Starting hs) f e = absurd (cc e)
ready-row v g k (Worker n q h j Ready hs) f e =
    let is = bears-is g k h j (and-right (q == v.number) _ e) in
    subst (λ y. v.ready g y ≡ true) is.1 (subst (λ x. v.ready x j ≡ true) is.0 f.1.0)
ready-row v g k (Worker n q h j Draining hs) f e = absurd (cc e)
ready-row v g k (Worker n q h j Exited hs) f e = absurd (cc e)
ready-row v g k (Foreign n hs) f e = absurd (cc e)

ready-any :
    (v : View) (g : Generation) (k : ℕ) (rows : List Process) → AllByRecursion (Fine v) rows →
    list_any (is_worker is_ready v.number g k) rows ≡ true → v.ready g k ≡ true
ready-any v g k [] fine e = absurd (cc)
ready-any v g k (p ∷ rows) fine e =
    ⊎_elim (λ a. ready-row v g k p fine.0 a) (λ a. ready-any v g k rows fine.1 a)
    (or-elim (is_worker is_ready v.number g k p) (list_any (is_worker is_ready v.number g k) rows) e)

pub census-within :
    (v : View) (sole : Sole v) (g : Generation) (S : List ℕ) (r : Names) (rows : List Process) (ready : List ℕ) →
    Only g S r → Looks (view v none r) rows →
    ((k : ℕ) → list_any (is_worker is_ready v.number g k) rows ≡ is_in ready k) → (k : ℕ) → is_in ready k ≡ true →
    is_in S k ≡ true
census-within v sole g S r rows ready only looks exact k e =
    (only g k (ready-any (view v none r) g k rows (sole-fine (view v none r) sole rows looks.fine) (exact k ∙ e))).1

pub files-still :
    (note note_now : PidNote) (path : Option FilePath) (pid : ℕ) (files files_now : List File)
    (limits limits_now : Limits) → FilesAre note path pid files → Still files note limits files_now note_now limits_now
    → FilesAre note_now path pid files_now
files-still note note_now path pid files files_now limits limits_now are still =
    subst (λ x. FilesAre x path pid files_now) (sym still.note_stays)
    (subst (λ x. FilesAre note path pid x) (sym still.files_stay) are)

all-below : (wanted : ℕ) (ks : List ℕ) → ((k : ℕ) → is_in ks k ≡ true → k < wanted) → (first_from wanted ks ≡ None) × AllByRecursion (λ k. k < wanted) ks
all-below wanted [] h = (refl, tt)
all-below wanted (x ∷ ks) h =
    let rest = all-below wanted ks (λ k e. h k (in-there x k ks e)) in
    let lt = h x (in-here x x ks refl) in
    let off : nat_le wanted x ≡ false = grind (arith, nat_tests) in
    (rw off rest.0, (lt, rest.1))

-- A service with that many workers, and all else as it was.
abbrev pub resized : Record → ℕ → Record
resized r wanted = record r { wanted = wanted }

keeps : (r : Record) → 1 ≤ length r.listeners → r.wanted ≤ 1024 → first_from r.wanted r.ready ≡ None → 1 ≤ r.pid → keeps_rules r ≡ true
keeps r listens most none_above pid =
    let a : nat_le 1 (length r.listeners) ≡ true = grind (arith, nat_tests) in
    let b : nat_le r.wanted 1024 ≡ true = grind (arith, nat_tests) in
    let c : nat_le 1 r.pid ≡ true = grind (arith, nat_tests) in
    rw (a, b, c, none_above)

-- A record that moves to another service, run by the master of a process number.
pub moved-after :
    (r : Record) (target : Target) (report : Report) (t : Table) (named : Record) (pid : ℕ) →
    named_record report.outcome r target ≡ Some named → 1 ≤ length named.listeners → AreGroups named.posts.groups →
    named.wanted ≤ 1024 → named.retries ≤ 8 → 1 ≤ named.timeout → named.timeout ≤ 86400 → HasSuffixRoom named.pid_path →
    1 ≤ pid → (named.generation.image ≡ r.generation.image → pid ≡ r.pid) →
    ((k : ℕ) → is_in report.ready k ≡ true → k < named.wanted) → Agrees t (reported named report pid) →
    AgreesAfter r target report t
moved-after r target report t named pid is listens groups most retries least longest room some same below agrees =
    let all = all-below named.wanted report.ready below in
    let next = reported named report pid in
    let reigns : master_of (named_record report.outcome r target) t ≡ Some pid = ap (λ o. master_of o t) is ∙ ap (option_map (λ (c : Caller). c.number)) agrees.lives in
    record {
      record_then = next;
      is =
          ap (option_and_then (record_after r target report)) reigns ∙
          (ap (λ o. record_from o report pid) is ∙ ap (λ b. then_some b next) (keeps next listens most all.0 some));
      agrees = agrees;
      record_in_range =
          record
          { listens = listens; groups = groups; wanted = most; ready = all.1; retries = retries; timeout_least = least; timeout_most = longest; pid_path = room; pid = some };
      same_master = same;
    }

-- A record that keeps all but its count, its ready numbers and its note.
pub kept-after :
    (r : Record) (target : Target) (report : Report) (t : Table) (wanted : ℕ) →
    named_record report.outcome r target ≡ Some (resized r wanted) → IsRecord r → wanted ≤ 1024 →
    ((k : ℕ) → is_in report.ready k ≡ true → k < wanted) →
    Agrees t (reported (resized r wanted) report r.pid) → AgreesAfter r target report t
kept-after r target report t wanted is range most below agrees =
    moved-after r target report t (resized r wanted) r.pid is range.listens range.groups most range.retries
    range.timeout_least range.timeout_most range.pid_path range.pid (λ e. refl) below agrees

-- What is given if a test is passed, where there is something.
is-given : {A : Type 0} (b : Bool) (x : A) → is_some (then_some b x) ≡ true → then_some b x ≡ Some x
is-given true x e = refl
is-given false x e = absurd (cc)

-- The next configuration, where there is one.
pub next-is : (g : Generation) → is_some (next_config g) ≡ true → next_config g ≡ Some (reload_generation g)
next-is g e = is-given (has_next g.config) (reload_generation g) e

-- The next image, where there is one.
pub next-image-is : (g : Generation) → is_some (next_image g) ≡ true → next_image g ≡ Some (upgrade_generation g)
next-image-is g e = is-given (has_next g.image && has_next g.config) (upgrade_generation g) e

-- There is a next configuration, or image, where the numbers are not the last ones.
pub numbered-config : (g : Generation) → has_next g.config ≡ true → is_some (next_config g) ≡ true
numbered-config g e = ap (λ b. is_some (then_some b (reload_generation g))) e

pub numbered-image : (g : Generation) → (has_next g.image && has_next g.config) ≡ true → is_some (next_image g) ≡ true
numbered-image g e = ap (λ b. is_some (then_some b (upgrade_generation g))) e

-- What is reported where a run ends so.
abbrev pub report_at : Sides → Ending → Progress → Report
report_at sides e q = record { outcome = outcome_of sides e (lacked_last q.lacked); cause = q.cause; note = q.note; ready = q.ready }
