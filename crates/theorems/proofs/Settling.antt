-- A settle of a master that others may stand beside.
use Rattle.std.proofs.Common.{◌≡◌, ◌≢◌, ℕ, zero, suc, ◌+◌, ◌<◌, ◌≤◌, Bool, true, false, cond, not, List, [], ◌∷◌}
use Rattle.std.proofs.Common.{length, Option, Some, None, refl, sym, ap, ◌∙◌, subst, arith, ◌⊎◌, inl, inr, ⊎_elim}
use Rattle.std.specs.Prelude.{bytes_eq, ⊤, ◌&&◌, ◌||◌, ◌==◌, filter, if◌then◌else◌}
use Rattle.std.specs.List.{AllByRecursion, list_any}
use Rattle.listener_set.specs.Numbers.{is_in, lacks}
use Rattle.listener_set.specs.declared.generation.Generation.{Generation}
use Rattle.vocabulary.specs.declared.table.Stance.TheVariants.{Starting, Ready, Draining, Exited}
use Rattle.vocabulary.specs.declared.table.Stance.{Stance}
use Rattle.vocabulary.specs.declared.plans.End.{End}
use Rattle.vocabulary.specs.declared.plans.Side.{Side}
use Rattle.vocabulary.specs.declared.plans.Order.{Order}
use Rattle.vocabulary.specs.declared.plans.PidNote.{PidNote}
use Rattle.vocabulary.specs.declared.calls.Reply.{Reply}
use Rattle.definitions.specs.Table.{Address, has_address, Hold, Process, Master, Worker, Foreign, Table, Caller}
use Rattle.definitions.specs.Table.{live_master, is_worker, is_active, same_generation, IsFormed, IsQuiet, IsAscending}
use Rattle.call_laws.specs.Pieces.{caller_if, is_ready, share, among, full_or_short, census, quits, closes}
use Rattle.call_laws.specs.Pieces.{census_edges, fork_edges, first_cause, noted, lacked_last, answered, went_wrong}
use Rattle.call_laws.specs.Pieces.{lacks_address}
use Rattle.definitions.specs.Master.{Crew, IsRunning}
use Rattle.vocabulary.specs.declared.reports.Entry.{Entry}
use Rattle.definitions.specs.Run.{Tree, Branches, Ends, Does, Nothing, Branch, reply_of, call_of, Pattern, Progress}
use Rattle.definitions.specs.Run.{Ending, At, Ran, run_with, goes_with, after_call, after_moment, Return, is_fault}
use Rattle.definitions.specs.Run.{returns_after, lacked_by}
use Rattle.vocabulary.specs.declared.plans.Order.TheVariants.{Make, ForkLacking, AwaitLacking, KillLacking}
use Rattle.vocabulary.specs.declared.calls.Call.TheVariants.{Census, CloseAt, Quit}
use Rattle.vocabulary.specs.declared.calls.Answer.{Answer}
use Rattle.vocabulary.specs.declared.calls.Answer.TheVariants as answer
use Rattle.definitions.specs.Plans.{settle, round, await_any_edges, then_edge, full_end, short_end}
use Rattle.definitions.specs.Claims.{refused_among}
use Rattle.theorems.specs.Settling.{PlansGoBack, IsOnly, HasSide, missing, Settles, SettlesAlways, IsReturning, back, without, ReturnsAlways}
use Rattle.table_laws.proofs.Rows.{one, weigh, every-more, every-both, count-weigh, both-true, or-left, or-right}
use Rattle.call_laws.proofs.Choices.{and-left, and-right}
use Rattle.table_laws.proofs.Views.{Row, Fine, FineLive, Other, Names, master_at, named, View, Looks, ready_in, finds, eqb-refl, eqb-off, eqb-is}
use Rattle.table_laws.proofs.Effects.{none, same-is, bears-is, same-refl, after_close}
use Rattle.table_laws.proofs.Counts.{Distinct, Counted, counted-all, count-set, every-any_of, in-filter}
use Rattle.table_laws.proofs.Sets.{in-here, every-in}
use Rattle.table_laws.proofs.Small.{every-is_in, or-elim, true-false}
use Rattle.table_laws.proofs.Begins.{rising-distinct}
use Rattle.run_laws.proofs.Logic.{Course, Anyhow, Unasked, Along, from-along, are-mild-anyhow}
use Rattle.run_laws.proofs.Rules.{Scene, plain_scene, Band, band-holds, seen_as, Only, Less, view, rule-settle, rule-close, rule-quits, grounded}
use Rattle.table_laws.proofs.Layouts.{share-lacks-none}
use Rattle.table_laws.proofs.Addresses.{same-address, address-refl}
use Rattle.table_laws.proofs.Listeners.{all_closed, all-closed-is}
use Rattle.definitions.specs.Calls.{gives, Handed}
use Rattle.listener_set.specs.AddressList.{has}
use Rattle.vocabulary.specs.declared.plans.Side.TheVariants.{Old}

---- The first table

-- the rows of the master, and of no other of its image
abbrev Ours : ℕ → Caller → Process → Type 0
Ours image c (Master n q i live hs) = (n ≡ c.number → (i ≡ image) × (live ≡ true) × (hs ≡ c.holds)) × ((live ≡ false) ⊎ (i ≡ image → n ≡ c.number))
Ours image c (Worker n q g k s hs) = ⊤
Ours image c (Foreign n hs) = ⊤

only-or : (image pid n q i : ℕ) (live : Bool) (hs : List Hold) → IsOnly image pid (Master n q i live hs) → (live ≡ false) ⊎ (i ≡ image → n ≡ pid)
only-or image pid n q i true hs h = inr h
only-or image pid n q i false hs h = inl refl

-- above the master's number
ours-above :
    (image : ℕ) (c : Caller) (b : ℕ) (rows : List Process) (next : ℕ) → c.number < b → IsAscending b rows next →
    AllByRecursion (IsOnly image c.number) rows →
    AllByRecursion (Ours image c) rows × (weigh (master_at c.number) rows ≡ 0)
ours-above image c b [] next lt asc only = (tt, refl)
ours-above image c b (Master n q i live hs ∷ rows) next lt asc only =
    let rest = ours-above image c (n + 1) rows next (omega (arith, asc.0)) asc.1 only.1 in
    let off : n ≢ c.number = λ e. absurd (omega (arith, asc.0)) in
    ((((λ e. absurd (off e)), only-or image c.number n q i live hs only.0), rest.0), omega (arith, rest.1, ap one (eqb-off n c.number off)))
ours-above image c b (Worker n q g k s hs ∷ rows) next lt asc only =
    let rest = ours-above image c (n + 1) rows next (omega (arith, asc.0)) asc.1 only.1 in
    ((tt, rest.0), omega (arith, rest.1))
ours-above image c b (Foreign n hs ∷ rows) next lt asc only =
    let rest = ours-above image c (n + 1) rows next (omega (arith, asc.0)) asc.1 only.1 in
    ((tt, rest.0), omega (arith, rest.1))

-- who is found is not below
found-above : (image : ℕ) (c : Caller) (b : ℕ) (rows : List Process) (next : ℕ) → IsAscending b rows next → live_master image rows ≡ Some c → b ≤ c.number
found-above image c b [] next asc e = absurd (cc)
found-above image c b (Master n q i live hs ∷ rows) next asc e = go (live && (i == image)) e (found-above image c (n + 1) rows next asc.1)
  where
    go : (x : Bool) → caller_if x n hs (live_master image rows) ≡ Some c → (live_master image rows ≡ Some c → n + 1 ≤ c.number) → b ≤ c.number
    go true is ih =
        let same : record { number = n; holds = hs } ≡ c = cc in
        omega (arith, asc.0, ap (λ (x : Caller). x.number) same)
    go false is ih = omega (arith, asc.0, ih is)
found-above image c b (Worker n q g k s hs ∷ rows) next asc e = omega (arith, asc.0, found-above image c (n + 1) rows next asc.1 e)
found-above image c b (Foreign n hs ∷ rows) next asc e = omega (arith, asc.0, found-above image c (n + 1) rows next asc.1 e)

-- The master that is found is the only one with its number.
ours :
    (image : ℕ) (c : Caller) (b : ℕ) (rows : List Process) (next : ℕ) → IsAscending b rows next →
    live_master image rows ≡ Some c → AllByRecursion (IsOnly image c.number) rows →
    AllByRecursion (Ours image c) rows × (weigh (master_at c.number) rows ≡ 1)
ours image c b [] next asc e only = absurd (cc)
ours image c b (Master n q i live hs ∷ rows) next asc e only = go live (i == image) refl e only.0 (λ found. ours image c (n + 1) rows next asc.1 found only.1)
  where
    go :
        (l x : Bool) → (i == image) ≡ x → caller_if (l && x) n hs (live_master image rows) ≡ Some c → IsOnly image
        c.number (Master n q i l hs) →
        (live_master image rows ≡ Some c → AllByRecursion (Ours image c) rows × (weigh (master_at c.number) rows ≡ 1)) →
        AllByRecursion (Ours image c) (Master n q i l hs ∷ rows) ×
        (weigh (master_at c.number) (Master n q i live hs ∷ rows) ≡ 1)
    go true true is found o ih =
        let same : record { number = n; holds = hs } ≡ c = cc in
        let is_n : n ≡ c.number = ap (λ (x : Caller). x.number) same in
        let rest = ours-above image c (n + 1) rows next (omega (arith, is_n)) asc.1 only.1 in
        ((((λ e. (eqb-is i image is, refl, ap (λ (x : Caller). x.holds) same)), inr o), rest.0), omega (arith, rest.1, ap one (eqb-refl n c.number is_n)))
    go true false is found o ih =
        let rest = ih found in
        let above = found-above image c (n + 1) rows next asc.1 found in
        let off : n ≢ c.number = λ e. absurd (omega (arith, e, above)) in
        ((((λ e. absurd (off e)), inr o), rest.0), omega (arith, rest.1, ap one (eqb-off n c.number off)))
    go false x is found o ih =
        let rest = ih found in
        let above = found-above image c (n + 1) rows next asc.1 found in
        let off : n ≢ c.number = λ e. absurd (omega (arith, e, above)) in
        ((((λ e. absurd (off e)), inl refl), rest.0), omega (arith, rest.1, ap one (eqb-off n c.number off)))
ours image c b (Worker n q g k s hs ∷ rows) next asc e only =
    let rest = ours image c (n + 1) rows next asc.1 e only.1 in
    ((tt, rest.0), omega (arith, rest.1))
ours image c b (Foreign n hs ∷ rows) next asc e only =
    let rest = ours image c (n + 1) rows next asc.1 e only.1 in
    ((tt, rest.0), omega (arith, rest.1))

---- A run with other faults and another cause makes the same calls

abbrev recounted : Progress → ℕ → List Return → Option ℕ → Progress
recounted p faults returns cause = record {
  table = p.table;
  calls = p.calls;
  ready = p.ready;
  lacked = p.lacked;
  faults = faults;
  losses = p.losses;
  returns = returns;
  cause = cause;
  note = p.note;
}

noted-recounted :
    (said : Option PidNote) (p : Progress) (f : ℕ) (rs : List Return) (c : Option ℕ) →
    noted said (recounted p f rs c) ≡ recounted (noted said p) f rs c
noted-recounted None p f rs c = refl
noted-recounted (Some n) p f rs c = refl

noted-faults : (said : Option PidNote) (p : Progress) → (noted said p).faults ≡ p.faults
noted-faults None p = refl
noted-faults (Some n) p = refl

fault-more : (b : Bool) (f n d : ℕ) → f ≡ n + d → (if b then f + 1 else f) ≡ (if b then n + 1 else n) + d
fault-more true f n d e = omega (arith, e)
fault-more false f n d e = e

-- it makes the same calls and ends alike, with so many faults more
abbrev Twin : ℕ → Ran → Ran → Type 0
Twin d ran ran' =
    (ran'.ending ≡ ran.ending) × (f : ℕ) × (rs : List Return) × (c : Option ℕ) × (ran'.last ≡ recounted ran.last f rs c)
    × (f ≡ ran.last.faults + d) × (ran'.entries ≡ ran.entries)

mutual
  twins :
      (d : ℕ) (handed : Handed) (tree : Tree) (pattern : Pattern) (p : Progress) (f : ℕ) (rs : List Return) (c : Option ℕ)
      → f ≡ p.faults + d → Twin d (run_with handed tree pattern p) (run_with handed tree pattern (recounted p f rs c))
  twins d handed (Ends end) pattern p f rs c e = (refl, f, rs, c, refl, e, refl)
  twins d handed (Does by order set branches) pattern p f rs c e =
      let moment = pattern (p.calls + 1) in
      let middle = after_moment moment.exits p in
      let s = answered handed by order moment.fate middle in
      let b = is_fault (call_of order (lacked_by by p.lacked)) s.answer in
      let rest =
      twins-behind d handed branches (reply_of set s.answer) pattern (after_call by order set s middle)
      (if b then f + 1 else f) (returns_after (call_of order (lacked_by by p.lacked)) s.answer f rs)
      (first_cause c (went_wrong (call_of order (lacked_by by p.lacked)) (reply_of set s.answer)) (p.calls + 1))
      (fault-more b f p.faults d e) in
      let entry : Entry = record { by = by; call = call_of order (lacked_by by middle.lacked); answer = s.answer } in
      (rest.0, rest.1, rest.2, rest.3, rest.4, rest.5, ap (λ es. entry ∷ es) rest.6)

  twins-behind :
      (d : ℕ) (handed : Handed) (bs : Branches) (r : Reply) (pattern : Pattern) (p : Progress) (f : ℕ) (rs : List Return)
      (c : Option ℕ) → f ≡ p.faults + d → Twin d (goes_with handed bs r pattern p)
      (goes_with handed bs r pattern (recounted p f rs c))
  twins-behind d handed Nothing r pattern p f rs c e = (refl, f, rs, c, refl, e, refl)
  twins-behind d handed (Branch replies said rest more) r pattern p f rs c e =
      let here : Twin d (run_with handed rest pattern (noted said p)) (run_with handed rest pattern (noted said (recounted p f rs c))) =
      subst (λ x. Twin d (run_with handed rest pattern (noted said p)) (run_with handed rest pattern x))
      (sym (noted-recounted said p f rs c))
      (twins d handed rest pattern (noted said p) f rs c (e ∙ ap (λ n. n + d) (sym (noted-faults said p)))) in
      let there = twins-behind d handed more r pattern p f rs c e in
      elim (among replies r) as
      (λ b. Twin d (elim b as (λ c. Ran) [ true ↦ run_with handed rest pattern (noted said p) | false ↦ goes_with handed more r pattern p ]) (elim b as (λ c. Ran) [ true ↦ run_with handed rest pattern (noted said (recounted p f rs c)) | false ↦ goes_with handed more r pattern (recounted p f rs c) ])) [
        | true ↦ here
        | false ↦ there
      ]

---- What is missing is counted

filter-same : (t t' : ℕ → Bool) (S : List ℕ) → AllByRecursion (λ k. t k ≡ t' k) S → filter t S ≡ filter t' S
filter-same t t' [] all = refl
filter-same t t' (k ∷ S) all = go (t k) (t' k) all.0 (filter-same t t' S all.1)
  where
    go : (a b : Bool) → a ≡ b → filter t S ≡ filter t' S → cond a (k ∷ filter t S) (filter t S) ≡ cond b (k ∷ filter t' S) (filter t' S)
    go true true e ih = ap (λ l. k ∷ l) ih
    go true false e ih = absurd (cc)
    go false true e ih = absurd (cc)
    go false false e ih = ih

no-length : (l : List ℕ) → length l ≡ 0 → l ≡ []
no-length [] e = refl
no-length (x ∷ l) e = absurd (omega (arith, e))

-- The Ready ones of a set and those that are missing are the set, whichever list says who is Ready.
missing-count :
    (v : View) (g : Generation) (t : Table) (S cs : List ℕ) → Looks v t.rows → Distinct S →
    AllByRecursion (λ k. list_any (is_worker is_ready v.number g k) t.rows ≡ is_in cs k) S →
    weigh (ready_in v.number (named g (is_in S))) t.rows + length (missing v.number g S t) ≡ length S
missing-count v g t S cs looks dS all =
    let same : missing v.number g S t ≡ lacks S cs =
    filter-same (λ k. not (list_any (is_worker is_ready v.number g k) t.rows)) (λ k. not (is_in cs k)) S
    (every-more (λ k. list_any (is_worker is_ready v.number g k) t.rows ≡ is_in cs k) (λ k. not (list_any (is_worker is_ready v.number g k) t.rows) ≡ not (is_in cs k)) (λ k e. ap not e) S all)
    in
    omega (arith, ap length same, count-set v g t.rows cs looks S dS all)

-- The list of those that are.
ready-among :
    (m : ℕ) (g : Generation) (rows : List Process) (S : List ℕ) → AllByRecursion
    (λ k. list_any (is_worker is_ready m g k) rows ≡ is_in (filter (λ j. list_any (is_worker is_ready m g j) rows) S) k)
    S
ready-among m g rows S =
    every-in (λ k. list_any (is_worker is_ready m g k) rows ≡ is_in (filter (λ j. list_any (is_worker is_ready m g j) rows) S) k) S
    (λ k e. sym (in-filter (λ j. list_any (is_worker is_ready m g j) rows) S k ∙ ap (λ b. b && list_any (is_worker is_ready m g k) rows) e))

---- The last count lacks what it does not have

module _ (handed : Handed) (pattern : Pattern) (set : List ℕ) where
  abbrev Named : Ran → Type 0
  Named ran = (end : End) → ran.ending ≡ At end → (lacked_last ran.last.lacked) ≡ lacks set ran.last.ready

  abbrev AlwaysNamed : Tree → Type 0
  AlwaysNamed tree = (q : Progress) → Named (run_with handed tree pattern q)

  abbrev AllNamed : Branches → Type 0
  AllNamed Nothing = ⊤
  AllNamed (Branch replies said rest more) = AlwaysNamed rest × AllNamed more

  branches-named : (bs : Branches) → AllNamed bs → (r : Reply) (q : Progress) → Named (goes_with handed bs r pattern q)
  branches-named Nothing all r q = λ end is. absurd (cc is)
  branches-named (Branch replies said rest more) all r q =
      let here = all.0 (noted said q) in
      let there = branches-named more all.1 r q in
      elim (among replies r) as
      (λ b. Named (elim b as (λ c. Ran) [ true ↦ run_with handed rest pattern (noted said q) | false ↦ goes_with handed more r pattern q ])) [
        | true ↦ here
        | false ↦ there
      ]

  does-named : (by : ℕ) (order : Order) (s : List ℕ) (bs : Branches) → AllNamed bs → AlwaysNamed (Does by order s bs)
  does-named by order s bs all q =
      let moment = pattern (q.calls + 1) in
      let middle = after_moment moment.exits q in
      let st = answered handed by order moment.fate middle in
      branches-named bs all (reply_of s st.answer) (after_call by order s st middle)

  -- behind a count
  abbrev NamedThen : Tree → Type 0
  NamedThen tree = (q : Progress) → (lacked_last q.lacked) ≡ lacks set q.ready → Named (run_with handed tree pattern q)

  end-named : (end : End) → NamedThen (Ends end)
  end-named end q is e on = is

  census-named : (by : ℕ) (g : Generation) (full short : Tree) → NamedThen full → NamedThen short → AlwaysNamed (census by g set (census_edges full short))
  census-named by g full short on_full on_short q =
      let moment = pattern (q.calls + 1) in
      let middle = after_moment moment.exits q in
      let st = answered handed by (Make (Census g)) moment.fate middle in
      go st.answer st.table middle
    where
      go :
          (a : Answer) (t : Table) (middle : Progress) → Named
          (goes_with handed (census_edges full short) (reply_of set a) pattern (after_call by (Make (Census g)) set (gives a t) middle))
      go (answer.Counted ns) t middle =
          let q1 = after_call by (Make (Census g)) set (gives (answer.Counted ns) t) middle in
          elim (lacks set ns) as (λ l. Named (goes_with handed (census_edges full short) (full_or_short l) pattern q1)) [
            | [] ↦ on_full q1 refl
            | x ∷ xs ↦ on_short q1 refl
          ]
      go _ t middle = λ end is. absurd (cc is)

  round-named : (by : ℕ) (crew : Crew) (rest : Tree) → AlwaysNamed rest → AlwaysNamed (round by crew rest)
  round-named by crew rest named =
      let killed = Does by (KillLacking crew.generation) [] (then_edge rest) in
      let waited =
      does-named by (AwaitLacking crew.generation) [] (await_any_edges rest killed)
      (named, (does-named by (KillLacking crew.generation) [] (then_edge rest) (named, tt), tt)) in
      does-named by (ForkLacking crew) [] (fork_edges (Does by (AwaitLacking crew.generation) [] (await_any_edges rest killed)) rest) (waited, (named, tt))

  settle-named : (by : ℕ) (crew : Crew) (side : Side) (rounds : ℕ) → AlwaysNamed (settle by crew set side rounds)
  settle-named by crew side zero =
      census-named by crew.generation (Ends (full_end side)) (Ends (short_end side)) (end-named (full_end side))
      (end-named (short_end side))
  settle-named by crew side (suc rounds) =
      let rest = settle by crew set side rounds in
      let more = round-named by crew rest (settle-named by crew side rounds) in
      census-named by crew.generation (Ends (full_end side)) (round by crew rest) (end-named (full_end side)) (λ q is. more q)

  quits-named : (by : ℕ) (g : Generation) (ks : List ℕ) (rest : Tree) → AlwaysNamed rest → AlwaysNamed (quits by g ks rest)
  quits-named by g [] rest named = named
  quits-named by g (k ∷ ks) rest named = does-named by (Make (Quit g k)) [] (then_edge (quits by g ks rest)) (quits-named by g ks rest named, tt)

  closes-named : (by : ℕ) (addresses : List Address) (rest : Tree) → AlwaysNamed rest → AlwaysNamed (closes by addresses rest)
  closes-named by [] rest named = named
  closes-named by (a ∷ more) rest named = does-named by (Make (CloseAt a)) [] (then_edge (closes by more rest)) (closes-named by more rest named, tt)

---- One master's side

eqb-not : (n k : ℕ) → (n == k) ≡ false → n ≢ k
eqb-not n k off e = let on = eqb-refl n k e in absurd (cc)

-- a row is the master's or another's
own-or-other : (v : View) (p : Process) (owner : ℕ) → (owner ≡ v.number → Fine v p) → (owner ≢ v.number → Other v p) → Row v p
own-or-other v p owner own other = go (owner == v.number) refl
  where
    go : (b : Bool) → (owner == v.number) ≡ b → Row v p
    go true e = inl (own (eqb-is owner v.number e))
    go false e = inr (other (eqb-not owner v.number e))

master-row :
    (v : View) (n q i : ℕ) (live : Bool) (hs : List Hold) → v.others n ≡ true →
    Ours v.image (record { number = v.number; holds = v.holds }) (Master n q i live hs) → Row v (Master n q i live hs)
master-row v n q i live hs known ours =
    own-or-other v (Master n q i live hs) n (λ is. let o = ours.0 is in (is, o.0, o.1, o.2))
    (λ off. (off, known, ⊎_elim (λ a. inl a) (λ a. inr (λ x. off (a x))) ours.1))

module _ (image pid : ℕ) (holds : List Hold) (crew : Crew) (S : List ℕ) where
  abbrev g : Generation
  g = crew.generation

  abbrev u : View
  u = record {
    number = pid;
    others = λ n. true;
    image = image;
    holds = holds;
    starting = none;
    ready = named g (is_in S);
    held = λ h k. share crew.posts k holds;
  }

  abbrev me : Caller
  me = record { number = pid; holds = holds }

  -- what is known of a row of the first table
  abbrev Known : Process → Type 0
  Known p = Ours image me p × IsRunning pid crew holds p × IsQuiet p × ((k : ℕ) → is_worker is_ready pid g k p ≡ true → is_in S k ≡ true)

  first-row : (p : Process) → Known p → Row u p
  first-row (Master n q i live hs) h = master-row u n q i live hs refl h.0
  first-row (Worker n q g' k st hs) h = own-or-other u (Worker n q g' k st hs) q (λ e. (e, on e st h)) (λ off. (off, refl))
    where
      on : (e : q ≡ pid) (st : Stance) → Known (Worker n q g' k st hs) → FineLive u st g' k hs
      on e Starting h = absurd (h.1 e)
      on e Ready h =
          let is = h.1 e in
          let name : same_generation g' g ≡ true = subst (λ f. same_generation f g ≡ true) (sym is.0) (same-refl g) in
          let in_it = h.3 k (both-true (q == pid) _ (eqb-refl q pid e) (both-true (same_generation g' g) (k == k) name (eqb-refl k k refl))) in
          (both-true (same_generation g' g) (is_in S k) name in_it, is.1)
      on e Draining h = h.2
      on e Exited h = h.2
  first-row (Foreign n hs) h = inl tt

  first-looks : (t : Table) → IsFormed t → HasSide t image pid holds crew S → Looks u t.rows
  first-looks t formed has =
      let own = ours image me 0 t.rows t.next_process formed.ascending has.lives has.only in
      record {
        fine =
            every-more
            (λ p. (Ours image me p × IsRunning pid crew holds p) × (IsQuiet p × ((k : ℕ) → is_worker is_ready pid g k p ≡ true → list_any (is_worker is_ready pid g k) t.rows ≡ true)))
            (Row u) (λ p h. first-row p (h.0.0, h.0.1, h.1.0, λ k e. has.within k (h.1.1 k e))) t.rows
            (every-both _ _ t.rows (every-both _ _ t.rows own.0 has.running) (every-both _ _ t.rows formed.quiet (every-any_of (λ k. is_worker is_ready pid g k) t.rows)));
        alone = own.1;
        once = λ h k. subst (λ n. n ≤ 1) (count-weigh (is_worker is_active pid h k) t.rows) (formed.once pid h k);
      }

  ---- And again at the end

  only-row : (r : Names) (p : Process) → Row (view u none r) p → IsOnly image pid p
  only-row r (Master n q i true hs) h = λ e. ⊎_elim (λ f. f.0) (λ o. absurd (⊎_elim (λ a. cc a) (λ ne. ne e) o.2)) h
  only-row r (Master n q i false hs) h = tt
  only-row r (Worker n q g' k st hs) h = tt
  only-row r (Foreign n hs) h = tt

  running-row : (r : Names) → Only g S r → (p : Process) → Row (view u none r) p → IsRunning pid crew holds p
  running-row r only (Master n q i live hs) h = tt
  running-row r only (Worker n q g' k Starting hs) h = λ e. ⊎_elim (λ f. absurd (cc (f.1.0))) (λ o. o.0 e) h
  running-row r only (Worker n q g' k Ready hs) h = λ e. ⊎_elim (λ f. ((only g' k f.1.0).0, f.1.1)) (λ o. absurd (o.0 e)) h
  running-row r only (Worker n q g' k Draining hs) h = tt
  running-row r only (Worker n q g' k Exited hs) h = tt
  running-row r only (Foreign n hs) h = tt

  within-row : (r : Names) → Only g S r → (k : ℕ) (p : Process) → Row (view u none r) p → is_worker is_ready pid g k p ≡ true → is_in S k ≡ true
  within-row r only k (Master n q i live hs) h e = absurd (cc e)
  within-row r only k (Worker n q g' j Starting hs) h e = absurd (cc e)
  within-row r only k (Worker n q g' j Ready hs) h e =
      let is = bears-is g k g' j (and-right (q == pid) _ e) in
      ⊎_elim (λ f. subst (λ z. is_in S z ≡ true) is.1 (only g' j f.1.0).1) (λ o. absurd (o.0 (eqb-is q pid (and-left (q == pid) _ e)))) h
  within-row r only k (Worker n q g' j Draining hs) h e = absurd (cc e)
  within-row r only k (Worker n q g' j Exited hs) h e = absurd (cc e)
  within-row r only k (Foreign n hs) h e = absurd (cc e)

  within-rows :
      (r : Names) → Only g S r → (k : ℕ) (rows : List Process) → AllByRecursion (Row (view u none r)) rows →
      list_any (is_worker is_ready pid g k) rows ≡ true → is_in S k ≡ true
  within-rows r only k [] all e = absurd (cc e)
  within-rows r only k (p ∷ rows) all e =
      ⊎_elim (λ a. within-row r only k p all.0 a) (λ a. within-rows r only k rows all.1 a)
      (or-elim (is_worker is_ready pid g k p) (list_any (is_worker is_ready pid g k) rows) e)

  side-of : (r : Names) (t : Table) → Only g S r → Looks (view u none r) t.rows → HasSide t image pid holds crew S
  side-of r t only looks = record {
    lives = finds (view u none r) t.rows looks;
    only = every-more (Row (view u none r)) (IsOnly image pid) (only-row r) t.rows looks.fine;
    running = every-more (Row (view u none r)) (IsRunning pid crew holds) (running-row r only) t.rows looks.fine;
    within = λ k e. within-rows r only k t.rows looks.fine e;
  }

  ---- The settle

  module _ (handed : Handed) (side : Side) (rounds : ℕ) (pattern : Pattern) (p : Progress) (dS : Distinct S) where
    abbrev co : Course
    co = record { handed = handed; pattern = pattern; executing = image ∷ []; heirs = [] }

    abbrev sc : Scene pid image
    sc = plain_scene pid image (λ a. 0) (λ a h k. false) p.table.files p.note p.table.limits

    abbrev inv : Progress → Type 0
    inv q = ⊤

    abbrev Exactly : Progress → Type 0
    Exactly q = (k : ℕ) → list_any (is_worker is_ready pid g k) q.table.rows ≡ is_in q.ready k

    -- one more is owed than there was, so that there is a cause from the first on
    abbrev EndsSo : Ending → Progress → Type 0
    EndsSo e q =
        ((e ≡ At (full_end side)) × (missing pid g S q.table ≡ []))
        ⊎ ((e ≡ At (short_end side)) × (1 ≤ length (lacked_last q.lacked)) × (length (lacked_last q.lacked) + rounds + (p.faults + p.losses) + 1 ≤ q.faults + q.losses))

    abbrev post : Ending → Progress → Type 0
    post e q = EndsSo e q × Exactly q × HasSide q.table image pid holds crew S × (q.table.files ≡ p.table.files) × (q.note ≡ p.note)

    abbrev owed : ℕ
    owed = p.faults + p.losses + 1

    count-of :
        (r : Names) (q : Progress) → Looks (view u none r) q.table.rows → Exactly q →
        weigh (ready_in pid (named g (is_in S))) q.table.rows + length (missing pid g S q.table) ≡ length S
    count-of r q looks exact =
        missing-count (view u none r) g q.table S q.ready looks dS
        (every-in (λ k. list_any (is_worker is_ready pid g k) q.table.rows ≡ is_in q.ready k) S (λ k e. exact k))

    full :
        (r : Names) (q : Progress) (c : ℕ) (w : Bool) → (false ≡ true → w ≡ true) → Only g S r →
        Band u sc none r (named g (is_in S)) (length S) c w [] q → (lacked_last q.lacked) ≡ [] →
        Counted pid g S (lacked_last q.lacked) q.table.rows → Exactly q → post (At (full_end side)) q
    full r q c w up only b is saw exact =
        let none_missing =
        no-length (missing pid g S q.table)
        (omega (arith, counted-all pid g S (lacked_last q.lacked) q.table.rows saw, ap length is, count-of r q b.looks exact)) in
        (inl (refl, none_missing), exact, side-of r q.table only b.looks, b.still.files_stay, b.still.note_stays)

    short :
        (r : Names) (q : Progress) (x : ℕ) (xs : List ℕ) → Only g S r →
        Band u sc none r (named g (is_in S)) (length S) (owed + rounds) true (x ∷ xs) q → (lacked_last q.lacked) ≡ x ∷ xs →
        Counted pid g S (lacked_last q.lacked) q.table.rows → Exactly q → post (At (short_end side)) q
    short r q x xs only b is saw exact =
        let some : 1 ≤ length (lacked_last q.lacked) = omega (arith, ap length is) in
        let paid : length (lacked_last q.lacked) + rounds + (p.faults + p.losses) + 1 ≤ q.faults + q.losses =
        omega (arith, b.budget, counted-all pid g S (lacked_last q.lacked) q.table.rows saw) in
        (inr (refl, some, paid), exact, side-of r q.table only b.looks, b.still.files_stay, b.still.note_stays)

    abbrev more : ℕ
    more = length (missing pid g S p.table) + 1

    abbrev begun : Progress
    begun = recounted p (p.faults + more) [] (Some 0)

    -- however the workers are seen that are no part of the set
    begun-band :
        (v : View) (s r : Names) → Looks (view (seen_as u v) s r) p.table.rows →
        Band (seen_as u v) sc s r (named g (is_in S)) (length S) owed false (lacked_by image p.lacked) begun
    begun-band v s r looks =
        let count = missing-count (view (seen_as u v) s r) g p.table S _ looks dS (ready-among pid g p.table.rows S) in
        record {
          looks = looks;
          enough = λ a e. absurd (omega (arith, e));
          secured = λ a e. absurd (omega (arith, e));
          budget = omega (arith, count);
          lacking = refl;
          marks = record { clean = λ e. absurd (cc e); blamed = λ e. omega arith; caused = λ e. absurd (cc e); returned = refl };
          still = record { files_stay = refl; note_stays = refl; limits_stay = refl };
          beside = tt;
        }

    first-band : Looks u p.table.rows → Band u sc none (named g (is_in S)) (named g (is_in S)) (length S) owed false (lacked_by image p.lacked) begun
    first-band looks = begun-band u none (named g (is_in S)) looks

    abbrev Goes : Tree → Progress → Type 0
    Goes tree q = Along inv post Anyhow Unasked co tree q

    acts : is_in (image ∷ []) image ≡ true
    acts = in-here image image [] refl

    -- from what is known before it
    settle-goes :
        ((k : ℕ) → is_in S k ≡ true → k < 1024) → (r : Names) (w : Bool) (ls : List ℕ) (q : Progress) → Only g S r →
        Band u sc none r (named g (is_in S)) (length S) owed w ls q → Goes (settle image crew S side rounds) q
    settle-goes below r w ls q only b =
        rule-settle u sc (grounded inv post co acts (λ t n w q a b c d e. tt)) side crew S (λ k. refl) dS below
        (owed + rounds) false full short rounds owed refl w (λ e. absurd (cc e)) r ls q only b

    -- what goes along a tree from there is so of its run
    settles-by :
        (tree : Tree) → AlwaysNamed handed pattern S tree → Goes tree begun →
        refused_among (image ∷ []) [] pattern p.calls (run_with handed tree pattern p).entries ≡ None →
        Settles image pid holds crew S side rounds p (run_with handed tree pattern p)
    settles-by tree always goes spared =
        let ran = run_with handed tree pattern p in
        let ran' = run_with handed tree pattern begun in
        let twin = twins more handed tree pattern p (p.faults + more) [] (Some 0) refl in
        let all =
        from-along inv post Anyhow Unasked co tree begun goes
        (ap (refused_among (image ∷ []) [] pattern p.calls) twin.6 ∙ spared) (are-mild-anyhow co tree begun) in
        let end : post ran.ending (recounted ran.last twin.1 twin.2 twin.3) =
        subst (λ (q : Progress). post ran.ending q) twin.4
        (subst (λ (e : Ending). post e ran'.last) twin.0 all.last) in
        let said : (e : End) → ran.ending ≡ At e → (lacked_last ran.last.lacked) ≡ missing pid g S ran.last.table = λ e is.
        always p e is ∙ filter-same (λ k. not (is_in ran.last.ready k))
        (λ k. not (list_any (is_worker is_ready pid g k) ran.last.table.rows)) S
        (every-in (λ k. not (is_in ran.last.ready k) ≡ not (list_any (is_worker is_ready pid g k) ran.last.table.rows)) S (λ k e. ap not (sym (end.1 k))))
        in
        record {
          settled = ⊎_elim (λ a. inl a) (λ a. inr (a.0, a.1, said (short_end side) a.0, omega (arith, a.2, twin.5))) end.0;
          counted = end.1;
          side_after = end.2;
          files_stay = end.3;
          note_stays = end.4;
        }

pub settles_always : SettlesAlways
settles_always handed image pid holds crew set side rounds pattern first formed has rising below spared =
    let dS = rising-distinct set rising in
    let below_set = every-is_in (λ k. k < 1024) set below in
    let looks = first-looks image pid holds crew set first.table formed has in
    settles-by image pid holds crew set handed side rounds pattern first dS (settle image crew set side rounds)
    (settle-named handed pattern set image crew side rounds)
    (settle-goes image pid holds crew set handed side rounds pattern first dS below_set (named crew.generation (is_in set)) false (lacked_by image first.lacked) (begun image pid holds crew set handed side rounds pattern first dS)
    (λ h k e. (same-is h crew.generation (and-left _ _ e), and-right (same_generation h crew.generation) _ e))
    (first-band image pid holds crew set handed side rounds pattern first dS looks)) spared

---- The way back

filter-none : (hs : List Hold) → without [] hs ≡ hs
filter-none [] = refl
filter-none (h ∷ hs) = ap (λ l. h ∷ l) (filter-none hs)

without-off : (opened : List Address) (a : Address) (hs : List Hold) → has opened a ≡ true → has_address a (without opened hs) ≡ false
without-off opened a [] on = refl
without-off opened a (x ∷ hs) on = go (has opened x.address) refl (bytes_eq x.address a) refl (without-off opened a hs on)
  where
    go :
        (b : Bool) → has opened x.address ≡ b → (c : Bool) → bytes_eq x.address a ≡ c →
        has_address a (without opened hs) ≡ false →
        has_address a (cond (not b) (x ∷ without opened hs) (without opened hs)) ≡ false
    go true e c f ih = ih
    go false e true f ih = let on' : has opened x.address ≡ true = subst (λ z. has opened z ≡ true) (sym (same-address x.address a f)) on in absurd (cc)
    go false e false f ih = rw f ih

all-has : (l big : List Address) → ((a : Address) → has l a ≡ true → has big a ≡ true) → AllByRecursion (λ a. has big a ≡ true) l
all-has [] big h = tt
all-has (x ∷ l) big h = (h x (rw (address-refl x) refl), all-has l big (λ a e. h a (or-right (bytes_eq x a) (has l a) e)))

module _ (image pid : ℕ) (holds : List Hold) (opened : List Address) (crew : Crew) (S : List ℕ) (new_crew : Crew)
    (forked : List ℕ)
    (apart : new_crew.generation ≡ crew.generation → (opened ≡ []) × ((k : ℕ) → is_in forked k ≡ true → is_in S k ≡ false))
  where
    abbrev old : Generation
    old = crew.generation

    abbrev new : Generation
    new = new_crew.generation

    abbrev kept : List Hold
    kept = without opened holds

    -- the old workers by their names, and all others
    abbrev held_by : Generation → ℕ → List Hold
    held_by h k = if named old (is_in S) h k then share crew.posts k kept else share new_crew.posts k holds

    abbrev either : Names
    either h k = named old (is_in S) h k || named new (is_in forked) h k

    -- both the old workers and those that were started
    abbrev wide : View
    wide = record { number = pid; others = λ n. true; image = image; holds = holds; starting = named new (is_in forked); ready = either; held = held_by }

    held-old : (h : Generation) (k : ℕ) → named old (is_in S) h k ≡ true → held_by h k ≡ share crew.posts k kept
    held-old h k e = rw e refl

    held-new : (h : Generation) (k : ℕ) → h ≡ new → is_in forked k ≡ true → held_by h k ≡ share new_crew.posts k holds
    held-new h k is e = go (same_generation h old) refl
      where
        go :
            (b : Bool) → same_generation h old ≡ b →
            (if b && is_in S k then share crew.posts k kept else share new_crew.posts k holds) ≡ share new_crew.posts k
            holds
        go true same = rw ((apart (sym is ∙ same-is h old same)).1 k e) refl
        go false same = refl

    named-on : (h : Generation) (T : List ℕ) (f : Generation) (k : ℕ) → f ≡ h → is_in T k ≡ true → named h (is_in T) f k ≡ true
    named-on h T f k e in_it = both-true (same_generation f h) (is_in T k) (subst (λ x. same_generation x h ≡ true) (sym e) (same-refl h)) in_it

    abbrev Found : Process → Type 0
    Found p = Ours image (record { number = pid; holds = holds }) p × IsReturning pid holds opened crew S new_crew forked p × IsQuiet p

    back-row : (p : Process) → Found p → Row wide p
    back-row (Master n q i live hs) h = master-row wide n q i live hs refl h.0
    back-row (Worker n q f k st hs) h = own-or-other wide (Worker n q f k st hs) q (λ e. (e, on e st h)) (λ off. (off, refl))
      where
        on : (e : q ≡ pid) (st : Stance) → Found (Worker n q f k st hs) → FineLive wide st f k hs
        on e Starting h =
            let c = h.1 e in
            (named-on new forked f k c.0 c.1, c.2 ∙ sym (held-new f k c.0 c.1))
        on e Ready h =
            ⊎_elim
            (λ c. (or-left (named old (is_in S) f k) (named new (is_in forked) f k) (named-on old S f k c.0 c.1), c.2 ∙ sym (held-old f k (named-on old S f k c.0 c.1))))
            (λ c. (or-right (named old (is_in S) f k) (named new (is_in forked) f k) (named-on new forked f k c.0 c.1), c.2 ∙ sym (held-new f k c.0 c.1)))
            (h.1 e)
        on e Draining h = h.2
        on e Exited h = h.2
    back-row (Foreign n hs) h = inl tt

    back-looks :
        (t : Table) → IsFormed t → live_master image t.rows ≡ Some (record { number = pid; holds = holds }) →
        AllByRecursion (IsOnly image pid) t.rows →
        AllByRecursion (IsReturning pid holds opened crew S new_crew forked) t.rows → Looks wide t.rows
    back-looks t formed lives only returning =
        let own = ours image (record { number = pid; holds = holds }) 0 t.rows t.next_process formed.ascending lives only in
        record {
          fine =
              every-more
              (λ p. (Ours image (record { number = pid; holds = holds }) p × IsReturning pid holds opened crew S new_crew forked p) × IsQuiet p)
              (Row wide) (λ p h. back-row p (h.0.0, h.0.1, h.1)) t.rows
              (every-both _ _ t.rows (every-both _ _ t.rows own.0 returning) formed.quiet);
          alone = own.1;
          once = λ h k. subst (λ n. n ≤ 1) (count-weigh (is_worker is_active pid h k) t.rows) (formed.once pid h k);
        }

    module _ (handed : Handed) (rounds : ℕ) (pattern : Pattern) (p : Progress) (dS : Distinct S) (below : (k : ℕ) → is_in S k ≡ true → k < 1024) where
      abbrev inv' : Progress → Type 0
      inv' = inv image pid kept crew S handed Old rounds pattern p dS

      abbrev post' : Ending → Progress → Type 0
      post' = post image pid kept crew S handed Old rounds pattern p dS

      abbrev co' : Course
      co' = co image pid kept crew S handed Old rounds pattern p dS

      abbrev sc' : Scene pid image
      sc' = sc image pid kept crew S handed Old rounds pattern p dS

      abbrev paid : ℕ
      paid = owed image pid kept crew S handed Old rounds pattern p dS

      abbrev Runs' : Tree → Progress → Type 0
      Runs' tree q = Along inv' post' Anyhow Unasked co' tree q

      abbrev t : Names
      t = named old (is_in S)

      abbrev acts' : is_in (image ∷ []) image ≡ true
      acts' = in-here image image [] refl

      -- the old workers, while the master still holds more
      abbrev narrow : List Hold → View
      narrow hs = record {
        number = pid;
        others = λ n. true;
        image = image;
        holds = hs;
        starting = none;
        ready = named old (is_in S);
        held = λ h k. share crew.posts k kept;
      }

      close-all :
          (l : List Address) (hs : List Hold) → all_closed l hs ≡ kept →
          AllByRecursion (λ a. has_address a kept ≡ false) l → (r : Names) (ls : List ℕ) (q : Progress) → Only old S r →
          Band (narrow hs) sc' none r t (length S) paid false ls q →
          Runs' (closes image l (settle image crew S Old rounds)) q
      close-all [] hs is off r ls q only b =
          settle-goes image pid kept crew S handed Old rounds pattern p dS below r false ls q only
          (subst (λ x. Band (narrow x) sc' none r t (length S) paid false ls q) is b)
      close-all (a ∷ l) hs is off r ls q only b =
          rule-close (narrow hs) sc' (grounded inv' post' co' acts' (λ t n w q a b c d e. tt))
          (closes image l (settle image crew S Old rounds)) a r t (length S) paid false ls q
          (λ q' b'. close-all l (lacks_address a hs) is off.1 r ls q' only (band-holds (after_close a (narrow hs)) (narrow (lacks_address a hs)) sc' none r t (length S) paid false ls q' refl (λ h k e. cc e) (λ h k e. share-lacks-none crew.posts k a kept off.0) b'))
          b

      off-old : (k : ℕ) → is_in forked k ≡ true → t new k ≡ false
      off-old k e = go (same_generation new old) refl
        where
          go : (b : Bool) → same_generation new old ≡ b → (b && is_in S k) ≡ false
          go true is = (apart (same-is new old is)).1 k e
          go false is = refl

      -- who is left once those that were started have quit
      left-over : (r : Names) → Less new either forked r → Only old S r
      left-over r less h k e =
          let l = less h k e in
          ⊎_elim (λ a. (same-is h old (and-left _ _ a), and-right (same_generation h old) _ a))
          (λ a. absurd (true-false (is_in forked k) (and-right (same_generation h new) _ a) (l.1 (same-is h new (and-left _ _ a)))))
          (or-elim (named old (is_in S) h k) (named new (is_in forked) h k) l.0)

      none-starts : (s : Names) → Less new (named new (is_in forked)) forked s → (h : Generation) (k : ℕ) → s h k ≡ true → ⊥
      none-starts s less h k e =
          let l = less h k e in
          true-false (is_in forked k) (and-right (same_generation h new) _ l.0) (l.1 (same-is h new (and-left _ _ l.0)))

      back-goes : Looks wide p.table.rows → Runs' (back image new forked opened crew S rounds) (begun image pid kept crew S handed Old rounds pattern p dS)
      back-goes looks =
          let q0 = begun image pid kept crew S handed Old rounds pattern p dS in
          let rest = closes image opened (settle image crew S Old rounds) in
          let gone : AllByRecursion (λ a. has_address a kept ≡ false) opened =
          every-more (λ a. has opened a ≡ true) (λ a. has_address a kept ≡ false)
          (λ a e. without-off opened a holds e) opened (all-has opened opened (λ a e. e)) in
          rule-quits wide sc' (grounded inv' post' co' acts' (λ t n w q a b c d e. tt)) rest new forked
          (named new (is_in forked)) either t (length S) paid false (lacked_by image p.lacked) q0 off-old
          (λ s' r' q less_s less b. close-all opened holds (all-closed-is opened holds) gone r' (lacked_by image p.lacked) q (left-over r' less) (band-holds wide (narrow holds) sc' s' r' t (length S) paid false (lacked_by image p.lacked) q refl (none-starts s' less_s) (λ h k e. let o = left-over r' less h k e in held-old h k (named-on old S h k o.0 o.1)) b))
          (begun-band image pid kept crew S handed Old rounds pattern p dS wide (named new (is_in forked)) either looks)

pub returns_always : ReturnsAlways
returns_always handed image pid holds opened crew set new forked rounds pattern first formed on rising below spared =
    let dS = rising-distinct set rising in
    let looks = back-looks image pid holds opened crew set new forked on.apart first.table formed on.lives on.only on.returning in
    settles-by image pid (without opened holds) crew set handed Old rounds pattern first dS (back image new.generation forked opened crew set rounds)
    (quits-named handed pattern set image new.generation forked (closes image opened (settle image crew set Old rounds)) (closes-named handed pattern set image opened (settle image crew set Old rounds) (settle-named handed pattern set image crew Old rounds)))
    (back-goes image pid holds opened crew set new forked on.apart handed rounds pattern first dS (every-is_in (λ k. k < 1024) set below) looks) spared

pub plans_go_back : PlansGoBack
plans_go_back = record { workers = λ by crew ready retries n. refl; reload = λ by old new ready retries opened numbers forked. refl }
