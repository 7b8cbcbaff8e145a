-- Light facts on the table of a run: kept by exits and by calls that are gentle to them. A tree whose calls are gentle keeps them.
use Rattle.std.proofs.Common.{◌≡◌, ℕ, zero, suc, ◌+◌, Bool, true, false, not, List, [], ◌∷◌, Option, Some, None, refl, sym, ap, ◌∙◌, subst, ◌⊎◌, ⊎_elim}
use Rattle.std.specs.Prelude.{⊤, if◌then◌else◌, ◌++◌}
use Rattle.listener_set.specs.Numbers.{is_in, lacks}
use Rattle.listener_set.specs.declared.generation.Generation.{Generation}
use Rattle.vocabulary.specs.declared.names.Name.{Name}
use Rattle.vocabulary.specs.declared.calls.Call.{Call}
use Rattle.vocabulary.specs.declared.calls.Call.TheVariants.{Fork, AwaitReady, Kill, Census}
use Rattle.vocabulary.specs.declared.calls.Fate.{Fate}
use Rattle.vocabulary.specs.declared.calls.Reply.{Reply}
use Rattle.vocabulary.specs.declared.calls.Answer.TheVariants as answer
use Rattle.vocabulary.specs.declared.plans.PidNote.{PidNote}
use Rattle.vocabulary.specs.declared.plans.Side.{Side}
use Rattle.vocabulary.specs.declared.plans.Order.{Order}
use Rattle.vocabulary.specs.declared.plans.Order.TheVariants.{Make, ForkLacking, AwaitLacking, KillLacking}
use Rattle.definitions.specs.Table.{Table, Caller, live_master}
use Rattle.definitions.specs.Calls.{after_exits, gives, each_row, drop_where, is_exited_of, census_of, step_by}
use Rattle.definitions.specs.Calls.{step_with, Handed}
use Rattle.table_laws.proofs.Views.{eqb-refl}
use Rattle.definitions.specs.Run.{Lack, lacked_by, lacked_after, Tree, Branches, Ends, Does, Nothing, Branch, reply_of}
use Rattle.definitions.specs.Run.{call_of, Progress, Ending, At, Lost, after_call, after_moment}
use Rattle.call_laws.specs.Pieces.{went_wrong, among, full_or_short, fork_edges, census_edges, census, first_cause}
use Rattle.call_laws.specs.Pieces.{lowest, noted, answered}
use Rattle.definitions.specs.Plans.{settle, round, full_end, short_end, await_any_edges, then_edge}
use Rattle.definitions.specs.Claims.{is_leave_call, names_any}
use Rattle.definitions.specs.Master.{Crew, fds_of, fork_of}
use Rattle.run_laws.proofs.Refusals.{is_leave}
use Rattle.table_laws.proofs.Exits.{Spares, spares-each}
use Rattle.run_laws.proofs.Logic.{Exiting, Asked, Course, course_after, Along, Behind}
use Rattle.call_laws.proofs.Cases.{fork-cases, await-cases}
use Rattle.table_laws.proofs.Sets.{in-here, in-filter-of}
use Rattle.table_laws.proofs.Small.{not-is}

pub record Light (image : ℕ) (mild : Exiting) (due : Asked) : Type 1 where
  -- the master's process number
  pub number : ℕ
  pub Holds : Table → Type 0
  -- calls that keep the fact, and censuses that a settle may make
  pub Gentle : Call → Type 0
  pub Fits : Generation → List ℕ → Type 0
  -- the worker of the name may be killed
  pub May : Generation → ℕ → Table → Type 0
  pub exits : (es : List Name) (t : Table) → Spares image es → mild es t.rows → Holds t → Holds (after_exits es t)
  pub steps : (handed : Handed) (call : Call) (fate : Option Fate) (t : Table) → Gentle call → Holds t → Holds (step_with handed image call fate t).table
  pub idles : (call : Call) (t : Table) → Gentle call → Holds t → due call t
  pub forks : (g : Generation) (x : ℕ) (fds : Option (List ℕ)) → Gentle (Fork g x fds)
  pub waits : (g : Generation) (x : ℕ) → Gentle (AwaitReady g x)
  pub censuses : (g : Generation) → Gentle (Census g)
  pub counted :
      (handed : Handed) (g : Generation) (fate : Option Fate) (t : Table) → Holds t → step_with handed image (Census g) fate
      t ≡ gives (answer.Counted (census_of number g t.rows)) (each_row (drop_where (is_exited_of number)) t)
  pub lacking :
      (g : Generation) (S : List ℕ) (t : Table) (x : ℕ) → Fits g S → Holds t → is_in S x ≡ true →
      is_in (census_of number g t.rows) x ≡ false → May g x (each_row (drop_where (is_exited_of number)) t)
  pub may_exits : (es : List Name) (t : Table) (g : Generation) (x : ℕ) → Spares image es → mild es t.rows → Holds t → May g x t → May g x (after_exits es t)
  pub may_steps :
      (handed : Handed) (call : Call) (fate : Option Fate) (t : Table) (g : Generation) (x : ℕ) → Gentle call → Holds t →
      May g x t → May g x (step_with handed image call fate t).table
  pub kill_due : (g : Generation) (x : ℕ) (t : Table) → Holds t → May g x t → due (Kill g x) t
  pub kills :
      (handed : Handed) (g : Generation) (x : ℕ) (fate : Option Fate) (t : Table) → Holds t → May g x t →
      Holds (step_with handed image (Kill g x) fate t).table

-- the first that a count lacks stands in the set, and not in the count
pub first-lacks : (S cs : List ℕ) (x : ℕ) (xs : List ℕ) → lacks S cs ≡ x ∷ xs → (is_in S x ≡ true) × (is_in cs x ≡ false)
first-lacks S cs x xs e =
    let on : is_in (lacks S cs) x ≡ true = ap (λ l. is_in l x) e ∙ in-here x x xs refl in
    let o = in-filter-of (λ k. not (is_in cs k)) S x on in
    (o.0, not-is (is_in cs x) o.1)

abbrev pub no_claim : Progress → Type 0
no_claim q = ⊤

-- what a master's own count lacked
own-count : (image : ℕ) (set ns : List ℕ) (lacked : List Lack) → lacked_by image (lacked_after image set (answer.Counted ns) lacked) ≡ lacks set ns
own-count image set ns lacked = rw (eqb-refl image image refl) refl

-- nothing is asked of the end
abbrev pub any_end : Ending → Progress → Type 0
any_end e q = ⊤

module _ (image : ℕ) (mild : Exiting) (due : Asked) (light : Light image mild due)
    (post : Ending → Progress → Type 0) (ends : (e : Ending) (q : Progress) → light.Holds q.table → post e q)
    (co : Course) (acts : is_in co.executing image ≡ true) where
  abbrev pub Goes : Tree → Progress → Type 0
  Goes t p = Along no_claim post mild due co t p

  abbrev pub Edges : Branches → Reply → Progress → Type 0
  Edges bs r p = Behind no_claim post mild due co bs r p

  -- A step, from what it does after the exits of its moment.
  pub light-step :
      (order : Order) (set : List ℕ) (bs : Branches) (p : Progress) (Q : Table → Type 0) → is_leave order ≡ false →
      ((es : List Name) → Spares image es → mild es p.table.rows → Q p.table → Q (after_exits es p.table)) → Q p.table →
      ((q : Progress) → Q q.table → lacked_by image q.lacked ≡ lacked_by image p.lacked → due (call_of order (lacked_by image q.lacked)) q.table)
      →
      ((q : Progress) (fate : Option Fate) → Q q.table → lacked_by image q.lacked ≡ lacked_by image p.lacked → Edges bs (reply_of set (step_with co.handed image (call_of order (lacked_by image q.lacked)) fate q.table).answer) (after_call image order set (step_with co.handed image (call_of order (lacked_by image q.lacked)) fate q.table) q))
      → Goes (Does image order set bs) p
  light-step order set bs p Q stays exits holds is_due next spared calm =
      let moment = co.pattern (p.calls + 1) in
      let middle = after_moment moment.exits p in
      let at : (if is_leave order then co.executing ++ co.heirs else co.executing) ≡ co.executing = rw stays in
      let after : course_after order co ≡ co = go (is_leave order) stays in
      let sp = spares-each co.executing image moment.exits acts (subst (λ images. names_any images moment.exits ≡ false) at spared) in
      let kept = exits moment.exits sp calm holds in (
        tt,
        tt,
        is_due middle kept refl,
        subst
            (λ (x : Course). Behind no_claim post mild due x bs (reply_of set (answered co.handed image order moment.fate middle).answer) (after_call image order set (answered co.handed image order moment.fate middle) middle))
            (sym after) (next middle moment.fate kept refl),
      )
    where
      go : (b : Bool) → b ≡ false → record { handed = co.handed; pattern = co.pattern; executing = if b then co.heirs else co.executing; heirs = co.heirs } ≡ co
      go true e = absurd (cc)
      go false e = refl

  said-table : (said : Option PidNote) (p : Progress) → (noted said p).table ≡ p.table
  said-table None p = refl
  said-table (Some n) p = refl

  -- what is behind each edge
  abbrev pub AllGo : Branches → Progress → Type 0
  AllGo Nothing p = ⊤
  AllGo (Branch replies said rest more) p = Goes rest (noted said p) × AllGo more p

  pub all-go : (bs : Branches) (r : Reply) (p : Progress) → light.Holds p.table → AllGo bs p → Edges bs r p
  all-go Nothing r p holds all = (tt, ends Lost p holds)
  all-go (Branch replies said rest more) r p holds all =
      elim (among replies r) as (λ b. elim b as (λ c. Type 0) [ true ↦ Goes rest (noted said p) | false ↦ Edges more r p ]) [
        | true ↦ all.0
        | false ↦ all-go more r p holds all.1
      ]

  ---- Settle

  -- the fact, and that a worker may be killed
  abbrev Both : Generation → ℕ → Table → Type 0
  Both g x t = light.Holds t × light.May g x t

  both-exits : (g : Generation) (x : ℕ) (t : Table) (es : List Name) → Spares image es → mild es t.rows → Both g x t → Both g x (after_exits es t)
  both-exits g x t es sp calm b = (light.exits es t sp calm b.0, light.may_exits es t g x sp calm b.0 b.1)

  fork-lacking :
      (g : Generation) (x : ℕ) (fds : Option (List ℕ)) (fate : Option Fate) (t : Table) (o : Option Caller)
      (l : List Lack) → lacked_by image (lacked_after image [] (step_by co.handed image o (Fork g x fds) fate t).answer l)
      ≡ lacked_by image l
  fork-lacking g x fds fate t None l = refl
  fork-lacking g x fds fate t (Some c) l =
      fork-cases co.handed image c g x fds fate t
      (λ st. lacked_by image (lacked_after image [] st.answer l) ≡ lacked_by image l) refl refl (λ off. refl)

  wait-lacking :
      (g : Generation) (x : ℕ) (fate : Option Fate) (t : Table) (o : Option Caller) (l : List Lack) → lacked_by image
      (lacked_after image [] (step_by co.handed image o (AwaitReady g x) fate t).answer l) ≡ lacked_by image l
  wait-lacking g x fate t None l = refl
  wait-lacking g x fate t (Some c) l =
      await-cases co.handed image c g x fate t
      (λ st. lacked_by image (lacked_after image [] st.answer l) ≡ lacked_by image l) refl (λ on. refl) (λ off. refl)

  round-along :
      (rest : Tree) (crew : Crew) (x : ℕ) (xs : List ℕ) (p : Progress) →
      ((q : Progress) → light.Holds q.table → Goes rest q) → Both crew.generation x p.table →
      lacked_by image p.lacked ≡ x ∷ xs → Goes (round image crew rest) p
  round-along rest crew x xs p next both is =
      let killed = Does image (KillLacking crew.generation) [] (then_edge rest) in
      let wait = Does image (AwaitLacking crew.generation) [] (await_any_edges rest killed) in
      light-step (ForkLacking crew) [] (fork_edges wait rest) p (Both crew.generation x) refl (both-exits crew.generation x p.table) both
      (λ q b e. light.idles (fork_of crew (lowest (lacked_by image q.lacked))) q.table (light.forks crew.generation (lowest (lacked_by image q.lacked)) (fds_of crew.posts (lowest (lacked_by image q.lacked)))) b.0)
      (λ q fate b e.
      let call = fork_of crew (lowest (lacked_by image q.lacked)) in
      let st = step_with co.handed image call fate q.table in
      let p' = after_call image (ForkLacking crew) [] st q in
      let h =
      light.steps co.handed call fate q.table
      (light.forks crew.generation (lowest (lacked_by image q.lacked)) (fds_of crew.posts (lowest (lacked_by image q.lacked))))
      b.0 in
      let m =
      light.may_steps co.handed call fate q.table crew.generation x
      (light.forks crew.generation (lowest (lacked_by image q.lacked)) (fds_of crew.posts (lowest (lacked_by image q.lacked))))
      b.0 b.1 in
      let is' : lacked_by image p'.lacked ≡ x ∷ xs =
      fork-lacking crew.generation (lowest (lacked_by image q.lacked))
      (fds_of crew.posts (lowest (lacked_by image q.lacked))) fate q.table (live_master image q.table.rows) q.lacked
      ∙ e ∙ is in
      all-go (fork_edges wait rest) (reply_of [] st.answer) p' h (wait-along p' (h, m) is', (next p' h, tt)))
    where
      kill-along :
          (p : Progress) → Both crew.generation x p.table → lacked_by image p.lacked ≡ x ∷ xs →
          Goes (Does image (KillLacking crew.generation) [] (then_edge rest)) p
      kill-along p both is =
          light-step (KillLacking crew.generation) [] (then_edge rest) p (Both crew.generation x) refl (both-exits crew.generation x p.table) both
          (λ q b e. subst (λ (l : List ℕ). due (Kill crew.generation (lowest l)) q.table) (sym (e ∙ is)) (light.kill_due crew.generation x q.table b.0 b.1))
          (λ q fate b e.
          let h =
          subst
          (λ (l : List ℕ). light.Holds (step_with co.handed image (Kill crew.generation (lowest l)) fate q.table).table)
          (sym (e ∙ is)) (light.kills co.handed crew.generation x fate q.table b.0 b.1) in
          let st = step_with co.handed image (Kill crew.generation (lowest (lacked_by image q.lacked))) fate q.table in
          let p' = after_call image (KillLacking crew.generation) [] st q in
          all-go (then_edge rest) (reply_of [] st.answer) p' h (next p' h, tt))

      wait-along :
          (p : Progress) → Both crew.generation x p.table → lacked_by image p.lacked ≡ x ∷ xs → Goes
          (Does image (AwaitLacking crew.generation) [] (await_any_edges rest (Does image (KillLacking crew.generation) [] (then_edge rest))))
          p
      wait-along p both is =
          light-step (AwaitLacking crew.generation) []
          (await_any_edges rest (Does image (KillLacking crew.generation) [] (then_edge rest))) p
          (Both crew.generation x) refl (both-exits crew.generation x p.table) both
          (λ q b e. light.idles (AwaitReady crew.generation (lowest (lacked_by image q.lacked))) q.table (light.waits crew.generation (lowest (lacked_by image q.lacked))) b.0)
          (λ q fate b e.
          let call = AwaitReady crew.generation (lowest (lacked_by image q.lacked)) in
          let st = step_with co.handed image call fate q.table in
          let p' = after_call image (AwaitLacking crew.generation) [] st q in
          let h = light.steps co.handed call fate q.table (light.waits crew.generation (lowest (lacked_by image q.lacked))) b.0 in
          let m = light.may_steps co.handed call fate q.table crew.generation x (light.waits crew.generation (lowest (lacked_by image q.lacked))) b.0 b.1 in
          let is' : lacked_by image p'.lacked ≡ x ∷ xs =
          wait-lacking crew.generation (lowest (lacked_by image q.lacked)) fate q.table
          (live_master image q.table.rows) q.lacked ∙ e ∙ is in
          all-go (await_any_edges rest (Does image (KillLacking crew.generation) [] (then_edge rest)))
          (reply_of [] st.answer) p' h (next p' h, (kill-along p' (h, m) is', tt)))

  -- A census, and what follows where it is full or short.
  census-along :
      (ok short : Tree) (g : Generation) (S : List ℕ) (p : Progress) → light.Fits g S → light.Holds p.table →
      ((q : Progress) → light.Holds q.table → Goes ok q) →
      ((x : ℕ) (xs : List ℕ) (q : Progress) → Both g x q.table → lacked_by image q.lacked ≡ x ∷ xs → Goes short q) →
      Goes (census image g S (census_edges ok short)) p
  census-along ok short g S p fits holds on_full on_short =
      light-step (Make (Census g)) S (census_edges ok short) p light.Holds refl (λ es sp calm h. light.exits es p.table sp calm h) holds
      (λ q h e. light.idles (Census g) q.table (light.censuses g) h)
      (λ q fate h e.
      let cs = census_of light.number g q.table.rows in
      let t' = each_row (drop_where (is_exited_of light.number)) q.table in
      let st = gives (answer.Counted cs) t' in
      let is = light.counted co.handed g fate q.table h in
      let h' : light.Holds t' = subst (λ s. light.Holds s.table) is (light.steps co.handed (Census g) fate q.table (light.censuses g) h) in
      let after : List ℕ → Progress =
      λ l. record
      { table = t'; calls = q.calls + 1; ready = cs; lacked = lacked_after image S (answer.Counted cs) q.lacked; faults = q.faults; losses = q.losses; returns = q.returns; cause = first_cause q.cause (went_wrong (Census g) (full_or_short l)) (q.calls + 1); note = q.note }
      in
      subst (λ s. Edges (census_edges ok short) (reply_of S s.answer) (after_call image (Make (Census g)) S s q)) (sym is)
      (elim (lacks S cs) as (λ l. lacks S cs ≡ l → Edges (census_edges ok short) (full_or_short l) (after l)) [
        | [] ↦ λ e'. on_full (after []) h'
        | x ∷ xs ↦ λ e'.
            let out = first-lacks S cs x xs e' in
            on_short x xs (after (x ∷ xs)) (h', light.lacking g S q.table x fits h out.0 out.1) (own-count image S cs q.lacked ∙ e')
      ] refl))

  pub settle-along :
      (side : Side) (crew : Crew) (S : List ℕ) (rounds : ℕ) (p : Progress) → light.Fits crew.generation S →
      light.Holds p.table → Goes (settle image crew S side rounds) p
  settle-along side crew S zero p fits holds =
      census-along (Ends (full_end side)) (Ends (short_end side)) crew.generation S p fits holds
      (λ q h. (tt, ends (At (full_end side)) q h)) (λ x xs q b e. (tt, ends (At (short_end side)) q b.0))
  settle-along side crew S (suc rounds) p fits holds =
      census-along (Ends (full_end side)) (round image crew (settle image crew S side rounds)) crew.generation S p fits
      holds (λ q h. (tt, ends (At (full_end side)) q h))
      (λ x xs q b e. round-along (settle image crew S side rounds) crew x xs q (λ q' h'. settle-along side crew S rounds q' fits h') b e)

  ---- Trees whose calls are gentle

  abbrev pub GentleOrder : Order → Type 0
  GentleOrder (Make call) = light.Gentle call × (is_leave_call call ≡ false)
  GentleOrder (ForkLacking crew) = ⊥
  GentleOrder (AwaitLacking g) = ⊥
  GentleOrder (KillLacking g) = ⊥

  -- It goes by itself.
  abbrev pub ByItself : Tree → Type 0
  ByItself t = (p : Progress) → light.Holds p.table → Goes t p

  abbrev mutual
    pub Calm : Tree → Type 0
    Calm (Ends end) = ⊤
    Calm (Does by order set branches) = ((by ≡ image) × GentleOrder order × CalmBehind branches) ⊎ ByItself (Does by order set branches)

    pub CalmBehind : Branches → Type 0
    CalmBehind Nothing = ⊤
    CalmBehind (Branch replies said rest more) = Calm rest × CalmBehind more

  calm-does :
      (by : ℕ) (order : Order) (set : List ℕ) (bs : Branches) → by ≡ image → GentleOrder order →
      ((r : Reply) (p : Progress) → light.Holds p.table → Edges bs r p) → (p : Progress) → light.Holds p.table →
      Goes (Does by order set bs) p
  calm-does by (Make call) set bs same gentle behind p holds =
      subst (λ (i : ℕ). Goes (Does i (Make call) set bs) p) (sym same)
      (light-step (Make call) set bs p light.Holds gentle.1 (λ es sp calm h. light.exits es p.table sp calm h) holds
      (λ q h e. light.idles call q.table gentle.0 h)
      (λ q fate h e. behind (reply_of set (step_with co.handed image call fate q.table).answer) (after_call image (Make call) set (step_with co.handed image call fate q.table) q) (light.steps co.handed call fate q.table gentle.0 h)))
  calm-does by (ForkLacking crew) set bs same gentle behind p holds = absurd gentle
  calm-does by (AwaitLacking g) set bs same gentle behind p holds = absurd gentle
  calm-does by (KillLacking g) set bs same gentle behind p holds = absurd gentle

  mutual
    pub calm-along : (t : Tree) → Calm t → (p : Progress) → light.Holds p.table → Goes t p
    calm-along (Ends end) calm p holds = (tt, ends (At end) p holds)
    calm-along (Does by order set bs) calm p holds = ⊎_elim (λ c. calm-does by order set bs c.0 c.1 (calm-behind bs c.2) p holds) (λ c. c p holds) calm

    calm-behind : (bs : Branches) → CalmBehind bs → (r : Reply) (p : Progress) → light.Holds p.table → Edges bs r p
    calm-behind Nothing calm r p holds = (tt, ends Lost p holds)
    calm-behind (Branch replies said rest more) calm r p holds =
        let here = calm-along rest calm.0 (noted said p) (subst light.Holds (sym (said-table said p)) holds) in
        let there = calm-behind more calm.1 r p holds in
        elim (among replies r) as (λ b. elim b as (λ c. Type 0) [ true ↦ Goes rest (noted said p) | false ↦ Edges more r p ]) [
          | true ↦ here
          | false ↦ there
        ]
