-- The walk of a reload in steps: at each table at most so many workers live.
use Rattle.std.proofs.Common.{◌≡◌, ℕ, zero, suc, ◌+◌, ◌≤◌, Bool, true, false, not, List, [], ◌∷◌, ◌++◌, length, Option, Some, None, refl, sym, ap, ◌∙◌, subst, arith, ◌⊎◌, inl, inr, ⊎_elim}
use Rattle.std.specs.Prelude.{⊤, ◌&&◌, ◌||◌, ◌==◌, ◌-◌, reverse, take, drop, nat_lt, if◌then◌else◌}
use Rattle.std.proofs.lemmas.List.{length-append, take-append-drop}
use Rattle.vocabulary.specs.declared.plans.Side.TheVariants as side
use Rattle.table_laws.proofs.Counts.{Distinct, is_in-append}
use Rattle.table_laws.proofs.Rolling.{stays, parted}
use Rattle.listener_set.specs.Numbers.{is_in, lacks, numbers_below}
use Rattle.listener_set.specs.declared.generation.Generation.{Generation}
use Rattle.vocabulary.specs.declared.calls.Call.{Call}
use Rattle.vocabulary.specs.declared.calls.Call.TheVariants.{OpenAt, CloseAt, AwaitReady, Quit, Kill, Census, AwaitGone, Ask}
use Rattle.vocabulary.specs.declared.calls.Fate.{Fate}
use Rattle.vocabulary.specs.declared.calls.Reply.{Reply}
use Rattle.vocabulary.specs.declared.calls.Reply.TheVariants as reply
use Rattle.vocabulary.specs.declared.calls.Answer.TheVariants as answer
use Rattle.vocabulary.specs.declared.plans.PidNote.{PidNote}
use Rattle.vocabulary.specs.declared.plans.Side.{Side}
use Rattle.vocabulary.specs.declared.plans.Order.{Order}
use Rattle.vocabulary.specs.declared.plans.Order.TheVariants.{Make, ForkLacking, AwaitLacking, KillLacking}
use Rattle.definitions.specs.Table.{Address, Table, Caller, same_generation, bears}
use Rattle.definitions.specs.Calls.{Stepped, gives, each_row, drop_where, census_of, is_exited_of, step_by, step_with}
use Rattle.definitions.specs.Master.{Crew, fork_of}
use Rattle.definitions.specs.Run.{Tree, Branches, Ends, Does, Nothing, Branch, Progress, Ending, reply_of, call_of, lacked_by, lacked_after, Lack, after_call, after_moment}
use Rattle.definitions.specs.Plans.{settle, round, full_end, short_end, await_any_edges, then_edge, on, asks, awaits, awaits_any, awaits_gone, forks, forks_any, starts, starts_any}
use Rattle.definitions.specs.Plans.{opens, only_in, reload_on}
use Rattle.definitions.specs.Claims.{names_any}
use Rattle.call_laws.specs.Pieces.{among, noted, answered, fork_edges, await_edges, gone_edges, census_edges, quits, closes, full_or_short, went_wrong, first_cause}
use Rattle.call_laws.proofs.Cases.{gone-cases}
use Rattle.call_laws.proofs.Choices.{and-left, and-right}
use Rattle.table_laws.proofs.Rows.{one, weigh, both-true, or-left, or-right}
use Rattle.table_laws.proofs.Views.{Names, named, eqb-refl, eqb-is}
use Rattle.table_laws.proofs.Effects.{none, same-refl, same-is}
use Rattle.table_laws.proofs.Exits.{spares-each}
use Rattle.table_laws.proofs.Sets.{in-here, in-there, in-cases}
use Rattle.table_laws.proofs.Small.{in-reverse, or-elim, not-is, true-false}
use Rattle.run_laws.proofs.Logic.{Anyhow, Course, Along, Behind, Unasked, course_after}
use Rattle.run_laws.proofs.Refusals.{is_leave}
use Rattle.run_laws.proofs.Lights.{first-lacks}
use Rattle.run_laws.proofs.Processes.{one-found, fact-census}
use Rattle.run_laws.proofs.Rules.{minus}
use Rattle.definitions.specs.Plans.{Step, Rollout, staying, rolled, quits_new, taken_back, in_steps, last_step, closes_opened, stepped_tree}
use Rattle.stepped_reloads.specs.Steps.{is_living, most_of}
use Rattle.vocabulary.specs.declared.plans.End.{End}
use Rattle.theorems.proofs.Late.{Cut, kill-is}
use Rattle.stepped_reloads.proofs.Alive.{Any, Alive, more, exits-alive, Ok, steps-alive, cut-alive, both_in, alive-few}

-- these names without those of these numbers
abbrev lessen : Names → Generation → List ℕ → Names
lessen s g [] = s
lessen s g (x ∷ ks) = lessen (minus s g x) g ks

lessen-is : (s : Names) (g : Generation) (ks : List ℕ) (h : Generation) (k : ℕ) → lessen s g ks h k ≡ true → (s h k ≡ true) × (h ≡ g → is_in ks k ≡ false)
lessen-is s g [] h k e = (e, λ same. refl)
lessen-is s g (x ∷ ks) h k e =
    let rest = lessen-is (minus s g x) g ks h k e in
    (and-left (s h k) _ rest.0, λ same. go (x == k) refl (rest.1 same) (not-is (bears g x h k) (and-right (s h k) _ rest.0)) same)
  where
    go : (b : Bool) → (x == k) ≡ b → is_in ks k ≡ false → bears g x h k ≡ false → h ≡ g → (b || is_in ks k) ≡ false
    go false is off apart same = off
    go true is off apart same =
        let on : bears g x h k ≡ true = both-true (same_generation h g) (k == x) (subst (λ f. same_generation f g ≡ true) (sym same) (same-refl g)) (eqb-refl k x (sym (eqb-is x k is))) in
        absurd (cc)

module _ (m image : ℕ) (dr : ℕ → Bool) (B : ℕ) (co : Course) (acts : is_in co.executing image ≡ true) where
  abbrev pub IsLow : Progress → Type 0
  IsLow p = weigh (λ p. one (is_living m dr p)) p.table.rows ≤ B

  abbrev pub any_end : Ending → Progress → Type 0
  any_end e p = ⊤

  abbrev pub Goes : Tree → Progress → Type 0
  Goes tree p = Along IsLow any_end Anyhow Unasked co tree p

  abbrev Edges : Branches → Reply → Progress → Type 0
  Edges bs r p = Behind IsLow any_end Anyhow Unasked co bs r p

  abbrev A : Names → Names → Table → Type 0
  A s d t = Alive m image dr s d t

  -- From whatever table in which these names may be alive, and these drain.
  abbrev pub Runs : Names → Names → Tree → Type 0
  Runs s d tree = (p : Progress) → A s d p.table → Goes tree p

  abbrev AllRun : Names → Names → Branches → Type 0
  AllRun s d Nothing = ⊤
  AllRun s d (Branch replies said rest more) = Runs s d rest × AllRun s d more

  -- so many names are no more than may be
  abbrev Low : Names → Type 0
  Low s = (d : Names) (t : Table) → A s d t → weigh (λ p. one (is_living m dr p)) t.rows ≤ B

  pub runs-more : (s s' d d' : Names) (tree : Tree) → ((h : Generation) (k : ℕ) → s h k ≡ true → s' h k ≡ true) → ((h : Generation) (k : ℕ) → d h k ≡ true → d' h k ≡ true) → Runs s' d' tree → Runs s d tree
  runs-more s s' d d' tree sub sub_d runs p a = runs p (more m image dr s s' d d' sub sub_d p.table a)

  low-sub : (s s' : Names) → ((h : Generation) (k : ℕ) → s h k ≡ true → s' h k ≡ true) → Low s' → Low s
  low-sub s s' sub low d t a = low d t (more m image dr s s' d d sub (λ h k e. e) t a)

  at-noted : (s d : Names) (said : Option PidNote) (p : Progress) → A s d p.table → A s d (noted said p).table
  at-noted s d None p a = a
  at-noted s d (Some n) p a = a

  all-run : (s d : Names) → Low s → (bs : Branches) (r : Reply) (p : Progress) → A s d p.table → AllRun s d bs → Edges bs r p
  all-run s d low Nothing r p a all = (low d p.table a, tt)
  all-run s d low (Branch replies said rest more) r p a all =
      elim (among replies r) as (λ b. elim b as (λ c. Type 0) [ true ↦ Goes rest (noted said p) | false ↦ Edges more r p ]) [
        | true ↦ all.0 (noted said p) (at-noted s d said p a)
        | false ↦ all-run s d low more r p a all.1
      ]

  -- A step, from what it does after the exits of its moment.
  step :
      (order : Order) (set : List ℕ) (bs : Branches) (s d : Names) (p : Progress) → is_leave order ≡ false → Low s → A s d p.table →
      ((q : Progress) (fate : Option Fate) → A s d q.table → lacked_by image q.lacked ≡ lacked_by image p.lacked → Edges bs (reply_of set (step_with co.handed image (call_of order (lacked_by image q.lacked)) fate q.table).answer) (after_call image order set (step_with co.handed image (call_of order (lacked_by image q.lacked)) fate q.table) q))
      → Goes (Does image order set bs) p
  step order set bs s d p stays low holds next spared calm =
      let moment = co.pattern (p.calls + 1) in
      let middle = after_moment moment.exits p in
      let at : (if is_leave order then co.executing ++ co.heirs else co.executing) ≡ co.executing = rw stays in
      let after : course_after order co ≡ co = go (is_leave order) stays in
      let sp = spares-each co.executing image moment.exits acts (subst (λ images. names_any images moment.exits ≡ false) at spared) in
      let kept = exits-alive m image dr s d moment.exits p.table sp holds in (
        low d p.table holds,
        low d middle.table kept,
        tt,
        subst
            (λ (x : Course). Behind IsLow any_end Anyhow Unasked x bs (reply_of set (answered co.handed image order moment.fate middle).answer) (after_call image order set (answered co.handed image order moment.fate middle) middle))
            (sym after) (next middle moment.fate kept refl),
      )
    where
      go : (b : Bool) → b ≡ false → record { handed = co.handed; pattern = co.pattern; executing = if b then co.heirs else co.executing; heirs = co.heirs } ≡ co
      go true e = absurd (cc)
      go false e = refl

  step-at :
      (order : Order) (set : List ℕ) (bs : Branches) (s d : Names) (p : Progress) → is_leave order ≡ false → Low s →
      ((l : List ℕ) → l ≡ lacked_by image p.lacked → Ok m image dr s d (call_of order l)) → AllRun s d bs → A s d p.table → Goes (Does image order set bs) p
  step-at order set bs s d p stays low ok all a =
      step order set bs s d p stays low a
      (λ q fate h e.
      let st = step_with co.handed image (call_of order (lacked_by image q.lacked)) fate q.table in
      all-run s d low bs (reply_of set st.answer) (after_call image order set st q)
      (steps-alive m image dr s d co.handed (call_of order (lacked_by image q.lacked)) fate q.table (ok (lacked_by image q.lacked) e) h) all)

  one-call : (call : Call) (set : List ℕ) (bs : Branches) (s d : Names) → is_leave (Make call) ≡ false → Low s → Ok m image dr s d call → AllRun s d bs → Runs s d (Does image (Make call) set bs)
  one-call call set bs s d stays low ok all p a = step-at (Make call) set bs s d p stays low (λ l e. ok) all a

  module _ (s d : Names) (low : Low s) where
    pub quits-run : (g : Generation) (ks : List ℕ) (rest : Tree) → ((k : ℕ) → is_in ks k ≡ true → d g k ≡ true) → Runs s d rest → Runs s d (quits image g ks rest)
    quits-run g [] rest ok h = h
    quits-run g (x ∷ ks) rest ok h =
        one-call (Quit g x) [] (then_edge (quits image g ks rest)) s d refl low (ok x (in-here x x ks refl))
        (quits-run g ks rest (λ k e. ok k (in-there x k ks e)) h, tt)

    pub closes-run : (addresses : List Address) (rest : Tree) → Runs s d rest → Runs s d (closes image addresses rest)
    closes-run [] rest h = h
    closes-run (a ∷ more) rest h = one-call (CloseAt a) [] (then_edge (closes image more rest)) s d refl low tt (closes-run more rest h, tt)

    pub opens-run :
        (addresses done : List Address) (ok bad : List Address → Tree) → ((done : List Address) → Runs s d (ok done)) →
        ((done : List Address) → Runs s d (bad done)) → Runs s d (opens image addresses done ok bad)
    opens-run [] done ok bad on_ok on_bad = on_ok done
    opens-run (a ∷ more) done ok bad on_ok on_bad =
        one-call (OpenAt a) []
        (on (reply.Opened ∷ []) (opens image more (a ∷ done) ok bad)
        (on (reply.InUse ∷ reply.TooMany ∷ reply.Denied ∷ reply.NoMemory ∷ []) (bad done) Nothing)) s d refl low tt
        (opens-run more (a ∷ done) ok bad on_ok on_bad, (on_bad done, tt))

    pub asks-run : (asked : Bool) (question : ℕ) (on_go on_back : Tree) → Runs s d on_go → Runs s d on_back → Runs s d (asks asked image question on_go on_back)
    asks-run true question on_go on_back h b =
        one-call (Ask question) [] (on (reply.Go ∷ []) on_go (on (reply.Back ∷ []) on_back Nothing)) s d refl low tt (h, (b, tt))
    asks-run false question on_go on_back h b = h

    pub census-run : (g : Generation) (set : List ℕ) (full short : Tree) → Runs s d full → Runs s d short → Runs s d (Does image (Make (Census g)) set (census_edges full short))
    census-run g set full short f h = one-call (Census g) set (census_edges full short) s d refl low tt (f, (h, tt))

    abbrev pub MayStart : Generation → List ℕ → Type 0
    MayStart g ks = (k : ℕ) → is_in ks k ≡ true → (s g k ≡ true) × (d g k ≡ false)

    -- those that were forked are among all
    forks-run :
        (crew : Crew) (all ks done : List ℕ) (ok bad : List ℕ → Tree) → MayStart crew.generation all →
        ((k : ℕ) → is_in ks k ≡ true → is_in all k ≡ true) → ((k : ℕ) → is_in done k ≡ true → is_in all k ≡ true) →
        ((done : List ℕ) → ((k : ℕ) → is_in done k ≡ true → is_in all k ≡ true) → Runs s d (ok done)) →
        ((done : List ℕ) → ((k : ℕ) → is_in done k ≡ true → is_in all k ≡ true) → Runs s d (bad done)) → Runs s d (forks image crew ks done ok bad)
    forks-run crew all [] done ok bad may left within on_ok on_bad = on_ok done within
    forks-run crew all (x ∷ ks) done ok bad may left within on_ok on_bad =
        let within' =
        λ (k : ℕ) (e : is_in (x ∷ done) k ≡ true). ⊎_elim
        (λ same. subst (λ y. is_in all y ≡ true) same (left x (in-here x x ks refl))) (λ a. within k a)
        (in-cases x k done e) in
        one-call (fork_of crew x) [] (fork_edges (forks image crew ks (x ∷ done) ok bad) (bad done)) s d refl low (may x (left x (in-here x x ks refl)))
        (forks-run crew all ks (x ∷ done) ok bad may (λ k e. left k (in-there x k ks e)) within' on_ok on_bad, (on_bad done within, tt))

    awaits-run : (g : Generation) (ks : List ℕ) (ok bad : Tree) → Runs s d ok → Runs s d bad → Runs s d (awaits image g ks ok bad)
    awaits-run g [] ok bad on_ok on_bad = on_ok
    awaits-run g (x ∷ ks) ok bad on_ok on_bad =
        one-call (AwaitReady g x) [] (await_edges (awaits image g ks ok bad) bad (Does image (Make (Kill g x)) [] (then_edge bad))) s d refl low tt
        (awaits-run g ks ok bad on_ok on_bad, (on_bad, (one-call (Kill g x) [] (then_edge bad) s d refl low tt (on_bad, tt), tt)))

    pub starts-run :
        (crew : Crew) (ks : List ℕ) (ok : Tree) (bad : List ℕ → Tree) → MayStart crew.generation ks → Runs s d ok →
        ((forked : List ℕ) → ((k : ℕ) → is_in forked k ≡ true → is_in ks k ≡ true) → Runs s d (bad forked)) → Runs s d (starts image crew ks ok bad)
    starts-run crew ks ok bad may on_ok on_bad =
        forks-run crew ks ks [] (λ forked. awaits image crew.generation ks ok (bad forked)) bad may (λ k e. e)
        (λ k e. absurd (cc e))
        (λ forked within. awaits-run crew.generation ks ok (bad forked) on_ok (on_bad forked within)) on_bad

    forks-any-run : (crew : Crew) (ks : List ℕ) (rest : Tree) → MayStart crew.generation ks → Runs s d rest → Runs s d (forks_any image crew ks rest)
    forks-any-run crew [] rest may h = h
    forks-any-run crew (x ∷ ks) rest may h =
        one-call (fork_of crew x) [] (on (reply.Forked ∷ reply.Again ∷ reply.NoMemory ∷ []) (forks_any image crew ks rest) Nothing) s d refl low (may x (in-here x x ks refl))
        (forks-any-run crew ks rest (λ k e. may k (in-there x k ks e)) h, tt)

    awaits-any-run : (g : Generation) (ks : List ℕ) (rest : Tree) → Runs s d rest → Runs s d (awaits_any image g ks rest)
    awaits-any-run g [] rest h = h
    awaits-any-run g (x ∷ ks) rest h =
        let later = awaits-any-run g ks rest h in
        one-call (AwaitReady g x) []
        (await_any_edges (awaits_any image g ks rest) (Does image (Make (Kill g x)) [] (then_edge (awaits_any image g ks rest)))) s d refl low tt
        (later, (one-call (Kill g x) [] (then_edge (awaits_any image g ks rest)) s d refl low tt (later, tt), tt))

    pub starts-any-run : (crew : Crew) (ks : List ℕ) (rest : Tree) → MayStart crew.generation ks → Runs s d rest → Runs s d (starts_any image crew ks rest)
    starts-any-run crew ks rest may h = forks-any-run crew ks (awaits_any image crew.generation ks rest) may (awaits-any-run crew.generation ks rest h)

    ---- Settle

    round-run :
        (rest : Tree) (crew : Crew) (x : ℕ) (xs : List ℕ) (p : Progress) → (s crew.generation x ≡ true) × (d crew.generation x ≡ false) →
        Runs s d rest → lacked_by image p.lacked ≡ x ∷ xs → A s d p.table → Goes (round image crew rest) p
    round-run rest crew x xs p may h is a =
        let killed = Does image (KillLacking crew.generation) [] (then_edge rest) in
        let wait = Does image (AwaitLacking crew.generation) [] (await_any_edges rest killed) in
        step-at (ForkLacking crew) [] (fork_edges wait rest) s d p refl low
        (λ l e. subst (λ (l : List ℕ). Ok m image dr s d (call_of (ForkLacking crew) l)) (sym (e ∙ is)) may) (
          (λ q b. step-at (AwaitLacking crew.generation) [] (await_any_edges rest killed) s d q refl low (λ l e. tt)
              (h, ((λ q b. step-at (KillLacking crew.generation) [] (then_edge rest) s d q refl low (λ l e. tt) (h, tt) b), tt)) b),
          (h, tt),
        ) a

    counted-run :
        (ok short : Tree) (g : Generation) (set : List ℕ) → Runs s d ok →
        ((x : ℕ) (xs : List ℕ) (q : Progress) → is_in set x ≡ true → lacked_by image q.lacked ≡ x ∷ xs → A s d q.table → Goes short q) →
        Runs s d (Does image (Make (Census g)) set (census_edges ok short))
    counted-run ok short g set on_full on_short p a =
        step (Make (Census g)) set (census_edges ok short) s d p refl low a
        (λ q fate h e.
        let cs = census_of m g q.table.rows in
        let t' = each_row (drop_where (is_exited_of m)) q.table in
        let is = fact-census m image m Any co.handed g fate q.table h.fact in
        let h' : A s d t' = subst (λ st. A s d st.table) is (steps-alive m image dr s d co.handed (Census g) fate q.table tt h) in
        let after : List ℕ → Progress =
        λ l. record
        { table = t'; calls = q.calls + 1; ready = cs; lacked = lacked_after image set (answer.Counted cs) q.lacked; faults = q.faults; losses = q.losses; returns = q.returns; cause = first_cause q.cause (went_wrong (Census g) (full_or_short l)) (q.calls + 1); note = q.note }
        in
        subst (λ st. Edges (census_edges ok short) (reply_of set st.answer) (after_call image (Make (Census g)) set st q)) (sym is)
        (elim (lacks set cs) as (λ l. lacks set cs ≡ l → Edges (census_edges ok short) (full_or_short l) (after l)) [
          | [] ↦ λ e'. on_full (after []) h'
          | x ∷ xs ↦ λ e'.
              let out = first-lacks set cs x xs e' in
              on_short x xs (after (x ∷ xs)) out.0 (own-count set cs q.lacked ∙ e') h'
        ] refl))
      where
        own-count : (set ns : List ℕ) (lacked : List Lack) → lacked_by image (lacked_after image set (answer.Counted ns) lacked) ≡ lacks set ns
        own-count set ns lacked = rw (eqb-refl image image refl) refl

    ends-run : (e : End) → Runs s d (Ends e)
    ends-run e p a = (low d p.table a, tt)

    pub settle-run : (side : Side) (crew : Crew) (set : List ℕ) (rounds : ℕ) → MayStart crew.generation set → Runs s d (settle image crew set side rounds)
    settle-run side crew set zero may =
        counted-run (Ends (full_end side)) (Ends (short_end side)) crew.generation set (ends-run (full_end side)) (λ x xs q in_it is a. ends-run (short_end side) q a)
    settle-run side crew set (suc rounds) may =
        counted-run (Ends (full_end side)) (round image crew (settle image crew set side rounds)) crew.generation set (ends-run (full_end side))
        (λ x xs q in_it is a. round-run (settle image crew set side rounds) crew x xs q (may x in_it) (settle-run side crew set rounds may) is a)

  ---- Those that are waited for have left

  pub gone-run : (g : Generation) (ks : List ℕ) (rest : Tree) (s d : Names) → Low s → Runs (lessen s g ks) (lessen d g ks) rest → Runs s d (awaits_gone image g ks rest)
  gone-run g [] rest s d low h = h
  gone-run g (x ∷ ks) rest s d low h =
      let later = awaits_gone image g ks rest in
      let killing = Does image (Make (Kill g x)) [] (then_edge later) in
      let bs = gone_edges later killing in
      let next : Runs (minus s g x) (minus d g x) later = gone-run g ks rest (minus s g x) (minus d g x) (low-sub (minus s g x) s (λ h k e. and-left (s h k) _ e) low) h in
      let kill : Runs s d killing =
      λ q b. step (Make (Kill g x)) [] (then_edge later) s d q refl low b
      (λ q2 fate b2 e.
      subst (λ (st : Stepped). Edges (then_edge later) (reply_of [] st.answer) (after_call image (Make (Kill g x)) [] st q2)) (sym (kill-is m image m Any co.handed g x fate q2.table b2.fact))
      (next (after_call image (Make (Kill g x)) [] (gives answer.Fine (Cut m g x q2.table)) q2) (cut-alive m image dr s d g x q2.table b2))) in
      λ p a.
      step (Make (AwaitGone g x)) [] bs s d p refl low a
      (λ q fate b e.
      let (hs, found) = one-found m image q.table.rows b.fact.one.all b.fact.one.some in
      let P : Stepped → Type 0 = λ st. Edges bs (reply_of [] st.answer) (after_call image (Make (AwaitGone g x)) [] st q) in
      subst (λ (o : Option Caller). P (step_by co.handed image o (AwaitGone g x) fate q.table)) (sym found)
      (gone-cases co.handed image (record { number = m; holds = hs }) g x fate q.table P
      (kill (after_call image (Make (AwaitGone g x)) [] (gives answer.Late q.table) q) b)
      (next (after_call image (Make (AwaitGone g x)) [] (gives answer.Gone (Cut m g x q.table)) q) (cut-alive m image dr s d g x q.table b))))

  ---- A reload in steps

  module _ (old new : Crew) (apart : same_generation new.generation old.generation ≡ false) (apart' : same_generation old.generation new.generation ≡ false) where
    abbrev g : Generation
    g = old.generation

    abbrev h : Generation
    h = new.generation

    -- so many old workers and so many new ones
    abbrev pub two : List ℕ → List ℕ → Names
    two X Y = both_in g h X Y

    old-on : (X Y : List ℕ) (k : ℕ) → is_in X k ≡ true → two X Y g k ≡ true
    old-on X Y k e = or-left (named g (is_in X) g k) (named h (is_in Y) g k) (both-true (same_generation g g) (is_in X k) (same-refl g) e)

    new-on : (X Y : List ℕ) (k : ℕ) → is_in Y k ≡ true → two X Y h k ≡ true
    new-on X Y k e = or-right (named g (is_in X) h k) (named h (is_in Y) h k) (both-true (same_generation h h) (is_in Y k) (same-refl h) e)

    two-sub : (X X' Y Y' : List ℕ) → ((k : ℕ) → is_in X k ≡ true → is_in X' k ≡ true) → ((k : ℕ) → is_in Y k ≡ true → is_in Y' k ≡ true) → (j : Generation) (k : ℕ) → two X Y j k ≡ true → two X' Y' j k ≡ true
    two-sub X X' Y Y' x y j k e =
        ⊎_elim
        (λ a. or-left (named g (is_in X') j k) (named h (is_in Y') j k) (both-true (same_generation j g) (is_in X' k) (and-left _ _ a) (x k (and-right (same_generation j g) _ a))))
        (λ a. or-right (named g (is_in X') j k) (named h (is_in Y') j k) (both-true (same_generation j h) (is_in Y' k) (and-left _ _ a) (y k (and-right (same_generation j h) _ a))))
        (or-elim (named g (is_in X) j k) (named h (is_in Y) j k) e)

    low-two : (X Y : List ℕ) → length X + length Y ≤ B → Low (two X Y)
    low-two X Y few d t a = omega (arith, alive-few m image dr g h X Y d t a, few)

    nobody : (d : Names) (j : Generation) (k : ℕ) → none j k ≡ true → d j k ≡ true
    nobody d j k e = absurd (cc e)

    off : (j i : Generation) (X : List ℕ) (k : ℕ) → same_generation j i ≡ false → named i (is_in X) j k ≡ false
    off j i X k e = go (same_generation j i) e
      where
        go : (b : Bool) → b ≡ false → (b && is_in X k) ≡ false
        go true e = absurd (cc)
        go false e = refl

    in-first : (X Y : List ℕ) (k : ℕ) → is_in X k ≡ true → is_in (X ++ Y) k ≡ true
    in-first X Y k e = is_in-append X Y k ∙ or-left (is_in X k) (is_in Y k) e

    in-second : (X Y : List ℕ) (k : ℕ) → is_in Y k ≡ true → is_in (X ++ Y) k ≡ true
    in-second X Y k e = is_in-append X Y k ∙ or-right (is_in X k) (is_in Y k) e

    in-one : (X Y : List ℕ) (k : ℕ) → is_in (X ++ Y) k ≡ true → (is_in X k ≡ true) ⊎ (is_in Y k ≡ true)
    in-one X Y k e = or-elim (is_in X k) (is_in Y k) (sym (is_in-append X Y k) ∙ e)

    -- The way back from a step, before which these old workers and these new ones were there: in the first step its new ones drain.
    abbrev BackOk : Bool → List ℕ → List ℕ → Tree → Type 0
    BackOk true X dn back = (all : List ℕ) → length X + (length all + length dn) ≤ B → Runs (two X (all ++ dn)) (named h (is_in all)) back
    BackOk false X dn back = Runs (two X dn) none back

    undoes :
        (first : Bool) (X dn all forked : List ℕ) (back : Tree) → ((k : ℕ) → is_in forked k ≡ true → is_in all k ≡ true) →
        length X + (length all + length dn) ≤ B → BackOk first X dn back →
        Runs (two X (all ++ dn)) none (quits_new image new (not first) all back forked)
    undoes true X dn all forked back within few hb =
        let s = two X (all ++ dn) in
        let d = named h (is_in all) in
        runs-more s s none d (quits_new image new false all back forked) (λ j k e. e) (nobody d)
        (quits-run s d (low-two X (all ++ dn) (omega (arith, few, length-append all dn))) h forked back (λ k e. both-true (same_generation h h) (is_in all k) (same-refl h) (within k e)) (hb all few))
    undoes false X dn all forked back within few hb =
        let s = two X (all ++ dn) in
        let d = named h (is_in all) in
        let low = low-two X (all ++ dn) (omega (arith, few, length-append all dn)) in
        runs-more s s none d (quits_new image new true all back forked) (λ j k e. e) (nobody d)
        (quits-run s d low h forked (awaits_gone image h (reverse all) back) (λ k e. both-true (same_generation h h) (is_in all k) (same-refl h) (within k e))
        (gone-run h (reverse all) back s d low
        (runs-more (lessen s h (reverse all)) (two X dn) (lessen d h (reverse all)) none back
        (λ j k e. let l = lessen-is s h (reverse all) j k e in
        ⊎_elim (λ a. or-left (named g (is_in X) j k) (named h (is_in dn) j k) a)
        (λ a. ⊎_elim (λ on. absurd (true-false (is_in all k) on (sym (in-reverse all k) ∙ l.1 (same-is j h (and-left _ _ a)))))
        (λ on. or-right (named g (is_in X) j k) (named h (is_in dn) j k) (both-true (same_generation j h) (is_in dn k) (and-left _ _ a) on))
        (in-one all dn k (and-right (same_generation j h) _ a)))
        (or-elim (named g (is_in X) j k) (named h (is_in (all ++ dn)) j k) l.0))
        (λ j k e. let l = lessen-is d h (reverse all) j k e in absurd (true-false (is_in all k) (and-right (same_generation j h) _ l.0) (sym (in-reverse all k) ∙ l.1 (same-is j h (and-left _ _ l.0)))))
        hb)))

    takes-back :
        (first : Bool) (X X1 Q dn all : List ℕ) (back : Tree) → ((k : ℕ) → is_in X1 k ≡ true → is_in X k ≡ true) →
        ((k : ℕ) → is_in Q k ≡ true → is_in X k ≡ true) → length X + (length all + length dn) ≤ B → BackOk first X dn back →
        BackOk false X1 (all ++ dn) (taken_back image old new (not first) (record { starts = all; quits = Q }) back)
    takes-back first X X1 Q dn all back stay_in quit_in few hb =
        let s = two X (all ++ dn) in
        let rest = quits_new image new (not first) all back (reverse all) in
        runs-more (two X1 (all ++ dn)) s none none (starts_any image old Q rest) (two-sub X1 X (all ++ dn) (all ++ dn) stay_in (λ k e. e)) (λ j k e. e)
        (starts-any-run s none (low-two X (all ++ dn) (omega (arith, few, length-append all dn))) old Q rest (λ k e. (old-on X (all ++ dn) k (quit_in k e), refl))
        (undoes first X dn all (reverse all) back (λ k e. sym (in-reverse all k) ∙ e) few hb))

    module _ (retries : ℕ) (dropped : List Address) (n : ℕ) where
      abbrev AllIn : List ℕ → List ℕ → Type 0
      AllIn dn todo = (k : ℕ) → is_in (numbers_below n) k ≡ true → (is_in dn k ≡ true) ⊎ (is_in todo k ≡ true)

      last-run :
          (asked first : Bool) (X dn todo : List ℕ) (back : Tree) → BackOk first X dn back → length X + (length todo + length dn) ≤ B → AllIn dn todo →
          Runs (two X dn) none (last_step asked image old new todo X retries dropped n first back)
      last-run asked first X dn todo back hb few all_in =
          let s = two X (todo ++ dn) in
          let low = low-two X (todo ++ dn) (omega (arith, few, length-append todo dn)) in
          let d = named g (is_in X) in
          let undone = quits_new image new (not first) todo back (reverse todo) in
          let undo = undoes first X dn todo (reverse todo) back (λ k e. sym (in-reverse todo k) ∙ e) few hb in
          let way = reload_on image old new X retries dropped n in
          let asking = asks (asked && first) image 1 way undone in
          let rest = settle image new (numbers_below n) side.Target retries in
          let on_way : Runs s none way =
          runs-more s s none d way (λ j k e. e) (nobody d)
          (quits-run s d low g (reverse X) (closes image dropped rest) (λ k e. both-true (same_generation g g) (is_in X k) (same-refl g) (sym (in-reverse X k) ∙ e))
          (closes-run s d low dropped rest
          (settle-run s d low side.Target new (numbers_below n) retries
          (λ k e. (new-on X (todo ++ dn) k (⊎_elim (λ a. in-second todo dn k a) (λ a. in-first todo dn k a) (all_in k e)), off h g X k apart))))) in
          runs-more (two X dn) s none none (last_step asked image old new todo X retries dropped n first back) (two-sub X X dn (todo ++ dn) (λ k e. e) (in-second todo dn)) (λ j k e. e)
          (starts-run s none low new todo (Does image (Make (Census h)) (numbers_below n) (census_edges asking undone)) (quits_new image new (not first) todo back) (λ k e. (new-on X (todo ++ dn) k (in-first todo dn k e), refl))
          (census-run s none low h (numbers_below n) asking undone (asks-run s none low (asked && first) 1 way undone on_way undo) undo)
          (λ forked within. undoes first X dn todo forked back within few hb))

      module _ (enough : List ℕ → List ℕ → Bool) where
        abbrev tail : Bool → Bool → Rollout → Tree → Tree
        tail asked first ro back = in_steps asked first image old new ro.steps (last_step asked image old new ro.last ro.left retries dropped n) back

        abbrev Few : List ℕ → List ℕ → Rollout → Type 0
        Few X dn ro = most_of (length X + length dn) ro.steps ro.last ≤ B

        steps-run :
            (asked : Bool) (surge tries : ℕ) (first : Bool) (base dn todo X : List ℕ) (back : Tree) → Distinct X → BackOk first X dn back →
            Few X dn (rolled enough tries surge base todo X) → AllIn dn todo → Runs (two X dn) none (tail asked first (rolled enough tries surge base todo X) back)
        steps-run asked surge zero first base dn todo X back dX hb few all_in = last-run asked first X dn todo back hb (omega (arith, few)) all_in
        steps-run asked surge (suc tries) first base dn todo X back dX hb few all_in =
            let all = take surge todo in
            let later = drop surge todo in
            let base1 = reverse all ++ base in
            let stay = staying (enough base1) X (reverse X) in
            let Q = lacks X stay in
            let more = rolled enough tries surge base1 later stay in
            elim (nat_lt 0 surge && nat_lt surge (length todo)) as
            (λ z. Few X dn (if z then record { steps = record { starts = all; quits = Q } ∷ more.steps; last = more.last; left = more.left } else record { steps = []; last = todo; left = X }) →
            Runs (two X dn) none (tail asked first (if z then record { steps = record { starts = all; quits = Q } ∷ more.steps; last = more.last; left = more.left } else record { steps = []; last = todo; left = X }) back)) [
              | true ↦ λ few.
                  let s1 = stays (enough base1) X (reverse X) dX in
                  let p = parted X stay dX s1.distinct s1.within in
                  let now : length X + (length all + length dn) ≤ B = omega (arith, few) in
                  let rest_few : Few stay (all ++ dn) more =
                  subst (λ z. most_of z more.steps more.last ≤ B) (after_step (length X) (length dn) (length all) (length Q) (length stay) (length (all ++ dn)) p.sum (length-append all dn)) (omega (arith, few)) in
                  let s = two X (all ++ dn) in
                  let low = low-two X (all ++ dn) (omega (arith, now, length-append all dn)) in
                  let d = named g (is_in Q) in
                  let undone = quits_new image new (not first) all back (reverse all) in
                  let undo = undoes first X dn all (reverse all) back (λ k e. sym (in-reverse all k) ∙ e) now hb in
                  let next = tail asked false more (taken_back image old new (not first) (record { starts = all; quits = Q }) back) in
                  let way = quits image g (reverse Q) (awaits_gone image g (reverse Q) next) in
                  let later_run = steps-run asked surge tries false base1 (all ++ dn) later stay (taken_back image old new (not first) (record { starts = all; quits = Q }) back) s1.distinct
                  (takes-back first X stay Q dn all back s1.within p.within now hb) rest_few
                  (λ k e. ⊎_elim (λ a. inl (in-second all dn k a))
                  (λ a. ⊎_elim (λ b. inl (in-first all dn k b)) (λ b. inr b) (in-one all later k (ap (λ l. is_in l k) (take-append-drop surge todo) ∙ a)))
                  (all_in k e)) in
                  let on_way : Runs s none way =
                  runs-more s s none d way (λ j k e. e) (nobody d)
                  (quits-run s d low g (reverse Q) (awaits_gone image g (reverse Q) next) (λ k e. both-true (same_generation g g) (is_in Q k) (same-refl g) (sym (in-reverse Q k) ∙ e))
                  (gone-run g (reverse Q) next s d low
                  (runs-more (lessen s g (reverse Q)) (two stay (all ++ dn)) (lessen d g (reverse Q)) none next
                  (λ j k e. let l = lessen-is s g (reverse Q) j k e in
                  ⊎_elim
                  (λ a. or-left (named g (is_in stay) j k) (named h (is_in (all ++ dn)) j k) (both-true (same_generation j g) (is_in stay k) (and-left _ _ a) (p.either k (and-right (same_generation j g) _ a) (sym (in-reverse Q k) ∙ l.1 (same-is j g (and-left _ _ a))))))
                  (λ a. or-right (named g (is_in stay) j k) (named h (is_in (all ++ dn)) j k) a)
                  (or-elim (named g (is_in X) j k) (named h (is_in (all ++ dn)) j k) l.0))
                  (λ j k e. let l = lessen-is d g (reverse Q) j k e in absurd (true-false (is_in Q k) (and-right (same_generation j g) _ l.0) (sym (in-reverse Q k) ∙ l.1 (same-is j g (and-left _ _ l.0)))))
                  later_run))) in
                  runs-more (two X dn) s none none (starts image new all (asks (asked && first) image 1 way undone) (quits_new image new (not first) all back)) (two-sub X X dn (all ++ dn) (λ k e. e) (in-second all dn)) (λ j k e. e)
                  (starts-run s none low new all (asks (asked && first) image 1 way undone) (quits_new image new (not first) all back) (λ k e. (new-on X (all ++ dn) k (in-first all dn k e), refl))
                  (asks-run s none low (asked && first) 1 way undone on_way undo)
                  (λ forked within. undoes first X dn all forked back within now hb))
              | false ↦ λ few. last-run asked first X dn todo back hb (omega (arith, few)) all_in
            ] few
          where
            after_step : (x dn all q stay both : ℕ) → stay + q ≡ x → both ≡ all + dn → x + dn + all - q ≡ stay + both
            after_step x dn all q stay both e f = omega (arith, e, f)

        most-more : (live : ℕ) (steps : List Step) (last : List ℕ) → live ≤ most_of live steps last
        most-more live [] last = omega arith
        most-more live (s ∷ steps) last = omega arith

        pub stepped-run :
            (asked : Bool) (surge : ℕ) (R : List ℕ) (held wanted : List Address) → dropped ≡ only_in held wanted → Distinct R →
            (let ro = rolled enough n surge [] (numbers_below n) R in most_of (length R) ro.steps ro.last) ≤ B →
            Runs (two R []) none (stepped_tree asked image old new R retries held wanted n (rolled enough n surge [] (numbers_below n) R))
        stepped-run asked surge R held wanted is dR few =
            let ro = rolled enough n surge [] (numbers_below n) R in
            let low = low-two R [] (omega (arith, few, most-more (length R) ro.steps ro.last)) in
            opens-run (two R []) none low (only_in wanted held) []
            (λ opened. in_steps asked true image old new ro.steps (last_step asked image old new ro.last ro.left retries (only_in held wanted) n) (closes_opened image old R retries opened))
            (closes_opened image old R retries)
            (λ opened. subst (λ l. Runs (two R []) none (in_steps asked true image old new ro.steps (last_step asked image old new ro.last ro.left retries l n) (closes_opened image old R retries opened))) is
            (steps-run asked surge n true [] [] (numbers_below n) R (closes_opened image old R retries opened) dR (closing opened) (subst (λ z. most_of z ro.steps ro.last ≤ B) (plus-none (length R)) few) (λ k e. inr e)))
            (λ opened. runs-more (two R []) (two R []) none (named h (is_in [])) (closes_opened image old R retries opened) (λ j k e. e) (nobody (named h (is_in [])))
            (closing opened [] (omega (arith, few, most-more (length R) ro.steps ro.last))))
          where
            plus-none : (x : ℕ) → x ≡ x + 0
            plus-none x = omega arith

            closing : (opened : List Address) (all : List ℕ) → length R + (length all + 0) ≤ B → Runs (two R (all ++ [])) (named h (is_in all)) (closes_opened image old R retries opened)
            closing opened all few =
                let s = two R (all ++ []) in
                let d = named h (is_in all) in
                let low = low-two R (all ++ []) (omega (arith, few, length-append all [])) in
                closes-run s d low opened (settle image old R side.Old retries)
                (settle-run s d low side.Old old R retries (λ k e. (old-on R (all ++ []) k e, off g h all k apart')))
