-- An upgrade's two parts, for facts without counting: what both keep is kept under all turns.
use Rattle.std.proofs.Common.{◌≡◌, ℕ, zero, suc, true, false, List, [], ◌∷◌, ◌++◌, Option, Some, None, refl, sym, ap, ◌∙◌, subst}
use Rattle.std.specs.Prelude.{⊤, drop}
use Rattle.std.specs.List.{AllByRecursion}
use Rattle.listener_set.specs.Numbers.{lacks}
use Rattle.vocabulary.specs.declared.calls.Call.{Call}
use Rattle.vocabulary.specs.declared.calls.Call.TheVariants.{OpenAt, CloseAt, Fork, AwaitReady, Census, Kill, Adopt}
use Rattle.vocabulary.specs.declared.calls.Answer.{Answer}
use Rattle.vocabulary.specs.declared.calls.Answer.TheVariants as answer
use Rattle.vocabulary.specs.declared.calls.Reply.{Reply}
use Rattle.vocabulary.specs.declared.calls.Reply.TheVariants as reply
use Rattle.vocabulary.specs.declared.calls.Fate.{Fate}
use Rattle.vocabulary.specs.declared.names.Name.{Name}
use Rattle.vocabulary.specs.declared.plans.End.{End}
use Rattle.vocabulary.specs.declared.plans.End.TheVariants.{JoinReady, JoinBack, Join}
use Rattle.vocabulary.specs.declared.plans.Order.TheVariants.{Make, ForkLacking, AwaitLacking, KillLacking}
use Rattle.vocabulary.specs.declared.plans.Turn.{Turn}
use Rattle.vocabulary.specs.declared.plans.Turn.TheVariants as turn
use Rattle.vocabulary.specs.declared.reports.Entry.{Entry}
use Rattle.definitions.specs.Table.{Table, Caller, live_master}
use Rattle.definitions.specs.Calls.{after_exits, Stepped, step_by, step_with, Handed}
use Rattle.definitions.specs.Master.{fork_of}
use Rattle.definitions.specs.Claims.{is_leave_call, names_any}
use Rattle.definitions.specs.Run.{Tree, Branches, Ends, Does, Nothing, Branch, reply_of, plain_reply, Lack, lacked_by}
use Rattle.definitions.specs.Run.{lacked_after, Progress, Lost, after_call}
use Rattle.call_laws.specs.Pieces.{among, full_or_short, noted, census, census_edges, fork_edges, lowest, replies_to}
use Rattle.definitions.specs.Plans.{beside, graft, weave, joined, on, round, await_any_edges, then_edge, tries}
use Rattle.definitions.specs.Plans.{tries_all}
use Rattle.run_laws.proofs.Rules.{own-lacked}
use Rattle.run_laws.proofs.Logic.{Exiting}
use Rattle.call_laws.proofs.Cases.{fork-cases, await-cases, open-cases, adopt-cases, unfailing}
use Rattle.run_laws.proofs.Processes.{AnyCall}
use Rattle.run_laws.proofs.Traces.{Asking, Finally, Traced, TracedBehind, ordered-step, entry_of}
use Rattle.theorems.proofs.UpgradeStage.{Given, g, new, old_crew, R, co}
use Rattle.theorems.proofs.UpgradeBeside.{Place, Counts, Forks, Waits, Kills, Over, by, mending, killing, waiting, tree_at}

-- a call that is no count
abbrev pub PartCall : Call → Type 0
PartCall (OpenAt a) = ⊤
PartCall (CloseAt a) = ⊤
PartCall (Fork h x fds) = ⊤
PartCall (AwaitReady h x) = ⊤
PartCall (Kill h x) = ⊤
PartCall Adopt = ⊤
PartCall _ = ⊥

-- what the last count lacked stays
keeps-by :
    (handed : Handed) (image : ℕ) (call : Call) (fate : Option Fate) (t : Table) (o : Option Caller) (l : List Lack) →
    PartCall call → lacked_after image [] (step_by handed image o call fate t).answer l ≡ l
keeps-by handed image call fate t None l is = refl
keeps-by handed image (OpenAt a) fate t (Some c) l is =
    open-cases handed image c a fate t (λ st. lacked_after image [] st.answer l ≡ l) refl refl refl refl
    (λ off room. refl)
keeps-by handed image (CloseAt a) fate t (Some c) l is =
    subst (λ (st : Stepped). lacked_after image [] st.answer l ≡ l) (sym (unfailing handed image c (CloseAt a) fate t tt))
    refl
keeps-by handed image (Kill h x) fate t (Some c) l is =
    subst (λ (st : Stepped). lacked_after image [] st.answer l ≡ l) (sym (unfailing handed image c (Kill h x) fate t tt))
    refl
keeps-by handed image (Fork h x fds) fate t (Some c) l is =
    fork-cases handed image c h x fds fate t (λ st. lacked_after image [] st.answer l ≡ l) refl refl (λ off. refl)
keeps-by handed image (AwaitReady h x) fate t (Some c) l is =
    await-cases handed image c h x fate t (λ st. lacked_after image [] st.answer l ≡ l) refl (λ on. refl) (λ off. refl)
keeps-by handed image Adopt fate t (Some c) l is = adopt-cases handed image c fate t (λ st. lacked_after image [] st.answer l ≡ l) refl refl
keeps-by handed image _ fate t (Some c) l is = absurd is

keeps-lacking :
    (handed : Handed) (image : ℕ) (call : Call) (fate : Option Fate) (t : Table) (l : List Lack) → PartCall call →
    lacked_after image [] (step_with handed image call fate t).answer l ≡ l
keeps-lacking handed image call fate t l is = keeps-by handed image call fate t (live_master image t.rows) l is

module _ (c : Given) (due : Asking) (post : Finally) (mild : Exiting)
    (lost : (past : List Entry) (p : Progress) → post past Lost p) (F : Table → Type 0)
    (exits : (es : List Name) (t : Table) → names_any (co c).executing es ≡ false → mild es t.rows → F t → F (after_exits es t))
    (any : (handed : Handed) (image : ℕ) (call : Call) (fate : Option Fate) (t : Table) → AnyCall (by c) call → F t →
    F (step_with handed image call fate t).table)
    (asks : (past : List Entry) (call : Call) (t : Table) → AnyCall (by c) call → F t → due past call t) where
  -- Of each number whether its worker may be killed: so it is of one that a count of the old master lacks, and no exit and no call
  -- changes that; and a kill then keeps the fact.
  pub record Spares : Type 1 where
    pub May : ℕ → Table → Type 0
    pub may_exits : (x : ℕ) (es : List Name) (t : Table) → names_any (co c).executing es ≡ false → mild es t.rows → May x t → May x (after_exits es t)
    pub may_any :
        (x : ℕ) (handed : Handed) (image : ℕ) (call : Call) (fate : Option Fate) (t : Table) → AnyCall (by c) call →
        May x t → May x (step_with handed image call fate t).table
    pub lacked :
        (handed : Handed) (fate : Option Fate) (t : Table) → F t → (cs : List ℕ) →
        (step_with handed (by c) (Census (g c)) fate t).answer ≡ answer.Counted cs → (x : ℕ) (xs : List ℕ) →
        lacks (R c) cs ≡ x ∷ xs → May x (step_with handed (by c) (Census (g c)) fate t).table
    pub kill_due : (past : List Entry) (x : ℕ) (t : Table) → F t → May x t → due past (Kill (g c) x) t
    pub kills : (handed : Handed) (x : ℕ) (fate : Option Fate) (t : Table) → F t → May x t → F (step_with handed (by c) (Kill (g c) x) fate t).table

  module _ (sp : Spares) where
    abbrev pub Tr : List Entry → Tree → Progress → Type 0
    Tr past tree q = Traced due post mild (co c) past tree q

    abbrev pub Edge : List Entry → Branches → Reply → Progress → Type 0
    Edge past bs r q = TracedBehind due post mild (co c) past bs r q

    -- what is known where the old part stands: what the last count lacked, and that the worker may be killed
    abbrev pub Listed : Place → List ℕ → Type 0
    Listed (Counts rounds) l = ⊤
    Listed (Forks rounds x xs) l = l ≡ x ∷ xs
    Listed (Waits rounds x xs) l = l ≡ x ∷ xs
    Listed (Kills rounds x xs) l = l ≡ x ∷ xs
    Listed (Over end) l = ⊤

    abbrev pub Kept : Place → Table → Type 0
    Kept (Counts rounds) t = ⊤
    Kept (Forks rounds x xs) t = sp.May x t
    Kept (Waits rounds x xs) t = sp.May x t
    Kept (Kills rounds x xs) t = sp.May x t
    Kept (Over end) t = ⊤

    kept-exits :
        (place : Place) (es : List Name) (t : Table) → names_any (co c).executing es ≡ false → mild es t.rows →
        Kept place t → Kept place (after_exits es t)
    kept-exits (Counts rounds) es t spared calm k = tt
    kept-exits (Forks rounds x xs) es t spared calm k = sp.may_exits x es t spared calm k
    kept-exits (Waits rounds x xs) es t spared calm k = sp.may_exits x es t spared calm k
    kept-exits (Kills rounds x xs) es t spared calm k = sp.may_exits x es t spared calm k
    kept-exits (Over end) es t spared calm k = tt

    kept-any :
        (place : Place) (handed : Handed) (image : ℕ) (call : Call) (fate : Option Fate) (t : Table) →
        AnyCall (by c) call → Kept place t → Kept place (step_with handed image call fate t).table
    kept-any (Counts rounds) handed image call fate t is k = tt
    kept-any (Forks rounds x xs) handed image call fate t is k = sp.may_any x handed image call fate t is k
    kept-any (Waits rounds x xs) handed image call fate t is k = sp.may_any x handed image call fate t is k
    kept-any (Kills rounds x xs) handed image call fate t is k = sp.may_any x handed image call fate t is k
    kept-any (Over end) handed image call fate t is k = tt

    listed-same : (place : Place) (l l' : List ℕ) → l' ≡ l → Listed place l → Listed place l'
    listed-same place l l' same h = subst (λ x. Listed place x) (sym same) h

    abbrev pub GoodAt : Place → Tree → Type 0
    GoodAt place tree = (past : List Entry) (q : Progress) → F q.table → Listed place (lacked_by (by c) q.lacked) → Kept place q.table → Tr past tree q

    -- what is behind each edge
    abbrev AllTr : List Entry → Branches → Progress → Type 0
    AllTr past Nothing q = ⊤
    AllTr past (Branch replies said rest more) q = Tr past rest (noted said q) × AllTr past more q

    all-tr : (past : List Entry) (bs : Branches) (r : Reply) (q : Progress) → AllTr past bs q → Edge past bs r q
    all-tr past Nothing r q all = lost past q
    all-tr past (Branch replies said rest more) r q all =
        elim (among replies r) as (λ b. elim b as (λ c. Type 0) [ true ↦ Tr past rest (noted said q) | false ↦ Edge past more r q ]) [
          | true ↦ all.0
          | false ↦ all-tr past more r q all.1
        ]

    ---- The steps of the old part, whatever follows them

    counted-edge :
        (ok short : Tree) → ((past : List Entry) (q : Progress) → F q.table → Tr past ok q) →
        ((x : ℕ) (xs : List ℕ) (past : List Entry) (q : Progress) → F q.table → lacked_by (by c) q.lacked ≡ x ∷ xs → sp.May x q.table → Tr past short q)
        → (a : Answer) (past : List Entry) (q : Progress) → F q.table →
        ((cs : List ℕ) → a ≡ answer.Counted cs → lacked_by (by c) q.lacked ≡ lacks (R c) cs) →
        ((cs : List ℕ) → a ≡ answer.Counted cs → (x : ℕ) (xs : List ℕ) → lacks (R c) cs ≡ x ∷ xs → sp.May x q.table) →
        Edge past (census_edges ok short) (reply_of (R c) a) q
    counted-edge ok short on_ok on_short (answer.Counted cs) past q h lk may = go (lacks (R c) cs) refl
      where
        go : (l : List ℕ) → lacks (R c) cs ≡ l → Edge past (census_edges ok short) (full_or_short l) q
        go [] e = on_ok past q h
        go (x ∷ xs) e = on_short x xs past q h (lk cs refl ∙ e) (may cs refl x xs e)
    counted-edge ok short on_ok on_short (answer.Opened fd) past q h lk may = lost past q
    counted-edge ok short on_ok on_short answer.InUse past q h lk may = lost past q
    counted-edge ok short on_ok on_short answer.TooMany past q h lk may = lost past q
    counted-edge ok short on_ok on_short answer.Denied past q h lk may = lost past q
    counted-edge ok short on_ok on_short answer.NoMemory past q h lk may = lost past q
    counted-edge ok short on_ok on_short answer.Fine past q h lk may = lost past q
    counted-edge ok short on_ok on_short answer.Forked past q h lk may = lost past q
    counted-edge ok short on_ok on_short answer.Again past q h lk may = lost past q
    counted-edge ok short on_ok on_short answer.IsReady past q h lk may = lost past q
    counted-edge ok short on_ok on_short answer.Gone past q h lk may = lost past q
    counted-edge ok short on_ok on_short answer.Late past q h lk may = lost past q
    counted-edge ok short on_ok on_short answer.Spawned past q h lk may = lost past q
    counted-edge ok short on_ok on_short answer.NoImage past q h lk may = lost past q
    counted-edge ok short on_ok on_short answer.Adopted past q h lk may = lost past q
    counted-edge ok short on_ok on_short answer.Refused past q h lk may = lost past q
    counted-edge ok short on_ok on_short answer.IoFault past q h lk may = lost past q
    counted-edge ok short on_ok on_short answer.IsAlive past q h lk may = lost past q
    counted-edge ok short on_ok on_short answer.Go past q h lk may = lost past q
    counted-edge ok short on_ok on_short answer.Back past q h lk may = lost past q
    counted-edge ok short on_ok on_short answer.MasterGone past q h lk may = lost past q

    last-edge :
        (rest : Tree) → ((past : List Entry) (q : Progress) → F q.table → Tr past rest q) →
        (a : Answer) (past : List Entry) (q : Progress) → F q.table →
        Edge past (on (reply.Full ∷ reply.Short ∷ []) rest Nothing) (reply_of (R c) a) q
    last-edge rest next (answer.Counted cs) past q h = go (lacks (R c) cs) refl
      where
        go : (l : List ℕ) → lacks (R c) cs ≡ l → Edge past (on (reply.Full ∷ reply.Short ∷ []) rest Nothing) (full_or_short l) q
        go [] e = next past q h
        go (x ∷ xs) e = next past q h
    last-edge rest next (answer.Opened fd) past q h = lost past q
    last-edge rest next answer.InUse past q h = lost past q
    last-edge rest next answer.TooMany past q h = lost past q
    last-edge rest next answer.Denied past q h = lost past q
    last-edge rest next answer.NoMemory past q h = lost past q
    last-edge rest next answer.Fine past q h = lost past q
    last-edge rest next answer.Forked past q h = lost past q
    last-edge rest next answer.Again past q h = lost past q
    last-edge rest next answer.IsReady past q h = lost past q
    last-edge rest next answer.Gone past q h = lost past q
    last-edge rest next answer.Late past q h = lost past q
    last-edge rest next answer.Spawned past q h = lost past q
    last-edge rest next answer.NoImage past q h = lost past q
    last-edge rest next answer.Adopted past q h = lost past q
    last-edge rest next answer.Refused past q h = lost past q
    last-edge rest next answer.IoFault past q h = lost past q
    last-edge rest next answer.IsAlive past q h = lost past q
    last-edge rest next answer.Go past q h = lost past q
    last-edge rest next answer.Back past q h = lost past q
    last-edge rest next answer.MasterGone past q h = lost past q

    count-good :
        (ok short : Tree) → ((past : List Entry) (q : Progress) → F q.table → Tr past ok q) →
        ((x : ℕ) (xs : List ℕ) (past : List Entry) (q : Progress) → F q.table → lacked_by (by c) q.lacked ≡ x ∷ xs → sp.May x q.table → Tr past short q)
        → (past : List Entry) (q : Progress) → F q.table → Tr past (census (by c) (g c) (R c) (census_edges ok short)) q
    count-good ok short on_ok on_short past q h =
        let call = Census (g c) in
        ordered-step due post mild (co c) lost F (by c) (Make call) (R c) (census_edges ok short) past q refl exits h (λ t h'. asks past call t tt h')
        (λ q' fate h' same.
        let st = step_with (co c).handed (by c) call fate q'.table in
        counted-edge ok short on_ok on_short st.answer (past ++ entry_of (by c) call st.answer ∷ [])
        (after_call (by c) (Make call) (R c) st q') (any (co c).handed (by c) call fate q'.table tt h')
        (λ cs e. ap (λ a. lacked_by (by c) (lacked_after (by c) (R c) a q'.lacked)) e ∙ own-lacked (by c) (R c) cs q'.lacked)
        (λ cs e x xs l. sp.lacked (co c).handed fate q'.table h' cs e x xs l))

    last-good :
        (rest : Tree) → ((past : List Entry) (q : Progress) → F q.table → Tr past rest q) →
        (past : List Entry) (q : Progress) → F q.table →
        Tr past (census (by c) (g c) (R c) (on (reply.Full ∷ reply.Short ∷ []) rest Nothing)) q
    last-good rest next past q h =
        let call = Census (g c) in
        ordered-step due post mild (co c) lost F (by c) (Make call) (R c)
        (on (reply.Full ∷ reply.Short ∷ []) rest Nothing) past q refl exits h (λ t h'. asks past call t tt h')
        (λ q' fate h' same.
        let st = step_with (co c).handed (by c) call fate q'.table in
        last-edge rest next st.answer (past ++ entry_of (by c) call st.answer ∷ [])
        (after_call (by c) (Make call) (R c) st q') (any (co c).handed (by c) call fate q'.table tt h'))

    fork-good :
        (wait rest : Tree) (rounds x : ℕ) (xs : List ℕ) → GoodAt (Waits rounds x xs) wait →
        GoodAt (Counts rounds) rest →
        GoodAt (Forks rounds x xs) (Does (by c) (ForkLacking (old_crew c)) [] (fork_edges wait rest))
    fork-good wait rest rounds x xs on_wait on_rest past q h is may =
        let call = fork_of (old_crew c) (lowest (lacked_by (by c) q.lacked)) in
        ordered-step due post mild (co c) lost (λ t. F t × sp.May x t) (by c) (ForkLacking (old_crew c)) []
        (fork_edges wait rest) past q refl
        (λ es t spared calm b. (exits es t spared calm b.0, sp.may_exits x es t spared calm b.1)) (h, may)
        (λ t b. asks past call t tt b.0)
        (λ q' fate b same.
        let st = step_with (co c).handed (by c) call fate q'.table in
        let past' = past ++ entry_of (by c) call st.answer ∷ [] in
        let q'' = after_call (by c) (ForkLacking (old_crew c)) [] st q' in
        let h'' = any (co c).handed (by c) call fate q'.table tt b.0 in
        all-tr past' (fork_edges wait rest) (reply_of [] st.answer) q''
        (on_wait past' q'' h'' (ap (λ (l : List Lack). lacked_by (by c) l) (keeps-lacking (co c).handed (by c) call fate q'.table q'.lacked tt ∙ same) ∙ is) (sp.may_any x (co c).handed (by c) call fate q'.table tt b.1), (on_rest past' q'' h'' tt tt, tt)))

    wait-good :
        (rest late : Tree) (rounds x : ℕ) (xs : List ℕ) → GoodAt (Counts rounds) rest →
        GoodAt (Kills rounds x xs) late → GoodAt (Waits rounds x xs) (waiting c rest late)
    wait-good rest late rounds x xs on_rest on_late past q h is may =
        let call = AwaitReady (g c) (lowest (lacked_by (by c) q.lacked)) in
        ordered-step due post mild (co c) lost (λ t. F t × sp.May x t) (by c) (AwaitLacking (g c)) []
        (await_any_edges rest late) past q refl
        (λ es t spared calm b. (exits es t spared calm b.0, sp.may_exits x es t spared calm b.1)) (h, may)
        (λ t b. asks past call t tt b.0)
        (λ q' fate b same.
        let st = step_with (co c).handed (by c) call fate q'.table in
        let past' = past ++ entry_of (by c) call st.answer ∷ [] in
        let q'' = after_call (by c) (AwaitLacking (g c)) [] st q' in
        let h'' = any (co c).handed (by c) call fate q'.table tt b.0 in
        all-tr past' (await_any_edges rest late) (reply_of [] st.answer) q''
        (on_rest past' q'' h'' tt tt, (on_late past' q'' h'' (ap (λ (l : List Lack). lacked_by (by c) l) (keeps-lacking (co c).handed (by c) call fate q'.table q'.lacked tt ∙ same) ∙ is) (sp.may_any x (co c).handed (by c) call fate q'.table tt b.1), tt)))

    kill-good : (rest : Tree) (rounds x : ℕ) (xs : List ℕ) → GoodAt (Counts rounds) rest → GoodAt (Kills rounds x xs) (killing c rest)
    kill-good rest rounds x xs on_rest past q h is may =
        let call = Kill (g c) (lowest (lacked_by (by c) q.lacked)) in
        ordered-step due post mild (co c) lost (λ t. F t × sp.May x t) (by c) (KillLacking (g c)) [] (then_edge rest)
        past q refl (λ es t spared calm b. (exits es t spared calm b.0, sp.may_exits x es t spared calm b.1)) (h, may)
        (λ t b. subst (λ (l : List ℕ). due past (Kill (g c) (lowest l)) t) (sym is) (sp.kill_due past x t b.0 b.1))
        (λ q' fate b same.
        let st = step_with (co c).handed (by c) call fate q'.table in
        let past' = past ++ entry_of (by c) call st.answer ∷ [] in
        let q'' = after_call (by c) (KillLacking (g c)) [] st q' in
        let h'' =
        subst (λ (l : List ℕ). F (step_with (co c).handed (by c) (Kill (g c) (lowest l)) fate q'.table).table)
        (sym is) (sp.kills (co c).handed x fate q'.table b.0 b.1) in
        all-tr past' (then_edge rest) (reply_of [] st.answer) q'' (on_rest past' q'' h'' tt tt, tt))

    ---- Beside a step of the new part, and alone

    module _ (goes : List Turn → Tree → Tree) (cont : (turns : List Turn) (place : Place) → GoodAt place (goes turns (tree_at c place))) where
      mutual
        at-counts : (rounds : ℕ) (turns : List Turn) → GoodAt (Counts rounds) (beside goes turns (mending c rounds))
        at-counts zero [] past q h l k = cont [] (Counts zero) past q h l k
        at-counts zero (turn.New ∷ turns) past q h l k = cont turns (Counts zero) past q h l k
        at-counts zero (turn.Old ∷ turns) past q h l k =
            last-good (goes turns (Ends Join)) (λ past' q' h'. cont turns (Over Join) past' q' h' tt tt) past q h
        at-counts (suc rounds) [] past q h l k = cont [] (Counts (suc rounds)) past q h l k
        at-counts (suc rounds) (turn.New ∷ turns) past q h l k = cont turns (Counts (suc rounds)) past q h l k
        at-counts (suc rounds) (turn.Old ∷ turns) past q h l k =
            count-good (goes turns (Ends Join)) (beside goes turns (round (by c) (old_crew c) (mending c rounds)))
            (λ past' q' h'. cont turns (Over Join) past' q' h' tt tt)
            (λ x xs past' q' h' is may. at-forks rounds x xs turns past' q' h' is may) past q h

        at-forks : (rounds x : ℕ) (xs : List ℕ) (turns : List Turn) → GoodAt (Forks rounds x xs) (beside goes turns (tree_at c (Forks rounds x xs)))
        at-forks rounds x xs [] past q h l k = cont [] (Forks rounds x xs) past q h l k
        at-forks rounds x xs (turn.New ∷ turns) past q h l k = cont turns (Forks rounds x xs) past q h l k
        at-forks rounds x xs (turn.Old ∷ turns) past q h l k =
            fork-good (beside goes turns (tree_at c (Waits rounds x xs))) (beside goes turns (mending c rounds)) rounds
            x xs (at-waits rounds x xs turns) (at-counts rounds turns) past q h l k

        at-waits : (rounds x : ℕ) (xs : List ℕ) (turns : List Turn) → GoodAt (Waits rounds x xs) (beside goes turns (tree_at c (Waits rounds x xs)))
        at-waits rounds x xs [] past q h l k = cont [] (Waits rounds x xs) past q h l k
        at-waits rounds x xs (turn.New ∷ turns) past q h l k = cont turns (Waits rounds x xs) past q h l k
        at-waits rounds x xs (turn.Old ∷ turns) past q h l k =
            wait-good (beside goes turns (mending c rounds)) (beside goes turns (tree_at c (Kills rounds x xs))) rounds
            x xs (at-counts rounds turns) (at-kills rounds x xs turns) past q h l k

        at-kills : (rounds x : ℕ) (xs : List ℕ) (turns : List Turn) → GoodAt (Kills rounds x xs) (beside goes turns (tree_at c (Kills rounds x xs)))
        at-kills rounds x xs [] past q h l k = cont [] (Kills rounds x xs) past q h l k
        at-kills rounds x xs (turn.New ∷ turns) past q h l k = cont turns (Kills rounds x xs) past q h l k
        at-kills rounds x xs (turn.Old ∷ turns) past q h l k =
            kill-good (beside goes turns (mending c rounds)) rounds x xs (at-counts rounds turns) past q h l k

      beside-good : (turns : List Turn) (place : Place) → GoodAt place (beside goes turns (tree_at c place))
      beside-good turns (Counts rounds) past q h l k = at-counts rounds turns past q h l k
      beside-good turns (Forks rounds x xs) past q h l k = at-forks rounds x xs turns past q h l k
      beside-good turns (Waits rounds x xs) past q h l k = at-waits rounds x xs turns past q h l k
      beside-good turns (Kills rounds x xs) past q h l k = at-kills rounds x xs turns past q h l k
      beside-good turns (Over end) past q h l k = cont turns (Over end) past q h l k

    module _ (rest : Tree) (cont : (past : List Entry) (q : Progress) → F q.table → Tr past rest q) where
      abbrev ended : Tree → Tree
      ended t = graft (λ e. rest) t

      alone-kills :
          (rounds x : ℕ) (xs : List ℕ) → GoodAt (Counts rounds) (ended (mending c rounds)) →
          GoodAt (Kills rounds x xs) (ended (tree_at c (Kills rounds x xs)))
      alone-kills rounds x xs again = kill-good (ended (mending c rounds)) rounds x xs again

      alone-waits :
          (rounds x : ℕ) (xs : List ℕ) → GoodAt (Counts rounds) (ended (mending c rounds)) →
          GoodAt (Waits rounds x xs) (ended (tree_at c (Waits rounds x xs)))
      alone-waits rounds x xs again =
          wait-good (ended (mending c rounds)) (ended (tree_at c (Kills rounds x xs))) rounds x xs again
          (alone-kills rounds x xs again)

      alone-forks :
          (rounds x : ℕ) (xs : List ℕ) → GoodAt (Counts rounds) (ended (mending c rounds)) →
          GoodAt (Forks rounds x xs) (ended (tree_at c (Forks rounds x xs)))
      alone-forks rounds x xs again =
          fork-good (ended (tree_at c (Waits rounds x xs))) (ended (mending c rounds)) rounds x xs
          (alone-waits rounds x xs again) again

      alone-counts : (rounds : ℕ) → GoodAt (Counts rounds) (ended (mending c rounds))
      alone-counts zero past q h l k = last-good rest cont past q h
      alone-counts (suc rounds) past q h l k =
          count-good rest (ended (round (by c) (old_crew c) (mending c rounds))) cont
          (λ x xs past' q' h' is may. alone-forks rounds x xs (alone-counts rounds) past' q' h' is may) past q h

      alone-good : (place : Place) → GoodAt place (ended (tree_at c place))
      alone-good (Counts rounds) past q h l k = alone-counts rounds past q h l k
      alone-good (Forks rounds x xs) past q h l k = alone-forks rounds x xs (alone-counts rounds) past q h l k
      alone-good (Waits rounds x xs) past q h l k = alone-waits rounds x xs (alone-counts rounds) past q h l k
      alone-good (Kills rounds x xs) past q h l k = alone-kills rounds x xs (alone-counts rounds) past q h l k
      alone-good (Over end) past q h l k = cont past q h

    ---- Both parts

    module _ (ready back : Tree) (ready_good : (past : List Entry) (q : Progress) → F q.table → Tr past ready q)
        (back_good : (past : List Entry) (q : Progress) → F q.table → Tr past back q) where
      abbrev pub join : End → Tree
      join = joined ready back

      abbrev pub W : Tree → Type 0
      W tree = (turns : List Turn) (place : Place) → GoodAt place (weave join tree turns (tree_at c place))

      tried :
          (call : Call) (rest : Tree) → is_leave_call call ≡ false → PartCall call → AnyCall (by c) call → W rest →
          W (tries (new c).image call [] rest (Ends JoinBack))
      tried call rest stays part is next turns place =
          beside-good (λ later still. tries (new c).image call [] (weave join rest later still) (graft (λ e. back) still))
          (λ later there past q h l k.
          let bs =
          on (plain_reply call ∷ []) (weave join rest later (tree_at c there))
          (on (drop 1 (replies_to call) ++ reply.MasterGone ∷ []) (graft (λ e. back) (tree_at c there)) Nothing) in
          ordered-step due post mild (co c) lost (λ t. F t × Kept there t) (new c).image (Make call) [] bs past q stays
          (λ es t spared calm b. (exits es t spared calm b.0, kept-exits there es t spared calm b.1)) (h, k)
          (λ t b. asks past call t is b.0)
          (λ q' fate b same.
          let st = step_with (co c).handed (new c).image call fate q'.table in
          let past' = past ++ entry_of (new c).image call st.answer ∷ [] in
          let q'' = after_call (new c).image (Make call) [] st q' in
          let h'' = any (co c).handed (new c).image call fate q'.table is b.0 in
          let l'' =
          listed-same there (lacked_by (by c) q.lacked) (lacked_by (by c) q''.lacked)
          (ap (λ (l : List Lack). lacked_by (by c) l) (keeps-lacking (co c).handed (new c).image call fate q'.table q'.lacked part) ∙ ap (λ (l : List Lack). lacked_by (by c) l) same)
          l in
          let k'' = kept-any there (co c).handed (new c).image call fate q'.table is b.1 in
          all-tr past' bs (reply_of [] st.answer) q'' (next later there past' q'' h'' l'' k'', (alone-good back back_good there past' q'' h'' l'' k'', tt))))
          turns place

      pub tried-all :
          (calls : List Call) →
          AllByRecursion (λ call. (is_leave_call call ≡ false) × PartCall call × AnyCall (by c) call) calls →
          W (tries_all (new c).image calls (Ends JoinReady) (Ends JoinBack))
      tried-all [] all turns place = alone-good ready ready_good place
      tried-all (call ∷ calls) all turns place =
          tried call (tries_all (new c).image calls (Ends JoinReady) (Ends JoinBack)) all.0.0 all.0.1 all.0.2
          (tried-all calls all.1) turns place
