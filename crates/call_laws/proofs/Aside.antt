-- A call by which a master builds or mends leaves everybody else alone.
use Rattle.std.proofs.Common.{◌≡◌, ℕ, Bool, true, false, cond, not, List, [], ◌∷◌, ◌++◌, Option, Some, None, refl, sym, ap, subst, arith}
use Rattle.std.proofs.lemmas.Bool.Decides.{nat_tests}
use Rattle.std.specs.Prelude.{◌==◌, if◌then◌else◌}
use Rattle.std.specs.List.{filter_map, cons_option}
use Rattle.vocabulary.specs.declared.table.Stance.{Stance}
use Rattle.vocabulary.specs.declared.table.Stance.TheVariants.{Starting}
use Rattle.vocabulary.specs.declared.calls.Call.{Call}
use Rattle.vocabulary.specs.declared.calls.Call.TheVariants.{OpenAt, CloseAt, Fork, AwaitReady, Quit, Kill, Census, Adopt}
use Rattle.vocabulary.specs.declared.calls.Fate.{Fate}
use Rattle.definitions.specs.Table.{Hold, Generation, Process, Master, Worker, Foreign, Table, Caller, live_master}
use Rattle.definitions.specs.Table.{is_worker, is_active}
use Rattle.call_laws.specs.Pieces.{is_starting, is_exited, is_any, is_row, lacks_address, made_ready, made_draining}
use Rattle.definitions.specs.Calls.{change, Stepped, is_of, with_holds, put_hold, lowest_free, shared, drop_where}
use Rattle.definitions.specs.Calls.{is_exited_of, step_by, Handed}
use Rattle.call_laws.specs.Aside.{is_own_call, aside_of, LeavesAlone, CallsLeaveAlone}
use Rattle.call_laws.proofs.Choices.{and-left, and-right}
use Rattle.call_laws.proofs.Cases.{fork-cases, await-cases, open-cases, adopt-cases, unfailing}

-- a test that only the master's rows and its workers' pass
abbrev Own : ℕ → (Process → Bool) → Type 0
Own m test = (p : Process) → test p ≡ true → is_of m p ≡ true

-- a change that leaves whose a row is
abbrev Same : ℕ → (Process → Process) → Type 0
Same m f = (p : Process) → is_of m (f p) ≡ is_of m p

changed-aside :
    (m : ℕ) (test : Process → Bool) (f : Process → Process) → Own m test → Same m f → (rows : List Process) →
    aside_of m (filter_map (change test f) rows) ≡ aside_of m rows
changed-aside m test f own same [] = refl
changed-aside m test f own same (p ∷ rows) = go (test p) refl (changed-aside m test f own same rows)
  where
    go :
        (b : Bool) → test p ≡ b → aside_of m (filter_map (change test f) rows) ≡ aside_of m rows →
        aside_of m ((if b then f p else p) ∷ filter_map (change test f) rows) ≡ aside_of m (p ∷ rows)
    go true e rest = rw (same p, own p e) rest
    go false e rest = ap (λ l. cond (not (is_of m p)) (p ∷ l) l) rest

dropped-aside : (m : ℕ) (test : Process → Bool) → Own m test → (rows : List Process) → aside_of m (filter_map (drop_where test) rows) ≡ aside_of m rows
dropped-aside m test own [] = refl
dropped-aside m test own (p ∷ rows) =
    let rest = dropped-aside m test own rows in
    go (test p) (λ e. own p e) rest
  where
    go :
        (b : Bool) → (b ≡ true → is_of m p ≡ true) → aside_of m (filter_map (drop_where test) rows) ≡ aside_of m rows →
        aside_of m (cons_option (if b then None else Some p) (filter_map (drop_where test) rows)) ≡ aside_of m
        (p ∷ rows)
    go true own_p rest = rw (own_p refl) rest
    go false own_p rest = ap (λ l. cond (not (is_of m p)) (p ∷ l) l) rest

grown-aside : (m : ℕ) (new : Process) → is_of m new ≡ true → (rows : List Process) → aside_of m (rows ++ new ∷ []) ≡ aside_of m rows
grown-aside m new own [] = rw own refl
grown-aside m new own (p ∷ rows) = ap (λ l. cond (not (is_of m p)) (p ∷ l) l) (grown-aside m new own rows)

own-worker : (stance : Stance → Bool) (m : ℕ) (g : Generation) (k : ℕ) → Own m (is_worker stance m g k)
own-worker stance m g k (Worker n q h j s hs) e = and-left (q == m) _ (and-right (stance s) _ e)
own-worker stance m g k (Master n q i live hs) e = absurd (cc e)
own-worker stance m g k (Foreign n hs) e = absurd (cc e)

own-exited : (m : ℕ) → Own m (is_exited_of m)
own-exited m (Worker n q h j s hs) e = and-right (is_exited s) (q == m) e
own-exited m (Master n q i live hs) e = absurd (cc e)
own-exited m (Foreign n hs) e = absurd (cc e)

same-holds : (m : ℕ) (h : List Hold → List Hold) → Same m (with_holds h)
same-holds m h (Master n q i live hs) = refl
same-holds m h (Worker n q g k s hs) = refl
same-holds m h (Foreign n hs) = refl

same-ready : (m : ℕ) → Same m made_ready
same-ready m (Master n q i live hs) = refl
same-ready m (Worker n q g k s hs) = refl
same-ready m (Foreign n hs) = refl

same-draining : (m : ℕ) → Same m made_draining
same-draining m (Master n q i live hs) = refl
same-draining m (Worker n q g k s hs) = refl
same-draining m (Foreign n hs) = refl

own-row : (m : ℕ) → Own m (is_row m)
own-row m (Master n q i live hs) e = e
own-row m (Worker n q g k s hs) e = absurd (cc e)
own-row m (Foreign n hs) e = absurd (cc e)

own-new : (m : ℕ) → (m == m) ≡ true
own-new m = grind (arith, nat_tests)

-- what is left alone by a call's answer
abbrev Leaves : Caller → Table → Stepped → Type 0
Leaves c t st = (aside_of c.number st.table.rows ≡ aside_of c.number t.rows) × (st.table.files ≡ t.files)

calls-leave :
    (handed : Handed) (image : ℕ) (c : Caller) (call : Call) (fate : Option Fate) (t : Table) → is_own_call call ≡ true →
    Leaves c t (step_by handed image (Some c) call fate t)
calls-leave handed image c (OpenAt a) fate t own =
    open-cases handed image c a fate t (Leaves c t) (refl, refl) (refl, refl) (refl, refl) (refl, refl)
    (λ off room. (changed-aside c.number (is_row c.number) (with_holds (put_hold (record { fd = lowest_free c.holds; socket = t.next_socket; address = a }))) (own-row c.number) (same-holds c.number _) t.rows, refl))
calls-leave handed image c (CloseAt a) fate t own =
    subst (Leaves c t) (sym (unfailing handed image c (CloseAt a) fate t tt))
    (changed-aside c.number (is_of c.number) (with_holds (lacks_address a)) (λ p e. e) (same-holds c.number (lacks_address a)) t.rows, refl)
calls-leave handed image c (Fork g k fds) fate t own =
    fork-cases handed image c g k fds fate t (Leaves c t) (refl, refl) (refl, refl)
    (λ off. (grown-aside c.number (Worker t.next_process c.number g k Starting (shared fds c.holds)) (own-new c.number) t.rows, refl))
calls-leave handed image c (AwaitReady g k) fate t own =
    await-cases handed image c g k fate t (Leaves c t) (refl, refl)
    (λ live. (changed-aside c.number (is_worker is_starting c.number g k) made_ready (own-worker is_starting c.number g k) (same-ready c.number) t.rows, refl))
    (λ gone. (dropped-aside c.number (is_worker is_exited c.number g k) (own-worker is_exited c.number g k) t.rows, refl))
calls-leave handed image c (Quit g k) fate t own =
    subst (Leaves c t) (sym (unfailing handed image c (Quit g k) fate t tt))
    (changed-aside c.number (is_worker is_active c.number g k) made_draining (own-worker is_active c.number g k) (same-draining c.number) t.rows, refl)
calls-leave handed image c (Kill g k) fate t own =
    subst (Leaves c t) (sym (unfailing handed image c (Kill g k) fate t tt))
    (dropped-aside c.number (is_worker is_any c.number g k) (own-worker is_any c.number g k) t.rows, refl)
calls-leave handed image c (Census g) fate t own =
    subst (Leaves c t) (sym (unfailing handed image c (Census g) fate t tt)) (dropped-aside c.number (is_exited_of c.number) (own-exited c.number) t.rows, refl)
calls-leave handed image c Adopt fate t own = adopt-cases handed image c fate t (Leaves c t) (refl, refl) (refl, refl)
calls-leave handed image c _ fate t own = absurd (cc own)

some-is : (c d : Caller) → Some c ≡ Some d → c ≡ d
some-is c d e = cc e

pub calls-leave-alone : CallsLeaveAlone
calls-leave-alone handed image call fate t own = go (live_master image t.rows)
  where
    go : (o : Option Caller) → LeavesAlone image o t (step_by handed image o call fate t).table
    go None = record { rows = λ c e. absurd (cc e); gone = λ e. refl; files = refl }
    go (Some c) =
        let l = calls-leave handed image c call fate t own in
        record { rows = λ d e. subst (λ (x : Caller). aside_of x.number (step_by handed image (Some c) call fate t).table.rows ≡ aside_of x.number t.rows) (some-is c d e) l.0; gone = λ e. absurd (cc e); files = l.1 }
