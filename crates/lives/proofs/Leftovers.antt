-- What no run touches, and a start on what is left.
use Rattle.std.proofs.Common.{◌≡◌, ℕ, ◌+◌, Bool, true, false, List, [], ◌∷◌, ◌++◌, Option, Some, None, refl, sym, ap, ◌∙◌, length, nat_lt}
use Rattle.std.specs.Prelude.{filter, ◌==◌, if◌then◌else◌}
use Rattle.std.specs.Option.{option_or}
use Rattle.std.specs.Bool.{then_some}
use Rattle.std.specs.List.{AllByRecursion, list_any, filter_map, cons_option}
use Rattle.listener_set.specs.declared.generation.Generation.{Generation}
use Rattle.vocabulary.specs.declared.names.Name.{Name}
use Rattle.vocabulary.specs.declared.names.Name.TheVariants as name
use Rattle.vocabulary.specs.declared.calls.Answer.{Answer}
use Rattle.vocabulary.specs.declared.calls.Call.{Call}
use Rattle.vocabulary.specs.declared.calls.Call.TheVariants.{OpenAt, CloseAt, Fork, AwaitReady, Quit, Kill, Census}
use Rattle.vocabulary.specs.declared.calls.Call.TheVariants.{AwaitGone, SpawnMaster, Adopt, WritePid, MovePid}
use Rattle.vocabulary.specs.declared.calls.Call.TheVariants.{RemovePid, Alive, Leave, Usr1, TermMaster, Ask}
use Rattle.vocabulary.specs.declared.calls.Fate.{Fate}
use Rattle.vocabulary.specs.declared.calls.Reply.{Reply}
use Rattle.definitions.specs.Table.{Address, FilePath, Hold, Process, Master, Worker, Foreign, Table, Caller, Stance}
use Rattle.definitions.specs.Table.{Starting, Ready, Draining, Exited, is_worker, is_active, is_held, live_master, owner_at}
use Rattle.definitions.specs.Calls.{change, drop_where, first_changed, without_exited, exited, all_exited, after_exits, with_holds, put_hold, lowest_free, shared, is_of, is_exited_of, is_image, is_of_image, has_process_room, suits, Handed, Stepped, own_step, step_by, step_with, with_stance}
use Rattle.definitions.specs.Run.{Tree, Branches, Ends, Does, Nothing, Branch, reply_of, call_of, lacked_by, Pattern, Progress, Ran, run_with, goes_with, after_moment, after_call}
use Rattle.call_laws.specs.Pieces.{among, noted, answered, fault_at, fault_or_own, asked_alive, moved_if, caller_exits, is_named, is_draining, is_live_master, is_row, is_starting, is_exited, is_any, made_exited, made_ready, made_draining, lacks_address, without_master}
use Rattle.call_laws.proofs.Choices.{pick}
use Rattle.kernel_table.specs.Room.{IsKept}
use Rattle.kernel_model.proofs.CallsKept.{IsKept-exits, IsKept-step}
use Rattle.lives.specs.Deaths.{is_foreign, kept_socket, socket_in}

---- What every step keeps, each table of a run has

module _ (I : Table → Type 0) (exits : (es : List Name) (t : Table) → I t → I (after_exits es t))
    (steps : (handed : Handed) (image : ℕ) (call : Call) (f : Option Fate) (t : Table) → I t → (let z : Stepped = step_with handed image call f t in I z.table)) where
  mutual
    pub all-run :
        (handed : Handed) (tree : Tree) (pattern : Pattern) (p : Progress) → I p.table →
        AllByRecursion (λ (q : Progress). I q.table) (run_with handed tree pattern p).passed
    all-run handed (Ends end) pattern p h = (h, tt)
    all-run handed (Does by order set branches) pattern p h =
        let moment = pattern (p.calls + 1) in
        let middle = after_moment moment.exits p in
        let s = answered handed by order moment.fate middle in
        let mid = exits moment.exits p.table h in
        (h, (mid, all-behind handed branches (reply_of set s.answer) pattern (after_call by order set s middle) (steps handed by (call_of order (lacked_by by middle.lacked)) moment.fate middle.table mid)))

    all-behind :
        (handed : Handed) (bs : Branches) (r : Reply) (pattern : Pattern) (p : Progress) → I p.table →
        AllByRecursion (λ (q : Progress). I q.table) (goes_with handed bs r pattern p).passed
    all-behind handed Nothing r pattern p h = (h, tt)
    all-behind handed (Branch replies said rest more) r pattern p h =
        let here = all-run handed rest pattern (noted said p) h in
        let there = all-behind handed more r pattern p h in
        elim (among replies r) as
        (λ b. AllByRecursion (λ (q : Progress). I q.table) (elim b as (λ c. Ran) [ true ↦ run_with handed rest pattern (noted said p) | false ↦ goes_with handed more r pattern p ]).passed) [
          | true ↦ here
          | false ↦ there
        ]

pub all-kept :
    (handed : Handed) (tree : Tree) (pattern : Pattern) (p : Progress) → IsKept p.table →
    AllByRecursion (λ (q : Progress). IsKept q.table) (run_with handed tree pattern p).passed
all-kept = all-run IsKept IsKept-exits IsKept-step

---- Nobody touches somebody else's processes

abbrev pub strangers : List Process → List Process
strangers rows = filter is_foreign rows

-- what is somebody else's of what a row becomes
abbrev stranger : Option Process → List Process
stranger None = []
stranger (Some (Foreign n hs)) = Foreign n hs ∷ []
stranger (Some (Master n q i live hs)) = []
stranger (Some (Worker n q g k s hs)) = []

abbrev Passes : (Process → Option Process) → Type 0
Passes f = (p : Process) → stranger (f p) ≡ stranger (Some p)

strangers-cons : (o : Option Process) (ps : List Process) → strangers (cons_option o ps) ≡ stranger o ++ strangers ps
strangers-cons None ps = refl
strangers-cons (Some (Foreign n hs)) ps = refl
strangers-cons (Some (Master n q i live hs)) ps = refl
strangers-cons (Some (Worker n q g k s hs)) ps = refl

strangers-each : (f : Process → Option Process) → Passes f → (rows : List Process) → strangers (filter_map f rows) ≡ strangers rows
strangers-each f same [] = refl
strangers-each f same (p ∷ rows) =
    strangers-cons (f p) (filter_map f rows) ∙ (λ i. same p i ++ strangers-each f same rows i) ∙ sym (strangers-cons (Some p) rows)

abbrev Knows : (Process → Bool) → Type 0
Knows test = (n : ℕ) (hs : List Hold) → test (Foreign n hs) ≡ false

-- changed, a row stays what it is
abbrev StaysOwn : (Process → Process) → Type 0
StaysOwn g =
    ((n q i : ℕ) (live : Bool) (hs : List Hold) → stranger (Some (g (Master n q i live hs))) ≡ [])
    × ((n q : ℕ) (h : Generation) (k : ℕ) (s : Stance) (hs : List Hold) → stranger (Some (g (Worker n q h k s hs))) ≡ [])

passes-change : (test : Process → Bool) (g : Process → Process) → Knows test → StaysOwn g → Passes (change test g)
passes-change test g off own (Foreign n hs) = rw (off n hs) refl
passes-change test g off own (Master n q i live hs) = go (test (Master n q i live hs))
  where
    go : (b : Bool) → stranger (Some (if b then g (Master n q i live hs) else Master n q i live hs)) ≡ []
    go true = own.0 n q i live hs
    go false = refl
passes-change test g off own (Worker n q h k s hs) = go (test (Worker n q h k s hs))
  where
    go : (b : Bool) → stranger (Some (if b then g (Worker n q h k s hs) else Worker n q h k s hs)) ≡ []
    go true = own.1 n q h k s hs
    go false = refl

passes-drop : (test : Process → Bool) → Knows test → Passes (drop_where test)
passes-drop test off (Foreign n hs) = rw (off n hs) refl
passes-drop test off (Master n q i live hs) = go (test (Master n q i live hs))
  where
    go : (b : Bool) → stranger (if b then None else Some (Master n q i live hs)) ≡ []
    go true = refl
    go false = refl
passes-drop test off (Worker n q h k s hs) = go (test (Worker n q h k s hs))
  where
    go : (b : Bool) → stranger (if b then None else Some (Worker n q h k s hs)) ≡ []
    go true = refl
    go false = refl

passes-without : (gone : ℕ) (lives : ℕ → Bool) → Passes (without_exited gone lives)
passes-without gone lives (Foreign n hs) = refl
passes-without gone lives (Master n q i live hs) = go (n == gone) (lives q)
  where
    go : (b l : Bool) → stranger (if b then then_some l (Master n q i false []) else Some (Master n (if q == gone then 1 else q) i live hs)) ≡ []
    go true true = refl
    go true false = refl
    go false l = refl
passes-without gone lives (Worker n q g k s hs) = go (q == gone)
  where
    go : (b : Bool) → stranger (if b then None else Some (Worker n q g k s hs)) ≡ []
    go true = refl
    go false = refl

own-stance : (s : Stance) → StaysOwn (λ p. with_stance s p)
own-stance s = ((λ n q i live hs. refl), (λ n q h k z hs. refl))

own-holds : (f : List Hold → List Hold) → StaysOwn (with_holds f)
own-holds f = ((λ n q i live hs. refl), (λ n q h k s hs. refl))

first-passes : (test : Process → Bool) (g : Process → Process) → Knows test → StaysOwn g → (rows : List Process) → strangers (first_changed test g rows) ≡ strangers rows
first-passes test g off own [] = refl
first-passes test g off own (p ∷ rows) = go (test p) refl (first-passes test g off own rows)
  where
    go : (b : Bool) → test p ≡ b → strangers (first_changed test g rows) ≡ strangers rows → strangers (if b then g p ∷ rows else p ∷ first_changed test g rows) ≡ strangers (p ∷ rows)
    go true on ih =
        strangers-cons (Some (g p)) rows ∙ ap (λ l. l ++ strangers rows) (ap (λ b. stranger (Some (if b then g p else p))) (sym on) ∙ passes-change test g off own p)
        ∙ sym (strangers-cons (Some p) rows)
    go false on ih = strangers-cons (Some p) (first_changed test g rows) ∙ ap (λ l. stranger (Some p) ++ l) ih ∙ sym (strangers-cons (Some p) rows)

exits-master : (c : Option Caller) (rows : List Process) → strangers (caller_exits c rows) ≡ strangers rows
exits-master None rows = refl
exits-master (Some c) rows = strangers-each (without_exited c.number (λ q. list_any (is_live_master q) rows)) (passes-without c.number _) rows

exits-one : (e : Name) (rows : List Process) → strangers (exited e rows) ≡ strangers rows
exits-one (name.Worker g k) rows = strangers-each (change (is_named is_active g k) made_exited) (passes-change (is_named is_active g k) made_exited (λ n hs. refl) (own-stance Exited)) rows
exits-one (name.Draining g k) rows = first-passes (is_named is_draining g k) made_exited (λ n hs. refl) (own-stance Exited) rows
exits-one (name.Master image) rows = exits-master (live_master image rows) rows

exits-all : (es : List Name) (rows : List Process) → strangers (all_exited es rows) ≡ strangers rows
exits-all [] rows = refl
exits-all (e ∷ es) rows = exits-all es (exited e rows) ∙ exits-one e rows

-- a new row of a master or a worker
append-own : (rows : List Process) (p : Process) → is_foreign p ≡ false → strangers (rows ++ p ∷ []) ≡ strangers rows
append-own [] p off = rw off refl
append-own (x ∷ rows) p off =
    strangers-cons (Some x) (rows ++ p ∷ []) ∙ ap (λ l. stranger (Some x) ++ l) (append-own rows p off) ∙ sym (strangers-cons (Some x) rows)

module _ (rows0 : List Process) where
  -- somebody else's processes are these
  abbrev AreThose : Table → Type 0
  AreThose t = strangers t.rows ≡ rows0

  abbrev Those : Stepped → Type 0
  Those s = AreThose s.table

  each-those : (f : Process → Option Process) (t : Table) → Passes f → AreThose t → strangers (filter_map f t.rows) ≡ rows0
  each-those f t same h = strangers-each f same t.rows ∙ h

  alive-those : (found : Option Caller) (i : ℕ) (t : Table) → AreThose t → Those (asked_alive found i t)
  alive-those (Some c) i t h = h
  alive-those None i t h = each-those (drop_where (is_image i)) t (passes-drop (is_image i) (λ n hs. refl)) h

  move-those : (owner : Option ℕ) (from to : FilePath) (t : Table) → AreThose t → Those (moved_if owner from to t)
  move-those None from to t h = h
  move-those (Some owner) from to t h = h

  drop-those : (test : Process → Bool) (t : Table) → Knows test → AreThose t → strangers (filter_map (drop_where test) t.rows) ≡ rows0
  drop-those test t off h = each-those (drop_where test) t (passes-drop test off) h

  own-those : (handed : Handed) (image : ℕ) (c : Caller) (call : Call) (t : Table) → AreThose t → Those (own_step handed image c call t)
  own-those handed image c (OpenAt a) t h =
      pick Those (is_held a t.rows) _ _ (λ e. h)
      (λ e. pick Those (nat_lt (length c.holds) t.limits.descriptors) _ _
      (λ f. each-those (change (is_row c.number) (with_holds (put_hold (record { fd = lowest_free c.holds; socket = t.next_socket; address = a })))) t
      (passes-change (is_row c.number) (with_holds (put_hold (record { fd = lowest_free c.holds; socket = t.next_socket; address = a }))) (λ n hs. refl) (own-holds (put_hold (record { fd = lowest_free c.holds; socket = t.next_socket; address = a })))) h) (λ f. h))
  own-those handed image c (CloseAt a) t h =
      each-those (change (is_of c.number) (with_holds (lacks_address a))) t (passes-change (is_of c.number) (with_holds (lacks_address a)) (λ n hs. refl) (own-holds (lacks_address a))) h
  own-those handed image c (Fork g k fds) t h =
      pick Those (list_any (is_worker is_active c.number g k) t.rows) _ _ (λ e. h)
      (λ e. pick Those (has_process_room t) _ _ (λ f. append-own t.rows (Worker t.next_process c.number g k Starting (shared fds c.holds)) refl ∙ h) (λ f. h))
  own-those handed image c (AwaitReady g k) t h =
      pick Those (list_any (is_worker is_active c.number g k) t.rows) _ _
      (λ e. each-those (change (is_worker is_starting c.number g k) made_ready) t (passes-change (is_worker is_starting c.number g k) made_ready (λ n hs. refl) (own-stance Ready)) h)
      (λ e. drop-those (is_worker is_exited c.number g k) t (λ n hs. refl) h)
  own-those handed image c (Quit g k) t h =
      each-those (change (is_worker is_active c.number g k) made_draining) t (passes-change (is_worker is_active c.number g k) made_draining (λ n hs. refl) (own-stance Draining)) h
  own-those handed image c (Kill g k) t h = drop-those (is_worker is_any c.number g k) t (λ n hs. refl) h
  own-those handed image c (Census g) t h = drop-those (is_exited_of c.number) t (λ n hs. refl) h
  own-those handed image c (AwaitGone g k) t h =
      pick Those (list_any (is_worker is_active c.number g k) t.rows) _ _ (λ e. h) (λ e. drop-those (is_worker is_any c.number g k) t (λ n hs. refl) h)
  own-those handed image c (SpawnMaster i) t h =
      pick Those (list_any (is_image i) t.rows) _ _ (λ e. h)
      (λ e. pick Those (has_process_room t) _ _ (λ f. append-own t.rows (Master t.next_process c.number i true c.holds) refl ∙ h) (λ f. h))
  own-those handed image c Adopt t h = pick Those (suits handed image c.holds) _ _ (λ e. h) (λ e. h)
  own-those handed image c (WritePid path) t h = h
  own-those handed image c (MovePid from to) t h = move-those (owner_at from t.files) from to t h
  own-those handed image c (RemovePid path) t h = h
  own-those handed image c (Alive i) t h = alive-those (live_master i t.rows) i t h
  own-those handed image c Leave t h = each-those (without_master c.number) t (passes-without c.number (λ parent. false)) h
  own-those handed image c (TermMaster i) t h = drop-those (is_of_image i t.rows) t (λ n hs. refl) h
  own-those handed image c (Usr1 g k) t h = h
  own-those handed image c (Ask n) t h = h

  fault-those : (a : Option Answer) (handed : Handed) (image : ℕ) (c : Caller) (call : Call) (t : Table) → AreThose t → Those (fault_or_own a handed image c call t)
  fault-those None handed image c call t h = own-those handed image c call t h
  fault-those (Some a) handed image c call t h = h

  by-those : (handed : Handed) (image : ℕ) (c : Option Caller) (call : Call) (f : Option Fate) (t : Table) → AreThose t → Those (step_by handed image c call f t)
  by-those handed image None call f t h = h
  by-those handed image (Some c) call f t h = fault-those (fault_at c call f t) handed image c call t h

  -- Nobody touches them, in any run.
  pub all-those :
      (handed : Handed) (tree : Tree) (pattern : Pattern) (p : Progress) → AreThose p.table →
      AllByRecursion (λ (q : Progress). AreThose q.table) (run_with handed tree pattern p).passed
  all-those =
      all-run AreThose (λ es t h. exits-all es t.rows ∙ h)
      (λ handed image call f t h. by-those handed image (live_master image t.rows) call f t h)

-- the sockets that they keep are theirs
pub kept-by : (a : Address) (rows : List Process) → kept_socket a (strangers rows) ≡ kept_socket a rows
kept-by a [] = refl
kept-by a (Foreign n hs ∷ rows) = ap (λ o. option_or o (socket_in a hs)) (kept-by a rows)
kept-by a (Master n q i live hs ∷ rows) = kept-by a rows
kept-by a (Worker n q g k s hs ∷ rows) = kept-by a rows
