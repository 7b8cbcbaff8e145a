-- Row by row, for each call.
use Rattle.std.proofs.Common.{◌≡◌, ℕ, ◌+◌, Bool, true, false, List, [], ◌∷◌, ◌++◌, Option, Some, None, refl, sym}
use Rattle.std.proofs.Common.{◌∙◌, subst}
use Rattle.std.proofs.Common.{option_map, unwrap_or, nat_lt, length, is_some}
use Rattle.std.specs.Prelude.{◌&&◌, ◌||◌, ◌==◌, if◌then◌else◌}
use Rattle.std.specs.List.{list_any, filter_map, cons_option}
use Rattle.listener_set.specs.declared.generation.Generation.{Generation}
use Rattle.vocabulary.specs.declared.table.Stance.{Stance}
use Rattle.vocabulary.specs.declared.table.Stance.TheVariants.{Starting, Ready, Draining, Exited}
use Rattle.vocabulary.specs.declared.calls.Answer.{Answer}
use Rattle.vocabulary.specs.declared.calls.Answer.TheVariants as answer
use Rattle.vocabulary.specs.declared.calls.Fate.{Fate}
use Rattle.definitions.specs.Table.{Hold, Process, Master, Worker, Foreign, Table, Caller, same_stance, bears}
use Rattle.definitions.specs.Table.{same_generation, is_worker}
use Rattle.definitions.specs.Table.{is_worker_where, is_active, is_held, owner_at, live_master}
use Rattle.definitions.specs.Calls.{Call, OpenAt, CloseAt, Fork, AwaitReady, Quit, Kill, Census, AwaitGone, SpawnMaster}
use Rattle.definitions.specs.Calls.{Adopt, WritePid}
use Rattle.definitions.specs.Calls.{MovePid, RemovePid, Alive, Leave, Usr1, TermMaster, Ask, Handed, Stepped, gives}
use Rattle.definitions.specs.Calls.{own_step, step_by, step_with}
use Rattle.definitions.specs.Calls.{change, drop_where, with_holds, has_process_room, is_image, suits, with_file}
use Rattle.definitions.specs.Calls.{without_file, is_exited_of}
use Rattle.definitions.specs.Run.{Tree, Branches, Ends, Does, Nothing, Branch, Reply, Pattern, Progress, Ran, run_with}
use Rattle.definitions.specs.Run.{goes_with, call_of}
use Rattle.definitions.specs.Run.{lacked_by, after_moment, after_call, reply_of, start_at}
use Rattle.definitions.specs.Master.{handover_for}
use Rattle.definitions.specs.Plans.{plan_tree}
use Rattle.definitions.specs.Calls.{put_hold, lowest_free, is_of}
use Rattle.call_laws.specs.Pieces.{is_row, lacks_address, answered, noted, among, is_starting, is_exited, is_any}
use Rattle.call_laws.specs.Pieces.{made_ready, made_draining}
use Rattle.call_laws.proofs.Choices.{pick, and-left, and-right}
use Rattle.table_laws.proofs.Rows.{or-left, or-right}
use Rattle.table_laws.proofs.Effects.{bears-is, bears-refl}
use Rattle.further_theorems.specs.Named.{is_at, takes_ready, takes_draining, Leaves, TakesByName, Next, TakeByName}
use Rattle.further_theorems.specs.Named.{WorkersEndByName}

abbrev pub Test : Type 0
Test = Process → Bool

-- the test of a stance, a process and a name
abbrev pub at : Stance → ℕ → Generation → ℕ → Test
at stance p g k = is_worker_where (same_stance stance) (λ n. n == p) (bears g k)

---- All rows

pub any-change : (T : Test) (f : Process → Process) (test : Test) → ((p : Process) → test p ≡ true → test
    (if T p then f p else p) ≡ true) →
    (rows : List Process) → list_any test rows ≡ true → list_any test (filter_map (change T f) rows) ≡ true
any-change T f test h [] e = absurd (cc)
any-change T f test h (p ∷ ps) e = go (test p) refl e (any-change T f test h ps)
  where
    go :
        (b : Bool) → test p ≡ b → (b || list_any test ps) ≡ true → (list_any test ps ≡ true → list_any test (filter_map
        (change T f) ps) ≡ true) →
        (test (if T p then f p else p) || list_any test (filter_map (change T f) ps)) ≡ true
    go true is e ih = or-left _ _ (h p is)
    go false is e ih = or-right (test (if T p then f p else p)) _ (ih e)

pub any-drop : (T test : Test) → ((p : Process) → test p ≡ true → T p ≡ false) → (rows : List Process) →
    list_any test rows ≡ true →
    list_any test (filter_map (drop_where T) rows) ≡ true
any-drop T test h [] e = absurd (cc)
any-drop T test h (p ∷ ps) e = go (test p) refl (T p) refl e (any-drop T test h ps)
  where
    go :
        (b : Bool) → test p ≡ b → (d : Bool) → T p ≡ d → (b || list_any test ps) ≡ true →
        (list_any test ps ≡ true → list_any test (filter_map (drop_where T) ps) ≡ true) →
        list_any test (cons_option (if d then None else Some p) (filter_map (drop_where T) ps)) ≡ true
    go true is true out e ih = absurd (let k = h p is in cc)
    go true is false out e ih = or-left (test p) _ is
    go false is true out e ih = ih e
    go false is false out e ih = or-right (test p) _ (ih e)

-- where a row that is both would pass a test that none passes
any-guarded : (T test act : Test) → ((p : Process) → test p ≡ true → T p ≡ true → act p ≡ true) →
    (rows : List Process) →
    list_any act rows ≡ false → list_any test rows ≡ true → list_any test (filter_map (drop_where T) rows) ≡ true
any-guarded T test act h [] none e = absurd (cc)
any-guarded T test act h (p ∷ ps) none e = go (test p) refl (T p) refl (act p) refl none e (any-guarded T test act h ps)
  where
    go :
        (b : Bool) → test p ≡ b → (d : Bool) → T p ≡ d → (a : Bool) → act p ≡ a → (a || list_any act ps) ≡ false →
        (b || list_any test ps) ≡ true →
        (list_any act ps ≡ false → list_any test ps ≡ true → list_any test (filter_map (drop_where T) ps) ≡ true) →
        list_any test (cons_option (if d then None else Some p) (filter_map (drop_where T) ps)) ≡ true
    go b is d out true on none e ih = absurd (cc)
    go true is true out false on none e ih = absurd (let k = h p is out in cc)
    go true is false out false on none e ih = or-left (test p) _ is
    go false is true out false on none e ih = ih none e
    go false is false out false on none e ih = or-right (test p) _ (ih none e)

pub any-more : (test : Test) (rows : List Process) (q : Process) → list_any test rows ≡ true → list_any test
    (rows ++ q ∷ []) ≡ true
any-more test [] q e = absurd (cc)
any-more test (p ∷ ps) q e = go (test p) e (any-more test ps q)
  where
    go : (b : Bool) → (b || list_any test ps) ≡ true → (list_any test ps ≡ true → list_any test
        (ps ++ q ∷ []) ≡ true) → (b || list_any test (ps ++ q ∷ [])) ≡ true
    go true e ih = refl
    go false e ih = ih e

---- One row

choose : (test : Test) (b : Bool) (x y : Process) → (b ≡ true → test x ≡ true) → test y ≡ true → test
    (if b then x else y) ≡ true
choose test true x y h k = h refl
choose test false x y h k = k

pub any-changed : (T : Test) (f : Process → Process) (test : Test) → ((p : Process) → test p ≡ true → test (f p) ≡ true) →
    (rows : List Process) →
    list_any test rows ≡ true → list_any test (filter_map (change T f) rows) ≡ true
any-changed T f test h rows e = any-change T f test (λ p x. choose test (T p) (f p) p (λ b. h p x) x) rows e

held-at : (f : List Hold → List Hold) (st : Stance) (p : ℕ) (g : Generation) (k : ℕ) (row : Process) →
    at st p g k row ≡ true → at st p g k (with_holds f row) ≡ true
held-at f st p g k (Master n q i live hs) e = e
held-at f st p g k (Worker n q h j s hs) e = e
held-at f st p g k (Foreign n hs) e = e

-- another name
apart : (c : ℕ) (st : Stance → Bool) (stance : Stance) (p : ℕ) (g : Generation) (k : ℕ) (h : Generation) (j : ℕ)
    (row : Process) →
    bears g k h j ≡ false → at stance p g k row ≡ true → is_worker st c h j row ≡ false
apart c st stance p g k h j (Master n q i live hs) off e = refl
apart c st stance p g k h j (Foreign n hs) off e = refl
apart c st stance p g k h j (Worker n q x y s hs) off e = go (bears h j x y) refl
  where
    never : (a b : Bool) → (a && (b && false)) ≡ false
    never true true = refl
    never true false = refl
    never false b = refl

    go : (b : Bool) → bears h j x y ≡ b → (st s && ((q == c) && b)) ≡ false
    go true on =
        let mine = bears-is g k x y (and-right (n == p) _ (and-right (same_stance stance s) _ e)) in
        let its = bears-is h j x y on in
        absurd (let same : bears g k h j ≡ true = subst (λ z. bears g k z j ≡ true) (sym mine.0 ∙ its.0) (subst
        (λ z. bears g k g z ≡ true) (sym mine.1 ∙ its.1) (bears-refl g k)) in cc)
    go false on = never (st s) (q == c)

exited-apart : (m : ℕ) (stance : Stance) (p : ℕ) (g : Generation) (k : ℕ) (row : Process) →
    same_stance stance Exited ≡ false → at stance p g k row ≡ true → is_exited_of m row ≡ false
exited-apart m stance p g k (Master n q i live hs) other e = refl
exited-apart m stance p g k (Foreign n hs) other e = refl
exited-apart m stance p g k (Worker n q x y Starting hs) other e = refl
exited-apart m stance p g k (Worker n q x y Ready hs) other e = refl
exited-apart m stance p g k (Worker n q x y Draining hs) other e = refl
exited-apart m stance p g k (Worker n q x y Exited hs) other e = absurd (let on = and-left
    (same_stance stance Exited) _ e in cc)

name-exited-apart : (c : ℕ) (h : Generation) (j : ℕ) (stance : Stance) (p : ℕ) (g : Generation) (k : ℕ)
    (row : Process) → same_stance stance Exited ≡ false → at stance p g k row ≡ true →
    is_worker is_exited c h j row ≡ false
name-exited-apart c h j stance p g k (Master n q i live hs) other e = refl
name-exited-apart c h j stance p g k (Foreign n hs) other e = refl
name-exited-apart c h j stance p g k (Worker n q x y Starting hs) other e = refl
name-exited-apart c h j stance p g k (Worker n q x y Ready hs) other e = refl
name-exited-apart c h j stance p g k (Worker n q x y Draining hs) other e = refl
name-exited-apart c h j stance p g k (Worker n q x y Exited hs) other e = absurd (let on = and-left
    (same_stance stance Exited) _ e in cc)

image-apart : (i : ℕ) (stance : Stance) (p : ℕ) (g : Generation) (k : ℕ) (row : Process) → at stance p g k row ≡ true →
    is_image i row ≡ false
image-apart i stance p g k (Master n q j live hs) e = absurd (cc)
image-apart i stance p g k (Worker n q x y s hs) e = refl
image-apart i stance p g k (Foreign n hs) e = refl

ready-ready : (p : ℕ) (g : Generation) (k : ℕ) (row : Process) → at Ready p g k row ≡ true → at Ready p g k
    (made_ready row) ≡ true
ready-ready p g k (Master n q i live hs) e = e
ready-ready p g k (Worker n q x y Starting hs) e = absurd (cc)
ready-ready p g k (Worker n q x y Ready hs) e = e
ready-ready p g k (Worker n q x y Draining hs) e = absurd (cc)
ready-ready p g k (Worker n q x y Exited hs) e = absurd (cc)
ready-ready p g k (Foreign n hs) e = e

draining-ready : (c : ℕ) (h : Generation) (j p : ℕ) (g : Generation) (k : ℕ) (row : Process) →
    at Draining p g k row ≡ true → at Draining p g k
    (if is_worker is_starting c h j row then made_ready row else row) ≡ true
draining-ready c h j p g k (Master n q i live hs) e = absurd (cc)
draining-ready c h j p g k (Worker n q x y Starting hs) e = absurd (cc)
draining-ready c h j p g k (Worker n q x y Ready hs) e = absurd (cc)
draining-ready c h j p g k (Worker n q x y Draining hs) e = e
draining-ready c h j p g k (Worker n q x y Exited hs) e = absurd (cc)
draining-ready c h j p g k (Foreign n hs) e = absurd (cc)

draining-drains : (p : ℕ) (g : Generation) (k : ℕ) (row : Process) → at Draining p g k row ≡ true → at Draining p g k
    (made_draining row) ≡ true
draining-drains p g k (Master n q i live hs) e = e
draining-drains p g k (Worker n q x y Starting hs) e = absurd (cc)
draining-drains p g k (Worker n q x y Ready hs) e = absurd (cc)
draining-drains p g k (Worker n q x y Draining hs) e = e
draining-drains p g k (Worker n q x y Exited hs) e = absurd (cc)
draining-drains p g k (Foreign n hs) e = e

-- a Ready worker that is awaited as gone is active
ready-active : (c : ℕ) (h : Generation) (j p : ℕ) (g : Generation) (k : ℕ) (row : Process) →
    at Ready p g k row ≡ true → is_worker is_any c h j row ≡ true → is_worker is_active c h j row ≡ true
ready-active c h j p g k (Master n q i live hs) e f = f
ready-active c h j p g k (Worker n q x y Starting hs) e f = absurd (cc)
ready-active c h j p g k (Worker n q x y Ready hs) e f = f
ready-active c h j p g k (Worker n q x y Draining hs) e f = absurd (cc)
ready-active c h j p g k (Worker n q x y Exited hs) e f = absurd (cc)
ready-active c h j p g k (Foreign n hs) e f = f

---- Each call

unchanged : (t : Table) (files : List Rattle.definitions.specs.Table.File) (stance : Stance) (takes : Generation → ℕ →
    Call → Bool) (call : Call) → Leaves stance takes call t (record t { files = files })
unchanged t files stance takes call p g k on off = on

module _ (handed : Handed) (image : ℕ) (c : Caller) (t : Table) where
  abbrev R : Call → Stepped → Type 0
  R call st = Leaves Ready takes_ready call t st.table

  abbrev D : Call → Stepped → Type 0
  D call st = Leaves Draining takes_draining call t st.table

  own-ready : (call : Call) → R call (own_step handed image c call t)
  own-ready (OpenAt a) p g k on off =
      pick (λ (st : Stepped). is_at Ready p g k st.table ≡ true) (is_held a t.rows) _ _ (λ e. on)
      (λ e. pick (λ (st : Stepped). is_at Ready p g k st.table ≡ true) (nat_lt
      (length c.holds) t.limits.descriptors) _ _
      (λ e. any-changed (is_row c.number) (with_holds (put_hold (record {
        fd = lowest_free c.holds;
        socket = t.next_socket;
        address = a;
      }))) (at Ready p g k)
      (λ row x. held-at (put_hold (record {
        fd = lowest_free c.holds;
        socket = t.next_socket;
        address = a;
      })) Ready p g k row x) t.rows on) (λ e. on))
  own-ready (CloseAt a) p g k on off = any-changed (is_of c.number) (with_holds (lacks_address a)) (at Ready p g k)
      (λ row x. held-at (lacks_address a) Ready p g k row x) t.rows on
  own-ready (Fork h j fds) p g k on off =
      pick (λ (st : Stepped). is_at Ready p g k st.table ≡ true) (list_any
      (is_worker is_active c.number h j) t.rows) _ _ (λ e. on)
      (λ e. pick (λ (st : Stepped). is_at Ready p g k st.table ≡ true) (has_process_room t) _ _ (λ e. any-more
      (at Ready p g k) t.rows _ on) (λ e. on))
  own-ready (AwaitReady h j) p g k on off =
      pick (λ (st : Stepped). is_at Ready p g k st.table ≡ true) (list_any
      (is_worker is_active c.number h j) t.rows) _ _
      (λ e. any-changed (is_worker is_starting c.number h j) made_ready (at Ready p g k)
      (λ row x. ready-ready p g k row x) t.rows on)
      (λ e. any-drop (is_worker is_exited c.number h j) (at Ready p g k)
      (λ row x. name-exited-apart c.number h j Ready p g k row refl x) t.rows on)
  own-ready (Quit h j) p g k on off =
      any-change (is_worker is_active c.number h j) made_draining (at Ready p g k)
      (λ row x. choose (at Ready p g k) (is_worker is_active c.number h j row) (made_draining row) row
      (λ b. absurd (let no = apart c.number is_active Ready p g k h j row off x in cc)) x) t.rows on
  own-ready (Kill h j) p g k on off = any-drop (is_worker is_any c.number h j) (at Ready p g k)
      (λ row x. apart c.number is_any Ready p g k h j row off x) t.rows on
  own-ready (Census h) p g k on off = any-drop (is_exited_of c.number) (at Ready p g k)
      (λ row x. exited-apart c.number Ready p g k row refl x) t.rows on
  own-ready (AwaitGone h j) p g k on off =
      pick (λ (st : Stepped). is_at Ready p g k st.table ≡ true) (list_any
      (is_worker is_active c.number h j) t.rows) _ _ (λ e. on)
      (λ e. any-guarded (is_worker is_any c.number h j) (at Ready p g k) (is_worker is_active c.number h j)
      (λ row x y. ready-active c.number h j p g k row x y) t.rows e on)
  own-ready (SpawnMaster i) p g k on off =
      pick (λ (st : Stepped). is_at Ready p g k st.table ≡ true) (list_any (is_image i) t.rows) _ _ (λ e. on)
      (λ e. pick (λ (st : Stepped). is_at Ready p g k st.table ≡ true) (has_process_room t) _ _ (λ e. any-more
      (at Ready p g k) t.rows _ on) (λ e. on))
  own-ready Adopt p g k on off = pick (λ (st : Stepped). is_at Ready p g k st.table ≡ true)
      (suits handed image c.holds) _ _ (λ e. on) (λ e. on)
  own-ready (WritePid path) p g k on off = on
  own-ready (MovePid from to) p g k on off = go (owner_at from t.files)
    where
      go : (o : Option ℕ) → is_at Ready p g k (unwrap_or (option_map (λ (n : ℕ). gives answer.Fine
          (record t { files = with_file to n (without_file from t.files) })) o) (gives answer.IoFault t)).table ≡ true
      go None = on
      go (Some n) = on
  own-ready (RemovePid path) p g k on off = on
  own-ready (Alive i) p g k on off =
      pick (λ (st : Stepped). is_at Ready p g k st.table ≡ true) (is_some (live_master i t.rows)) _ _ (λ e. on)
      (λ e. any-drop (is_image i) (at Ready p g k) (λ row x. image-apart i Ready p g k row x) t.rows on)
  own-ready Leave p g k on off = absurd (cc)
  own-ready (Usr1 h j) p g k on off = on
  own-ready (TermMaster i) p g k on off = absurd (cc)
  own-ready (Ask n) p g k on off = on

  own-draining : (call : Call) → D call (own_step handed image c call t)
  own-draining (OpenAt a) p g k on off =
      pick (λ (st : Stepped). is_at Draining p g k st.table ≡ true) (is_held a t.rows) _ _ (λ e. on)
      (λ e. pick (λ (st : Stepped). is_at Draining p g k st.table ≡ true) (nat_lt
      (length c.holds) t.limits.descriptors) _ _
      (λ e. any-changed (is_row c.number) (with_holds (put_hold (record {
        fd = lowest_free c.holds;
        socket = t.next_socket;
        address = a;
      }))) (at Draining p g k)
      (λ row x. held-at (put_hold (record {
        fd = lowest_free c.holds;
        socket = t.next_socket;
        address = a;
      })) Draining p g k row x) t.rows on) (λ e. on))
  own-draining (CloseAt a) p g k on off = any-changed (is_of c.number) (with_holds (lacks_address a))
      (at Draining p g k) (λ row x. held-at (lacks_address a) Draining p g k row x) t.rows on
  own-draining (Fork h j fds) p g k on off =
      pick (λ (st : Stepped). is_at Draining p g k st.table ≡ true) (list_any
      (is_worker is_active c.number h j) t.rows) _ _ (λ e. on)
      (λ e. pick (λ (st : Stepped). is_at Draining p g k st.table ≡ true) (has_process_room t) _ _ (λ e. any-more
      (at Draining p g k) t.rows _ on) (λ e. on))
  own-draining (AwaitReady h j) p g k on off =
      pick (λ (st : Stepped). is_at Draining p g k st.table ≡ true) (list_any
      (is_worker is_active c.number h j) t.rows) _ _
      (λ e. any-change (is_worker is_starting c.number h j) made_ready (at Draining p g k)
      (λ row x. draining-ready c.number h j p g k row x) t.rows on)
      (λ e. any-drop (is_worker is_exited c.number h j) (at Draining p g k)
      (λ row x. name-exited-apart c.number h j Draining p g k row refl x) t.rows on)
  own-draining (Quit h j) p g k on off =
      any-changed (is_worker is_active c.number h j) made_draining (at Draining p g k)
      (λ row x. draining-drains p g k row x) t.rows on
  own-draining (Kill h j) p g k on off = any-drop (is_worker is_any c.number h j) (at Draining p g k)
      (λ row x. apart c.number is_any Draining p g k h j row off x) t.rows on
  own-draining (Census h) p g k on off = any-drop (is_exited_of c.number) (at Draining p g k)
      (λ row x. exited-apart c.number Draining p g k row refl x) t.rows on
  own-draining (AwaitGone h j) p g k on off =
      pick (λ (st : Stepped). is_at Draining p g k st.table ≡ true) (list_any
      (is_worker is_active c.number h j) t.rows) _ _ (λ e. on)
      (λ e. any-drop (is_worker is_any c.number h j) (at Draining p g k)
      (λ row x. apart c.number is_any Draining p g k h j row off x) t.rows on)
  own-draining (SpawnMaster i) p g k on off =
      pick (λ (st : Stepped). is_at Draining p g k st.table ≡ true) (list_any (is_image i) t.rows) _ _ (λ e. on)
      (λ e. pick (λ (st : Stepped). is_at Draining p g k st.table ≡ true) (has_process_room t) _ _ (λ e. any-more
      (at Draining p g k) t.rows _ on) (λ e. on))
  own-draining Adopt p g k on off = pick (λ (st : Stepped). is_at Draining p g k st.table ≡ true)
      (suits handed image c.holds) _ _ (λ e. on) (λ e. on)
  own-draining (WritePid path) p g k on off = on
  own-draining (MovePid from to) p g k on off = go (owner_at from t.files)
    where
      go : (o : Option ℕ) → is_at Draining p g k (unwrap_or (option_map (λ (n : ℕ). gives answer.Fine
          (record t { files = with_file to n (without_file from t.files) })) o) (gives answer.IoFault t)).table ≡ true
      go None = on
      go (Some n) = on
  own-draining (RemovePid path) p g k on off = on
  own-draining (Alive i) p g k on off =
      pick (λ (st : Stepped). is_at Draining p g k st.table ≡ true) (is_some (live_master i t.rows)) _ _ (λ e. on)
      (λ e. any-drop (is_image i) (at Draining p g k) (λ row x. image-apart i Draining p g k row x) t.rows on)
  own-draining Leave p g k on off = absurd (cc)
  own-draining (Usr1 h j) p g k on off = on
  own-draining (TermMaster i) p g k on off = absurd (cc)
  own-draining (Ask n) p g k on off = on

same : (call : Call) (t : Table) → TakesByName call t t
same call t = ((λ p g k on off. on), (λ p g k on off. on))

pub by-name : (handed : Handed) (image : ℕ) (call : Call) (fate : Option Fate) (t : Table) → TakesByName call t
    (step_with handed image call fate t).table
by-name handed image call fate t = go (live_master image t.rows)
  where
    or-own : (c : Caller) (f : Option Answer) → TakesByName call t (unwrap_or (option_map (λ a. gives a t) f)
        (own_step handed image c call t)).table
    or-own c None = (own-ready handed image c t call, own-draining handed image c t call)
    or-own c (Some a) = same call t

    go : (o : Option Caller) → TakesByName call t (step_by handed image o call fate t).table
    go None = same call t
    go (Some c) = or-own c _

---- Along a run

module _ (handed : Handed) (pattern : Pattern) where
  mutual
    head-tree : (P : Table → Type 0) (tree : Tree) (p : Progress) → P p.table → Next (λ b. P b.table)
        (run_with handed tree pattern p).passed
    head-tree P (Ends e) p h = h
    head-tree P (Does by order set bs) p h = h

    pub head-behind : (P : Table → Type 0) (bs : Branches) (r : Reply) (p : Progress) → P p.table → Next (λ b. P b.table)
        (goes_with handed bs r pattern p).passed
    head-behind P Nothing r p h = h
    head-behind P (Branch replies said rest more) r p h =
        elim (among replies r) as (λ b. Next (λ b. P b.table) (elim b as
        (λ c. Ran) [
          | true ↦ run_with handed rest pattern
              (noted said p)
          | false ↦ goes_with handed more r pattern p
        ]).passed) [
          | true ↦ head-tree P rest (noted said p) h
          | false ↦ head-behind P more r p h
        ]

  mutual
    named-tree : (tree : Tree) (p : Progress) → TakeByName (run_with handed tree pattern p).entries
        (run_with handed tree pattern p).passed
    named-tree (Ends e) p = tt
    named-tree (Does by order set bs) p =
        let moment = pattern (p.calls + 1) in
        let middle = after_moment moment.exits p in
        let call = call_of order (lacked_by by middle.lacked) in
        let s = answered handed by order moment.fate middle in
        let next = after_call by order set s middle in (
          head-behind (λ t. TakesByName call middle.table t) bs (reply_of set s.answer) next
              (by-name handed by call moment.fate middle.table),
          named-behind bs (reply_of set s.answer) next,
        )

    named-behind : (bs : Branches) (r : Reply) (p : Progress) → TakeByName (goes_with handed bs r pattern p).entries
        (goes_with handed bs r pattern p).passed
    named-behind Nothing r p = tt
    named-behind (Branch replies said rest more) r p =
        elim (among replies r) as
        (λ b. let ran : Ran = elim b as (λ c. Ran) [
          | true ↦ run_with handed rest pattern
              (noted said p)
          | false ↦ goes_with handed more r pattern p
        ] in TakeByName ran.entries ran.passed) [
          | true ↦ named-tree rest (noted said p)
          | false ↦ named-behind more r p
        ]

pub workers-end-by-name : WorkersEndByName
workers-end-by-name t r target turns pattern = named-tree (handover_for r target) pattern (plan_tree r target turns)
    (start_at t r.note)
