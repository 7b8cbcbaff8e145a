-- A master keeps its hold of an address on a socket, as long as it does not close that address, leave, or exit.
use Rattle.std.proofs.Common.{◌≡◌, ℕ, ◌+◌, ◌≤◌, Bool, true, false, cond, not, List, [], ◌∷◌, ◌++◌, Option, Some, None, refl, sym, ap, ◌∙◌, subst, arith, length, nat_lt, ◌⊎◌, ⊎_elim}
use Rattle.std.specs.Prelude.{⊤, is_some, bytes_eq, ◌&&◌, ◌||◌, ◌==◌, if◌then◌else◌}
use Rattle.std.specs.Bool.{then_some}
use Rattle.std.specs.List.{list_any, filter_map}
use Rattle.std.proofs.lemmas.Option.{none-some, same_Some}
use Rattle.vocabulary.specs.declared.names.Name.{Name}
use Rattle.vocabulary.specs.declared.names.Name.TheVariants as name
use Rattle.vocabulary.specs.declared.calls.Answer.{Answer}
use Rattle.vocabulary.specs.declared.calls.Call.{Call}
use Rattle.vocabulary.specs.declared.calls.Call.TheVariants.{OpenAt, CloseAt, Fork, AwaitReady, Quit, Kill, Census}
use Rattle.vocabulary.specs.declared.calls.Call.TheVariants.{AwaitGone, SpawnMaster, Adopt, WritePid, MovePid}
use Rattle.vocabulary.specs.declared.calls.Call.TheVariants.{RemovePid, Alive, Leave, Usr1, TermMaster, Ask}
use Rattle.vocabulary.specs.declared.calls.Fate.{Fate}
use Rattle.definitions.specs.Table.{Address, FilePath, Hold, Process, Master, Worker, Foreign, Table, Caller, IsAscending, number_of}
use Rattle.definitions.specs.Table.{Starting, is_worker, is_active, is_held, is_live_where, live_master, owner_at}
use Rattle.definitions.specs.Calls.{change, drop_where, first_changed, without_exited, exited, after_exits, with_holds, put_hold, lowest_free, shared, is_of, is_exited_of, is_image, is_of_image, has_process_room, suits, Handed, Stepped, own_step, step_by, step_with}
use Rattle.definitions.specs.Claims.{names_any}
use Rattle.call_laws.specs.Pieces.{fault_at, fault_or_own, asked_alive, moved_if, caller_if, caller_exits, is_named, is_draining, is_live_master, is_row, is_starting, is_exited, is_any, made_exited, made_ready, made_draining, lacks_address, has_socket}
use Rattle.call_laws.proofs.Choices.{pick, and-left, and-right}
use Rattle.table_laws.proofs.Addresses.{same-address, any-put}
use Rattle.table_laws.proofs.Rows.{both-true, or-left, or-right}
use Rattle.table_laws.proofs.Views.{eqb-is, eqb-off, eqb-refl}
use Rattle.table_laws.proofs.Small.{or-elim}
use Rattle.kernel_table.specs.Room.{IsKept}
use Rattle.kernel_model.proofs.CallsKept.{IsKept-exits}
use Rattle.lives.proofs.Healing.{passes, any-kept}

-- Whether a call of the master of an image leaves alone what the master of image `i` holds of an address.
abbrev pub Harmless : ℕ → Address → ℕ → Call → Type 0
Harmless i a by (CloseAt b) = ((by == i) ≡ false) ⊎ (bytes_eq b a ≡ false)
Harmless i a by Leave = ⊥
Harmless i a by (TermMaster j) = (j == i) ≡ false
Harmless i a by (OpenAt b) = ⊤
Harmless i a by (Fork g k fds) = ⊤
Harmless i a by (AwaitReady g k) = ⊤
Harmless i a by (Quit g k) = ⊤
Harmless i a by (Kill g k) = ⊤
Harmless i a by (Census g) = ⊤
Harmless i a by (AwaitGone g k) = ⊤
Harmless i a by (SpawnMaster j) = ⊤
Harmless i a by Adopt = ⊤
Harmless i a by (WritePid path) = ⊤
Harmless i a by (MovePid from to) = ⊤
Harmless i a by (RemovePid path) = ⊤
Harmless i a by (Alive j) = ⊤
Harmless i a by (Usr1 g k) = ⊤
Harmless i a by (Ask n) = ⊤

module _ (a : Address) (socket m i : ℕ) where
  -- the live master of the number and the image, which holds the address on the socket
  abbrev pub clings : Process → Bool
  clings (Master n q j live hs) = live && ((n == m) && ((j == i) && has_socket a socket hs))
  clings (Worker n q g k s hs) = false
  clings (Foreign n hs) = false

  abbrev pub Clings : List Process → Type 0
  Clings rows = list_any clings rows ≡ true

  -- a row function that leaves it
  abbrev Spares : (Process → Option Process) → Type 0
  Spares f = (p : Process) → clings p ≡ true → passes clings (f p) ≡ true

  each-clings : (f : Process → Option Process) → Spares f → (rows : List Process) → Clings rows → Clings (filter_map f rows)
  each-clings f up rows h = any-kept clings f up rows h

  -- it is live, with its number, its image and its hold
  facts :
      (n q j : ℕ) (live : Bool) (hs : List Hold) → clings (Master n q j live hs) ≡ true →
      (live ≡ true) × (n == m ≡ true) × (j == i ≡ true) × (has_socket a socket hs ≡ true)
  facts n q j live hs e =
      let x = and-right live _ e in
      let y = and-right (n == m) _ x in
      (and-left live _ e, and-left (n == m) _ x, and-left (j == i) _ y, and-right (j == i) _ y)

  made :
      (n q j : ℕ) (live : Bool) (hs : List Hold) → live ≡ true → n == m ≡ true → j == i ≡ true → has_socket a socket hs ≡ true →
      clings (Master n q j live hs) ≡ true
  made n q j live hs l x y z = both-true live _ l (both-true (n == m) _ x (both-true (j == i) _ y z))

  -- a change of workers alone
  spares-workers :
      (test : Process → Bool) (g : Process → Process) →
      ((n q j : ℕ) (live : Bool) (hs : List Hold) → test (Master n q j live hs) ≡ false) → Spares (change test g)
  spares-workers test g off (Master n q j live hs) e = rw (off n q j live hs) e
  spares-workers test g off (Worker n q h k s hs) e = absurd (cc)
  spares-workers test g off (Foreign n hs) e = absurd (cc)

  spares-drop :
      (test : Process → Bool) → ((n q j : ℕ) (live : Bool) (hs : List Hold) → test (Master n q j live hs) ≡ false) → Spares (drop_where test)
  spares-drop test off (Master n q j live hs) e = rw (off n q j live hs) e
  spares-drop test off (Worker n q h k s hs) e = absurd (cc)
  spares-drop test off (Foreign n hs) e = absurd (cc)

  -- a change of holds that keeps this one
  spares-holds : (test : Process → Bool) (f : List Hold → List Hold) → ((hs : List Hold) → has_socket a socket hs ≡ true → has_socket a socket (f hs) ≡ true) → Spares (change test (with_holds f))
  spares-holds test f up (Worker n q h k s hs) e = absurd (cc)
  spares-holds test f up (Foreign n hs) e = absurd (cc)
  spares-holds test f up (Master n q j live hs) e = go (test (Master n q j live hs))
    where
      go : (b : Bool) → clings (if b then Master n q j live (f hs) else Master n q j live hs) ≡ true
      go true = let x = facts n q j live hs e in made n q j live (f hs) x.0 x.1 x.2 (up hs x.3)
      go false = e

  first-clings :
      (test : Process → Bool) (g : Process → Process) → ((n q j : ℕ) (live : Bool) (hs : List Hold) → test (Master n q j live hs) ≡ false) →
      (rows : List Process) → Clings rows → Clings (first_changed test g rows)
  first-clings test g off [] h = h
  first-clings test g off (p ∷ rows) h = go (test p) refl h (first-clings test g off rows)
    where
      no-test : (x : Process) → clings x ≡ true → test x ≡ true → ⊥
      no-test (Master n q j live hs) e f = absurd (let z = off n q j live hs in cc)
      no-test (Worker n q h' k s hs) e f = absurd (cc)
      no-test (Foreign n hs) e f = absurd (cc)

      go :
          (b : Bool) → test p ≡ b → (clings p || list_any clings rows) ≡ true → (list_any clings rows ≡ true → list_any clings (first_changed test g rows) ≡ true) →
          list_any clings (if b then g p ∷ rows else p ∷ first_changed test g rows) ≡ true
      go true on e ih = ⊎_elim (λ x. absurd (no-test p x on)) (λ x. or-right (clings (g p)) (list_any clings rows) x) (or-elim (clings p) (list_any clings rows) e)
      go false on e ih =
          ⊎_elim (λ x. or-left (clings p) (list_any clings (first_changed test g rows)) x) (λ x. or-right (clings p) (list_any clings (first_changed test g rows)) (ih x))
          (or-elim (clings p) (list_any clings rows) e)

  ---- Another image's master has another number

  above : (b : ℕ) (rows : List Process) (next : ℕ) → IsAscending b rows next → Clings rows → b ≤ m
  above b [] next up h = absurd (cc)
  above b (p ∷ rows) next up h =
      ⊎_elim (λ x. here p up.0 x) (λ x. omega (arith, up.0, above (number_of p + 1) rows next up.1 x)) (or-elim (clings p) (list_any clings rows) h)
    where
      here : (p : Process) → b ≤ number_of p → clings p ≡ true → b ≤ m
      here (Master n q j live hs) le e = omega (arith, le, eqb-is n m (facts n q j live hs e).1)
      here (Worker n q g k s hs) le e = absurd (cc)
      here (Foreign n hs) le e = absurd (cc)

  found-above : (j : ℕ) (c : Caller) (b : ℕ) (rows : List Process) (next : ℕ) → IsAscending b rows next → live_master j rows ≡ Some c → b ≤ c.number
  found-above j c b [] next up e = absurd (none-some c e)
  found-above j c b (Worker n q g k s hs ∷ rows) next up e = omega (arith, up.0, found-above j c (n + 1) rows next up.1 e)
  found-above j c b (Foreign n hs ∷ rows) next up e = omega (arith, up.0, found-above j c (n + 1) rows next up.1 e)
  found-above j c b (Master n q l live hs ∷ rows) next up e = go (live && (l == j)) e (λ f. found-above j c (n + 1) rows next up.1 f)
    where
      go : (x : Bool) → caller_if x n hs (live_master j rows) ≡ Some c → (live_master j rows ≡ Some c → n + 1 ≤ c.number) → b ≤ c.number
      go true e ih = omega (arith, up.0, ap (λ (y : Caller). y.number) (same_Some (record { number = n; holds = hs }) c e))
      go false e ih = omega (arith, up.0, ih e)

  pub apart :
      (j : ℕ) (c : Caller) (b : ℕ) (rows : List Process) (next : ℕ) → IsAscending b rows next → live_master j rows ≡ Some c →
      Clings rows → (j == i) ≡ false → c.number == m ≡ false
  apart j c b [] next up e h off = absurd (none-some c e)
  apart j c b (Worker n q g k s hs ∷ rows) next up e h off = apart j c (n + 1) rows next up.1 e h off
  apart j c b (Foreign n hs ∷ rows) next up e h off = apart j c (n + 1) rows next up.1 e h off
  apart j c b (Master n q l live hs ∷ rows) next up e h off =
      ⊎_elim (λ x. mine x (live && (l == j)) refl e) (λ x. later x (live && (l == j)) e (apart j c (n + 1) rows next up.1)) (or-elim (clings (Master n q l live hs)) (list_any clings rows) h)
    where
      mine : clings (Master n q l live hs) ≡ true → (x : Bool) → (live && (l == j)) ≡ x → caller_if x n hs (live_master j rows) ≡ Some c → c.number == m ≡ false
      mine on true is e =
          let f = facts n q l live hs on in
          absurd (let one = eqb-is l i f.2 in let two = eqb-is l j (and-right live _ is) in let same = eqb-refl j i (sym two ∙ one) in cc)
      mine on false is e =
          let f = facts n q l live hs on in
          let far = found-above j c (n + 1) rows next up.1 e in
          eqb-off c.number m (λ same. absurd (omega (arith, far, eqb-is n m f.1, same)))

      later :
          list_any clings rows ≡ true → (x : Bool) → caller_if x n hs (live_master j rows) ≡ Some c →
          (live_master j rows ≡ Some c → list_any clings rows ≡ true → (j == i) ≡ false → c.number == m ≡ false) → c.number == m ≡ false
      later on true e ih =
          let far = above (n + 1) rows next up.1 on in
          eqb-off c.number m (λ same. absurd (omega (arith, far, ap (λ (y : Caller). y.number) (same_Some (record { number = n; holds = hs }) c e), same)))
      later on false e ih = ih e on off

  ---- Exits

  spares-without : (gone : ℕ) (lives : ℕ → Bool) → gone == m ≡ false → Spares (without_exited gone lives)
  spares-without gone lives off (Worker n q g k s hs) e = absurd (cc)
  spares-without gone lives off (Foreign n hs) e = absurd (cc)
  spares-without gone lives off (Master n q j live hs) e = go (n == gone) refl (q == gone)
    where
      f : (live ≡ true) × (n == m ≡ true) × (j == i ≡ true) × (has_socket a socket hs ≡ true)
      f = facts n q j live hs e

      go : (b : Bool) → (n == gone) ≡ b → (w : Bool) → passes clings (if b then then_some (lives q) (Master n q j false []) else Some (Master n (if w then 1 else q) j live hs)) ≡ true
      go true is w = absurd (let same = eqb-refl gone m (sym (eqb-is n gone is) ∙ eqb-is n m f.1) in cc)
      go false is w = made n (if w then 1 else q) j live hs f.0 f.1 f.2 f.3

  exits-master : (j : ℕ) (c : Option Caller) (rows : List Process) (next : ℕ) → live_master j rows ≡ c → IsAscending 0 rows next → (j == i) ≡ false → Clings rows → Clings (caller_exits c rows)
  exits-master j None rows next e up off h = h
  exits-master j (Some c) rows next e up off h =
      each-clings (without_exited c.number (λ q. list_any (is_live_master q) rows)) (spares-without c.number (λ q. list_any (is_live_master q) rows) (apart j c 0 rows next up e h off)) rows h

  -- the exit of anybody else
  exits-one : (e : Name) (t : Table) → IsKept t → names_any (i ∷ []) (e ∷ []) ≡ false → Clings t.rows → Clings (exited e t.rows)
  exits-one (name.Worker g k) t kept off h = each-clings (change (is_named is_active g k) made_exited) (spares-workers (is_named is_active g k) made_exited (λ n q j live hs. refl)) t.rows h
  exits-one (name.Draining g k) t kept off h = first-clings (is_named is_draining g k) made_exited (λ n q j live hs. refl) t.rows h
  exits-one (name.Master j) t kept off h =
      exits-master j (live_master j t.rows) t.rows t.next_process refl kept.formed.ascending (other j off) h
    where
      other : (j : ℕ) → names_any (i ∷ []) (name.Master j ∷ []) ≡ false → (j == i) ≡ false
      other j off = go (i == j) refl off
        where
          go : (b : Bool) → (i == j) ≡ b → ((b || false) || false) ≡ false → (j == i) ≡ false
          go true is f = absurd (cc)
          go false is f = eqb-off j i (λ same. absurd (let z = eqb-refl i j (sym same) in cc))

  names-first : (e : Name) (es : List Name) → names_any (i ∷ []) (e ∷ es) ≡ false → (names_any (i ∷ []) (e ∷ []) ≡ false) × (names_any (i ∷ []) es ≡ false)
  names-first (name.Worker g k) es off = (refl, off)
  names-first (name.Draining g k) es off = (refl, off)
  names-first (name.Master j) es off = go (i == j) off
    where
      go : (b : Bool) → ((b || false) || names_any (i ∷ []) es) ≡ false → (((b || false) || false) ≡ false) × (names_any (i ∷ []) es ≡ false)
      go true f = absurd (cc)
      go false f = (refl, f)

  pub exits-cling : (es : List Name) (t : Table) → IsKept t → names_any (i ∷ []) es ≡ false → Clings t.rows → Clings (after_exits es t).rows
  exits-cling [] t kept off h = h
  exits-cling (e ∷ es) t kept off h =
      let o = names-first e es off in
      exits-cling es (record t { rows = exited e t.rows }) (IsKept-exits (e ∷ []) t kept) o.1 (exits-one e t kept o.0 h)

  ---- Calls

  append-clings : (rows : List Process) (p : Process) → Clings rows → Clings (rows ++ p ∷ [])
  append-clings [] p h = absurd (cc)
  append-clings (x ∷ rows) p h =
      ⊎_elim (λ on. or-left (clings x) (list_any clings (rows ++ p ∷ [])) on) (λ on. or-right (clings x) (list_any clings (rows ++ p ∷ [])) (append-clings rows p on))
      (or-elim (clings x) (list_any clings rows) h)

  put-keeps : (h : Hold) (hs : List Hold) → has_socket a socket hs ≡ true → has_socket a socket (put_hold h hs) ≡ true
  put-keeps h hs e = any-put (λ x. bytes_eq x.address a && (x.socket == socket)) h hs ∙ or-right (bytes_eq h.address a && (h.socket == socket)) (has_socket a socket hs) e

  -- another address is closed
  close-keeps : (b : Address) (hs : List Hold) → bytes_eq b a ≡ false → has_socket a socket hs ≡ true → has_socket a socket (lacks_address b hs) ≡ true
  close-keeps b [] off e = e
  close-keeps b (x ∷ hs) off e = go (bytes_eq x.address b) refl (bytes_eq x.address a) refl e (close-keeps b hs off)
    where
      go :
          (c : Bool) → bytes_eq x.address b ≡ c → (d : Bool) → bytes_eq x.address a ≡ d → ((d && (x.socket == socket)) || has_socket a socket hs) ≡ true →
          (has_socket a socket hs ≡ true → has_socket a socket (lacks_address b hs) ≡ true) →
          has_socket a socket (cond (not c) (x ∷ lacks_address b hs) (lacks_address b hs)) ≡ true
      go true is true on e ih =
          absurd (let one = same-address x.address b is in let two = subst (λ y. bytes_eq y a ≡ true) one on in cc)
      go true is false on e ih = ih e
      go false is d on e ih =
          rw on (⊎_elim (λ z. or-left (d && (x.socket == socket)) (has_socket a socket (lacks_address b hs)) z)
          (λ z. or-right (d && (x.socket == socket)) (has_socket a socket (lacks_address b hs)) (ih z)) (or-elim (d && (x.socket == socket)) (has_socket a socket hs) e))

  abbrev Keeps : Stepped → Type 0
  Keeps s = Clings s.table.rows

  found : (rows : List Process) → Clings rows → is_some (live_master i rows) ≡ true
  found [] h = absurd (cc)
  found (Worker n q g k s hs ∷ rows) h = found rows h
  found (Foreign n hs ∷ rows) h = found rows h
  found (Master n q l live hs ∷ rows) h = go (live && (l == i)) refl (found rows)
    where
      go : (b : Bool) → (live && (l == i)) ≡ b → (Clings rows → is_some (live_master i rows) ≡ true) → is_some (caller_if b n hs (live_master i rows)) ≡ true
      go true is ih = refl
      go false is ih =
          ⊎_elim (λ x. absurd (let f = facts n q l live hs x in let z = both-true live (l == i) f.0 f.2 in cc)) (λ x. ih x)
          (or-elim (clings (Master n q l live hs)) (list_any clings rows) h)

  -- another image's masters leave
  other-image : (l j : ℕ) → (l == i) ≡ true → (j == i) ≡ false → (l == j) ≡ false
  other-image l j on off = eqb-off l j (λ same. absurd (let z = eqb-refl j i (sym same ∙ eqb-is l i on) in cc))

  spares-image : (j : ℕ) → (j == i) ≡ false → Spares (drop_where (is_image j))
  spares-image j off (Master n q l live hs) e = rw (other-image l j (facts n q l live hs e).2 off) e
  spares-image j off (Worker n q g k s hs) e = absurd (cc)
  spares-image j off (Foreign n hs) e = absurd (cc)

  spares-of-image : (j : ℕ) (rows : List Process) → (j == i) ≡ false → Spares (drop_where (is_of_image j rows))
  spares-of-image j rows off (Master n q l live hs) e = rw (other-image l j (facts n q l live hs e).2 off) e
  spares-of-image j rows off (Worker n q g k s hs) e = absurd (cc)
  spares-of-image j rows off (Foreign n hs) e = absurd (cc)

  -- the master is live, so it is no image's that is gone
  not-gone : (j : ℕ) (rows : List Process) → live_master j rows ≡ None → Clings rows → (j == i) ≡ false
  not-gone j rows none h = eqb-off j i (λ same. absurd (let z = found rows h in let y = ap is_some (sym (ap (λ x. live_master x rows) same) ∙ none) in cc))

  alive-keeps : (o : Option Caller) (j : ℕ) (t : Table) → live_master j t.rows ≡ o → Clings t.rows → Keeps (asked_alive o j t)
  alive-keeps (Some c) j t e h = h
  alive-keeps None j t e h = each-clings (drop_where (is_image j)) (spares-image j (not-gone j t.rows e h)) t.rows h

  move-keeps : (owner : Option ℕ) (from to : FilePath) (t : Table) → Clings t.rows → Keeps (moved_if owner from to t)
  move-keeps None from to t h = h
  move-keeps (Some owner) from to t h = h

  -- another master and its workers close it
  spares-other : (number : ℕ) (f : List Hold → List Hold) → number == m ≡ false → Spares (change (is_of number) (with_holds f))
  spares-other number f off (Worker n q g k s hs) e = absurd (cc)
  spares-other number f off (Foreign n hs) e = absurd (cc)
  spares-other number f off (Master n q j live hs) e =
      let away : n == number ≡ false = eqb-off n number (λ same. absurd (let z = eqb-refl number m (sym same ∙ eqb-is n m (facts n q j live hs e).1) in cc)) in
      rw away e

  own-keeps :
      (handed : Handed) (by : ℕ) (c : Caller) (call : Call) (t : Table) → IsKept t → live_master by t.rows ≡ Some c → Harmless i a by call →
      Clings t.rows → Keeps (own_step handed by c call t)
  own-keeps handed by c (OpenAt b) t kept e harmless h =
      pick Keeps (is_held b t.rows) _ _ (λ f. h)
      (λ f. pick Keeps (nat_lt (length c.holds) t.limits.descriptors) _ _
      (λ f2. let hold : Hold = record { fd = lowest_free c.holds; socket = t.next_socket; address = b } in
      each-clings (change (is_row c.number) (with_holds (put_hold hold))) (spares-holds (is_row c.number) (put_hold hold) (put-keeps hold)) t.rows h) (λ f2. h))
  own-keeps handed by c (CloseAt b) t kept e harmless h =
      each-clings (change (is_of c.number) (with_holds (lacks_address b)))
      (⊎_elim (λ off. spares-other c.number (lacks_address b) (apart by c 0 t.rows t.next_process kept.formed.ascending e h off))
      (λ off. spares-holds (is_of c.number) (lacks_address b) (λ hs on. close-keeps b hs off on)) harmless) t.rows h
  own-keeps handed by c (Fork g k fds) t kept e harmless h =
      pick Keeps (list_any (is_worker is_active c.number g k) t.rows) _ _ (λ f. h)
      (λ f. pick Keeps (has_process_room t) _ _ (λ f2. append-clings t.rows (Worker t.next_process c.number g k Starting (shared fds c.holds)) h) (λ f2. h))
  own-keeps handed by c (AwaitReady g k) t kept e harmless h =
      pick Keeps (list_any (is_worker is_active c.number g k) t.rows) _ _
      (λ f. each-clings (change (is_worker is_starting c.number g k) made_ready) (spares-workers (is_worker is_starting c.number g k) made_ready (λ n q j live hs. refl)) t.rows h)
      (λ f. each-clings (drop_where (is_worker is_exited c.number g k)) (spares-drop (is_worker is_exited c.number g k) (λ n q j live hs. refl)) t.rows h)
  own-keeps handed by c (Quit g k) t kept e harmless h =
      each-clings (change (is_worker is_active c.number g k) made_draining) (spares-workers (is_worker is_active c.number g k) made_draining (λ n q j live hs. refl)) t.rows h
  own-keeps handed by c (Kill g k) t kept e harmless h =
      each-clings (drop_where (is_worker is_any c.number g k)) (spares-drop (is_worker is_any c.number g k) (λ n q j live hs. refl)) t.rows h
  own-keeps handed by c (Census g) t kept e harmless h =
      each-clings (drop_where (is_exited_of c.number)) (spares-drop (is_exited_of c.number) (λ n q j live hs. refl)) t.rows h
  own-keeps handed by c (AwaitGone g k) t kept e harmless h =
      pick Keeps (list_any (is_worker is_active c.number g k) t.rows) _ _ (λ f. h)
      (λ f. each-clings (drop_where (is_worker is_any c.number g k)) (spares-drop (is_worker is_any c.number g k) (λ n q j live hs. refl)) t.rows h)
  own-keeps handed by c (SpawnMaster j) t kept e harmless h =
      pick Keeps (list_any (is_image j) t.rows) _ _ (λ f. h)
      (λ f. pick Keeps (has_process_room t) _ _ (λ f2. append-clings t.rows (Master t.next_process c.number j true c.holds) h) (λ f2. h))
  own-keeps handed by c Adopt t kept e harmless h = pick Keeps (suits handed by c.holds) _ _ (λ f. h) (λ f. h)
  own-keeps handed by c (WritePid path) t kept e harmless h = h
  own-keeps handed by c (MovePid from to) t kept e harmless h = move-keeps (owner_at from t.files) from to t h
  own-keeps handed by c (RemovePid path) t kept e harmless h = h
  own-keeps handed by c (Alive j) t kept e harmless h = alive-keeps (live_master j t.rows) j t refl h
  own-keeps handed by c Leave t kept e harmless h = absurd harmless
  own-keeps handed by c (TermMaster j) t kept e harmless h =
      each-clings (drop_where (is_of_image j t.rows)) (spares-of-image j t.rows harmless) t.rows h
  own-keeps handed by c (Usr1 g k) t kept e harmless h = h
  own-keeps handed by c (Ask n) t kept e harmless h = h

  fault-keeps :
      (o : Option Answer) (handed : Handed) (by : ℕ) (c : Caller) (call : Call) (t : Table) → IsKept t → live_master by t.rows ≡ Some c →
      Harmless i a by call → Clings t.rows → Keeps (fault_or_own o handed by c call t)
  fault-keeps None handed by c call t kept e harmless h = own-keeps handed by c call t kept e harmless h
  fault-keeps (Some x) handed by c call t kept e harmless h = h

  by-keeps :
      (handed : Handed) (by : ℕ) (o : Option Caller) (call : Call) (f : Option Fate) (t : Table) → IsKept t → live_master by t.rows ≡ o →
      Harmless i a by call → Clings t.rows → Keeps (step_by handed by o call f t)
  by-keeps handed by None call f t kept e harmless h = h
  by-keeps handed by (Some c) call f t kept e harmless h = fault-keeps (fault_at c call f t) handed by c call t kept e harmless h

  pub step-clings :
      (handed : Handed) (by : ℕ) (call : Call) (f : Option Fate) (t : Table) → IsKept t → Harmless i a by call → Clings t.rows →
      (let z : Stepped = step_with handed by call f t in Clings z.table.rows)
  step-clings handed by call f t kept harmless h = by-keeps handed by (live_master by t.rows) call f t kept refl harmless h

  ---- What it holds is open

  pub clings-open : (rows : List Process) → Clings rows → list_any (is_live_where (λ n hs. has_socket a socket hs)) rows ≡ true
  clings-open [] h = absurd (cc)
  clings-open (p ∷ rows) h =
      ⊎_elim (λ x. or-left (is_live_where (λ n hs. has_socket a socket hs) p) _ (here p x)) (λ x. or-right (is_live_where (λ n hs. has_socket a socket hs) p) _ (clings-open rows x))
      (or-elim (clings p) (list_any clings rows) h)
    where
      here : (p : Process) → clings p ≡ true → is_live_where (λ n hs. has_socket a socket hs) p ≡ true
      here (Master n q j live hs) e = let f = facts n q j live hs e in both-true live (has_socket a socket hs) f.0 f.3
      here (Worker n q g k s hs) e = absurd (cc)
      here (Foreign n hs) e = absurd (cc)

  -- the live master of the image clings to what it holds
  pub found-clings : (hs : List Hold) (rows : List Process) → live_master i rows ≡ Some (record { number = m; holds = hs }) → has_socket a socket hs ≡ true → Clings rows
  found-clings hs [] e on = absurd (none-some _ e)
  found-clings hs (Worker n q g k s ks ∷ rows) e on = found-clings hs rows e on
  found-clings hs (Foreign n ks ∷ rows) e on = found-clings hs rows e on
  found-clings hs (Master n q l live ks ∷ rows) e on = go (live && (l == i)) refl e (λ f. found-clings hs rows f on)
    where
      go :
          (b : Bool) → (live && (l == i)) ≡ b → caller_if b n ks (live_master i rows) ≡ Some (record { number = m; holds = hs }) →
          (live_master i rows ≡ Some (record { number = m; holds = hs }) → Clings rows) → Clings (Master n q l live ks ∷ rows)
      go true is e ih =
          let same = same_Some (record { number = n; holds = ks }) (record { number = m; holds = hs }) e in
          or-left (clings (Master n q l live ks)) (list_any clings rows)
          (made n q l live ks (and-left live (l == i) is) (eqb-refl n m (ap (λ (y : Caller). y.number) same)) (and-right live (l == i) is)
          (ap (λ (y : Caller). has_socket a socket y.holds) same ∙ on))
      go false is e ih = or-right (clings (Master n q l live ks)) (list_any clings rows) (ih e)
