-- What is known of one worker of a master from call to call, whatever is called and whoever exits.
use Rattle.std.proofs.Common.{◌≡◌, ◌≢◌, ℕ, ◌<◌, Bool, true, false, List, [], ◌∷◌, Option, Some, None, refl, sym}
use Rattle.std.proofs.Common.{ap, ◌∙◌, subst, arith, option_map, unwrap_or, nat_lt, length, is_some, ◌⊎◌, inl, inr, ⊎_elim}
use Rattle.std.specs.Prelude.{⊤, ◌&&◌, ◌||◌, ◌==◌, if◌then◌else◌}
use Rattle.std.specs.List.{AllByRecursion, list_any, filter_map, cons_option}
use Rattle.std.specs.Bool.{then_some}
use Rattle.listener_set.specs.declared.generation.Generation.{Generation}
use Rattle.vocabulary.specs.declared.names.Name.{Name}
use Rattle.vocabulary.specs.declared.names.Name.TheVariants as name
use Rattle.vocabulary.specs.declared.table.Stance.{Stance}
use Rattle.vocabulary.specs.declared.table.Stance.TheVariants.{Starting, Ready, Draining, Exited}
use Rattle.vocabulary.specs.declared.calls.Answer.{Answer}
use Rattle.vocabulary.specs.declared.calls.Answer.TheVariants as answer
use Rattle.vocabulary.specs.declared.calls.Fate.{Fate}
use Rattle.definitions.specs.Table.{Hold, Process, Master, Worker, Foreign, Table, Caller, same_stance, bears, number_of}
use Rattle.definitions.specs.Table.{is_worker, is_active, is_held, owner_at, live_master}
use Rattle.definitions.specs.Calls.{Call, OpenAt, CloseAt, Fork, AwaitReady, Quit, Kill, Census, AwaitGone, SpawnMaster}
use Rattle.definitions.specs.Calls.{Adopt, WritePid, MovePid, RemovePid, Alive, Leave, Usr1, TermMaster, Ask, Handed}
use Rattle.definitions.specs.Calls.{Stepped, gives, own_step, step_by, step_with, change, drop_where, with_holds, each_row}
use Rattle.definitions.specs.Calls.{has_process_room, is_image, is_of_image, suits, with_file, without_file, is_exited_of}
use Rattle.definitions.specs.Calls.{put_hold, lowest_free, is_of, without_exited, first_changed, exited, all_exited}
use Rattle.definitions.specs.Calls.{after_exits, with_new_row, shared}
use Rattle.call_laws.specs.Pieces.{is_row, lacks_address, is_starting, is_exited, is_any, is_named, is_draining, made_ready}
use Rattle.call_laws.specs.Pieces.{made_draining, made_exited, caller_exits, caller_if, is_live_master}
use Rattle.call_laws.proofs.Choices.{pick, and-left, and-right}
use Rattle.call_laws.proofs.Cases.{unfailing}
use Rattle.table_laws.proofs.Rows.{FitsIn, every-filter_map, every-append, every-more, both-true, or-left, or-right}
use Rattle.table_laws.proofs.Views.{eqb-is, eqb-refl, eqb-off}
use Rattle.table_laws.proofs.Effects.{bears-is, bears-refl}
use Rattle.run_laws.proofs.Taken.{IsOther}
use Rattle.run_laws.proofs.Absent.{Absent, absent-exits, absent-steps}
use Rattle.further_theorems.specs.Named.{is_at}
use Rattle.further_theorems.proofs.Named.{Test, at, any-changed, any-drop, any-more}

-- where all rows keep a fact, what they become passes another test
pub any-turned :
    (P : Process → Type 0) (T : Test) (f : Process → Process) (test after : Test) →
    ((x : Process) → P x → test x ≡ true → after (if T x then f x else x) ≡ true) → (rows : List Process) →
    AllByRecursion P rows → list_any test rows ≡ true → list_any after (filter_map (change T f) rows) ≡ true
any-turned P T f test after h [] all e = absurd (cc)
any-turned P T f test after h (x ∷ xs) all e = go (test x) refl e (any-turned P T f test after h xs all.1)
  where
    go :
        (b : Bool) → test x ≡ b → (b || list_any test xs) ≡ true →
        (list_any test xs ≡ true → list_any after (filter_map (change T f) xs) ≡ true) →
        (after (if T x then f x else x) || list_any after (filter_map (change T f) xs)) ≡ true
    go true is e ih = or-left _ _ (h x all.0 is)
    go false is e ih = or-right (after (if T x then f x else x)) _ (ih e)

pub any-left :
    (P : Process → Type 0) (T test : Test) → ((x : Process) → P x → test x ≡ true → T x ≡ false) →
    (rows : List Process) → AllByRecursion P rows → list_any test rows ≡ true →
    list_any test (filter_map (drop_where T) rows) ≡ true
any-left P T test h [] all e = absurd (cc)
any-left P T test h (x ∷ xs) all e = go (test x) refl (T x) refl e (any-left P T test h xs all.1)
  where
    go :
        (b : Bool) → test x ≡ b → (d : Bool) → T x ≡ d → (b || list_any test xs) ≡ true →
        (list_any test xs ≡ true → list_any test (filter_map (drop_where T) xs) ≡ true) →
        list_any test (cons_option (if d then None else Some x) (filter_map (drop_where T) xs)) ≡ true
    go true is true out e ih = absurd (let k = h x all.0 is in cc)
    go true is false out e ih = or-left (test x) _ is
    go false is true out e ih = ih e
    go false is false out e ih = or-right (test x) _ (ih e)

-- what a row becomes, where it stays
abbrev Passes : Test → Option Process → Type 0
Passes test None = ⊥
Passes test (Some x) = test x ≡ true

any-kept :
    (test : Test) (f : Process → Option Process) → ((x : Process) → test x ≡ true → Passes test (f x)) →
    (rows : List Process) → list_any test rows ≡ true → list_any test (filter_map f rows) ≡ true
any-kept test f h [] e = absurd (cc)
any-kept test f h (x ∷ xs) e = go (test x) refl (f x) (h x) e (any-kept test f h xs)
  where
    go :
        (b : Bool) → test x ≡ b → (o : Option Process) → (test x ≡ true → Passes test o) → (b || list_any test xs) ≡ true →
        (list_any test xs ≡ true → list_any test (filter_map f xs) ≡ true) →
        list_any test (cons_option o (filter_map f xs)) ≡ true
    go true is None k e ih = absurd (k is)
    go true is (Some y) k e ih = or-left (test y) _ (k is)
    go false is None k e ih = ih e
    go false is (Some y) k e ih = or-right (test y) _ (ih e)

---- Stances

abbrev pub Serves : Stance → Type 0
Serves Starting = ⊥
Serves Ready = ⊤
Serves Draining = ⊥
Serves Exited = ⊤

abbrev pub Drains : Stance → Type 0
Drains Starting = ⊥
Drains Ready = ⊥
Drains Draining = ⊤
Drains Exited = ⊤

abbrev pub HasEnded : Stance → Type 0
HasEnded Starting = ⊥
HasEnded Ready = ⊥
HasEnded Draining = ⊥
HasEnded Exited = ⊤

-- `q` is the number of the master of the image `i`; `n` is the process
module _ (q i n : ℕ) (g : Generation) (k : ℕ) where
  -- whoever has the process number is a worker of the master with the name, in such a stance
  abbrev pub Ours : (Stance → Type 0) → Process → Type 0
  Ours S (Master m par im live hs) = m ≡ n → ⊥
  Ours S (Worker m par h j s hs) = m ≡ n → (par ≡ q) × (h ≡ g) × (j ≡ k) × S s
  Ours S (Foreign m hs) = m ≡ n → ⊥

  -- the masters of the image have its number, and the other way round
  abbrev pub Images : Process → Type 0
  Images (Master m par im live hs) = (im ≡ i → m ≡ q) × (m ≡ q → im ≡ i)
  Images (Worker m par h j s hs) = ⊤
  Images (Foreign m hs) = ⊤

  abbrev pub is_it : Process → Bool
  is_it (Master m par im live hs) = live && (m == q)
  is_it (Worker m par h j s hs) = false
  is_it (Foreign m hs) = false

  pub record Rows (S : Stance → Type 0) (rows : List Process) : Type 0 where
    pub ours : AllByRecursion (Ours S) rows
    pub images : AllByRecursion Images rows
    pub lives : list_any is_it rows ≡ true

  pub record Here (S : Stance → Type 0) (t : Table) : Type 0 where
    pub rows : Rows S t.rows
    pub below : n < t.next_process
    pub above : q < t.next_process

  -- it is so, or the process has left the table
  abbrev pub Knows : (Stance → Type 0) → Table → Type 0
  Knows S t = Here S t ⊎ Absent n t

  ---- Rows

  module _ (S : Stance → Type 0) where
    each-row : (f : Process → Option Process) → ((x : Process) → Ours S x → FitsIn (Ours S) (f x)) →
        ((x : Process) → Images x → FitsIn Images (f x)) → ((x : Process) → is_it x ≡ true → Passes is_it (f x)) →
        (rows : List Process) → Rows S rows → Rows S (filter_map f rows)
    each-row f o m l rows h = record {
      ours = every-filter_map (Ours S) (Ours S) f o rows h.ours;
      images = every-filter_map Images Images f m rows h.images;
      lives = any-kept is_it f l rows h.lives;
    }

    changed-rows : (T : Test) (f : Process → Process) → ((x : Process) → T x ≡ true → Ours S x → Ours S (f x)) →
        ((x : Process) → Images x → Images (f x)) → ((x : Process) → is_it x ≡ true → is_it (f x) ≡ true) →
        (rows : List Process) → Rows S rows → Rows S (filter_map (change T f) rows)
    changed-rows T f o m l rows h = record {
      ours = every-filter_map (Ours S) (Ours S) (change T f) (λ x y. pick (Ours S) (T x) (f x) x (λ e. o x e y) (λ e. y)) rows h.ours;
      images = every-filter_map Images Images (change T f) (λ x y. pick Images (T x) (f x) x (λ e. m x y) (λ e. y)) rows h.images;
      lives = any-changed T f is_it l rows h.lives;
    }

    dropped-rows : (T : Test) → ((x : Process) → is_it x ≡ true → T x ≡ false) → (rows : List Process) → Rows S rows →
        Rows S (filter_map (drop_where T) rows)
    dropped-rows T l rows h = record {
      ours = every-filter_map (Ours S) (Ours S) (drop_where T) (λ x y. pick (FitsIn (Ours S)) (T x) None (Some x) (λ e. tt) (λ e. y)) rows h.ours;
      images = every-filter_map Images Images (drop_where T) (λ x y. pick (FitsIn Images) (T x) None (Some x) (λ e. tt) (λ e. y)) rows h.images;
      lives = any-drop T is_it l rows h.lives;
    }

    held-ours : (f : List Hold → List Hold) (x : Process) → Ours S x → Ours S (with_holds f x)
    held-ours f (Master m par im live hs) h = h
    held-ours f (Worker m par h' j s hs) h = h
    held-ours f (Foreign m hs) h = h

    exited-ours : S Exited → (x : Process) → Ours S x → Ours S (made_exited x)
    exited-ours can (Master m par im live hs) h = h
    exited-ours can (Worker m par h' j s hs) h = λ e. let o = h e in (o.0, o.1, o.2, can)
    exited-ours can (Foreign m hs) h = h

    ready-ours : (S Starting → ⊥) → (c : ℕ) (h : Generation) (j : ℕ) (x : Process) → is_worker is_starting c h j x ≡ true →
        Ours S x → Ours S (made_ready x)
    ready-ours never c h j (Master m par im live hs) e o = o
    ready-ours never c h j (Worker m par h' j' Starting hs) e o = λ is. absurd (never (o is).3)
    ready-ours never c h j (Worker m par h' j' Ready hs) e o = absurd (cc)
    ready-ours never c h j (Worker m par h' j' Draining hs) e o = absurd (cc)
    ready-ours never c h j (Worker m par h' j' Exited hs) e o = absurd (cc)
    ready-ours never c h j (Foreign m hs) e o = o

    abbrev Unready : Type 0
    Unready = S Ready → ⊥

    draining-ours : (S Starting → ⊥) → (c : ℕ) (h : Generation) (j : ℕ) → (bears g k h j ≡ false) ⊎ Unready →
        (x : Process) → is_worker is_active c h j x ≡ true → Ours S x → Ours S (made_draining x)
    draining-ours never c h j ok (Master m par im live hs) e o = o
    draining-ours never c h j ok (Worker m par h' j' Starting hs) e o = λ is. absurd (never (o is).3)
    draining-ours never c h j ok (Worker m par h' j' Ready hs) e o = λ is.
        let its = bears-is h j h' j' (and-right (par == c) _ (and-right (is_active Ready) _ e)) in
        let on : bears g k h j ≡ true =
        subst (λ z. bears g k z j ≡ true) (sym (o is).1 ∙ its.0) (subst (λ z. bears g k g z ≡ true) (sym (o is).2 ∙ its.1) (bears-refl g k)) in
        ⊎_elim (λ off. absurd (cc)) (λ un. absurd (un (o is).3)) ok
    draining-ours never c h j ok (Worker m par h' j' Draining hs) e o = absurd (cc)
    draining-ours never c h j ok (Worker m par h' j' Exited hs) e o = absurd (cc)
    draining-ours never c h j ok (Foreign m hs) e o = o

    left-ours : (gone : ℕ) (lives : ℕ → Bool) (x : Process) → Ours S x → FitsIn (Ours S) (without_exited gone lives x)
    left-ours gone lives (Master m par im live hs) h = pick (FitsIn (Ours S)) (m == gone) _ _ (λ e. kept (lives par)) (λ e. h)
      where
        kept : (b : Bool) → FitsIn (Ours S) (then_some b (Master m par im false []))
        kept true = h
        kept false = tt
    left-ours gone lives (Worker m par h' j s hs) h =
        pick (FitsIn (Ours S)) (par == gone) None (Some (Worker m par h' j s hs)) (λ e. tt) (λ e. h)
    left-ours gone lives (Foreign m hs) h = h

    -- where its master goes, the process does
    gone-row : (gone : ℕ) (lives : ℕ → Bool) → (q == gone) ≡ true → (x : Process) → Ours S x →
        FitsIn (IsOther n) (without_exited gone lives x)
    gone-row gone lives is (Master m par im live hs) h = pick (FitsIn (IsOther n)) (m == gone) _ _ (λ e. kept (lives par)) (λ e. h)
      where
        kept : (b : Bool) → FitsIn (IsOther n) (then_some b (Master m par im false []))
        kept true = h
        kept false = tt
    gone-row gone lives is (Worker m par h' j s hs) h =
        pick (FitsIn (IsOther n)) (par == gone) None (Some (Worker m par h' j s hs)) (λ e. tt)
        (λ off same. let its : (par == gone) ≡ true = subst (λ z. (z == gone) ≡ true) (sym (h same).0) is in absurd (cc))
    gone-row gone lives is (Foreign m hs) h = h

  held-images : (f : List Hold → List Hold) (x : Process) → Images x → Images (with_holds f x)
  held-images f (Master m par im live hs) h = h
  held-images f (Worker m par h' j s hs) h = tt
  held-images f (Foreign m hs) h = tt

  stood-images : (s : Stance) (x : Process) → Images x → Images (Rattle.definitions.specs.Calls.with_stance s x)
  stood-images s (Master m par im live hs) h = h
  stood-images s (Worker m par h' j s' hs) h = tt
  stood-images s (Foreign m hs) h = tt

  left-images : (gone : ℕ) (lives : ℕ → Bool) (x : Process) → Images x → FitsIn Images (without_exited gone lives x)
  left-images gone lives (Master m par im live hs) h = pick (FitsIn Images) (m == gone) _ _ (λ e. kept (lives par)) (λ e. h)
    where
      kept : (b : Bool) → FitsIn Images (then_some b (Master m par im false []))
      kept true = h
      kept false = tt
  left-images gone lives (Worker m par h' j s hs) h =
      pick (FitsIn Images) (par == gone) None (Some (Worker m par h' j s hs)) (λ e. tt) (λ e. tt)
  left-images gone lives (Foreign m hs) h = tt

  held-it : (f : List Hold → List Hold) (x : Process) → is_it x ≡ true → is_it (with_holds f x) ≡ true
  held-it f (Master m par im live hs) e = e
  held-it f (Worker m par h' j s hs) e = e
  held-it f (Foreign m hs) e = e

  stood-it : (s : Stance) (x : Process) → is_it x ≡ true → is_it (Rattle.definitions.specs.Calls.with_stance s x) ≡ true
  stood-it s (Master m par im live hs) e = e
  stood-it s (Worker m par h' j s' hs) e = e
  stood-it s (Foreign m hs) e = e

  left-it : (gone : ℕ) (lives : ℕ → Bool) → (q == gone) ≡ false → (x : Process) → is_it x ≡ true →
      Passes is_it (without_exited gone lives x)
  left-it gone lives off (Master m par im live hs) e =
      pick (Passes is_it) (m == gone) _ _
      (λ is. let its : (q == gone) ≡ true = subst (λ z. (z == gone) ≡ true) (eqb-is m q (and-right live _ e)) is in absurd (cc))
      (λ is. e)
  left-it gone lives off (Worker m par h' j s hs) e = absurd (cc)
  left-it gone lives off (Foreign m hs) e = absurd (cc)

  ---- Exits

  module _ (S : Stance → Type 0) (can : S Exited) where
    first-rows : (T : Test) (rows : List Process) → Rows S rows → Rows S (first_changed T made_exited rows)
    first-rows T rows h = record {
      ours = ours rows h.ours;
      images = images rows h.images;
      lives = lives rows h.lives;
    }
      where
        ours : (rows : List Process) → AllByRecursion (Ours S) rows → AllByRecursion (Ours S) (first_changed T made_exited rows)
        ours [] all = tt
        ours (x ∷ xs) all =
            pick (AllByRecursion (Ours S)) (T x) (made_exited x ∷ xs) (x ∷ first_changed T made_exited xs)
            (λ e. (exited-ours S can x all.0, all.1)) (λ e. (all.0, ours xs all.1))

        images : (rows : List Process) → AllByRecursion Images rows → AllByRecursion Images (first_changed T made_exited rows)
        images [] all = tt
        images (x ∷ xs) all =
            pick (AllByRecursion Images) (T x) (made_exited x ∷ xs) (x ∷ first_changed T made_exited xs)
            (λ e. (stood-images Exited x all.0, all.1)) (λ e. (all.0, images xs all.1))

        lives : (rows : List Process) → list_any is_it rows ≡ true → list_any is_it (first_changed T made_exited rows) ≡ true
        lives [] e = e
        lives (x ∷ xs) e =
            pick (λ l. list_any is_it l ≡ true) (T x) (made_exited x ∷ xs) (x ∷ first_changed T made_exited xs)
            (λ on. here (is_it x) refl e (is_it (made_exited x)) (stood-it Exited x))
            (λ off. there (is_it x) e (lives xs))
          where
            here : (b : Bool) → is_it x ≡ b → (b || list_any is_it xs) ≡ true → (d : Bool) → (is_it x ≡ true → d ≡ true) →
                (d || list_any is_it xs) ≡ true
            here b is e true k = refl
            here true is e false k = absurd (let no = k is in cc)
            here false is e false k = e

            there : (b : Bool) → (b || list_any is_it xs) ≡ true →
                (list_any is_it xs ≡ true → list_any is_it (first_changed T made_exited xs) ≡ true) →
                (b || list_any is_it (first_changed T made_exited xs)) ≡ true
            there true e ih = refl
            there false e ih = ih e

    abbrev Either : List Process → Type 0
    Either rows = Rows S rows ⊎ AllByRecursion (IsOther n) rows

    -- the live master of the number exits
    left-rows : (gone : ℕ) (lives : ℕ → Bool) (rows : List Process) → Rows S rows →
        Either (filter_map (without_exited gone lives) rows)
    left-rows gone lives rows h = go (q == gone) refl
      where
        go : (b : Bool) → (q == gone) ≡ b → Either (filter_map (without_exited gone lives) rows)
        go true is = inr (every-filter_map (Ours S) (IsOther n) (without_exited gone lives) (gone-row S gone lives is) rows h.ours)
        go false is = inl (each-row S (without_exited gone lives) (left-ours S gone lives) (left-images gone lives) (left-it gone lives is) rows h)

    exit-rows : (e : Name) (rows : List Process) → Rows S rows → Either (exited e rows)
    exit-rows (name.Worker h j) rows all =
        inl (changed-rows S (is_named is_active h j) made_exited (λ x e o. exited-ours S can x o) (stood-images Exited) (stood-it Exited) rows all)
    exit-rows (name.Draining h j) rows all = inl (first-rows (is_named is_draining h j) rows all)
    exit-rows (name.Master im) rows all = go (live_master im rows)
      where
        go : (o : Option Caller) → Either (caller_exits o rows)
        go None = inl all
        go (Some c) = left-rows c.number (λ z. list_any (is_live_master z) rows) rows all

    exits-rows : (es : List Name) (t : Table) → n < t.next_process → (rows : List Process) → Rows S rows → Either (all_exited es rows)
    exits-rows [] t lt rows all = inl all
    exits-rows (e ∷ es) t lt rows all =
        ⊎_elim (λ h. exits-rows es t lt (exited e rows) h)
        (λ gone. inr (absent-exits n es (record t { rows = exited e rows }) (record { all = gone; below = lt })).all)
        (exit-rows e rows all)

    pub exits-known : (es : List Name) (t : Table) → Knows S t → Knows S (after_exits es t)
    exits-known es t (inl h) =
        ⊎_elim (λ rows. inl (record { rows = rows; below = h.below; above = h.above }))
        (λ gone. inr (record { all = gone; below = h.below })) (exits-rows es t h.below t.rows h.rows)
    exits-known es t (inr gone) = inr (absent-exits n es t gone)

  ---- Calls

  -- the calls that leave it in such a stance: no quit of its name where it may be Ready; and other masters are of
  -- another image
  abbrev pub Fits : (Stance → Type 0) → Call → Type 0
  Fits S (Quit h j) = (bears g k h j ≡ false) ⊎ (S Ready → ⊥)
  Fits S (SpawnMaster im) = im ≢ i
  Fits S (TermMaster im) = im ≢ i
  Fits S (Alive im) = im ≢ i
  Fits S _ = ⊤

  not-image : (im : ℕ) → im ≢ i → (rows : List Process) → AllByRecursion Images rows → (x : Process) → Images x →
      is_it x ≡ true → is_image im x ≡ false
  not-image im ne rows all (Master m par im' live hs) h e = eqb-off im' im (λ same. ne (sym same ∙ h.1 (eqb-is m q (and-right live _ e))))
  not-image im ne rows all (Worker m par h' j s hs) h e = refl
  not-image im ne rows all (Foreign m hs) h e = refl

  -- no worker of the master is of another image
  none-of : (im : ℕ) → im ≢ i → (rows : List Process) → AllByRecursion Images rows →
      list_any (λ x. is_image im x && (number_of x == q)) rows ≡ false
  none-of im ne [] all = refl
  none-of im ne (Master m par im' live hs ∷ xs) all = go (im' == im) refl (m == q) refl (none-of im ne xs all.1)
    where
      go : (a : Bool) → (im' == im) ≡ a → (b : Bool) → (m == q) ≡ b →
          list_any (λ x. is_image im x && (number_of x == q)) xs ≡ false →
          ((a && b) || list_any (λ x. is_image im x && (number_of x == q)) xs) ≡ false
      go true is true its ih = absurd (ne (sym (eqb-is im' im is) ∙ all.0.1 (eqb-is m q its)))
      go true is false its ih = ih
      go false is b its ih = ih
  none-of im ne (Worker m par h' j s hs ∷ xs) all = none-of im ne xs all.1
  none-of im ne (Foreign m hs ∷ xs) all = none-of im ne xs all.1

  -- the end of a master of another image takes neither the master nor its worker
  pub kept-at : (S : Stance → Type 0) (im : ℕ) → im ≢ i → (stance : Stance) (t : Table) → Here S t →
      is_at stance n g k t ≡ true → list_any (at stance n g k) (filter_map (drop_where (is_of_image im t.rows)) t.rows) ≡ true
  kept-at S im ne stance t h on = any-left (Ours S) (is_of_image im t.rows) (at stance n g k) row t.rows h.rows.ours on
    where
      row : (x : Process) → Ours S x → at stance n g k x ≡ true → is_of_image im t.rows x ≡ false
      row (Master m par im' live hs) o e = absurd (cc)
      row (Worker m par h' j s hs) o e =
          let same = eqb-is m n (and-left _ _ (and-right (same_stance stance s) _ e)) in
          subst (λ z. list_any (λ x. is_image im x && (number_of x == z)) t.rows ≡ false) (sym (o same).0) (none-of im ne t.rows h.rows.images)
      row (Foreign m hs) o e = absurd (cc)

  no-worker : (stance : Stance → Bool) (c : ℕ) (h : Generation) (j : ℕ) (x : Process) → is_it x ≡ true →
      is_worker stance c h j x ≡ false
  no-worker stance c h j (Master m par im live hs) e = refl
  no-worker stance c h j (Worker m par h' j' s hs) e = absurd (cc)
  no-worker stance c h j (Foreign m hs) e = refl

  no-exited : (c : ℕ) (x : Process) → is_it x ≡ true → is_exited_of c x ≡ false
  no-exited c (Master m par im live hs) e = refl
  no-exited c (Worker m par h' j' s hs) e = absurd (cc)
  no-exited c (Foreign m hs) e = refl

  module _ (S : Stance → Type 0) (can : S Exited) (never : S Starting → ⊥) where
    abbrev A : Stepped → Type 0
    A st = Knows S st.table

    abbrev there : (f : Process → Option Process) (t : Table) → Here S t → Rows S (filter_map f t.rows) → Knows S (each_row f t)
    there f t h rows = inl (record { rows = rows; below = h.below; above = h.above })

    more : (t : Table) (row : ℕ → Process) → Here S t → Ours S (row t.next_process) → Images (row t.next_process) →
        Knows S (with_new_row t row)
    more t row h o m = inl (record {
      rows = record {
        ours = every-append (Ours S) t.rows (row t.next_process) h.rows.ours o;
        images = every-append Images t.rows (row t.next_process) h.rows.images m;
        lives = any-more is_it t.rows (row t.next_process) h.rows.lives;
      };
      below = omega (arith, h.below);
      above = omega (arith, h.above);
    })

    own : (handed : Handed) (by : ℕ) (c : Caller) (call : Call) (t : Table) → Fits S call → Here S t →
        A (own_step handed by c call t)
    own handed by c (OpenAt a) t fits h =
        let hold : Hold = record { fd = lowest_free c.holds; socket = t.next_socket; address = a } in
        pick A (is_held a t.rows) _ _ (λ e. inl h)
        (λ e. pick A (nat_lt (length c.holds) t.limits.descriptors) _ _
        (λ e. inl (record {
          rows = changed-rows S (is_row c.number) (with_holds (put_hold hold)) (λ x e o. held-ours S (put_hold hold) x o)
              (held-images (put_hold hold)) (held-it (put_hold hold)) t.rows h.rows;
          below = h.below;
          above = h.above;
        })) (λ e. inl h))
    own handed by c (CloseAt a) t fits h =
        there (change (is_of c.number) (with_holds (lacks_address a))) t h
        (changed-rows S (is_of c.number) (with_holds (lacks_address a)) (λ x e o. held-ours S (lacks_address a) x o)
        (held-images (lacks_address a)) (held-it (lacks_address a)) t.rows h.rows)
    own handed by c (Fork h' j fds) t fits h =
        pick A (list_any (is_worker is_active c.number h' j) t.rows) _ _ (λ e. inl h)
        (λ e. pick A (has_process_room t) _ _
        (λ e. more t (λ m. Worker m c.number h' j Starting (shared fds c.holds)) h (λ same. absurd (omega (arith, same, h.below))) tt)
        (λ e. inl h))
    own handed by c (AwaitReady h' j) t fits h =
        pick A (list_any (is_worker is_active c.number h' j) t.rows) _ _
        (λ e. there (change (is_worker is_starting c.number h' j) made_ready) t h
        (changed-rows S (is_worker is_starting c.number h' j) made_ready (ready-ours S never c.number h' j) (stood-images Ready) (stood-it Ready) t.rows h.rows))
        (λ e. there (drop_where (is_worker is_exited c.number h' j)) t h (dropped-rows S (is_worker is_exited c.number h' j) (no-worker is_exited c.number h' j) t.rows h.rows))
    own handed by c (Quit h' j) t fits h =
        there (change (is_worker is_active c.number h' j) made_draining) t h
        (changed-rows S (is_worker is_active c.number h' j) made_draining (draining-ours S never c.number h' j fits) (stood-images Draining) (stood-it Draining) t.rows h.rows)
    own handed by c (Kill h' j) t fits h =
        there (drop_where (is_worker is_any c.number h' j)) t h (dropped-rows S (is_worker is_any c.number h' j) (no-worker is_any c.number h' j) t.rows h.rows)
    own handed by c (Census h') t fits h =
        there (drop_where (is_exited_of c.number)) t h (dropped-rows S (is_exited_of c.number) (no-exited c.number) t.rows h.rows)
    own handed by c (AwaitGone h' j) t fits h =
        pick A (list_any (is_worker is_active c.number h' j) t.rows) _ _ (λ e. inl h)
        (λ e. there (drop_where (is_worker is_any c.number h' j)) t h (dropped-rows S (is_worker is_any c.number h' j) (no-worker is_any c.number h' j) t.rows h.rows))
    own handed by c (SpawnMaster im) t fits h =
        pick A (list_any (is_image im) t.rows) _ _ (λ e. inl h)
        (λ e. pick A (has_process_room t) _ _
        (λ e. more t (λ m. Master m c.number im true c.holds) h (λ same. absurd (omega (arith, same, h.below)))
        ((λ is. absurd (fits is)), (λ same. absurd (omega (arith, same, h.above)))))
        (λ e. inl h))
    own handed by c Adopt t fits h = pick A (suits handed by c.holds) _ _ (λ e. inl h) (λ e. inl h)
    own handed by c (WritePid path) t fits h = inl (record { rows = h.rows; below = h.below; above = h.above })
    own handed by c (MovePid from to) t fits h = go (owner_at from t.files)
      where
        go : (o : Option ℕ) → A (unwrap_or (option_map (λ (m : ℕ). gives answer.Fine
            (record t { files = with_file to m (without_file from t.files) })) o) (gives answer.IoFault t))
        go None = inl h
        go (Some m) = inl (record { rows = h.rows; below = h.below; above = h.above })
    own handed by c (RemovePid path) t fits h = inl (record { rows = h.rows; below = h.below; above = h.above })
    own handed by c (Alive im) t fits h =
        pick A (is_some (live_master im t.rows)) _ _ (λ e. inl h)
        (λ e. there (drop_where (is_image im)) t h (record {
          ours = every-filter_map (Ours S) (Ours S) (drop_where (is_image im)) (λ x y. pick (FitsIn (Ours S)) (is_image im x) None (Some x) (λ e. tt) (λ e. y)) t.rows h.rows.ours;
          images = every-filter_map Images Images (drop_where (is_image im)) (λ x y. pick (FitsIn Images) (is_image im x) None (Some x) (λ e. tt) (λ e. y)) t.rows h.rows.images;
          lives = any-left Images (is_image im) is_it (not-image im fits t.rows h.rows.images) t.rows h.rows.images h.rows.lives;
        }))
    own handed by c Leave t fits h =
        ⊎_elim (λ rows. there (without_exited c.number (λ parent. false)) t h rows)
        (λ gone. inr (record { all = gone; below = h.below })) (left-rows S can c.number (λ parent. false) t.rows h.rows)
    own handed by c (Usr1 h' j) t fits h = inl h
    own handed by c (TermMaster im) t fits h =
        there (drop_where (is_of_image im t.rows)) t h (record {
          ours = every-filter_map (Ours S) (Ours S) (drop_where (is_of_image im t.rows)) (λ x y. pick (FitsIn (Ours S)) (is_of_image im t.rows x) None (Some x) (λ e. tt) (λ e. y)) t.rows h.rows.ours;
          images = every-filter_map Images Images (drop_where (is_of_image im t.rows)) (λ x y. pick (FitsIn Images) (is_of_image im t.rows x) None (Some x) (λ e. tt) (λ e. y)) t.rows h.rows.images;
          lives = any-left Images (is_of_image im t.rows) is_it row t.rows h.rows.images h.rows.lives;
        })
      where
        row : (x : Process) → Images x → is_it x ≡ true → is_of_image im t.rows x ≡ false
        row (Master m par im' live hs) o e = not-image im fits t.rows h.rows.images (Master m par im' live hs) o e
        row (Worker m par h' j s hs) o e = absurd (cc)
        row (Foreign m hs) o e = absurd (cc)
    own handed by c (Ask question) t fits h = inl h

    pub step-known : (handed : Handed) (by : ℕ) (call : Call) (fate : Option Fate) (t : Table) → Fits S call → Knows S t →
        Knows S (step_with handed by call fate t).table
    step-known handed by call fate t fits (inr gone) = inr (absent-steps n handed by call fate t gone)
    step-known handed by call fate t fits (inl h) = go (live_master by t.rows)
      where
        or-own : (c : Caller) (f : Option Answer) → A (unwrap_or (option_map (λ a. gives a t) f) (own_step handed by c call t))
        or-own c None = own handed by c call t fits h
        or-own c (Some a) = inl h

        go : (o : Option Caller) → A (step_by handed by o call fate t)
        go None = inl h
        go (Some c) = or-own c _

  ---- Where it is

  none-in : (P : Process → Type 0) (test : Test) → ((x : Process) → P x → test x ≡ false) → (rows : List Process) →
      AllByRecursion P rows → list_any test rows ≡ false
  none-in P test h [] all = refl
  none-in P test h (x ∷ xs) all = go (test x) (h x all.0) (none-in P test h xs all.1)
    where
      go : (b : Bool) → b ≡ false → list_any test xs ≡ false → (b || list_any test xs) ≡ false
      go true e ih = absurd (cc)
      go false e ih = ih

  all-off : (test : Test) (rows : List Process) → list_any test rows ≡ false → AllByRecursion (λ x. test x ≡ false) rows
  all-off test [] e = tt
  all-off test (x ∷ xs) e = go (test x) refl e (all-off test xs)
    where
      go : (b : Bool) → test x ≡ b → (b || list_any test xs) ≡ false →
          (list_any test xs ≡ false → AllByRecursion (λ x. test x ≡ false) xs) →
          (test x ≡ false) × AllByRecursion (λ x. test x ≡ false) xs
      go true is e ih = absurd (cc)
      go false is e ih = (is, ih e)

  -- stances that leave it out of one
  abbrev pub Excludes : (Stance → Type 0) → Stance → Type 0
  Excludes S stance = (s : Stance) → same_stance stance s ≡ true → S s → ⊥

  ours-off : (S : Stance → Type 0) (stance : Stance) → Excludes S stance → (x : Process) → Ours S x → at stance n g k x ≡ false
  ours-off S stance not_there (Master m par im live hs) o = refl
  ours-off S stance not_there (Worker m par h j s hs) o = go (at stance n g k (Worker m par h j s hs)) refl
    where
      go : (b : Bool) → at stance n g k (Worker m par h j s hs) ≡ b → b ≡ false
      go true e = absurd (not_there s (and-left (same_stance stance s) _ e)
          (o (eqb-is m n (and-left _ _ (and-right (same_stance stance s) _ e)))).3)
      go false e = refl
  ours-off S stance not_there (Foreign m hs) o = refl

  other-off : (stance : Stance) (x : Process) → IsOther n x → at stance n g k x ≡ false
  other-off stance (Master m par im live hs) o = refl
  other-off stance (Worker m par h j s hs) o = go (at stance n g k (Worker m par h j s hs)) refl
    where
      go : (b : Bool) → at stance n g k (Worker m par h j s hs) ≡ b → b ≡ false
      go true e = absurd (o (eqb-is m n (and-left _ _ (and-right (same_stance stance s) _ e))))
      go false e = refl
  other-off stance (Foreign m hs) o = refl

  pub none-at : (S : Stance → Type 0) (stance : Stance) → Excludes S stance → (t : Table) → Knows S t →
      is_at stance n g k t ≡ false
  none-at S stance not_there t (inl h) = none-in (Ours S) (at stance n g k) (ours-off S stance not_there) t.rows h.rows.ours
  none-at S stance not_there t (inr gone) = none-in (IsOther n) (at stance n g k) (other-off stance) t.rows gone.all

  pub ready-drains : Excludes Drains Ready
  ready-drains Starting e o = o
  ready-drains Ready e o = o
  ready-drains Draining e o = absurd (cc)
  ready-drains Exited e o = absurd (cc)

  pub draining-serves : Excludes Serves Draining
  draining-serves Starting e o = o
  draining-serves Ready e o = absurd (cc)
  draining-serves Draining e o = o
  draining-serves Exited e o = absurd (cc)

  pub draining-ended : Excludes HasEnded Draining
  draining-ended Starting e o = o
  draining-ended Ready e o = o
  draining-ended Draining e o = o
  draining-ended Exited e o = absurd (cc)

  -- it drains no more
  pub narrows : (t : Table) → Knows Drains t → is_at Draining n g k t ≡ false → Knows HasEnded t
  narrows t (inr gone) off = inr gone
  narrows t (inl h) off = inl (record {
    rows = record {
      ours =
          every-more (λ x. Ours Drains x × (at Draining n g k x ≡ false)) (Ours HasEnded) row t.rows
          (Rattle.table_laws.proofs.Rows.every-both (Ours Drains) (λ x. at Draining n g k x ≡ false) t.rows h.rows.ours (all-off (at Draining n g k) t.rows off));
      images = h.rows.images;
      lives = h.rows.lives;
    };
    below = h.below;
    above = h.above;
  })
    where
      row : (x : Process) → Ours Drains x × (at Draining n g k x ≡ false) → Ours HasEnded x
      row (Master m par im live hs) o = o.0
      row (Worker m par h j Starting hs) o = λ is. absurd (o.0 is).3
      row (Worker m par h j Ready hs) o = λ is. absurd (o.0 is).3
      row (Worker m par h j Draining hs) o = λ is.
          let w = o.0 is in
          let named : bears g k h j ≡ true =
          subst (λ z. bears g k z j ≡ true) (sym w.1) (subst (λ z. bears g k g z ≡ true) (sym w.2) (bears-refl g k)) in
          let on : at Draining n g k (Worker m par h j Draining hs) ≡ true = both-true (m == n) (bears g k h j) (eqb-refl m n is) named in
          let no = o.1 in
          absurd (cc)
      row (Worker m par h j Exited hs) o = λ is. let w = o.0 is in (w.0, w.1, w.2, tt)
      row (Foreign m hs) o = o.0

  ---- Told to quit

  found-own : (rows : List Process) → AllByRecursion Images rows → list_any is_it rows ≡ true →
      (zs : List Hold) × (live_master i rows ≡ Some (record { number = q; holds = zs }))
  found-own [] all e = absurd (cc)
  found-own (Master m par im live hs ∷ xs) all e = go live (im == i) refl (m == q) refl e (found-own xs all.1)
    where
      go : (l b : Bool) → (im == i) ≡ b → (d : Bool) → (m == q) ≡ d → ((l && d) || list_any is_it xs) ≡ true →
          (list_any is_it xs ≡ true → (zs : List Hold) × (live_master i xs ≡ Some (record { number = q; holds = zs }))) →
          (zs : List Hold) × (caller_if (l && b) m hs (live_master i xs) ≡ Some (record { number = q; holds = zs }))
      go true true is d its e ih = (hs, ap (λ z. Some (record { number = z; holds = hs })) (all.0.0 (eqb-is im i is)))
      go true false is true its e ih = absurd (let on = eqb-refl im i (all.0.1 (eqb-is m q its)) in cc)
      go true false is false its e ih = ih e
      go false b is d its e ih = ih e
  found-own (Worker m par h j s hs ∷ xs) all e = found-own xs all.1 e
  found-own (Foreign m hs ∷ xs) all e = found-own xs all.1 e

  -- the master tells the name
  module _ (h : Generation) (j : ℕ) (on : bears g k h j ≡ true) where
    abbrev T : Test
    T = is_worker is_active q h j

    told-row : (m par : ℕ) (h' : Generation) (j' : ℕ) (hs : List Hold) → par ≡ q → h' ≡ g → j' ≡ k →
        T (Worker m par h' j' Ready hs) ≡ true
    told-row m par h' j' hs a b d =
        let its = bears-is g k h j on in
        let named : bears h j h' j' ≡ true =
        subst (λ z. bears h j z j' ≡ true) (its.0 ∙ sym b) (subst (λ z. bears h j h z ≡ true) (its.1 ∙ sym d) (bears-refl h j)) in
        both-true (par == q) (bears h j h' j') (eqb-refl par q a) named

    turned-row : (x : Process) → Ours Serves x → FitsIn (Ours Drains) (change T made_draining x)
    turned-row (Master m par im live hs) o = o
    turned-row (Worker m par h' j' Starting hs) o =
        pick (Ours Drains) (T (Worker m par h' j' Starting hs)) (made_draining (Worker m par h' j' Starting hs)) (Worker m par h' j' Starting hs) (λ e is. absurd (o is).3) (λ e is. absurd (o is).3)
    turned-row (Worker m par h' j' Ready hs) o =
        pick (Ours Drains) (T (Worker m par h' j' Ready hs)) (made_draining (Worker m par h' j' Ready hs)) (Worker m par h' j' Ready hs) (λ e is. let w = o is in (w.0, w.1, w.2, tt))
        (λ off is. let w = o is in let told = told-row m par h' j' hs w.0 w.1 w.2 in absurd (cc))
    turned-row (Worker m par h' j' Draining hs) o =
        pick (Ours Drains) (T (Worker m par h' j' Draining hs)) (made_draining (Worker m par h' j' Draining hs)) (Worker m par h' j' Draining hs) (λ e is. absurd (o is).3) (λ e is. absurd (o is).3)
    turned-row (Worker m par h' j' Exited hs) o = λ is. let w = o is in (w.0, w.1, w.2, tt)
    turned-row (Foreign m hs) o = o

    turned-at : (x : Process) → Ours Serves x → at Ready n g k x ≡ true →
        at Draining n g k (if T x then made_draining x else x) ≡ true
    turned-at (Master m par im live hs) o e = absurd (cc)
    turned-at (Worker m par h' j' Starting hs) o e = absurd (cc)
    turned-at (Worker m par h' j' Ready hs) o e =
        pick (λ x. at Draining n g k x ≡ true) (T (Worker m par h' j' Ready hs)) (made_draining (Worker m par h' j' Ready hs))
        (Worker m par h' j' Ready hs) (λ told. e)
        (λ off. let w = o (eqb-is m n (and-left (m == n) _ e)) in let told = told-row m par h' j' hs w.0 w.1 w.2 in absurd (cc))
    turned-at (Worker m par h' j' Draining hs) o e = absurd (cc)
    turned-at (Worker m par h' j' Exited hs) o e = absurd (cc)
    turned-at (Foreign m hs) o e = absurd (cc)

    -- Where it served it drains.
    abbrev Turns : Table → Stepped → Type 0
    Turns t st = Knows Drains st.table × (is_at Ready n g k t ≡ true → is_at Draining n g k st.table ≡ true)

    pub quit-turns : (handed : Handed) (fate : Option Fate) (t : Table) → Here Serves t →
        Turns t (step_with handed i (Quit h j) fate t)
    quit-turns handed fate t here =
        let found = found-own t.rows here.rows.images here.rows.lives in
        let c : Caller = record { number = q; holds = found.0 } in
        let stepped : step_with handed i (Quit h j) fate t ≡ own_step handed i c (Quit h j) t =
        ap (λ (o : Option Caller). step_by handed i o (Quit h j) fate t) found.1 ∙ unfailing handed i c (Quit h j) fate t tt in
        subst (Turns t) (sym stepped) (
          inl (record {
            rows = record {
              ours = every-filter_map (Ours Serves) (Ours Drains) (change T made_draining) turned-row t.rows here.rows.ours;
              images = every-filter_map Images Images (change T made_draining) (λ x y. pick Images (T x) (made_draining x) x (λ e. stood-images Draining x y) (λ e. y)) t.rows here.rows.images;
              lives = any-changed T made_draining is_it (stood-it Draining) t.rows here.rows.lives;
            };
            below = here.below;
            above = here.above;
          }),
          λ served. any-turned (Ours Serves) T made_draining (at Ready n g k) (at Draining n g k) turned-at t.rows here.rows.ours served,
        )
