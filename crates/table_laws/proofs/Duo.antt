-- Two masters: what is known of one that may exit at any moment, and what is kept of it beside the calls of the other.
use Rattle.std.proofs.Common.{◌≡◌, ◌≢◌, ℕ, ◌+◌, ◌≤◌, ◌<◌, Bool, true, false, List, [], ◌∷◌, ◌++◌, Option, Some}
use Rattle.std.proofs.Common.{None, refl, sym, ap, ◌∙◌, subst, arith, ◌⊎◌, inl, inr, ⊎_elim}
use Rattle.std.specs.Prelude.{◌&&◌, ◌||◌, ◌==◌, ⊤, if◌then◌else◌}
use Rattle.std.specs.List.{filter_map, AllByRecursion, list_any}
use Rattle.listener_set.specs.declared.generation.Generation.{Generation}
use Rattle.vocabulary.specs.declared.table.Stance.TheVariants.{Starting, Ready, Draining, Exited}
use Rattle.vocabulary.specs.declared.names.Name.{Name}
use Rattle.vocabulary.specs.declared.names.Name.TheVariants as name
use Rattle.definitions.specs.Table.{Hold, Process, Master, Worker, Foreign, Caller, number_of, bears, live_master}
use Rattle.definitions.specs.Table.{is_active, IsAscending}
use Rattle.call_laws.specs.Pieces.{is_live_master, is_named, caller_if, is_ready, is_draining, share, made_exited}
use Rattle.call_laws.specs.Pieces.{caller_exits, is_image_row, without_master}
use Rattle.definitions.specs.Master.{Posts}
use Rattle.definitions.specs.Calls.{change, first_changed, without_exited, exited, all_exited, drop_where, is_image}
use Rattle.definitions.specs.Calls.{is_of_image}
use Rattle.std.specs.Bool.{then_some}
use Rattle.table_laws.proofs.Rows.{one, weigh, worth, FitsIn, change-same, every-filter_map, every-both, every-more, every-append, weigh-append}
use Rattle.call_laws.proofs.Choices.{pick}
use Rattle.table_laws.proofs.Views.{Names, View, Fine, Other, Row, Looks, live_named, ready_in, master_at, finds, eqb-refl, eqb-off, eqb-is}
use Rattle.table_laws.proofs.Effects.{Mine, StaysOther, none}
use Rattle.table_laws.proofs.Services.{Sole, sole-fine, other-unready}
use Rattle.table_laws.proofs.Exits.{IsNot, shrinks}

off-true : (b : Bool) → b ≡ false → b ≡ true → ⊥
off-true b e f = cc

---- A master lives, or it is dead: no worker of it is there, and no live master of its image

-- as others see it
abbrev seen_by : View → View
seen_by w = record { number = w.number; others = λ k. true; image = w.image; holds = []; starting = none; ready = none; held = λ h k. [] }

abbrev pub Dead : View → Process → Type 0
Dead w (Master n q i live hs) = Other (seen_by w) (Master n q i live hs) ⊎ ((n ≡ w.number) × (i ≡ w.image) × (live ≡ false))
Dead w (Worker n q g k s hs) = q ≢ w.number
Dead w (Foreign n hs) = ⊤

abbrev pub Lives : View → List Process → Type 0
Lives w rows = Looks w rows ⊎ AllByRecursion (Dead w) rows

pub dead-none : (w : View) (rows : List Process) → AllByRecursion (Dead w) rows → live_master w.image rows ≡ None
dead-none w [] all = refl
dead-none w (Master n q i true hs ∷ rows) all =
    go (i == w.image)
    (⊎_elim (λ o. ⊎_elim (λ e. absurd (cc e)) (λ ne. eqb-off i w.image ne) o.2) (λ c. absurd (cc (c.2))) all.0)
    (dead-none w rows all.1)
  where
    go : (b : Bool) → b ≡ false → live_master w.image rows ≡ None → caller_if b n hs (live_master w.image rows) ≡ None
    go true e ih = absurd (cc)
    go false e ih = ih
dead-none w (Master n q i false hs ∷ rows) all = dead-none w rows all.1
dead-none w (Worker n q g k s hs ∷ rows) all = dead-none w rows all.1
dead-none w (Foreign n hs ∷ rows) all = dead-none w rows all.1

-- the dead have no Ready workers
dead-unready : (w : View) (t : Names) (p : Process) → Dead w p → ready_in w.number t p ≡ 0
dead-unready w t (Master n q i live hs) h = refl
dead-unready w t (Worker n q g k s hs) h = go (is_ready s) (q == w.number) (eqb-off q w.number h)
  where
    go : (a b : Bool) → b ≡ false → one (a && (b && t g k)) ≡ 0
    go true true e = absurd (cc)
    go true false e = refl
    go false b e = refl
dead-unready w t (Foreign n hs) h = refl

pub dead-weigh : (w : View) (t : Names) (rows : List Process) → AllByRecursion (Dead w) rows → weigh (ready_in w.number t) rows ≡ 0
dead-weigh w t [] all = refl
dead-weigh w t (p ∷ rows) all = omega (arith, dead-unready w t p all.0, dead-weigh w t rows all.1)

-- it stays dead
dead-exited : (w : View) (p : Process) → Dead w p → Dead w (made_exited p)
dead-exited w (Master n q i live hs) h = h
dead-exited w (Worker n q g k s hs) h = h
dead-exited w (Foreign n hs) h = h

dead-kept :
    (w : View) (n q i : ℕ) (live : Bool) (hs : List Hold) (b : Bool) → Dead w (Master n q i live hs) →
    FitsIn (Dead w) (then_some b (Master n q i false []))
dead-kept w n q i live hs true h = ⊎_elim (λ o. inl (o.0, refl, inl refl)) (λ c. inr (c.0, c.1, refl)) h
dead-kept w n q i live hs false h = tt

dead-without : (w : View) (gone : ℕ) (lives : ℕ → Bool) (p : Process) → Dead w p → FitsIn (Dead w) (without_exited gone lives p)
dead-without w gone lives (Master n q i live hs) h = pick (FitsIn (Dead w)) (n == gone) _ _ (λ e. dead-kept w n q i live hs (lives q) h) (λ e. h)
dead-without w gone lives (Worker n q g k s hs) h = pick (FitsIn (Dead w)) (q == gone) None (Some (Worker n q g k s hs)) (λ e. tt) (λ e. h)
dead-without w gone lives (Foreign n hs) h = tt

dead-first : (w : View) (test : Process → Bool) (ps : List Process) → AllByRecursion (Dead w) ps → AllByRecursion (Dead w) (first_changed test made_exited ps)
dead-first w test [] all = tt
dead-first w test (p ∷ ps) all =
    pick (AllByRecursion (Dead w)) (test p) (made_exited p ∷ ps) (p ∷ first_changed test made_exited ps)
    (λ e. (dead-exited w p all.0, all.1)) (λ e. (all.0, dead-first w test ps all.1))

dead-masters : (w : View) (o : Option Caller) (rows : List Process) → AllByRecursion (Dead w) rows → AllByRecursion (Dead w) (caller_exits o rows)
dead-masters w None rows all = all
dead-masters w (Some c) rows all =
    every-filter_map (Dead w) (Dead w) (without_exited c.number (λ q. list_any (is_live_master q) rows))
    (dead-without w c.number (λ q. list_any (is_live_master q) rows)) rows all

dead-exit : (w : View) (e : Name) (rows : List Process) → AllByRecursion (Dead w) rows → AllByRecursion (Dead w) (exited e rows)
dead-exit w (name.Worker g k) rows all =
    every-filter_map (Dead w) (Dead w) (change (is_named is_active g k) made_exited)
    (λ p h. pick (Dead w) (is_named is_active g k p) (made_exited p) p (λ e. dead-exited w p h) (λ e. h)) rows all
dead-exit w (name.Draining g k) rows all = dead-first w (is_named is_draining g k) rows all
dead-exit w (name.Master i) rows all = dead-masters w (live_master i rows) rows all

-- the master exits, and its workers with it
dies : (w : View) (lives : ℕ → Bool) (p : Process) → Row w p → FitsIn (Dead w) (without_exited w.number lives p)
dies w lives (Master n q i live hs) h =
    pick (FitsIn (Dead w)) (n == w.number) _ _
    (λ e. ⊎_elim (λ f. corpse (lives q) f.0 f.1) (λ o. absurd (o.0 (eqb-is n w.number e))) h)
    (λ e. ⊎_elim (λ f. absurd (off-true _ e (eqb-refl n w.number f.0))) (λ o. inl (o.0, refl, o.2)) h)
  where
    corpse : (b : Bool) → n ≡ w.number → i ≡ w.image → FitsIn (Dead w) (then_some b (Master n q i false []))
    corpse true e f = inr (e, f, refl)
    corpse false e f = tt
dies w lives (Worker n q g k s hs) h = go (q == w.number) refl
  where
    go : (b : Bool) → (q == w.number) ≡ b → FitsIn (Dead w) (if b then None else Some (Worker n q g k s hs))
    go true e = tt
    go false e = λ is. off-true _ e (eqb-refl q w.number is)
dies w lives (Foreign n hs) h = tt

master-dies : (w : View) (rows : List Process) → Looks w rows → AllByRecursion (Dead w) (exited (name.Master w.image) rows)
master-dies w rows looks =
    subst (λ o. AllByRecursion (Dead w) (caller_exits o rows)) (sym (finds w rows looks))
    (every-filter_map (Row w) (Dead w) (without_exited w.number (λ q. list_any (is_live_master q) rows)) (dies w (λ q. list_any (is_live_master q) rows)) rows looks.fine)

-- Whoever exits, it lives or is dead.
pub lives-exits : (w : View) (es : List Name) (rows : List Process) → Lives w rows → Lives w (all_exited es rows)
lives-exits w [] rows l = l
lives-exits w (e ∷ es) rows l = lives-exits w es (exited e rows) (⊎_elim (λ x. one_more e x) (λ x. inr (dead-exit w e rows x)) l)
  where
    keeps : (e : Name) → IsNot w.image e → Looks w rows → Lives w (exited e rows)
    keeps e sp x = inl ((shrinks w (e ∷ []) rows (sp, tt) x).looks)

    one_more : (e : Name) → Looks w rows → Lives w (exited e rows)
    one_more (name.Worker g k) x = keeps (name.Worker g k) tt x
    one_more (name.Draining g k) x = keeps (name.Draining g k) tt x
    one_more (name.Master i) x =
        elim (i == w.image) as (λ b. (i == w.image) ≡ b → Lives w (exited (name.Master i) rows)) [
          | true ↦ λ e. inr (subst (λ j. AllByRecursion (Dead w) (exited (name.Master j) rows)) (sym (eqb-is i w.image e)) (master-dies w rows x))
          | false ↦ λ e. keeps (name.Master i) (λ is. off-true (i == w.image) e (eqb-refl i w.image is)) x
        ] refl

---- A call of another master leaves what is known of it

-- a test that only rows of master m pass, and no foreign row
abbrev pub OnlyOf : ℕ → (Process → Bool) → Type 0
OnlyOf m test = Mine m test × ((n : ℕ) (hs : List Hold) → test (Foreign n hs) ≡ false)

-- a view of master m for which all rows of v are others'
abbrev elsewhere : ℕ → View → View
elsewhere m v = record { number = m; others = λ k. true; image = v.image + 1; holds = []; starting = none; ready = none; held = λ h k. [] }

misses : (v : View) (m : ℕ) (test : Process → Bool) → v.number ≢ m → OnlyOf m test → (p : Process) → Fine v p → test p ≡ false
misses v m test ne mine (Master n q i live hs) f =
    mine.0 (elsewhere m v) (Master n q i live hs) refl
    ((λ e. ne (sym f.0 ∙ e)), refl, inr (λ e. absurd (omega (arith, e, f.1))))
misses v m test ne mine (Worker n q g k s hs) f = mine.0 (elsewhere m v) (Worker n q g k s hs) refl ((λ e. ne (sym f.0 ∙ e)), refl)
misses v m test ne mine (Foreign n hs) f = mine.1 n hs

-- whatever is asked of each row's kind stays
pub record Framed (v : View) (rows rows' : List Process) : Type 0 where
  pub looks : Looks v rows'
  pub same : (t : Names) → weigh (ready_in v.number t) rows' ≡ weigh (ready_in v.number t) rows

other-masters : (v : View) (p : Process) → Other v p → master_at v.number p ≡ 0
other-masters v (Master n q i live hs) o = ap one (eqb-off n v.number o.0)
other-masters v (Worker n q g k s hs) o = refl
other-masters v (Foreign n hs) o = refl

other-named : (v : View) (g : Generation) (k : ℕ) (p : Process) → Other v p → live_named v.number g k p ≡ 0
other-named v g k (Master n q i live hs) o = refl
other-named v g k (Worker n q g' k' s hs) o = go (is_active s) (q == v.number) (eqb-off q v.number o.0)
  where
    go : (a b : Bool) → b ≡ false → one (a && (b && bears g k g' k')) ≡ 0
    go true true e = absurd (cc)
    go true false e = refl
    go false b e = refl
other-named v g k (Foreign n hs) o = refl

-- what becomes of a row by a change of another master's rows
changed-row : (v : View) (m : ℕ) (test : Process → Bool) (f : Process → Process) → v.number ≢ m → OnlyOf m test → StaysOther f → (p : Process) → Row v p →
    Row v (if test p then f p else p) × ((u : Process → ℕ) → ((p : Process) → Other v p → u p ≡ 0) → u (if test p then f p else p) ≡ u p)
changed-row v m test f ne mine stays p h = ⊎_elim (λ a. unchanged (test p) (misses v m test ne mine p a)) (λ o. changed (test p) o) h
  where
    Holds : Process → Type 0
    Holds p' = Row v p' × ((u : Process → ℕ) → ((p : Process) → Other v p → u p ≡ 0) → u p' ≡ u p)

    unchanged : (b : Bool) → b ≡ false → Holds (if b then f p else p)
    unchanged true e = absurd (cc)
    unchanged false e = (h, λ u z. refl)

    changed : (b : Bool) → Other v p → Holds (if b then f p else p)
    changed true o = (inr (stays v p o), λ u z. z (f p) (stays v p o) ∙ sym (z p o))
    changed false o = (h, λ u z. refl)

pub framed-change :
    (v : View) (m : ℕ) (test : Process → Bool) (f : Process → Process) (rows : List Process) → v.number ≢ m →
    OnlyOf m test → StaysOther f → Looks v rows → Framed v rows (filter_map (change test f) rows)
framed-change v m test f rows ne mine stays looks = record {
  looks = record {
    fine = every-filter_map (Row v) (Row v) (change test f) (λ p h. (changed-row v m test f ne mine stays p h).0) rows looks.fine;
    alone =
        change-same (Row v) (master_at v.number) (change test f)
        (λ p h. (changed-row v m test f ne mine stays p h).1 (master_at v.number) (other-masters v)) rows looks.fine ∙
        looks.alone;
    once =
        λ g k. omega
        (arith, looks.once g k, change-same (Row v) (live_named v.number g k) (change test f) (λ p h. (changed-row v m test f ne mine stays p h).1 (live_named v.number g k) (other-named v g k)) rows looks.fine);
  };
  same =
      λ t. change-same (Row v) (ready_in v.number t) (change test f)
      (λ p h. (changed-row v m test f ne mine stays p h).1 (ready_in v.number t) (other-unready v t)) rows looks.fine;
}

-- a row that is the view's own, and is not tested for, stays; another counts nothing
spared-row :
    (v : View) (test : Process → Bool) → ((p : Process) → Fine v p → test p ≡ false) → (u : Process → ℕ) →
    ((p : Process) → Other v p → u p ≡ 0) → (p : Process) → Row v p → worth u (drop_where test p) ≡ u p
spared-row v test spared u z p h = ⊎_elim (λ a. stays (test p) (spared p a)) (λ o. goes (test p) (z p o)) h
  where
    stays : (b : Bool) → b ≡ false → worth u (if b then None else Some p) ≡ u p
    stays true e = absurd (cc)
    stays false e = refl

    goes : (b : Bool) → u p ≡ 0 → worth u (if b then None else Some p) ≡ u p
    goes true e = sym e
    goes false e = refl

dropped-row :
    (v : View) (m : ℕ) (test : Process → Bool) → v.number ≢ m → OnlyOf m test → (u : Process → ℕ) →
    ((p : Process) → Other v p → u p ≡ 0) → (p : Process) → Row v p → worth u (drop_where test p) ≡ u p
dropped-row v m test ne mine = spared-row v test (misses v m test ne mine)

pub framed-drop :
    (v : View) (m : ℕ) (test : Process → Bool) (rows : List Process) → v.number ≢ m → OnlyOf m test → Looks v rows →
    Framed v rows (filter_map (drop_where test) rows)
framed-drop v m test rows ne mine looks = record {
  looks = record {
    fine = every-filter_map (Row v) (Row v) (drop_where test) (λ p h. pick (FitsIn (Row v)) (test p) None (Some p) (λ e. tt) (λ e. h)) rows looks.fine;
    alone =
        change-same (Row v) (master_at v.number) (drop_where test)
        (dropped-row v m test ne mine (master_at v.number) (other-masters v)) rows looks.fine ∙ looks.alone;
    once =
        λ g k. omega
        (arith, looks.once g k, change-same (Row v) (live_named v.number g k) (drop_where test) (dropped-row v m test ne mine (live_named v.number g k) (other-named v g k)) rows looks.fine);
  };
  same =
      λ t. change-same (Row v) (ready_in v.number t) (drop_where test)
      (dropped-row v m test ne mine (ready_in v.number t) (other-unready v t)) rows looks.fine;
}

pub framed-grow :
    (v : View) (m n : ℕ) (g : Generation) (x : ℕ) (hs : List Hold) (rows : List Process) → v.number ≢ m →
    v.others m ≡ true → Looks v rows → Framed v rows (rows ++ Worker n m g x Starting hs ∷ [])
framed-grow v m n g x hs rows ne on looks =
    let new = Worker n m g x Starting hs in
    let o : Other v new = ((λ e. ne (sym e)), on) in
    record {
      looks = record {
        fine = every-append (Row v) rows new looks.fine (inr o);
        alone = weigh-append (master_at v.number) rows (new ∷ []) ∙ omega (arith, looks.alone);
        once = λ h k. omega (arith, looks.once h k, weigh-append (live_named v.number h k) rows (new ∷ []), other-named v h k new o);
      };
      same = λ t. omega (arith, weigh-append (ready_in v.number t) rows (new ∷ []));
    }

---- Also where it may be dead

dead-change :
    (w : View) (m : ℕ) (test : Process → Bool) (f : Process → Process) → w.number ≢ m → OnlyOf m test → StaysOther f →
    (p : Process) → Dead w p → Dead w (if test p then f p else p)
dead-change w m test f ne mine stays (Master n q i live hs) h =
    ⊎_elim (λ o. other (test (Master n q i live hs)) o)
    (λ c. corpse (test (Master n q i live hs)) c (mine.0 (elsewhere m w) (Master n q i live hs) refl ((λ e. ne (sym c.0 ∙ e)), refl, inl c.2)))
    h
  where
    from : (p' : Process) → Other (seen_by w) p' → Dead w p'
    from (Master n' q' i' live' hs') o = inl o
    from (Worker n' q' g' k' s' hs') o = o.0
    from (Foreign n' hs') o = absurd o

    other : (b : Bool) → Other (seen_by w) (Master n q i live hs) → Dead w (if b then f (Master n q i live hs) else Master n q i live hs)
    other true o = from (f (Master n q i live hs)) (stays (seen_by w) (Master n q i live hs) o)
    other false o = inl o

    corpse : (b : Bool) → (n ≡ w.number) × (i ≡ w.image) × (live ≡ false) → b ≡ false → Dead w (if b then f (Master n q i live hs) else Master n q i live hs)
    corpse true c e = absurd (cc)
    corpse false c e = inr c
dead-change w m test f ne mine stays (Worker n q g k s hs) h = other (test (Worker n q g k s hs))
  where
    from : (p' : Process) → Other (seen_by w) p' → Dead w p'
    from (Master n' q' i' live' hs') o = inl o
    from (Worker n' q' g' k' s' hs') o = o.0
    from (Foreign n' hs') o = absurd o

    other : (b : Bool) → Dead w (if b then f (Worker n q g k s hs) else Worker n q g k s hs)
    other true = from (f (Worker n q g k s hs)) (stays (seen_by w) (Worker n q g k s hs) (h, refl))
    other false = h
dead-change w m test f ne mine stays (Foreign n hs) h = rw (mine.1 n hs) tt

-- what is kept of it: it lives or is dead, and so many of its workers are Ready
pub record Beside (w : View) (rows rows' : List Process) : Type 0 where
  pub lives : Lives w rows'
  pub same : (t : Names) → weigh (ready_in w.number t) rows' ≡ weigh (ready_in w.number t) rows

of-framed : (w : View) (rows rows' : List Process) → Framed w rows rows' → Beside w rows rows'
of-framed w rows rows' f = record { lives = inl f.looks; same = f.same }

of-dead : (w : View) (rows rows' : List Process) → AllByRecursion (Dead w) rows → AllByRecursion (Dead w) rows' → Beside w rows rows'
of-dead w rows rows' d d' = record { lives = inr d'; same = λ t. dead-weigh w t rows' d' ∙ sym (dead-weigh w t rows d) }

pub beside-change :
    (w : View) (m : ℕ) (test : Process → Bool) (f : Process → Process) (rows : List Process) → w.number ≢ m →
    OnlyOf m test → StaysOther f → Lives w rows → Beside w rows (filter_map (change test f) rows)
beside-change w m test f rows ne mine stays l =
    ⊎_elim (λ x. of-framed w rows _ (framed-change w m test f rows ne mine stays x))
    (λ d. of-dead w rows _ d (every-filter_map (Dead w) (Dead w) (change test f) (dead-change w m test f ne mine stays) rows d)) l

pub beside-drop :
    (w : View) (m : ℕ) (test : Process → Bool) (rows : List Process) → w.number ≢ m → OnlyOf m test → Lives w rows →
    Beside w rows (filter_map (drop_where test) rows)
beside-drop w m test rows ne mine l =
    ⊎_elim (λ x. of-framed w rows _ (framed-drop w m test rows ne mine x))
    (λ d. of-dead w rows _ d (every-filter_map (Dead w) (Dead w) (drop_where test) (λ p h. pick (FitsIn (Dead w)) (test p) None (Some p) (λ e. tt) (λ e. h)) rows d))
    l

pub beside-grow :
    (w : View) (m n : ℕ) (g : Generation) (x : ℕ) (hs : List Hold) (rows : List Process) → w.number ≢ m →
    w.others m ≡ true → Lives w rows → Beside w rows (rows ++ Worker n m g x Starting hs ∷ [])
beside-grow w m n g x hs rows ne on l =
    ⊎_elim (λ y. of-framed w rows _ (framed-grow w m n g x hs rows ne on y))
    (λ d. of-dead w rows _ d (every-append (Dead w) rows (Worker n m g x Starting hs) d (λ e. ne (sym e)))) l

---- One of two masters goes

-- with no other master
abbrev pub sole : View → View
sole v = record { number = v.number; others = λ n. false; image = v.image; holds = v.holds; starting = v.starting; ready = v.ready; held = v.held }

fine-sole : (v : View) (p : Process) → Fine v p → Fine (sole v) p
fine-sole v (Master n q i live hs) f = f
fine-sole v (Worker n q g k Starting hs) f = f
fine-sole v (Worker n q g k Ready hs) f = f
fine-sole v (Worker n q g k Draining hs) f = f
fine-sole v (Worker n q g k Exited hs) f = f
fine-sole v (Foreign n hs) f = f

-- m is the only other master
abbrev pub OneOther : View → ℕ → Type 0
OneOther v m = (v.number ≢ m) × ((n : ℕ) → v.others n ≡ true → n ≡ m)

-- what becomes of a row where all rows of m leave and v's master's stay, but for their parents
abbrev Leaves : View → (Process → Option Process) → Process → Type 0
Leaves v f p =
    FitsIn (Row (sole v)) (f p) × (worth (master_at v.number) (f p) ≡ master_at v.number p)
    × ((g : Generation) (k : ℕ) → worth (live_named v.number g k) (f p) ≡ live_named v.number g k p)
    × ((t : Names) → worth (ready_in v.number t) (f p) ≡ ready_in v.number t p)

pub record Alone (v : View) (rows rows' : List Process) : Type 0 where
  pub looks : Looks (sole v) rows'
  pub same : (t : Names) → weigh (ready_in v.number t) rows' ≡ weigh (ready_in v.number t) rows

alone-by :
    (v : View) (P : Process → Type 0) (f : Process → Option Process) (rows : List Process) →
    ((p : Process) → P p → Leaves v f p) → AllByRecursion P rows → Looks v rows → Alone v rows (filter_map f rows)
alone-by v P f rows h all looks = record {
  looks = record {
    fine = every-filter_map P (Row (sole v)) f (λ p x. (h p x).0) rows all;
    alone = change-same P (master_at v.number) f (λ p x. (h p x).1) rows all ∙ looks.alone;
    once = λ g k. omega (arith, looks.once g k, change-same P (live_named v.number g k) f (λ p x. (h p x).2 g k) rows all);
  };
  same = λ t. change-same P (ready_in v.number t) f (λ p x. (h p x).3 t) rows all;
}

-- a row of the other master is gone
is-gone : (v : View) (p : Process) → Other v p → Leaves v (λ p. None) p
is-gone v p o = (tt, sym (other-masters v p o), λ g k. sym (other-named v g k p o), λ t. sym (other-unready v t p o))

-- after a Leave of the other master
left-row : (v : View) (m : ℕ) → OneOther v m → (p : Process) → Row v p → Leaves v (without_master m) p
left-row v m one (Master n q i live hs) h =
    ⊎_elim
    (λ f. pick (λ o. FitsIn (Row (sole v)) o × (worth (master_at v.number) o ≡ master_at v.number (Master n q i live hs)) × ((g : Generation) (k : ℕ) → worth (live_named v.number g k) o ≡ 0) × ((t : Names) → worth (ready_in v.number t) o ≡ 0)) (n == m) None (Some (Master n (if q == m then 1 else q) i live hs))
    (λ e. absurd (one.0 (sym f.0 ∙ eqb-is n m e))) (λ e. (inl f, refl, (λ g k. refl), (λ t. refl))))
    (λ o. subst (λ b. Leaves v (λ p. if b then None else Some (Master n (if q == m then 1 else q) i live hs)) (Master n q i live hs)) (sym (eqb-refl n m (one.1 n o.1))) (is-gone v (Master n q i live hs) o))
    h
left-row v m one (Worker n q g k s hs) h =
    ⊎_elim
    (λ f. pick (λ o. FitsIn (Row (sole v)) o × (worth (master_at v.number) o ≡ 0) × ((g' : Generation) (k' : ℕ) → worth (live_named v.number g' k') o ≡ live_named v.number g' k' (Worker n q g k s hs)) × ((t : Names) → worth (ready_in v.number t) o ≡ ready_in v.number t (Worker n q g k s hs))) (q == m) None (Some (Worker n q g k s hs))
    (λ e. absurd (one.0 (sym f.0 ∙ eqb-is q m e))) (λ e. (inl (fine-sole v (Worker n q g k s hs) f), refl, (λ g' k'. refl), (λ t. refl))))
    (λ o. subst (λ b. Leaves v (λ p. if b then None else Some (Worker n q g k s hs)) (Worker n q g k s hs)) (sym (eqb-refl q m (one.1 q o.1))) (is-gone v (Worker n q g k s hs) o))
    h
left-row v m one (Foreign n hs) h = (inl tt, refl, (λ g k. refl), (λ t. refl))

pub alone-left : (v : View) (m : ℕ) (rows : List Process) → OneOther v m → Looks v rows → Alone v rows (filter_map (without_master m) rows)
alone-left v m rows one looks = alone-by v (Row v) (without_master m) rows (left-row v m one) looks.fine looks

-- after the other master was terminated, whether it lives or is dead
abbrev Ended : ℕ → ℕ → List Process → Process → Type 0
Ended m image rows (Master n q i live hs) = n ≡ m → i ≡ image
Ended m image rows (Worker n q g k s hs) = q ≡ m → list_any (is_image_row image m) rows ≡ true
Ended m image rows (Foreign n hs) = ⊤

finds-row :
    (w : View) (rows : List Process) → AllByRecursion (Row w) rows → 1 ≤ weigh (master_at w.number) rows →
    list_any (is_image_row w.image w.number) rows ≡ true
finds-row w [] fine some = absurd (omega arith)
finds-row w (Master n q i live hs ∷ rows) fine some =
    ⊎_elim (λ f. here (i == w.image) (n == w.number) (eqb-refl i w.image f.1) (eqb-refl n w.number f.0))
    (λ o. there ((i == w.image) && (n == w.number)) (finds-row w rows fine.1 (omega (arith, some, ap one (eqb-off n w.number o.0))))) fine.0
  where
    here : (a b : Bool) → a ≡ true → b ≡ true → ((a && b) || list_any (is_image_row w.image w.number) rows) ≡ true
    here true true e f = refl
    here true false e f = absurd (cc)
    here false b e f = absurd (cc)

    there : (a : Bool) → list_any (is_image_row w.image w.number) rows ≡ true → (a || list_any (is_image_row w.image w.number) rows) ≡ true
    there true e = refl
    there false e = e
finds-row w (Worker n q g k s hs ∷ rows) fine some = finds-row w rows fine.1 (omega (arith, some))
finds-row w (Foreign n hs ∷ rows) fine some = finds-row w rows fine.1 (omega (arith, some))

ended-rows : (w : View) (rows : List Process) → Lives w rows → AllByRecursion (Ended w.number w.image rows) rows
ended-rows w rows l =
    ⊎_elim (λ x. let there = finds-row w rows x.fine (omega (arith, x.alone)) in every-more (Row w) (Ended w.number w.image rows) (of-row there) rows x.fine)
    (λ d. every-more (Dead w) (Ended w.number w.image rows) of-corpse rows d) l
  where
    of-row : list_any (is_image_row w.image w.number) rows ≡ true → (p : Process) → Row w p → Ended w.number w.image rows p
    of-row there (Master n q i live hs) h = λ e. ⊎_elim (λ f. f.1) (λ o. absurd (o.0 e)) h
    of-row there (Worker n q g k s hs) h = λ e. there
    of-row there (Foreign n hs) h = tt

    of-corpse : (p : Process) → Dead w p → Ended w.number w.image rows p
    of-corpse (Master n q i live hs) h = λ e. ⊎_elim (λ o. absurd (o.0 e)) (λ c. c.1) h
    of-corpse (Worker n q g k s hs) h = λ e. absurd (h e)
    of-corpse (Foreign n hs) h = tt

-- v's master is of another image than the one that ends
term-row :
    (v : View) (m image : ℕ) (all : List Process) → OneOther v m → v.image ≢ image →
    list_any (is_image_row image v.number) all ≡ false → (p : Process) → Row v p × Ended m image all p →
    Leaves v (drop_where (is_of_image image all)) p
term-row v m image all one ne none (Master n q i live hs) h =
    ⊎_elim
    (λ f. subst (λ b. Leaves v (λ p. if b then None else Some p) (Master n q i live hs)) (sym (eqb-off i image (λ e. ne (sym f.1 ∙ e)))) (inl f, refl, (λ g k. refl), (λ t. refl)))
    (λ o. subst (λ b. Leaves v (λ p. if b then None else Some p) (Master n q i live hs)) (sym (eqb-refl i image (h.1 (one.1 n o.1)))) (is-gone v (Master n q i live hs) o))
    h.0
term-row v m image all one ne none (Worker n q g k s hs) h =
    ⊎_elim
    (λ f. subst (λ b. Leaves v (λ p. if b then None else Some p) (Worker n q g k s hs)) (sym (subst (λ z. list_any (is_image_row image z) all ≡ false) (sym f.0) none)) (inl (fine-sole v (Worker n q g k s hs) f), refl, (λ g k. refl), (λ t. refl)))
    (λ o. subst (λ b. Leaves v (λ p. if b then None else Some p) (Worker n q g k s hs)) (sym (subst (λ z. list_any (is_image_row image z) all ≡ true) (sym (one.1 q o.1)) (h.1 (one.1 q o.1)))) (is-gone v (Worker n q g k s hs) o))
    h.0
term-row v m image all one ne none (Foreign n hs) h = (inl tt, refl, (λ g k. refl), (λ t. refl))

none-of-image :
    (v : View) (image : ℕ) (rows : List Process) → v.image ≢ image → AllByRecursion (Row v) rows →
    list_any (is_image_row image v.number) rows ≡ false
none-of-image v image [] ne fine = refl
none-of-image v image (Master n q i live hs ∷ rows) ne fine =
    ⊎_elim (λ f. image-off (i == image) (n == v.number) (eqb-off i image (λ e. ne (sym f.1 ∙ e))) (none-of-image v image rows ne fine.1))
    (λ o. number-off (i == image) (n == v.number) (eqb-off n v.number o.0) (none-of-image v image rows ne fine.1)) fine.0
  where
    image-off :
        (a b : Bool) → a ≡ false → list_any (is_image_row image v.number) rows ≡ false →
        ((a && b) || list_any (is_image_row image v.number) rows) ≡ false
    image-off true b e f = absurd (cc)
    image-off false b e f = f

    number-off :
        (a b : Bool) → b ≡ false → list_any (is_image_row image v.number) rows ≡ false →
        ((a && b) || list_any (is_image_row image v.number) rows) ≡ false
    number-off true true e f = absurd (cc)
    number-off true false e f = f
    number-off false b e f = f
none-of-image v image (Worker n q g k s hs ∷ rows) ne fine = none-of-image v image rows ne fine.1
none-of-image v image (Foreign n hs ∷ rows) ne fine = none-of-image v image rows ne fine.1

pub alone-terminated :
    (v w : View) (rows : List Process) → OneOther v w.number → v.image ≢ w.image → Lives w rows → Looks v rows →
    Alone v rows (filter_map (drop_where (is_of_image w.image rows)) rows)
alone-terminated v w rows one ne l looks =
    alone-by v (λ p. Row v p × Ended w.number w.image rows p) (drop_where (is_of_image w.image rows)) rows
    (term-row v w.number w.image rows one ne (none-of-image v w.image rows ne looks.fine))
    (every-both (Row v) (Ended w.number w.image rows) rows looks.fine (ended-rows w rows l)) looks

---- A dead master's row leaves when it is asked for

no-corpse : (v : View) (image : ℕ) → v.image ≢ image → (p : Process) → Fine v p → is_image image p ≡ false
no-corpse v image ne (Master n q i live hs) f = eqb-off i image (λ e. ne (sym f.1 ∙ e))
no-corpse v image ne (Worker n q g k s hs) f = refl
no-corpse v image ne (Foreign n hs) f = refl

corpse-row :
    (v : View) (image : ℕ) → v.image ≢ image → (u : Process → ℕ) → ((p : Process) → Other v p → u p ≡ 0) →
    (p : Process) → Row v p → worth u (drop_where (is_image image) p) ≡ u p
corpse-row v image ne = spared-row v (is_image image) (no-corpse v image ne)

pub asked-looks : (v : View) (image : ℕ) (rows : List Process) → v.image ≢ image → Looks v rows → Framed v rows (filter_map (drop_where (is_image image)) rows)
asked-looks v image rows ne looks = record {
  looks = record {
    fine =
        every-filter_map (Row v) (Row v) (drop_where (is_image image))
        (λ p h. pick (FitsIn (Row v)) (is_image image p) None (Some p) (λ e. tt) (λ e. h)) rows looks.fine;
    alone =
        change-same (Row v) (master_at v.number) (drop_where (is_image image))
        (corpse-row v image ne (master_at v.number) (other-masters v)) rows looks.fine ∙ looks.alone;
    once =
        λ g k. omega
        (arith, looks.once g k, change-same (Row v) (live_named v.number g k) (drop_where (is_image image)) (corpse-row v image ne (live_named v.number g k) (other-named v g k)) rows looks.fine);
  };
  same =
      λ t. change-same (Row v) (ready_in v.number t) (drop_where (is_image image))
      (corpse-row v image ne (ready_in v.number t) (other-unready v t)) rows looks.fine;
}

pub asked-dead :
    (w : View) (image : ℕ) (rows : List Process) → AllByRecursion (Dead w) rows →
    AllByRecursion (Dead w) (filter_map (drop_where (is_image image)) rows)
asked-dead w image rows d =
    every-filter_map (Dead w) (Dead w) (drop_where (is_image image))
    (λ p h. pick (FitsIn (Dead w)) (is_image image p) None (Some p) (λ e. tt) (λ e. h)) rows d

---- A second master comes

pub rises-to : (b : ℕ) (rows : List Process) (next : ℕ) → IsAscending b rows next → b ≤ next
rises-to b [] next asc = asc
rises-to b (p ∷ rows) next asc = omega (arith, asc.0, rises-to (number_of p + 1) rows next asc.1)

-- The number of a master is below the next one.
pub master-below : (m b : ℕ) (rows : List Process) (next : ℕ) → IsAscending b rows next → 1 ≤ weigh (master_at m) rows → m < next
master-below m b [] next asc some = absurd (omega arith)
master-below m b (Master n q i live hs ∷ rows) next asc some = go (n == m) refl some (λ le. master-below m (n + 1) rows next asc.1 le)
  where
    go : (c : Bool) → (n == m) ≡ c → 1 ≤ one c + weigh (master_at m) rows → (1 ≤ weigh (master_at m) rows → m < next) → m < next
    go true e some ih = omega (arith, eqb-is n m e, rises-to (n + 1) rows next asc.1)
    go false e some ih = ih (omega (arith, some))
master-below m b (Worker n q g k s hs ∷ rows) next asc some = master-below m (n + 1) rows next asc.1 (omega (arith, some))
master-below m b (Foreign n hs ∷ rows) next asc some = master-below m (n + 1) rows next asc.1 (omega (arith, some))

-- the old view, with one other master
abbrev pub with_other : ℕ → View → View
with_other m v = record { number = v.number; others = λ k. k == m; image = v.image; holds = v.holds; starting = v.starting; ready = v.ready; held = v.held }

fine-with : (m : ℕ) (v : View) (p : Process) → Fine v p → Fine (with_other m v) p
fine-with m v (Master n q i live hs) f = f
fine-with m v (Worker n q g k Starting hs) f = f
fine-with m v (Worker n q g k Ready hs) f = f
fine-with m v (Worker n q g k Draining hs) f = f
fine-with m v (Worker n q g k Exited hs) f = f
fine-with m v (Foreign n hs) f = f

-- the new master's view: its workers hold their shares of what it holds
abbrev pub new_view : ℕ → ℕ → ℕ → Posts → List Hold → Names → Names → View
new_view m image old posts hs s r = record {
  number = m;
  others = λ k. k == old;
  image = image;
  holds = hs;
  starting = s;
  ready = r;
  held = λ h k. share posts k hs;
}

new-row :
    (v w : View) → v.number ≢ w.number → w.others v.number ≡ true → v.image ≢ w.image → (p : Process) → Fine v p →
    Row w p × (master_at w.number p ≡ 0) × ((g : Generation) (k : ℕ) → live_named w.number g k p ≡ 0)
new-row v w ne on apart (Master n q i live hs) f =
    let o : Other w (Master n q i live hs) =
    ((λ e. ne (sym f.0 ∙ e)), subst (λ k. w.others k ≡ true) (sym f.0) on, inr (λ e. apart (sym f.1 ∙ e))) in
    (inr o, other-masters w (Master n q i live hs) o, λ g k. refl)
new-row v w ne on apart (Worker n q g k s hs) f =
    let o : Other w (Worker n q g k s hs) = ((λ e. ne (sym f.0 ∙ e)), subst (λ k. w.others k ≡ true) (sym f.0) on) in
    (inr o, refl, λ h j. other-named w h j (Worker n q g k s hs) o)
new-row v w ne on apart (Foreign n hs) f = (inl tt, refl, λ g k. refl)

pub record Spawned (v w : View) (rows rows' : List Process) : Type 0 where
  pub old : Framed (with_other w.number v) rows rows'
  pub new : Looks w rows'

pub spawned-looks :
    (v w : View) (parent : ℕ) (rows : List Process) → Sole v → v.number ≢ w.number → w.others v.number ≡ true →
    v.image ≢ w.image → Looks v rows → Spawned v w rows (rows ++ Master w.number parent w.image true w.holds ∷ [])
spawned-looks v w parent rows lone ne on apart looks =
    let row = Master w.number parent w.image true w.holds in
    let fine = sole-fine v lone rows looks.fine in
    let o : Other (with_other w.number v) row = ((λ e. ne (sym e)), eqb-refl w.number w.number refl, inr (λ e. apart (sym e))) in
    record {
      old = record {
        looks = record {
          fine =
              every-append (Row (with_other w.number v)) rows row
              (every-more (Fine v) (Row (with_other w.number v)) (λ p f. inl (fine-with w.number v p f)) rows fine)
              (inr o);
          alone = weigh-append (master_at v.number) rows (row ∷ []) ∙ omega (arith, looks.alone, ap one (eqb-off w.number v.number (λ e. ne (sym e))));
          once = λ g k. omega (arith, looks.once g k, weigh-append (live_named v.number g k) rows (row ∷ []));
        };
        same = λ t. omega (arith, weigh-append (ready_in v.number t) rows (row ∷ []));
      };
      new = record {
        fine = every-append (Row w) rows row (every-more (Fine v) (Row w) (λ p f. (new-row v w ne on apart p f).0) rows fine) (inl (refl, refl, refl, refl));
        alone =
            weigh-append (master_at w.number) rows (row ∷ []) ∙ omega
            (arith, ap one (eqb-refl w.number w.number refl), zero (master_at w.number) rows (λ p f. (new-row v w ne on apart p f).1) fine);
        once =
            λ g k. omega
            (arith, weigh-append (live_named w.number g k) rows (row ∷ []), zero (live_named w.number g k) rows (λ p f. (new-row v w ne on apart p f).2 g k) fine);
      };
    }
  where
    zero : (u : Process → ℕ) (rows : List Process) → ((p : Process) → Fine v p → u p ≡ 0) → AllByRecursion (Fine v) rows → weigh u rows ≡ 0
    zero u [] h all = refl
    zero u (p ∷ rows) h all = omega (arith, h p all.0, zero u rows h all.1)
