-- Exits keep a view, and take no more Ready workers than they count as losses.
use Rattle.std.proofs.Common.{filter_map, false, ◌≡◌, ◌≢◌, ℕ, ◌+◌, ◌≤◌, Bool, List, [], ◌∷◌, Option, Some, None, refl, sym, ap}
use Rattle.std.proofs.Common.{◌∙◌, arith, inl, inr, ⊎_elim, true, subst}
use Rattle.listener_set.specs.Numbers.{is_in}
use Rattle.definitions.specs.Claims.{names_any}
use Rattle.std.specs.Prelude.{◌&&◌, ◌||◌, ◌==◌, ⊤, if◌then◌else◌}
use Rattle.std.specs.List.{AllByRecursion, list_any}
use Rattle.vocabulary.specs.declared.table.Stance.TheVariants.{Starting, Ready, Draining, Exited}
use Rattle.definitions.specs.Table.{Process, Master, Worker, Foreign, Caller, live_master, is_active}
use Rattle.call_laws.specs.Pieces.{is_named, is_live_master, is_draining, made_exited, caller_exits}
use Rattle.listener_set.specs.declared.generation.Generation.{Generation}
use Rattle.definitions.specs.Calls.{change, first_changed, without_exited, exited, all_exited}
use Rattle.std.specs.Bool.{then_some}
use Rattle.vocabulary.specs.declared.names.Name.{Name}
use Rattle.table_laws.proofs.Rows.{one, FitsIn, worth, one-le, weigh, change-le, change-same, change-falls, every-filter_map, every-any}
use Rattle.call_laws.proofs.Choices.{pick}
use Rattle.table_laws.proofs.Views.{Names, View, Other, Row, Looks, live_named, ready_in, live_any, master_at, finds-other, eqb-off, eqb-is}
use Rattle.vocabulary.specs.declared.names.Name.TheVariants as name

-- one row that exits
exited-row : (v : View) (p : Process) → Row v p → Row v (made_exited p)
exited-row v (Worker n q g k s hs) h = ⊎_elim (λ f. inl (f.0, refl)) (λ o. inr o) h
exited-row v (Master n q i live hs) h = h
exited-row v (Foreign n hs) h = h

exited-masters : (m : ℕ) (p : Process) → master_at m (made_exited p) ≡ master_at m p
exited-masters m (Worker n q g k s hs) = refl
exited-masters m (Master n q i live hs) = refl
exited-masters m (Foreign n hs) = refl

exited-named : (m : ℕ) (g : Generation) (k : ℕ) (p : Process) → live_named m g k (made_exited p) ≤ live_named m g k p
exited-named m g k (Worker n q g' k' s hs) = omega arith
exited-named m g k (Master n q i live hs) = omega arith
exited-named m g k (Foreign n hs) = omega arith

-- u falls by no more than live workers do
abbrev Falls : (Process → ℕ) → Process → Process → Type 0
Falls u p p' = u p + live_any p' ≤ u p' + live_any p

exited-falls : (m : ℕ) (test : Names) (p : Process) → Falls (ready_in m test) p (made_exited p)
exited-falls m test (Worker n q g' k Starting hs) = omega arith
exited-falls m test (Worker n q g' k Ready hs) = omega (arith, one-le ((q == m) && test g' k))
exited-falls m test (Worker n q g' k Draining hs) = omega arith
exited-falls m test (Worker n q g' k Exited hs) = omega arith
exited-falls m test (Master n q i live hs) = omega arith
exited-falls m test (Foreign n hs) = omega arith

exited-live : (p : Process) → live_any (made_exited p) ≤ live_any p
exited-live (Worker n q g' k s hs) = omega arith
exited-live (Master n q i live hs) = omega arith
exited-live (Foreign n hs) = omega arith

-- the first row that passes a test exits
first-every : (v : View) (test : Process → Bool) (ps : List Process) → AllByRecursion (Row v) ps → AllByRecursion (Row v) (first_changed test made_exited ps)
first-every v test [] all = tt
first-every v test (p ∷ ps) all =
    pick (AllByRecursion (Row v)) (test p) (made_exited p ∷ ps) (p ∷ first_changed test made_exited ps)
    (λ e. (exited-row v p all.0, all.1)) (λ e. (all.0, first-every v test ps all.1))

first-weigh :
    (R : ℕ → ℕ → Type 0) → ((a b c : ℕ) → R a b → R (c + a) (c + b)) → (u : Process → ℕ) (test : Process → Bool) →
    ((p : Process) (n : ℕ) → R (u (made_exited p) + n) (u p + n)) → R 0 0 → (ps : List Process) →
    R (weigh u (first_changed test made_exited ps)) (weigh u ps)
first-weigh R more u test h z [] = z
first-weigh R more u test h z (p ∷ ps) =
    pick (λ l. R (weigh u l) (u p + weigh u ps)) (test p) (made_exited p ∷ ps) (p ∷ first_changed test made_exited ps)
    (λ e. h p (weigh u ps)) (λ e. more _ _ (u p) (first-weigh R more u test h z ps))

first-falls :
    (u : Process → ℕ) (test : Process → Bool) → ((p : Process) → Falls u p (made_exited p)) → (ps : List Process) →
    weigh u ps + weigh live_any (first_changed test made_exited ps) ≤ weigh u (first_changed test made_exited ps) +
    weigh live_any ps
first-falls u test h [] = omega arith
first-falls u test h (p ∷ ps) =
    pick (λ l. weigh u (p ∷ ps) + weigh live_any l ≤ weigh u l + weigh live_any (p ∷ ps)) (test p) (made_exited p ∷ ps)
    (p ∷ first_changed test made_exited ps) (λ e. omega (arith, h p)) (λ e. omega (arith, first-falls u test h ps))

abbrev pub IsNot : ℕ → Name → Type 0
IsNot image (name.Master i) = i ≢ image
IsNot image (name.Worker g k) = ⊤
IsNot image (name.Draining g k) = ⊤

looks-worker : (v : View) (g : Generation) (k : ℕ) (rows : List Process) → Looks v rows →
    Looks v (filter_map (change (is_named is_active g k) made_exited) rows)
looks-worker v g k rows looks = record {
  fine =
      every-filter_map (Row v) (Row v) (change (is_named is_active g k) made_exited)
      (λ p h. pick (Row v) (is_named is_active g k p) (made_exited p) p (λ e. exited-row v p h) (λ e. h)) rows
      looks.fine;
  alone =
      change-same (λ p. ⊤) (master_at v.number) (change (is_named is_active g k) made_exited)
      (λ p h. pick (λ p'. master_at v.number p' ≡ master_at v.number p) (is_named is_active g k p) (made_exited p) p (λ e. exited-masters v.number p) (λ e. refl))
      rows (every-any rows) ∙ looks.alone;
  once =
      λ h j. omega
      (arith, looks.once h j, change-le (λ p. ⊤) (live_named v.number h j) (change (is_named is_active g k) made_exited) (λ p x. pick (λ p'. live_named v.number h j p' ≤ live_named v.number h j p) (is_named is_active g k p) (made_exited p) p (λ e. exited-named v.number h j p) (λ e. omega arith)) rows (every-any rows));
}

looks-draining : (v : View) (g : Generation) (k : ℕ) (rows : List Process) → Looks v rows → Looks v (first_changed (is_named is_draining g k) made_exited rows)
looks-draining v g k rows looks = record {
  fine = first-every v (is_named is_draining g k) rows looks.fine;
  alone =
      first-weigh ◌≡◌ (λ a b c e. ap (λ n. c + n) e) (master_at v.number) (is_named is_draining g k)
      (λ p n. ap (λ x. x + n) (exited-masters v.number p)) refl rows ∙ looks.alone;
  once =
      λ h j. omega
      (arith, looks.once h j, first-weigh ◌≤◌ (λ a b c e. omega arith) (live_named v.number h j) (is_named is_draining g k) (λ p n. omega (arith, exited-named v.number h j p)) (omega arith) rows);
}

ready-live : (m : ℕ) (t : Names) (p : Process) → ready_in m t p ≤ live_any p
ready-live m t (Master n q i live hs) = omega arith
ready-live m t (Worker n q g k Starting hs) = omega arith
ready-live m t (Worker n q g k Ready hs) = omega (arith, one-le ((q == m) && t g k))
ready-live m t (Worker n q g k Draining hs) = omega arith
ready-live m t (Worker n q g k Exited hs) = omega arith
ready-live m t (Foreign n hs) = omega arith

left-falls : (u : Process → ℕ) (b : Bool) (p : Process) → u p ≤ live_any p →
    u p + worth live_any (if b then None else Some p) ≤ worth u (if b then None else Some p) + live_any p
left-falls u true p h = omega arith
left-falls u false p h = omega arith

pub master-falls :
    (m : ℕ) (t : Names) (gone : ℕ) (lives : ℕ → Bool) (p : Process) → ready_in m t p + worth live_any
    (without_exited gone lives p) ≤ worth (ready_in m t) (without_exited gone lives p) + live_any p
master-falls m t gone lives (Master n q i live hs) =
    pick (λ o. 0 + worth live_any o ≤ worth (ready_in m t) o + 0) (n == gone)
    (then_some (lives q) (Master n q i false [])) (Some (Master n (if q == gone then 1 else q) i live hs))
    (λ e. zero-kept (lives q)) (λ e. omega arith)
  where
    zero-kept : (b : Bool) → 0 + worth live_any (then_some b (Master n q i false [])) ≤ worth (ready_in m t) (then_some b (Master n q i false [])) + 0
    zero-kept true = omega arith
    zero-kept false = omega arith
master-falls m t gone lives (Worker n q g k s hs) = left-falls (ready_in m t) (q == gone) (Worker n q g k s hs) (ready-live m t (Worker n q g k s hs))
master-falls m t gone lives (Foreign n hs) = omega arith

pub master-exit-falls :
    (m : ℕ) (t : Names) (o : Option Caller) (rows : List Process) → weigh (ready_in m t) rows + weigh live_any
    (caller_exits o rows) ≤ weigh (ready_in m t) (caller_exits o rows) + weigh live_any rows
master-exit-falls m t None rows = omega arith
master-exit-falls m t (Some c) rows =
    change-falls (λ p. ⊤) (ready_in m t) live_any (without_exited c.number (λ q. list_any (is_live_master q) rows))
    (λ p x. master-falls m t c.number (λ q. list_any (is_live_master q) rows) p) rows (every-any rows)

pub kept-master : (m gone : ℕ) (lives : ℕ → Bool) → m ≢ gone → (p : Process) → worth (master_at m) (without_exited gone lives p) ≡ master_at m p
kept-master m gone lives ne (Master n q i live hs) =
    pick (λ o. worth (master_at m) o ≡ one (n == m)) (n == gone) _ _ (λ e. both (lives q) (eqb-off n m (λ x. ne (sym x ∙ eqb-is n gone e)))) (λ e. refl)
  where
    both : (b : Bool) → (n == m) ≡ false → worth (master_at m) (then_some b (Master n q i false [])) ≡ one (n == m)
    both true e = refl
    both false e = sym (ap one e)
kept-master m gone lives ne (Worker n q g k s hs) = pick (λ o. worth (master_at m) o ≡ 0) (q == gone) None (Some (Worker n q g k s hs)) (λ e. refl) (λ e. refl)
kept-master m gone lives ne (Foreign n hs) = refl

kept-named :
    (m gone : ℕ) (lives : ℕ → Bool) (g : Generation) (k : ℕ) (p : Process) →
    worth (live_named m g k) (without_exited gone lives p) ≤ live_named m g k p
kept-named m gone lives g k (Master n q i live hs) = pick (λ o. worth (live_named m g k) o ≤ 0) (n == gone) _ _ (λ e. both (lives q)) (λ e. omega arith)
  where
    both : (b : Bool) → worth (live_named m g k) (then_some b (Master n q i false [])) ≤ 0
    both true = omega arith
    both false = omega arith
kept-named m gone lives g k (Worker n q g' k' s hs) =
    pick (λ o. worth (live_named m g k) o ≤ live_named m g k (Worker n q g' k' s hs)) (q == gone) None
    (Some (Worker n q g' k' s hs)) (λ e. omega arith) (λ e. omega arith)
kept-named m gone lives g k (Foreign n hs) = omega arith

-- another master exits
other-stays : (v : View) (gone : ℕ) (lives : ℕ → Bool) → v.number ≢ gone → (p : Process) → Row v p → FitsIn (Row v) (without_exited gone lives p)
other-stays v gone lives ne (Master n q i live hs) h =
    pick (FitsIn (Row v)) (n == gone) _ _ (λ e. ⊎_elim (λ f. absurd (ne (sym f.0 ∙ eqb-is n gone e))) (λ o. kept (lives q) o) h) (λ e. h)
  where
    kept : (b : Bool) → Other v (Master n q i live hs) → FitsIn (Row v) (then_some b (Master n q i false []))
    kept true o = inr (o.0, o.1, inl refl)
    kept false o = tt
other-stays v gone lives ne (Worker n q g k s hs) h = pick (FitsIn (Row v)) (q == gone) None (Some (Worker n q g k s hs)) (λ e. tt) (λ e. h)
other-stays v gone lives ne (Foreign n hs) h = h

live-kept : (b : Bool) (p : Process) → worth live_any (then_some b p) ≤ live_any p
live-kept true p = omega arith
live-kept false p = omega arith

live-without : (gone : ℕ) (lives : ℕ → Bool) (p : Process) → worth live_any (without_exited gone lives p) ≤ live_any p
live-without gone lives (Master n q i live hs) =
    pick (λ o. worth live_any o ≤ 0) (n == gone) _ _ (λ e. live-kept (lives q) (Master n q i false []))
    (λ e. omega arith)
live-without gone lives (Worker n q g k s hs) =
    pick (λ o. worth live_any o ≤ live_any (Worker n q g k s hs)) (q == gone) None (Some (Worker n q g k s hs))
    (λ e. omega arith) (λ e. omega arith)
live-without gone lives (Foreign n hs) = omega arith

looks-master :
    (v : View) (o : Option Caller) (rows : List Process) → ((c : Caller) → o ≡ Some c → v.number ≢ c.number) →
    Looks v rows → Looks v (caller_exits o rows)
looks-master v None rows ne looks = looks
looks-master v (Some c) rows ne looks =
    let lives : ℕ → Bool = λ q. list_any (is_live_master q) rows in
    let apart = ne c refl in
    record {
      fine = every-filter_map (Row v) (Row v) (without_exited c.number lives) (other-stays v c.number lives apart) rows looks.fine;
      alone =
          change-same (λ p. ⊤) (master_at v.number) (without_exited c.number lives)
          (λ p t. kept-master v.number c.number lives apart p) rows (every-any rows) ∙ looks.alone;
      once =
          λ g k. omega
          (arith, looks.once g k, change-le (λ p. ⊤) (live_named v.number g k) (without_exited c.number lives) (λ p t. kept-named v.number c.number lives g k p) rows (every-any rows));
    }

live-master : (o : Option Caller) (rows : List Process) → weigh live_any (caller_exits o rows) ≤ weigh live_any rows
live-master None rows = omega arith
live-master (Some c) rows =
    change-le (λ p. ⊤) live_any (without_exited c.number (λ q. list_any (is_live_master q) rows))
    (λ p t. live-without c.number (λ q. list_any (is_live_master q) rows) p) rows (every-any rows)

looks-exit : (v : View) (e : Name) (rows : List Process) → IsNot v.image e → Looks v rows → Looks v (exited e rows)
looks-exit v (name.Worker g k) rows is looks = looks-worker v g k rows looks
looks-exit v (name.Draining g k) rows is looks = looks-draining v g k rows looks
looks-exit v (name.Master i) rows is looks = looks-master v (live_master i rows) rows (finds-other v i rows is looks.fine) looks

falls-exit :
    (m : ℕ) (test : Names) (e : Name) (rows : List Process) → weigh (ready_in m test) rows + weigh live_any
    (exited e rows) ≤ weigh (ready_in m test) (exited e rows) + weigh live_any rows
falls-exit m test (name.Worker h k) rows =
    change-falls (λ p. ⊤) (ready_in m test) live_any (change (is_named is_active h k) made_exited)
    (λ p x. pick (λ p'. Falls (ready_in m test) p p') (is_named is_active h k p) (made_exited p) p (λ e. exited-falls m test p) (λ e. omega arith))
    rows (every-any rows)
falls-exit m test (name.Draining h k) rows = first-falls (ready_in m test) (is_named is_draining h k) (exited-falls m test) rows
falls-exit m test (name.Master i) rows = master-exit-falls m test (live_master i rows) rows

-- The Ready workers of any master fall by no more than live workers do, whoever exits.
pub falls-all :
    (m : ℕ) (test : Names) (es : List Name) (rows : List Process) → weigh (ready_in m test) rows + weigh live_any
    (all_exited es rows) ≤ weigh (ready_in m test) (all_exited es rows) + weigh live_any rows
falls-all m test [] rows = omega arith
falls-all m test (e ∷ es) rows = omega (arith, falls-exit m test e rows, falls-all m test es (exited e rows))

live-exit : (v : View) (e : Name) (rows : List Process) → IsNot v.image e → Looks v rows → weigh live_any (exited e rows) ≤ weigh live_any rows
live-exit v (name.Worker h k) rows is looks =
    change-le (λ p. ⊤) live_any (change (is_named is_active h k) made_exited)
    (λ p x. pick (λ p'. live_any p' ≤ live_any p) (is_named is_active h k p) (made_exited p) p (λ e. exited-live p) (λ e. omega arith))
    rows (every-any rows)
live-exit v (name.Draining h k) rows is looks =
    first-weigh ◌≤◌ (λ a b c e. omega arith) live_any (is_named is_draining h k) (λ p n. omega (arith, exited-live p))
    (omega arith) rows
live-exit v (name.Master i) rows is looks = live-master (live_master i rows) rows

-- all exits of a moment
pub record Shrinks (v : View) (before after : List Process) : Type 0 where
  pub looks : Looks v after
  pub falls : (test : Names) → weigh (ready_in v.number test) before + weigh live_any after ≤ weigh (ready_in v.number test) after + weigh live_any before
  pub fewer : weigh live_any after ≤ weigh live_any before

-- none of those who exit is the master of the image
abbrev pub Spares : ℕ → List Name → Type 0
Spares image [] = ⊤
Spares image (e ∷ es) = IsNot image e × Spares image es

-- Who spares all of some images spares each.
pub spares-each : (images : List ℕ) (image : ℕ) (es : List Name) → is_in images image ≡ true → names_any images es ≡ false → Spares image es
spares-each images image [] on e = tt
spares-each images image (name.Worker g k ∷ es) on e = (tt, spares-each images image es on e)
spares-each images image (name.Draining g k ∷ es) on e = (tt, spares-each images image es on e)
spares-each images image (name.Master i ∷ es) on e = go (is_in images i) refl e (spares-each images image es on)
  where
    go : (b : Bool) → is_in images i ≡ b → (b || names_any images es) ≡ false → (names_any images es ≡ false → Spares image es) → (i ≢ image) × Spares image es
    go true is e rest = absurd (cc)
    go false is e rest = (λ same. let off : is_in images image ≡ false = subst (λ j. is_in images j ≡ false) same is in absurd (cc), rest e)

pub shrinks : (v : View) (es : List Name) (rows : List Process) → Spares v.image es → Looks v rows → Shrinks v rows (all_exited es rows)
shrinks v [] rows s looks = record { looks = looks; falls = λ test. omega arith; fewer = omega arith }
shrinks v (e ∷ es) rows s looks =
    let (is, rest) = s in
    let next = shrinks v es (exited e rows) rest (looks-exit v e rows is looks) in
    record {
      looks = next.looks;
      falls = λ test. falls-all v.number test (e ∷ es) rows;
      fewer = omega (arith, live-exit v e rows is looks, next.fewer);
    }
