-- What a view says of the service of a table.
use Rattle.definitions.specs.Table.{Address, same_generation, Hold, Process, Master, Worker, Foreign, Table}
use Rattle.definitions.specs.Table.{has_address, Service, service, serving, IsSame}
use Rattle.call_laws.specs.Pieces.{is_ready, is_live_with, is_serving_as, is_ready_with}
use Rattle.std.proofs.Common.{⊎_elim, ◌≡◌, ℕ, ◌+◌, ◌≤◌, Bool, true, false, List, [], ◌∷◌, Some, None, refl, sym, ap, ◌∙◌, subst, arith}
use Rattle.std.specs.Prelude.{◌||◌, count_by, filter, Option, ◌&&◌, ◌==◌, if◌then◌else◌}
use Rattle.std.specs.List.{AllByRecursion, list_any}
use Rattle.vocabulary.specs.declared.table.Stance.TheVariants.{Starting, Ready, Draining, Exited}
use Rattle.listener_set.specs.declared.generation.Generation.{Generation}
use Rattle.listener_set.specs.AddressList.{has}
use Rattle.listener_set.specs.Numbers.{is_in}
use Rattle.definitions.specs.Claims.{IsFewerAt, FallsShort}
use Rattle.definitions.specs.Master.{Layout, short_at}
use Rattle.table_laws.proofs.Rows.{every-more, one, one-le, weigh, weigh-same, weigh-le, count-weigh}
use Rattle.table_laws.proofs.Views.{eqb-off, Row, Other, master_at, Names, named, View, Fine, Looks, ready_in, eqb-refl}
use Rattle.table_laws.proofs.Effects.{same-is, same-refl}
use Rattle.table_laws.proofs.Counts.{in-filter}

-- no other master is there
abbrev pub Sole : View → Type 0
Sole v = (n : ℕ) → v.others n ≡ false

sole-row : (v : View) → Sole v → (p : Process) → Row v p → Fine v p
sole-row v sole (Master n q i live hs) h = ⊎_elim (λ f. f) (λ o. let a = sole n in let b = o.1 in absurd (cc)) h
sole-row v sole (Worker n q g k s hs) h = ⊎_elim (λ f. f) (λ o. let a = sole q in let b = o.1 in absurd (cc)) h
sole-row v sole (Foreign n hs) h = tt

pub sole-fine : (v : View) → Sole v → (rows : List Process) → AllByRecursion (Row v) rows → AllByRecursion (Fine v) rows
sole-fine v sole rows all = every-more (Row v) (Fine v) (sole-row v sole) rows all

-- what the master holds, a live master holds
pub live-with-on : (v : View) (test : List Hold → Bool) (rows : List Process) → Looks v rows → test v.holds ≡ true → list_any (is_live_with test) rows ≡ true
live-with-on v test rows looks on = go rows looks.fine (omega (arith, looks.alone))
  where
    is : (hs : List Hold) (live : Bool) → live ≡ true → hs ≡ v.holds → (live && test hs) ≡ true
    is hs true l e = ap test e ∙ on
    is hs false l e = absurd (cc)

    here : (b : Bool) (ps : List Process) → b ≡ true → (b || list_any (is_live_with test) ps) ≡ true
    here true ps e = refl
    here false ps e = cc

    there : (b : Bool) (ps : List Process) → list_any (is_live_with test) ps ≡ true → (b || list_any (is_live_with test) ps) ≡ true
    there true ps e = refl
    there false ps e = e

    go : (ps : List Process) → AllByRecursion (Row v) ps → 1 ≤ weigh (master_at v.number) ps → list_any (is_live_with test) ps ≡ true
    go [] fine le = absurd (omega arith)
    go (Master n q i live hs ∷ ps) fine le =
        ⊎_elim (λ f. here (live && test hs) ps (is hs live f.2 f.3))
        (λ o. there (live && test hs) ps (go ps fine.1 (omega (arith, ap one (eqb-off n v.number o.0))))) fine.0
    go (Worker n q g k s hs ∷ ps) fine le = go ps fine.1 (omega arith)
    go (Foreign n hs ∷ ps) fine le = go ps fine.1 (omega arith)

-- where no other master is there, a test on live masters is a test on what the view says it holds
pub live-with : (v : View) → Sole v → (test : List Hold → Bool) (rows : List Process) → Looks v rows → list_any (is_live_with test) rows ≡ test v.holds
live-with v sole test rows looks = go (test v.holds) refl
  where
    is : (hs : List Hold) (live : Bool) → live ≡ true → hs ≡ v.holds → test v.holds ≡ false → (live && test hs) ≡ false
    is hs true l e f = ap test e ∙ f
    is hs false l e f = absurd (cc)

    none-on : (ps : List Process) → AllByRecursion (Fine v) ps → test v.holds ≡ false → list_any (is_live_with test) ps ≡ false
    none-on [] fine f = refl
    none-on (Master n q i live hs ∷ ps) fine f = rw (is hs live fine.0.2 fine.0.3 f) (none-on ps fine.1 f)
    none-on (Worker n q g k s hs ∷ ps) fine f = none-on ps fine.1 f
    none-on (Foreign n hs ∷ ps) fine f = none-on ps fine.1 f

    go : (b : Bool) → test v.holds ≡ b → list_any (is_live_with test) rows ≡ test v.holds
    go true e = live-with-on v test rows looks e ∙ sym e
    go false e = none-on rows (sole-fine v sole rows looks.fine) e ∙ sym e

-- those of some numbers whose workers hold an address
abbrev pub holders : View → Generation → List ℕ → Address → List ℕ
holders v g S a = filter (λ k. has_address a (v.held g k)) S

-- the Ready workers of the generation that hold an address are the holders among those of the set
serving-on :
    (v : View) (g : Generation) (S : List ℕ) (a : Address) →
    ((h : Generation) (k : ℕ) → v.ready h k ≡ true → (h ≡ g) × (is_in S k ≡ true)) → (p : Process) → Fine v p →
    one (is_serving_as a g p) ≡ ready_in v.number (named g (is_in (holders v g S a))) p
serving-on v g S a only (Master n q i live hs) h = refl
serving-on v g S a only (Worker n q g' k Starting hs) h = refl
serving-on v g S a only (Worker n q g' k Ready hs) h =
    let o = only g' k h.1.0 in
    let held : has_address a hs ≡ has_address a (v.held g k) = ap (has_address a) (h.1.1 ∙ ap (λ f. v.held f k) o.0) in
    let same : same_generation g' g ≡ true = subst (λ f. same_generation f g ≡ true) (sym o.0) (same-refl g) in
    let among : is_in (holders v g S a) k ≡ has_address a (v.held g k) =
    in-filter (λ j. has_address a (v.held g j)) S k ∙ ap (λ b. b && has_address a (v.held g k)) o.1 in
    rw (same, eqb-refl q v.number h.0, among, held) refl
serving-on v g S a only (Worker n q g' k Draining hs) h = refl
serving-on v g S a only (Worker n q g' k Exited hs) h = refl
serving-on v g S a only (Foreign n hs) h = refl

serving-other :
    (v : View) (g h : Generation) (S : List ℕ) (a : Address) → same_generation h g ≡ false →
    ((h : Generation) (k : ℕ) → v.ready h k ≡ true → (h ≡ g) × (is_in S k ≡ true)) → (p : Process) → Fine v p →
    one (is_serving_as a h p) ≡ 0
serving-other v g h S a off only (Master n q i live hs) f = refl
serving-other v g h S a off only (Worker n q g' k Starting hs) f = refl
serving-other v g h S a off only (Worker n q g' k Ready hs) f =
    let o = only g' k f.1.0 in
    go (same_generation g' h) refl o.0
  where
    go : (b : Bool) → same_generation g' h ≡ b → g' ≡ g → one (b && has_address a hs) ≡ 0
    go true e is = absurd (let x : same_generation h g ≡ true = subst (λ y. same_generation y g ≡ true) (sym (sym (same-is g' h e) ∙ is)) (same-refl g) in cc)
    go false e is = refl
serving-other v g h S a off only (Worker n q g' k Draining hs) f = refl
serving-other v g h S a off only (Worker n q g' k Exited hs) f = refl
serving-other v g h S a off only (Foreign n hs) f = refl

weigh-zero : (u : Process → ℕ) (P : Process → Type 0) → ((p : Process) → P p → u p ≡ 0) → (rows : List Process) → AllByRecursion P rows → weigh u rows ≡ 0
weigh-zero u P h [] all = refl
weigh-zero u P h (p ∷ rows) all = omega (arith, h p all.0, weigh-zero u P h rows all.1)

-- how many of some numbers are Ready and hold an address
abbrev pub held_at : View → Generation → List ℕ → Table → Address → ℕ
held_at v g S t a = weigh (ready_in v.number (named g (is_in (holders v g S a)))) t.rows

pub service-by :
    (v : View) → Sole v → (g : Generation) (S : List ℕ) (addresses : List Address) →
    ((a : Address) → has_address a v.holds ≡ has addresses a) → (t : Table) →
    ((h : Generation) (k : ℕ) → v.ready h k ≡ true → (h ≡ g) × (is_in S k ≡ true)) → Looks v t.rows →
    IsSame (service t) (serving addresses g (held_at v g S t))
service-by v sole g S addresses keys t only looks a = go (has addresses a) refl
  where
    counts : (h : Generation) → count_by (is_serving_as a h) t.rows ≡ (if same_generation h g then held_at v g S t a else 0)
    counts h = count-weigh (is_serving_as a h) t.rows ∙ at (same_generation h g) refl
      where
        at : (b : Bool) → same_generation h g ≡ b → weigh (λ p. one (is_serving_as a h p)) t.rows ≡ (if b then held_at v g S t a else 0)
        at true e =
            subst (λ f. weigh (λ p. one (is_serving_as a f p)) t.rows ≡ held_at v g S t a) (sym (same-is h g e))
            (weigh-same (Fine v) (λ p. one (is_serving_as a g p))
            (ready_in v.number (named g (is_in (holders v g S a)))) (serving-on v g S a only) t.rows
            (sole-fine v sole t.rows looks.fine))
        at false e = weigh-zero (λ p. one (is_serving_as a h p)) (Fine v) (serving-other v g h S a e only) t.rows (sole-fine v sole t.rows looks.fine)

    go : (b : Bool) → has addresses a ≡ b → service t a ≡ serving addresses g (held_at v g S t) a
    go true e =
        let left : list_any (is_live_with (has_address a)) t.rows ≡ true = live-with v sole (has_address a) t.rows looks ∙ keys a ∙ e in
        rw (left, e) (λ i. Some (λ h. counts h i))
    go false e =
        let left : list_any (is_live_with (has_address a)) t.rows ≡ false = live-with v sole (has_address a) t.rows looks ∙ keys a ∙ e in
        rw (left, e)

-- as many at each address
pub serving-same :
    (addresses : List Address) (g : Generation) (n k : Address → ℕ) →
    ((a : Address) → has addresses a ≡ true → n a ≡ k a) → IsSame (serving addresses g n) (serving addresses g k)
serving-same addresses g n k same a = go (has addresses a) (same a)
  where
    at : Bool → ℕ → Option (Generation → ℕ)
    at b m = if b then Some (λ h. if same_generation h g then m else 0) else None

    go : (b : Bool) → (b ≡ true → n a ≡ k a) → at b (n a) ≡ at b (k a)
    go true e = ap (at true) (e refl)
    go false e = refl

-- The same addresses, at each so many workers fewer.
abbrev pub IsFewer : (Address → ℕ) → Service → Service → Type 0
IsFewer short full less = (a : Address) → IsFewerAt (short a) (full a) (less a)

-- fewer of one generation
pub serving-fewer :
    (addresses : List Address) (g : Generation) (n k m : Address → ℕ) →
    ((a : Address) → has addresses a ≡ true → n a ≡ k a + m a) →
    IsFewer m (serving addresses g n) (serving addresses g k)
serving-fewer addresses g n k m more a = go (has addresses a) (more a)
  where
    on : (b : Bool) → b ≡ true → n a ≡ k a + m a → (if b then n a else 0) ≡ (if b then k a else 0) + m a
    on true f e = e
    on false f e = cc

    off : (b : Bool) → b ≡ false → (if b then n a else 0) ≡ (if b then k a else 0)
    off true f = cc
    off false f = refl

    go :
        (b : Bool) → (b ≡ true → n a ≡ k a + m a) → IsFewerAt (m a)
        (if b then Some (λ h. if same_generation h g then n a else 0) else None)
        (if b then Some (λ h. if same_generation h g then k a else 0) else None)
    go true e = (g, on (same_generation g g) (same-refl g) (e refl), λ h f. off (same_generation h g) f)
    go false e = tt

pub fewer-same : (m : Address → ℕ) (s s' t t' : Service) → IsSame s s' → IsSame t t' → IsFewer m s t → IsFewer m s' t'
fewer-same m s s' t t' e f h a = subst (λ x. IsFewerAt (m a) x (t' a)) (e a) (subst (λ x. IsFewerAt (m a) (s a) x) (f a) (h a))

-- what falls short of a service falls short of the same service
pub falls-same : (layout : Layout) (shortfalls : List ℕ) (s s' t : Service) → IsSame s s' → FallsShort layout shortfalls s t → FallsShort layout shortfalls s' t
falls-same layout shortfalls s s' t e f = (f.0, f.1, fewer-same (short_at layout shortfalls) s s' t t e (λ a. refl) f.2)

-- another master's worker is none of ours
pub other-unready : (v : View) (t : Names) (p : Process) → Other v p → ready_in v.number t p ≡ 0
other-unready v t (Master n q i live hs) o = refl
other-unready v t (Worker n q g k s hs) o = go (is_ready s) (q == v.number) (eqb-off q v.number o.0)
  where
    go : (a b : Bool) → b ≡ false → one (a && (b && t g k)) ≡ 0
    go true true e = cc
    go true false e = refl
    go false b e = refl
other-unready v t (Foreign n hs) o = refl

-- a floor: the Ready workers that hold an address are at least those of some names, which hold it
ready-row :
    (v : View) (t : Names) (a : Address) →
    ((g : Generation) (k : ℕ) → t g k ≡ true → has_address a (v.held g k) ≡ true) → (p : Process) → Fine v p →
    ready_in v.number t p ≤ one (is_ready_with a p)
ready-row v t a on (Master n q i live hs) h = omega arith
ready-row v t a on (Worker n q g k Starting hs) h = omega arith
ready-row v t a on (Worker n q g k Ready hs) h = go (t g k) refl
  where
    go : (b : Bool) → t g k ≡ b → one ((q == v.number) && b) ≤ one (has_address a hs)
    go true e =
        let held : has_address a hs ≡ true = subst (λ l. has_address a l ≡ true) (sym h.1.1) (on g k e) in
        omega (arith, ap one held, one-le ((q == v.number) && true))
    go false e = omega (arith, ap one (and-off (q == v.number)))
      where
        and-off : (b : Bool) → (b && false) ≡ false
        and-off true = refl
        and-off false = refl
ready-row v t a on (Worker n q g k Draining hs) h = omega arith
ready-row v t a on (Worker n q g k Exited hs) h = omega arith
ready-row v t a on (Foreign n hs) h = omega arith

ready-any :
    (v : View) (t : Names) (a : Address) →
    ((g : Generation) (k : ℕ) → t g k ≡ true → has_address a (v.held g k) ≡ true) → (p : Process) → Row v p →
    ready_in v.number t p ≤ one (is_ready_with a p)
ready-any v t a on p h = ⊎_elim (λ f. ready-row v t a on p f) (λ o. omega (arith, other-unready v t p o)) h

pub ready-floor :
    (v : View) (t : Names) (a : Address) (rows : List Process) →
    ((g : Generation) (k : ℕ) → t g k ≡ true → has_address a (v.held g k) ≡ true) → Looks v rows →
    weigh (ready_in v.number t) rows ≤ count_by (is_ready_with a) rows
ready-floor v t a rows on looks =
    omega
    (arith, count-weigh (is_ready_with a) rows, weigh-le (Row v) (ready_in v.number t) (λ p. one (is_ready_with a p)) (ready-any v t a on) rows looks.fine)
