-- What each call of the master does to a view of the table.
use Rattle.std.proofs.Common.{◌≢◌, inr, inl, ⊎_elim, ◌≡◌, ℕ, ◌+◌, ◌≤◌, Bool, true, false, not, List, [], ◌∷◌, ◌++◌}
use Rattle.std.proofs.Common.{Some, None, refl, sym, ap, ◌∙◌, subst, arith}
use Rattle.std.specs.List.{filter_map, AllByRecursion, list_any}
use Rattle.std.specs.Prelude.{◌&&◌, ◌||◌, ◌==◌, ⊤, if◌then◌else◌}
use Rattle.definitions.specs.Table.{same_generation, Hold, Process, Master, Worker, Foreign, bears, is_worker}
use Rattle.definitions.specs.Table.{is_active, Address, holds_of}
use Rattle.call_laws.specs.Pieces.{is_starting, is_exited, is_any, is_ready, is_at, made_ready, made_draining, is_row}
use Rattle.call_laws.specs.Pieces.{lacks_address}
use Rattle.vocabulary.specs.declared.table.Stance.{Stance}
use Rattle.vocabulary.specs.declared.table.Stance.TheVariants.{Starting, Ready, Draining, Exited}
use Rattle.listener_set.specs.declared.generation.Generation.{Generation}
use Rattle.definitions.specs.Calls.{is_exited_of, drop_where, is_of, put_hold, with_holds, change}
use Rattle.table_laws.proofs.Rows.{one, weigh, worth, FitsIn, change-le, change-same, weigh-append, weigh-same}
use Rattle.table_laws.proofs.Rows.{weigh-filter_map, every-filter_map, every-any, every-append, every-more, every-both}
use Rattle.table_laws.proofs.Rows.{any-none, any-some, weigh-add, both-true, or-left, or-right}
use Rattle.call_laws.proofs.Choices.{pick, and-left, and-right}
use Rattle.table_laws.proofs.Views.{eqb-off, Row, Other, master_at, Names, View, Fine, Looks, live_named, ready_in, eqb-refl, eqb-is}

-- views with no Starting worker, and with one name that may be Starting
abbrev pub none : Generation → ℕ → Bool
none h k = false

abbrev pub idle : View → View
idle v = record { number = v.number; others = v.others; image = v.image; holds = v.holds; starting = none; ready = v.ready; held = v.held }

-- one more name may be Starting, and one less
abbrev pub after_fork : Generation → ℕ → View → View
after_fork g x v = record {
  number = v.number;
  others = v.others;
  image = v.image;
  holds = v.holds;
  starting = λ h k. v.starting h k || bears g x h k;
  ready = v.ready;
  held = v.held;
}

abbrev pub after_loss : Generation → ℕ → View → View
after_loss g x v = record {
  number = v.number;
  others = v.others;
  image = v.image;
  holds = v.holds;
  starting = λ h k. v.starting h k && not (bears g x h k);
  ready = v.ready;
  held = v.held;
}

-- it became Ready, or it is neither
abbrev pub after_wait : Generation → ℕ → View → View
after_wait g x v = record {
  number = v.number;
  others = v.others;
  image = v.image;
  holds = v.holds;
  starting = λ h k. v.starting h k && not (bears g x h k);
  ready = λ h k. v.ready h k || bears g x h k;
  held = v.held;
}

abbrev pub after_removal : Generation → ℕ → View → View
after_removal g x v = record {
  number = v.number;
  others = v.others;
  image = v.image;
  holds = v.holds;
  starting = λ h k. v.starting h k && not (bears g x h k);
  ready = λ h k. v.ready h k && not (bears g x h k);
  held = v.held;
}

pub same-is : (g h : Generation) → same_generation g h ≡ true → g ≡ h
same-is g h e =
    let a = eqb-is g.image h.image (and-left _ _ e) in
    let b = eqb-is g.config h.config (and-right _ _ e) in
    λ i. record { image = a i; config = b i }

pub same-refl : (g : Generation) → same_generation g g ≡ true
same-refl g = both-true (g.image == g.image) (g.config == g.config) (eqb-refl _ _ refl) (eqb-refl _ _ refl)

pub bears-is : (h : Generation) (j : ℕ) (g : Generation) (x : ℕ) → bears h j g x ≡ true → (g ≡ h) × (x ≡ j)
bears-is h j g x e = (same-is g h (and-left _ _ e), eqb-is x j (and-right (same_generation g h) _ e))

pub bears-refl : (g : Generation) (x : ℕ) → bears g x g x ≡ true
bears-refl g x = both-true (same_generation g g) (x == x) (same-refl g) (eqb-refl x x refl)

-- a view that allows more
pub record Allows (v w : View) : Type 0 where
  pub number : v.number ≡ w.number
  pub others : (n : ℕ) → v.others n ≡ true → w.others n ≡ true
  pub image : v.image ≡ w.image
  pub holds : v.holds ≡ w.holds
  pub starting : (g : Generation) (k : ℕ) → v.starting g k ≡ true → w.starting g k ≡ true
  pub ready : (g : Generation) (k : ℕ) → v.ready g k ≡ true → w.ready g k ≡ true
  pub held_starting : (g : Generation) (k : ℕ) → v.starting g k ≡ true → v.held g k ≡ w.held g k
  pub held : (g : Generation) (k : ℕ) → v.ready g k ≡ true → v.held g k ≡ w.held g k

fine-allows : (v w : View) → Allows v w → (p : Process) → Fine v p → Fine w p
fine-allows v w a (Master n q i live hs) h = (h.0 ∙ a.number, h.1 ∙ a.image, h.2, h.3 ∙ a.holds)
fine-allows v w a (Worker n q g k Starting hs) h = (h.0 ∙ a.number, (a.starting g k h.1.0, h.1.1 ∙ a.held_starting g k h.1.0))
fine-allows v w a (Worker n q g k Ready hs) h = (h.0 ∙ a.number, (a.ready g k h.1.0, h.1.1 ∙ a.held g k h.1.0))
fine-allows v w a (Worker n q g k Draining hs) h = (h.0 ∙ a.number, h.1)
fine-allows v w a (Worker n q g k Exited hs) h = (h.0 ∙ a.number, h.1)
fine-allows v w a (Foreign n hs) h = tt

-- another master's row is one for each view of this master
pub other-allows :
    (v w : View) → v.number ≡ w.number → v.image ≡ w.image → ((n : ℕ) → v.others n ≡ true → w.others n ≡ true) →
    (p : Process) → Other v p → Other w p
other-allows v w num img oth (Master n q i live hs) o = ((λ e. o.0 (e ∙ sym num)), oth n o.1, ⊎_elim (λ a. inl a) (λ a. inr (λ e. a (e ∙ sym img))) o.2)
other-allows v w num img oth (Worker n q g k s hs) o = ((λ e. o.0 (e ∙ sym num)), oth q o.1)
other-allows v w num img oth (Foreign n hs) o = o

pub looks-allows : (v w : View) → Allows v w → (rows : List Process) → Looks v rows → Looks w rows
looks-allows v w a rows looks = record {
  fine =
      every-more (Row v) (Row w)
      (λ p h. ⊎_elim (λ f. inl (fine-allows v w a p f)) (λ o. inr (other-allows v w a.number a.image a.others p o)) h)
      rows looks.fine;
  alone = subst (λ n. weigh (master_at n) rows ≡ 1) a.number looks.alone;
  once = λ g k. subst (λ n. weigh (live_named n g k) rows ≤ 1) a.number (looks.once g k);
}

not-off : (a b : Bool) → a ≡ true → (a && b) ≡ false → not b ≡ true
not-off true true e f = cc
not-off true false e f = refl
not-off false b e f = cc

---- Fork

named-none :
    (m : ℕ) (g h : Generation) (x j : ℕ) (rows : List Process) → (g ≡ h) × (x ≡ j) → weigh (live_named m g x) rows ≡ 0 →
    weigh (live_named m h j) rows ≡ 0
named-none m g h x j rows e z = subst (λ y. weigh (live_named m h y) rows ≡ 0) e.1 (subst (λ f. weigh (live_named m f x) rows ≡ 0) e.0 z)

fork-once :
    (m : ℕ) (g h : Generation) (x j : ℕ) (rows : List Process) (b : Bool) → (b ≡ true → bears h j g x ≡ true) →
    weigh (live_named m g x) rows ≡ 0 → weigh (live_named m h j) rows ≤ 1 → weigh (live_named m h j) rows + one b ≤ 1
fork-once m g h x j rows true e z le = omega (arith, named-none m g h x j rows (bears-is h j g x (e refl)) z)
fork-once m g h x j rows false e z le = omega arith

pub fork-looks :
    (v : View) (g : Generation) (x n : ℕ) (hs : List Hold) (rows : List Process) → v.held g x ≡ hs →
    list_any (is_worker is_active v.number g x) rows ≡ false → Looks v rows →
    Looks (after_fork g x v) (rows ++ Worker n v.number g x Starting hs ∷ [])
fork-looks v g x n hs rows same off looks =
    let new = Worker n v.number g x Starting hs in
    let wide =
    looks-allows v (after_fork g x v)
    (record {
      number = refl;
      others = λ n e. e;
      image = refl;
      holds = refl;
      starting = λ h k e. or-left (v.starting h k) (bears g x h k) e;
      ready = λ h k e. e;
      held_starting = λ h k e. refl;
      held = λ h k e. refl;
    })
    rows looks in
    record {
      fine = every-append (Row (after_fork g x v)) rows new wide.fine (inl (refl, (or-right (v.starting g x) (bears g x g x) (bears-refl g x), sym same)));
      alone = weigh-append (master_at v.number) rows (new ∷ []) ∙ (omega (arith, looks.alone));
      once = λ h j.
          let t = is_worker is_active v.number h j new in
          let le =
          fork-once v.number g h x j rows t (λ e. and-right (v.number == v.number) _ e)
          (any-none (is_worker is_active v.number g x) rows off) (looks.once h j) in
          omega (arith, weigh-append (live_named v.number h j) rows (new ∷ []), le);
    }

pub fork-weigh :
    (m : ℕ) (g : Generation) (test : Names) (x n : ℕ) (hs : List Hold) (rows : List Process) →
    weigh (ready_in m test) (rows ++ Worker n m g x Starting hs ∷ []) ≡ weigh (ready_in m test) rows
fork-weigh m g test x n hs rows = omega (arith, weigh-append (ready_in m test) rows (Worker n m g x Starting hs ∷ []))

---- A change by the master leaves the rows of others

-- a test that only rows of the master pass
abbrev pub Mine : ℕ → (Process → Bool) → Type 0
Mine m test = (v : View) (p : Process) → v.number ≡ m → Other v p → test p ≡ false

and-off : (s a b : Bool) → a ≡ false → (s && (a && b)) ≡ false
and-off true a b e = rw e
and-off false a b e = refl

pub mine-worker : (stance : Stance → Bool) (m : ℕ) (g : Generation) (x : ℕ) → Mine m (is_worker stance m g x)
mine-worker stance m g x v (Master n q i live hs) num o = refl
mine-worker stance m g x v (Worker n q g' k s hs) num o = and-off (stance s) (q == m) (bears g x g' k) (eqb-off q m (λ e. o.0 (e ∙ sym num)))
mine-worker stance m g x v (Foreign n hs) num o = refl

pub mine-row : (m : ℕ) → Mine m (is_row m)
mine-row m v (Master n q i live hs) num o = eqb-off n m (λ e. o.0 (e ∙ sym num))
mine-row m v (Worker n q g' k s hs) num o = refl
mine-row m v (Foreign n hs) num o = refl

pub mine-of : (m : ℕ) → Mine m (is_of m)
mine-of m v (Master n q i live hs) num o = eqb-off n m (λ e. o.0 (e ∙ sym num))
mine-of m v (Worker n q g' k s hs) num o = eqb-off q m (λ e. o.0 (e ∙ sym num))
mine-of m v (Foreign n hs) num o = refl

pub mine-exited : (m : ℕ) → Mine m (is_exited_of m)
mine-exited m v (Master n q i live hs) num o = refl
mine-exited m v (Worker n q g' k s hs) num o = off (is_exited s) (q == m) (eqb-off q m (λ e. o.0 (e ∙ sym num)))
  where
    off : (a b : Bool) → b ≡ false → (a && b) ≡ false
    off true b e = e
    off false b e = refl
mine-exited m v (Foreign n hs) num o = refl

-- a change of rows that stay rows of their master
abbrev pub StaysOther : (Process → Process) → Type 0
StaysOther f = (v : View) (p : Process) → Other v p → Other v (f p)

pub ready-stays : StaysOther made_ready
ready-stays v (Master n q i live hs) o = o
ready-stays v (Worker n q g k s hs) o = o
ready-stays v (Foreign n hs) o = o

pub draining-stays : StaysOther made_draining
draining-stays v (Master n q i live hs) o = o
draining-stays v (Worker n q g k s hs) o = o
draining-stays v (Foreign n hs) o = o

pub holds-stay : (f : List Hold → List Hold) → StaysOther (with_holds f)
holds-stay f v (Master n q i live hs) o = o
holds-stay f v (Worker n q g k s hs) o = o
holds-stay f v (Foreign n hs) o = absurd o

fits-if : (Q : Process → Type 0) (b : Bool) (x p : Process) → b ≡ false → Q p → Q (if b then x else p)
fits-if Q true x p e h = absurd (cc)
fits-if Q false x p e h = h

lift-change :
    (v w : View) (test : Process → Bool) (f : Process → Process) → v.number ≡ w.number → v.image ≡ w.image →
    ((n : ℕ) → v.others n ≡ true → w.others n ≡ true) → Mine v.number test →
    ((p : Process) → Fine v p → FitsIn (Fine w) (change test f p)) → (p : Process) → Row v p →
    FitsIn (Row w) (change test f p)
lift-change v w test f num img oth mine fine p h =
    ⊎_elim (λ a. inl (fine p a))
    (λ o. fits-if (Row w) (test p) (f p) p (mine v p refl o) (inr (other-allows v w num img oth p o))) h

---- AwaitReady

off-true : (b : Bool) → b ≡ false → b ≡ true → ⊥
off-true b e f = cc

pub await-fine :
    (v : View) (g : Generation) (x : ℕ) (p : Process) → Fine v p →
    FitsIn (Fine (after_wait g x v)) (change (is_worker is_starting v.number g x) made_ready p)
await-fine v g x (Master n q i live hs) h = h
await-fine v g x (Worker n q g' k Starting hs) h =
    pick (Fine (after_wait g x v)) ((q == v.number) && bears g x g' k) (Worker n q g' k Ready hs) (Worker n q g' k Starting hs)
    (λ e. (h.0, (or-right (v.ready g' k) (bears g x g' k) (and-right (q == v.number) _ e), h.1.1)))
    (λ e. (h.0, (both-true (v.starting g' k) _ h.1.0 (not-off (q == v.number) _ (eqb-refl q v.number h.0) e), h.1.1)))
await-fine v g x (Worker n q g' k Ready hs) h = (h.0, (or-left (v.ready g' k) (bears g x g' k) h.1.0, h.1.1))
await-fine v g x (Worker n q g' k Draining hs) h = h
await-fine v g x (Worker n q g' k Exited hs) h = h
await-fine v g x (Foreign n hs) h = h

pub await-masters : (m : ℕ) (g : Generation) (x : ℕ) (p : Process) → worth (master_at m) (change (is_worker is_starting m g x) made_ready p) ≡ master_at m p
await-masters m g x (Master n q i live hs) = refl
await-masters m g x (Worker n q g' k s hs) =
    pick (λ p. master_at m p ≡ 0) (is_starting s && ((q == m) && bears g x g' k)) (Worker n q g' k Ready hs)
    (Worker n q g' k s hs) (λ e. refl) (λ e. refl)
await-masters m g x (Foreign n hs) = refl

pub await-named :
    (m : ℕ) (g h : Generation) (x j : ℕ) (p : Process) →
    worth (live_named m h j) (change (is_worker is_starting m g x) made_ready p) ≡ live_named m h j p
await-named m g h x j (Master n q i live hs) = refl
await-named m g h x j (Worker n q g' k Starting hs) =
    pick (λ p. live_named m h j p ≡ live_named m h j (Worker n q g' k Starting hs)) ((q == m) && bears g x g' k)
    (Worker n q g' k Ready hs) (Worker n q g' k Starting hs) (λ e. refl) (λ e. refl)
await-named m g h x j (Worker n q g' k Ready hs) = refl
await-named m g h x j (Worker n q g' k Draining hs) = refl
await-named m g h x j (Worker n q g' k Exited hs) = refl
await-named m g h x j (Foreign n hs) = refl

pub await-looks :
    (v : View) (g : Generation) (x : ℕ) (rows : List Process) → Looks v rows →
    Looks (after_wait g x v) (filter_map (change (is_worker is_starting v.number g x) made_ready) rows)
await-looks v g x rows looks =
    let f = change (is_worker is_starting v.number g x) made_ready in
    record {
      fine =
          every-filter_map (Row v) (Row (after_wait g x v)) f
          (lift-change v (after_wait g x v) (is_worker is_starting v.number g x) made_ready refl refl (λ n e. e) (mine-worker is_starting v.number g x) (await-fine v g x))
          rows looks.fine;
      alone = change-same (λ p. ⊤) (master_at v.number) f (λ p h. await-masters v.number g x p) rows (every-any rows) ∙ looks.alone;
      once =
          λ h j. omega
          (arith, change-same (λ p. ⊤) (live_named v.number h j) f (λ p t. await-named v.number g h x j p) rows (every-any rows), looks.once h j);
    }

-- the Starting worker counts from now on
abbrev starting_named : ℕ → Generation → ℕ → Process → ℕ
starting_named m g x p = one (is_worker is_starting m g x p)

named-test :
    (m : ℕ) (g : Generation) (x q : ℕ) (g' : Generation) (k : ℕ) (test : Names) → test g x ≡ true →
    ((q == m) && bears g x g' k) ≡ true → ((q == m) && test g' k) ≡ true
named-test m g x q g' k test t e =
    let is = bears-is g x g' k (and-right (q == m) _ e) in
    both-true (q == m) (test g' k) (and-left _ _ e) (subst (λ f. test f k ≡ true) (sym is.0) (subst (λ y. test g y ≡ true) (sym is.1) t))

await-gain :
    (m : ℕ) (g : Generation) (test : Names) (x : ℕ) → test g x ≡ true → (p : Process) → ready_in m test p +
    starting_named m g x p ≡ worth (ready_in m test) (change (is_worker is_starting m g x) made_ready p)
await-gain m g test x t (Master n q i live hs) = refl
await-gain m g test x t (Worker n q g' k Starting hs) =
    pick (λ p. 0 + one ((q == m) && bears g x g' k) ≡ ready_in m test p) ((q == m) && bears g x g' k) (Worker n q g' k Ready hs) (Worker n q g' k Starting hs)
    (λ e. omega (arith, ap one e, ap one (named-test m g x q g' k test t e)))
    (λ e. omega (arith, ap one e))
await-gain m g test x t (Worker n q g' k Ready hs) = omega arith
await-gain m g test x t (Worker n q g' k Draining hs) = refl
await-gain m g test x t (Worker n q g' k Exited hs) = refl
await-gain m g test x t (Foreign n hs) = refl

-- of a name that may not be Ready, the live workers are Starting ones
ready-off : (v : View) (g : Generation) (x : ℕ) (g' : Generation) (k : ℕ) → v.ready g x ≡ false → v.ready g' k ≡ true → bears g x g' k ≡ true → ⊥
ready-off v g x g' k off on b =
    let is = bears-is g x g' k b in
    off-true (v.ready g x) off (subst (λ y. v.ready g y ≡ true) is.1 (subst (λ f. v.ready f k ≡ true) is.0 on))

live-starting : (v : View) (g : Generation) (x : ℕ) → v.ready g x ≡ false → (p : Process) → Fine v p → live_named v.number g x p ≡ starting_named v.number g x p
live-starting v g x off (Master n q i live hs) h = refl
live-starting v g x off (Worker n q g' k Starting hs) h = refl
live-starting v g x off (Worker n q g' k Ready hs) h =
    elim ((q == v.number) && bears g x g' k) as (λ b. ((q == v.number) && bears g x g' k) ≡ b → one b ≡ 0) [
      | true ↦ λ e. absurd (ready-off v g x g' k off h.1.0 (and-right (q == v.number) _ e))
      | false ↦ λ e. refl
    ] refl
live-starting v g x off (Worker n q g' k Draining hs) h = refl
live-starting v g x off (Worker n q g' k Exited hs) h = refl
live-starting v g x off (Foreign n hs) h = refl

live-starting-row :
    (v : View) (g : Generation) (x : ℕ) → v.ready g x ≡ false → (p : Process) → Row v p →
    live_named v.number g x p ≡ starting_named v.number g x p
live-starting-row v g x off p h =
    ⊎_elim (λ f. live-starting v g x off p f)
    (λ o. ap one (mine-worker is_active v.number g x v p refl o) ∙ sym (ap one (mine-worker is_starting v.number g x v p refl o)))
    h

pub await-gains :
    (v : View) (g : Generation) (test : Names) (x : ℕ) (rows : List Process) → test g x ≡ true → v.ready g x ≡ false →
    list_any (is_worker is_active v.number g x) rows ≡ true → Looks v rows → weigh (ready_in v.number test) rows + 1 ≤
    weigh (ready_in v.number test) (filter_map (change (is_worker is_starting v.number g x) made_ready) rows)
await-gains v g test x rows t off on looks =
    let f = change (is_worker is_starting v.number g x) made_ready in
    let live = any-some (is_worker is_active v.number g x) rows on in
    let same = weigh-same (Row v) (live_named v.number g x) (starting_named v.number g x) (live-starting-row v g x off) rows looks.fine in
    let sum =
    weigh-same (λ p. ⊤) (λ p. ready_in v.number test p + starting_named v.number g x p)
    (λ p. worth (ready_in v.number test) (f p)) (λ p h. await-gain v.number g test x t p) rows (every-any rows) in
    omega (arith, live, same, sum, weigh-filter_map (ready_in v.number test) f rows, weigh-add (ready_in v.number test) (starting_named v.number g x) rows)

---- AwaitReady of a worker that is gone

fits-dropped : (Q : Process → Type 0) (b : Bool) (p : Process) → (b ≡ false → Q p) → FitsIn Q (if b then None else Some p)
fits-dropped Q true p h = tt
fits-dropped Q false p h = h refl

worth-dropped-le : (u : Process → ℕ) (b : Bool) (p : Process) → worth u (if b then None else Some p) ≤ u p
worth-dropped-le u true p = omega arith
worth-dropped-le u false p = omega arith

pub worth-dropped-same : (u : Process → ℕ) (b : Bool) (p : Process) → (b ≡ true → u p ≡ 0) → worth u (if b then None else Some p) ≡ u p
worth-dropped-same u true p h = sym (h refl)
worth-dropped-same u false p h = refl

pub any-every : {X : Type 0} (test : X → Bool) (ps : List X) → list_any test ps ≡ false → AllByRecursion (λ p. test p ≡ false) ps
any-every test [] e = tt
any-every {X} test (p ∷ ps) e = go (test p) e refl (any-every test ps)
  where
    go :
        (b : Bool) → (b || list_any test ps) ≡ false → test p ≡ b →
        (list_any test ps ≡ false → AllByRecursion (λ q. test q ≡ false) ps) →
        (test p ≡ false) × AllByRecursion (λ q. test q ≡ false) ps
    go true e is ih = absurd (cc)
    go false e is ih = (is, ih e)

gone-fine : (v : View) (g : Generation) (x : ℕ) (p : Process) → Fine v p × (is_worker is_active v.number g x p ≡ false) → Fine (after_loss g x v) p
gone-fine v g x (Master n q i live hs) h = h.0
gone-fine v g x (Worker n q g' k Starting hs) h =
    (h.0.0, (both-true (v.starting g' k) _ h.0.1.0 (not-off (q == v.number) _ (eqb-refl q v.number h.0.0) h.1), h.0.1.1))
gone-fine v g x (Worker n q g' k Ready hs) h = h.0
gone-fine v g x (Worker n q g' k Draining hs) h = h.0
gone-fine v g x (Worker n q g' k Exited hs) h = h.0
gone-fine v g x (Foreign n hs) h = tt

-- a worker is no master
worker-masters : (stance : Stance → Bool) (m : ℕ) (g : Generation) (x : ℕ) (p : Process) → is_worker stance m g x p ≡ true → master_at m p ≡ 0
worker-masters stance m g x (Master n q i live hs) e = cc
worker-masters stance m g x (Worker n q g' k s hs) e = refl
worker-masters stance m g x (Foreign n hs) e = cc

exited-unready : (m : ℕ) (g : Generation) (x : ℕ) (test : Names) (p : Process) → is_worker is_exited m g x p ≡ true → ready_in m test p ≡ 0
exited-unready m g x test (Master n q i live hs) e = refl
exited-unready m g x test (Worker n q g' k Starting hs) e = refl
exited-unready m g x test (Worker n q g' k Ready hs) e = cc
exited-unready m g x test (Worker n q g' k Draining hs) e = refl
exited-unready m g x test (Worker n q g' k Exited hs) e = refl
exited-unready m g x test (Foreign n hs) e = refl

-- rows that are dropped, where those that stay are fine
pub dropped-looks :
    (P : Process → Type 0) (w : View) (test : Process → Bool) (rows : List Process) → AllByRecursion P rows →
    ((p : Process) → P p → test p ≡ false → Row w p) → ((p : Process) → test p ≡ true → master_at w.number p ≡ 0) →
    weigh (master_at w.number) rows ≡ 1 → ((g : Generation) (k : ℕ) → weigh (live_named w.number g k) rows ≤ 1) →
    Looks w (filter_map (drop_where test) rows)
dropped-looks P w test rows all fine no_master alone once = record {
  fine = every-filter_map P (Row w) (drop_where test) (λ p h. fits-dropped (Row w) (test p) p (fine p h)) rows all;
  alone =
      change-same (λ p. ⊤) (master_at w.number) (drop_where test)
      (λ p h. worth-dropped-same (master_at w.number) (test p) p (no_master p)) rows (every-any rows) ∙ alone;
  once =
      λ g k. omega
      (arith, once g k, change-le (λ p. ⊤) (live_named w.number g k) (drop_where test) (λ p h. worth-dropped-le (live_named w.number g k) (test p) p) rows (every-any rows));
}

pub gone-looks :
    (v : View) (g : Generation) (x : ℕ) (rows : List Process) →
    list_any (is_worker is_active v.number g x) rows ≡ false → Looks v rows →
    Looks (after_loss g x v) (filter_map (drop_where (is_worker is_exited v.number g x)) rows)
gone-looks v g x rows off looks =
    dropped-looks (λ p. Row v p × (is_worker is_active v.number g x p ≡ false)) (after_loss g x v) (is_worker is_exited v.number g x) rows
    (every-both (Row v) (λ p. is_worker is_active v.number g x p ≡ false) rows looks.fine (any-every (is_worker is_active v.number g x) rows off))
    (λ p h e. ⊎_elim (λ f. inl (gone-fine v g x p (f, h.1))) (λ o. inr (other-allows v (after_loss g x v) refl refl (λ n e. e) p o)) h.0)
    (worker-masters is_exited v.number g x) looks.alone looks.once

pub gone-weigh :
    (m : ℕ) (g : Generation) (x : ℕ) (test : Names) (rows : List Process) →
    weigh (ready_in m test) (filter_map (drop_where (is_worker is_exited m g x)) rows) ≡ weigh (ready_in m test) rows
gone-weigh m g x test rows =
    change-same (λ p. ⊤) (ready_in m test) (drop_where (is_worker is_exited m g x))
    (λ p t. worth-dropped-same (ready_in m test) (is_worker is_exited m g x p) p (exited-unready m g x test p)) rows
    (every-any rows)

---- Kill of a name that is not Ready

kill-fine : (v : View) (g : Generation) (x : ℕ) (p : Process) → Fine v p → is_worker is_any v.number g x p ≡ false → Fine (after_loss g x v) p
kill-fine v g x (Master n q i live hs) h e = h
kill-fine v g x (Worker n q g' k Starting hs) h e = (h.0, (both-true (v.starting g' k) _ h.1.0 (not-off (q == v.number) _ (eqb-refl q v.number h.0) e), h.1.1))
kill-fine v g x (Worker n q g' k Ready hs) h e = h
kill-fine v g x (Worker n q g' k Draining hs) h e = h
kill-fine v g x (Worker n q g' k Exited hs) h e = h
kill-fine v g x (Foreign n hs) h e = tt

kill-unready :
    (v : View) (g : Generation) (x : ℕ) (test : Names) → v.ready g x ≡ false → (p : Process) → Fine v p →
    is_worker is_any v.number g x p ≡ true → ready_in v.number test p ≡ 0
kill-unready v g x test off (Master n q i live hs) f e = refl
kill-unready v g x test off (Worker n q g' k Starting hs) f e = refl
kill-unready v g x test off (Worker n q g' k Ready hs) f e = absurd (ready-off v g x g' k off f.1.0 (and-right (q == v.number) _ e))
kill-unready v g x test off (Worker n q g' k Draining hs) f e = refl
kill-unready v g x test off (Worker n q g' k Exited hs) f e = refl
kill-unready v g x test off (Foreign n hs) f e = refl

pub kill-looks :
    (v : View) (g : Generation) (x : ℕ) (rows : List Process) → Looks v rows →
    Looks (after_loss g x v) (filter_map (drop_where (is_worker is_any v.number g x)) rows)
kill-looks v g x rows looks =
    dropped-looks (Row v) (after_loss g x v) (is_worker is_any v.number g x) rows looks.fine
    (λ p h e. ⊎_elim (λ f. inl (kill-fine v g x p f e)) (λ o. inr (other-allows v (after_loss g x v) refl refl (λ n e. e) p o)) h)
    (worker-masters is_any v.number g x) looks.alone looks.once

kill-row :
    (v : View) (g : Generation) (x : ℕ) (test : Names) → v.ready g x ≡ false → (p : Process) → Row v p →
    is_worker is_any v.number g x p ≡ true → ready_in v.number test p ≡ 0
kill-row v g x test off p h e = ⊎_elim (λ f. kill-unready v g x test off p f e) (λ o. absurd (off-true _ (mine-worker is_any v.number g x v p refl o) e)) h

pub kill-weigh :
    (v : View) (g : Generation) (x : ℕ) (test : Names) (rows : List Process) → v.ready g x ≡ false → Looks v rows →
    weigh (ready_in v.number test) (filter_map (drop_where (is_worker is_any v.number g x)) rows) ≡ weigh
    (ready_in v.number test) rows
kill-weigh v g x test rows off looks =
    change-same (Row v) (ready_in v.number test) (drop_where (is_worker is_any v.number g x))
    (λ p f. worth-dropped-same (ready_in v.number test) (is_worker is_any v.number g x p) p (kill-row v g x test off p f))
    rows looks.fine

---- Quit

quit-fine :
    (v : View) (g : Generation) (x : ℕ) (p : Process) → Fine v p →
    FitsIn (Fine (after_removal g x v)) (change (is_worker is_active v.number g x) made_draining p)
quit-fine v g x (Master n q i live hs) h = h
quit-fine v g x (Worker n q g' k Starting hs) h =
    pick (Fine (after_removal g x v)) ((q == v.number) && bears g x g' k) (Worker n q g' k Draining []) (Worker n q g' k Starting hs)
    (λ e. (h.0, refl))
    (λ e. (h.0, (both-true (v.starting g' k) _ h.1.0 (not-off (q == v.number) _ (eqb-refl q v.number h.0) e), h.1.1)))
quit-fine v g x (Worker n q g' k Ready hs) h =
    pick (Fine (after_removal g x v)) ((q == v.number) && bears g x g' k) (Worker n q g' k Draining []) (Worker n q g' k Ready hs)
    (λ e. (h.0, refl))
    (λ e. (h.0, (both-true (v.ready g' k) _ h.1.0 (not-off (q == v.number) _ (eqb-refl q v.number h.0) e), h.1.1)))
quit-fine v g x (Worker n q g' k Draining hs) h = h
quit-fine v g x (Worker n q g' k Exited hs) h = h
quit-fine v g x (Foreign n hs) h = h

quit-masters : (m : ℕ) (g : Generation) (x : ℕ) (p : Process) → worth (master_at m) (change (is_worker is_active m g x) made_draining p) ≡ master_at m p
quit-masters m g x (Master n q i live hs) = refl
quit-masters m g x (Worker n q g' k s hs) =
    pick (λ p. master_at m p ≡ 0) (is_active s && ((q == m) && bears g x g' k)) (Worker n q g' k Draining [])
    (Worker n q g' k s hs) (λ e. refl) (λ e. refl)
quit-masters m g x (Foreign n hs) = refl

quit-named :
    (m : ℕ) (g h : Generation) (x j : ℕ) (p : Process) →
    worth (live_named m h j) (change (is_worker is_active m g x) made_draining p) ≤ live_named m h j p
quit-named m g h x j (Master n q i live hs) = omega arith
quit-named m g h x j (Worker n q g' k s hs) =
    pick (λ p. live_named m h j p ≤ live_named m h j (Worker n q g' k s hs))
    (is_active s && ((q == m) && bears g x g' k)) (Worker n q g' k Draining []) (Worker n q g' k s hs)
    (λ e. omega arith) (λ e. omega arith)
quit-named m g h x j (Foreign n hs) = omega arith

pub quit-looks :
    (v : View) (g : Generation) (x : ℕ) (rows : List Process) → Looks v rows →
    Looks (after_removal g x v) (filter_map (change (is_worker is_active v.number g x) made_draining) rows)
quit-looks v g x rows looks =
    let f = change (is_worker is_active v.number g x) made_draining in
    record {
      fine =
          every-filter_map (Row v) (Row (after_removal g x v)) f
          (lift-change v (after_removal g x v) (is_worker is_active v.number g x) made_draining refl refl (λ n e. e) (mine-worker is_active v.number g x) (quit-fine v g x))
          rows looks.fine;
      alone = change-same (λ p. ⊤) (master_at v.number) f (λ p h. quit-masters v.number g x p) rows (every-any rows) ∙ looks.alone;
      once = λ h j. omega (arith, looks.once h j, change-le (λ p. ⊤) (live_named v.number h j) f (λ p t. quit-named v.number g h x j p) rows (every-any rows));
    }

-- the others of a set stay
off-name : (g : Generation) (x : ℕ) (g' : Generation) (k : ℕ) (test : Names) → test g x ≡ false → bears g x g' k ≡ true → test g' k ≡ false
off-name g x g' k test off b =
    let is = bears-is g x g' k b in
    subst (λ f. test f k ≡ false) (sym is.0) (subst (λ y. test g y ≡ false) (sym is.1) off)

off-one : (d t : Bool) → t ≡ false → one (d && t) ≡ 0
off-one true t e = ap one e
off-one false t e = refl

quit-others :
    (m : ℕ) (g : Generation) (x : ℕ) (test : Names) → test g x ≡ false → (p : Process) →
    worth (ready_in m test) (change (is_worker is_active m g x) made_draining p) ≡ ready_in m test p
quit-others m g x test off (Master n q i live hs) = refl
quit-others m g x test off (Worker n q g' k Starting hs) =
    pick (λ p. ready_in m test p ≡ 0) ((q == m) && bears g x g' k) (Worker n q g' k Draining [])
    (Worker n q g' k Starting hs) (λ e. refl) (λ e. refl)
quit-others m g x test off (Worker n q g' k Ready hs) =
    pick (λ p. ready_in m test p ≡ ready_in m test (Worker n q g' k Ready hs)) ((q == m) && bears g x g' k)
    (Worker n q g' k Draining []) (Worker n q g' k Ready hs)
    (λ e. sym (off-one (q == m) (test g' k) (off-name g x g' k test off (and-right (q == m) _ e))))
    (λ e. refl)
quit-others m g x test off (Worker n q g' k Draining hs) = refl
quit-others m g x test off (Worker n q g' k Exited hs) = refl
quit-others m g x test off (Foreign n hs) = refl

pub quit-weigh :
    (m : ℕ) (g : Generation) (x : ℕ) (test : Names) (rows : List Process) → test g x ≡ false → weigh (ready_in m test)
    (filter_map (change (is_worker is_active m g x) made_draining) rows) ≡ weigh (ready_in m test) rows
quit-weigh m g x test rows off =
    change-same (λ p. ⊤) (ready_in m test) (change (is_worker is_active m g x) made_draining)
    (λ p t. quit-others m g x test off p) rows (every-any rows)

---- OpenAt and CloseAt

abbrev pub after_open : Hold → View → View
after_open h v = record {
  number = v.number;
  others = v.others;
  image = v.image;
  holds = put_hold h v.holds;
  starting = v.starting;
  ready = v.ready;
  held = v.held;
}

abbrev pub after_close : Address → View → View
after_close a v = record {
  number = v.number;
  others = v.others;
  image = v.image;
  holds = lacks_address a v.holds;
  starting = v.starting;
  ready = v.ready;
  held = λ g k. lacks_address a (v.held g k);
}

open-fine : (v : View) (h : Hold) (p : Process) → Fine v p → FitsIn (Fine (after_open h v)) (change (is_row v.number) (with_holds (put_hold h)) p)
open-fine v h (Master n q i live hs) f =
    pick (Fine (after_open h v)) (n == v.number) (Master n q i live (put_hold h hs)) (Master n q i live hs)
    (λ e. (f.0, f.1, f.2, ap (put_hold h) f.3)) (λ e. absurd (off-true _ e (eqb-refl n v.number f.0)))
open-fine v h (Worker n q g k s hs) f = f
open-fine v h (Foreign n hs) f = f

-- a change that keeps every row's kind
abbrev IsKept : (Process → Process) → Type 0
IsKept f =
    (p : Process) → ((m : ℕ) → master_at m (f p) ≡ master_at m p)
    × ((m : ℕ) (g : Generation) (k : ℕ) → live_named m g k (f p) ≡ live_named m g k p)
    × ((m : ℕ) (t : Names) → ready_in m t (f p) ≡ ready_in m t p)

holds-kept : (f : List Hold → List Hold) → IsKept (with_holds f)
holds-kept f (Master n q i live hs) = (λ m. refl, λ m g k. refl, λ m t. refl)
holds-kept f (Worker n q g' k' s hs) = (λ m. refl, λ m g k. refl, λ m t. refl)
holds-kept f (Foreign n hs) = (λ m. refl, λ m g k. refl, λ m t. refl)

kept-looks :
    (v w : View) (test : Process → Bool) (f : Process → Process) (rows : List Process) → v.number ≡ w.number →
    v.image ≡ w.image → ((n : ℕ) → v.others n ≡ true → w.others n ≡ true) → Mine v.number test → IsKept f →
    ((p : Process) → Fine v p → FitsIn (Fine w) (change test f p)) → Looks v rows →
    Looks w (filter_map (change test f) rows)
kept-looks v w test f rows same img oth mine kept fine looks = record {
  fine = every-filter_map (Row v) (Row w) (change test f) (lift-change v w test f same img oth mine fine) rows looks.fine;
  alone =
      subst (λ m. weigh (master_at m) (filter_map (change test f) rows) ≡ 1) same
      (change-same (λ p. ⊤) (master_at v.number) (change test f) (λ p x. pick (λ p'. master_at v.number p' ≡ master_at v.number p) (test p) (f p) p (λ e. (kept p).0 v.number) (λ e. refl)) rows (every-any rows) ∙ looks.alone);
  once =
      λ g k. subst (λ m. weigh (live_named m g k) (filter_map (change test f) rows) ≤ 1) same
      (omega (arith, looks.once g k, change-same (λ p. ⊤) (live_named v.number g k) (change test f) (λ p x. pick (λ p'. live_named v.number g k p' ≡ live_named v.number g k p) (test p) (f p) p (λ e. (kept p).1 v.number g k) (λ e. refl)) rows (every-any rows)));
}

kept-weigh :
    (m : ℕ) (t : Names) (test : Process → Bool) (f : Process → Process) (rows : List Process) → IsKept f →
    weigh (ready_in m t) (filter_map (change test f) rows) ≡ weigh (ready_in m t) rows
kept-weigh m t test f rows kept =
    change-same (λ p. ⊤) (ready_in m t) (change test f)
    (λ p x. pick (λ p'. ready_in m t p' ≡ ready_in m t p) (test p) (f p) p (λ e. (kept p).2 m t) (λ e. refl)) rows
    (every-any rows)

pub open-looks :
    (v : View) (h : Hold) (rows : List Process) → Looks v rows →
    Looks (after_open h v) (filter_map (change (is_row v.number) (with_holds (put_hold h))) rows)
open-looks v h rows looks =
    kept-looks v (after_open h v) (is_row v.number) (with_holds (put_hold h)) rows refl refl (λ n e. e)
    (mine-row v.number) (holds-kept (put_hold h)) (open-fine v h) looks

pub open-weigh :
    (m : ℕ) (t : Names) (h : Hold) (rows : List Process) →
    weigh (ready_in m t) (filter_map (change (is_row m) (with_holds (put_hold h))) rows) ≡ weigh (ready_in m t) rows
open-weigh m t h rows = kept-weigh m t (is_row m) (with_holds (put_hold h)) rows (holds-kept (put_hold h))

close-fine : (v : View) (a : Address) (p : Process) → Fine v p → FitsIn (Fine (after_close a v)) (change (is_of v.number) (with_holds (lacks_address a)) p)
close-fine v a (Master n q i live hs) f =
    pick (Fine (after_close a v)) (n == v.number) (Master n q i live (lacks_address a hs)) (Master n q i live hs)
    (λ e. (f.0, f.1, f.2, ap (lacks_address a) f.3)) (λ e. absurd (off-true _ e (eqb-refl n v.number f.0)))
close-fine v a (Worker n q g k Starting hs) f =
    pick (Fine (after_close a v)) (q == v.number) (Worker n q g k Starting (lacks_address a hs))
    (Worker n q g k Starting hs) (λ e. (f.0, (f.1.0, ap (lacks_address a) f.1.1)))
    (λ e. absurd (off-true _ e (eqb-refl q v.number f.0)))
close-fine v a (Worker n q g k Ready hs) f =
    pick (Fine (after_close a v)) (q == v.number) (Worker n q g k Ready (lacks_address a hs)) (Worker n q g k Ready hs)
    (λ e. (f.0, (f.1.0, ap (lacks_address a) f.1.1))) (λ e. absurd (off-true _ e (eqb-refl q v.number f.0)))
close-fine v a (Worker n q g k Draining hs) f =
    pick (Fine (after_close a v)) (q == v.number) (Worker n q g k Draining (lacks_address a hs))
    (Worker n q g k Draining hs) (λ e. (f.0, ap (lacks_address a) f.1)) (λ e. f)
close-fine v a (Worker n q g k Exited hs) f =
    pick (Fine (after_close a v)) (q == v.number) (Worker n q g k Exited (lacks_address a hs))
    (Worker n q g k Exited hs) (λ e. (f.0, ap (lacks_address a) f.1)) (λ e. f)
close-fine v a (Foreign n hs) f = f

pub close-looks :
    (v : View) (a : Address) (rows : List Process) → Looks v rows →
    Looks (after_close a v) (filter_map (change (is_of v.number) (with_holds (lacks_address a))) rows)
close-looks v a rows looks =
    kept-looks v (after_close a v) (is_of v.number) (with_holds (lacks_address a)) rows refl refl (λ n e. e)
    (mine-of v.number) (holds-kept (lacks_address a)) (close-fine v a) looks

pub close-weigh :
    (m : ℕ) (t : Names) (a : Address) (rows : List Process) →
    weigh (ready_in m t) (filter_map (change (is_of m) (with_holds (lacks_address a))) rows) ≡ weigh (ready_in m t) rows
close-weigh m t a rows = kept-weigh m t (is_of m) (with_holds (lacks_address a)) rows (holds-kept (lacks_address a))

-- an address that nobody holds is not held by the master
pub unheld :
    (v : View) (a : Address) (rows : List Process) → list_any (λ p. list_any (is_at a) (holds_of p)) rows ≡ false →
    AllByRecursion (Row v) rows → 1 ≤ weigh (master_at v.number) rows → list_any (is_at a) v.holds ≡ false
unheld v a [] e fine some = absurd (omega arith)
unheld v a (Master n q i live hs ∷ rows) e fine some =
    go (list_any (is_at a) hs) refl e (λ f o. unheld v a rows f fine.1 (omega (arith, ap one (eqb-off n v.number o))))
  where
    go :
        (b : Bool) → list_any (is_at a) hs ≡ b → (b || list_any (λ p. list_any (is_at a) (holds_of p)) rows) ≡ false →
        (list_any (λ p. list_any (is_at a) (holds_of p)) rows ≡ false → n ≢ v.number → list_any (is_at a) v.holds ≡ false)
        → list_any (is_at a) v.holds ≡ false
    go true is e ih = absurd (cc)
    go false is e ih = ⊎_elim (λ f. subst (λ l. list_any (is_at a) l ≡ false) f.3 is) (λ o. ih e o.0) fine.0
unheld v a (Worker n q g k s hs ∷ rows) e fine some = go (list_any (is_at a) hs) e (λ f. unheld v a rows f fine.1 (omega arith))
  where
    go :
        (b : Bool) → (b || list_any (λ p. list_any (is_at a) (holds_of p)) rows) ≡ false →
        (list_any (λ p. list_any (is_at a) (holds_of p)) rows ≡ false → list_any (is_at a) v.holds ≡ false) →
        list_any (is_at a) v.holds ≡ false
    go true e ih = absurd (cc)
    go false e ih = ih e
unheld v a (Foreign n hs ∷ rows) e fine some = go (list_any (is_at a) hs) e (λ f. unheld v a rows f fine.1 (omega arith))
  where
    go :
        (b : Bool) → (b || list_any (λ p. list_any (is_at a) (holds_of p)) rows) ≡ false →
        (list_any (λ p. list_any (is_at a) (holds_of p)) rows ≡ false → list_any (is_at a) v.holds ≡ false) →
        list_any (is_at a) v.holds ≡ false
    go true e ih = absurd (cc)
    go false e ih = ih e

---- Kill of a name that may be Ready

cut-fine : (v : View) (g : Generation) (x : ℕ) (p : Process) → Fine v p → is_worker is_any v.number g x p ≡ false → Fine (after_removal g x v) p
cut-fine v g x (Master n q i live hs) h e = h
cut-fine v g x (Worker n q g' k Starting hs) h e = (h.0, (both-true (v.starting g' k) _ h.1.0 (not-off (q == v.number) _ (eqb-refl q v.number h.0) e), h.1.1))
cut-fine v g x (Worker n q g' k Ready hs) h e = (h.0, (both-true (v.ready g' k) _ h.1.0 (not-off (q == v.number) _ (eqb-refl q v.number h.0) e), h.1.1))
cut-fine v g x (Worker n q g' k Draining hs) h e = h
cut-fine v g x (Worker n q g' k Exited hs) h e = h
cut-fine v g x (Foreign n hs) h e = tt

pub cut-looks :
    (v : View) (g : Generation) (x : ℕ) (rows : List Process) → Looks v rows →
    Looks (after_removal g x v) (filter_map (drop_where (is_worker is_any v.number g x)) rows)
cut-looks v g x rows looks =
    dropped-looks (Row v) (after_removal g x v) (is_worker is_any v.number g x) rows looks.fine
    (λ p h e. ⊎_elim (λ f. inl (cut-fine v g x p f e)) (λ o. inr (other-allows v (after_removal g x v) refl refl (λ n e. e) p o)) h)
    (worker-masters is_any v.number g x) looks.alone looks.once

off-two : (s d t : Bool) → t ≡ false → one (s && (d && t)) ≡ 0
off-two true true t e = ap one e
off-two true false t e = refl
off-two false d t e = refl

cut-unready : (m : ℕ) (g : Generation) (x : ℕ) (test : Names) → test g x ≡ false → (p : Process) → is_worker is_any m g x p ≡ true → ready_in m test p ≡ 0
cut-unready m g x test off (Master n q i live hs) e = refl
cut-unready m g x test off (Worker n q g' k s hs) e = off-two (is_ready s) (q == m) (test g' k) (off-name g x g' k test off (and-right (q == m) _ e))
cut-unready m g x test off (Foreign n hs) e = refl

pub cut-weigh :
    (m : ℕ) (g : Generation) (x : ℕ) (test : Names) (rows : List Process) → test g x ≡ false →
    weigh (ready_in m test) (filter_map (drop_where (is_worker is_any m g x)) rows) ≡ weigh (ready_in m test) rows
cut-weigh m g x test rows off =
    change-same (λ p. ⊤) (ready_in m test) (drop_where (is_worker is_any m g x))
    (λ p t. worth-dropped-same (ready_in m test) (is_worker is_any m g x p) p (cut-unready m g x test off p)) rows
    (every-any rows)
