-- Sets of numbers as lists: what stands_in in a longer list, and how many.
use Rattle.std.proofs.Common.{◌≡◌, ◌≢◌, ℕ, zero, suc, ◌+◌, ◌<◌, ◌≤◌, Bool, true, false, cond, not, List, [], ◌∷◌, ◌++◌}
use Rattle.std.proofs.Common.{length, refl, sym, ap, ◌∙◌, subst, arith, length-append, ◌⊎◌, inl, inr, ⊎_elim}
use Rattle.std.specs.List.{AllByRecursion}
use Rattle.std.specs.Prelude.{filter, ◌&&◌, ◌||◌, ◌==◌, nat_lt}
use Rattle.std.proofs.lemmas.Bool.Decides.{nat_tests}
use Rattle.vocabulary.specs.declared.table.Stance.TheVariants.{Starting, Ready, Draining, Exited}
use Rattle.definitions.specs.Table.{Process, Master, Worker, Foreign, same_generation}
use Rattle.call_laws.specs.Pieces.{is_ready}
use Rattle.listener_set.specs.declared.generation.Generation.{Generation}
use Rattle.listener_set.specs.Numbers.{numbers_below, is_in}
use Rattle.table_laws.proofs.Rows.{one, weigh, weigh-add, weigh-le-all}
use Rattle.table_laws.proofs.Views.{Names, named, Once, ready_in, live_named, eqb-refl, eqb-off, eqb-is}
use Rattle.table_laws.proofs.Counts.{Distinct, below-in, is_in-append}

abbrev pub Within : List ℕ → List ℕ → Type 0
Within T S = (k : ℕ) → is_in T k ≡ true → is_in S k ≡ true

pub in-here : (x y : ℕ) (S : List ℕ) → x ≡ y → is_in (x ∷ S) y ≡ true
in-here x y S e = go (x == y) (eqb-refl x y e)
  where
    go : (b : Bool) → b ≡ true → (b || is_in S y) ≡ true
    go true e = refl
    go false e = cc

pub in-there : (x y : ℕ) (S : List ℕ) → is_in S y ≡ true → is_in (x ∷ S) y ≡ true
in-there x y S e = go (x == y)
  where
    go : (b : Bool) → (b || is_in S y) ≡ true
    go true = refl
    go false = e

pub in-cases : (x y : ℕ) (S : List ℕ) → is_in (x ∷ S) y ≡ true → (x ≡ y) ⊎ (is_in S y ≡ true)
in-cases x y S e = go (x == y) refl e
  where
    go : (b : Bool) → (x == y) ≡ b → (b || is_in S y) ≡ true → (x ≡ y) ⊎ (is_in S y ≡ true)
    go true is e = inl (eqb-is x y is)
    go false is e = inr e

-- the ones that pass a test
pub in-filter-on : (t : ℕ → Bool) (S : List ℕ) (k : ℕ) → is_in S k ≡ true → t k ≡ true → is_in (filter t S) k ≡ true
in-filter-on t [] k e f = e
in-filter-on t (x ∷ S) k e f = go (t x) refl (in-cases x k S e) (in-filter-on t S k)
  where
    go :
        (b : Bool) → t x ≡ b → (x ≡ k) ⊎ (is_in S k ≡ true) →
        (is_in S k ≡ true → t k ≡ true → is_in (filter t S) k ≡ true) →
        is_in (cond b (x ∷ filter t S) (filter t S)) k ≡ true
    go true is c ih = ⊎_elim (λ same. in-here x k (filter t S) same) (λ rest. in-there x k (filter t S) (ih rest f)) c
    go false is c ih = ⊎_elim (λ same. absurd (let on : t x ≡ true = subst (λ z. t z ≡ true) (sym same) f in cc)) (λ rest. ih rest f) c

pub in-filter-of : (t : ℕ → Bool) (S : List ℕ) (k : ℕ) → is_in (filter t S) k ≡ true → (is_in S k ≡ true) × (t k ≡ true)
in-filter-of t [] k e = absurd (cc)
in-filter-of t (x ∷ S) k e = go (t x) refl e (in-filter-of t S k)
  where
    go :
        (b : Bool) → t x ≡ b → is_in (cond b (x ∷ filter t S) (filter t S)) k ≡ true →
        (is_in (filter t S) k ≡ true → (is_in S k ≡ true) × (t k ≡ true)) → (is_in (x ∷ S) k ≡ true) × (t k ≡ true)
    go true is e ih =
        ⊎_elim (λ same. (in-here x k S same, subst (λ z. t z ≡ true) same is))
        (λ rest. let r = ih rest in (in-there x k S r.0, r.1)) (in-cases x k (filter t S) e)
    go false is e ih = let r = ih e in (in-there x k S r.0, r.1)

pub filter-le : (t : ℕ → Bool) (S : List ℕ) → length (filter t S) ≤ length S
filter-le t [] = omega arith
filter-le t (x ∷ S) = go (t x) (filter-le t S)
  where
    go : (b : Bool) → length (filter t S) ≤ length S → length (cond b (x ∷ filter t S) (filter t S)) ≤ suc (length S)
    go true h = omega arith
    go false h = omega arith

-- without one that stands_in there, a list is shorter
filter-less : (t : ℕ → Bool) (S : List ℕ) (k : ℕ) → is_in S k ≡ true → t k ≡ false → length (filter t S) + 1 ≤ length S
filter-less t [] k e f = absurd (cc)
filter-less t (x ∷ S) k e f = go (t x) refl (in-cases x k S e) (filter-less t S k) (filter-le t S)
  where
    go :
        (b : Bool) → t x ≡ b → (x ≡ k) ⊎ (is_in S k ≡ true) →
        (is_in S k ≡ true → t k ≡ false → length (filter t S) + 1 ≤ length S) → length (filter t S) ≤ length S →
        length (cond b (x ∷ filter t S) (filter t S)) + 1 ≤ suc (length S)
    go true is c ih le = ⊎_elim (λ same. absurd (let on : t x ≡ false = subst (λ z. t z ≡ false) (sym same) f in cc)) (λ rest. omega (arith, ih rest f)) c
    go false is c ih le = omega arith

-- a list without doubles is no longer than one that it stands_in in
pub shorter : (T S : List ℕ) → Distinct T → Within T S → length T ≤ length S
shorter [] S d w = omega arith
shorter (x ∷ T) S d w =
    let other = λ (k : ℕ). not (x == k) in
    let in_x = w x (in-here x x T refl) in
    let less = filter-less other S x in_x (off (x == x) (eqb-refl x x refl)) in
    let rest = shorter T (filter other S) d.1 (λ k e. in-filter-on other S k (w k (in-there x k T e)) (apart k e)) in
    omega (arith, less, rest)
  where
    off : (b : Bool) → b ≡ true → not b ≡ false
    off true e = refl
    off false e = cc

    apart : (k : ℕ) → is_in T k ≡ true → not (x == k) ≡ true
    apart k e = go (x == k) refl
      where
        go : (b : Bool) → (x == k) ≡ b → not b ≡ true
        go true is = absurd (let same : is_in T x ≡ true = subst (λ y. is_in T y ≡ true) (sym (eqb-is x k is)) e in let f = d.0 in cc)
        go false is = refl

-- Ready ones of some names are among those of two others
or-one : (a b d e f : Bool) → (d ≡ true → (e ≡ true) ⊎ (f ≡ true)) → one (a && (b && d)) ≤ one (a && (b && e)) + one (a && (b && f))
or-one true true true e f h = ⊎_elim (λ x. omega (arith, ap one x)) (λ x. omega (arith, ap one x)) (h refl)
or-one true true false e f h = omega arith
or-one true false d e f h = omega arith
or-one false b d e f h = omega arith

or-row :
    (m : ℕ) (s t v : Names) → ((g : Generation) (k : ℕ) → s g k ≡ true → (t g k ≡ true) ⊎ (v g k ≡ true)) →
    (p : Process) → ready_in m s p ≤ ready_in m t p + ready_in m v p
or-row m s t v h (Master n q i live hs) = omega arith
or-row m s t v h (Worker n q g k st hs) = or-one (is_ready st) (q == m) (s g k) (t g k) (v g k) (h g k)
or-row m s t v h (Foreign n hs) = omega arith

pub weigh-either :
    (m : ℕ) (s t v : Names) → ((g : Generation) (k : ℕ) → s g k ≡ true → (t g k ≡ true) ⊎ (v g k ≡ true)) →
    (rows : List Process) → weigh (ready_in m s) rows ≤ weigh (ready_in m t) rows + weigh (ready_in m v) rows
weigh-either m s t v h rows =
    omega
    (arith, weigh-le-all (ready_in m s) (λ p. ready_in m t p + ready_in m v p) (or-row m s t v h) rows, weigh-add (ready_in m t) (ready_in m v) rows)

named-or : (c d e f : Bool) → (d ≡ true → (e ≡ true) ⊎ (f ≡ true)) → (c && d) ≡ true → ((c && e) ≡ true) ⊎ ((c && f) ≡ true)
named-or true d e f h x = h x
named-or false d e f h x = absurd (cc)

pub weigh-or :
    (m : ℕ) (g : Generation) (s t v : ℕ → Bool) → ((k : ℕ) → s k ≡ true → (t k ≡ true) ⊎ (v k ≡ true)) →
    (rows : List Process) →
    weigh (ready_in m (named g s)) rows ≤ weigh (ready_in m (named g t)) rows + weigh (ready_in m (named g v)) rows
weigh-or m g s t v h rows = weigh-either m (named g s) (named g t) (named g v) (λ g' k e. named-or (same_generation g' g) (s k) (t k) (v k) (h k) e) rows

-- at most one of a name, so no more than the set has numbers
only-row : (m : ℕ) (g : Generation) (x : ℕ) (p : Process) → ready_in m (named g (λ k. k == x)) p ≤ live_named m g x p
only-row m g x (Master n q i live hs) = omega arith
only-row m g x (Worker n q g' k Starting hs) = omega arith
only-row m g x (Worker n q g' k Ready hs) = omega arith
only-row m g x (Worker n q g' k Draining hs) = omega arith
only-row m g x (Worker n q g' k Exited hs) = omega arith
only-row m g x (Foreign n hs) = omega arith

none-row : (m : ℕ) (g : Generation) (p : Process) → ready_in m (named g (λ k. false)) p ≤ 0
none-row m g (Master n q i live hs) = omega arith
none-row m g (Worker n q g' k st hs) = go (is_ready st) (q == m) (same_generation g' g)
  where
    go : (a b c : Bool) → one (a && (b && (c && false))) ≤ 0
    go true true true = omega arith
    go true true false = omega arith
    go true false c = omega arith
    go false b c = omega arith
none-row m g (Foreign n hs) = omega arith

weigh-zero : (u : Process → ℕ) → ((p : Process) → u p ≤ 0) → (rows : List Process) → weigh u rows ≤ 0
weigh-zero u h [] = omega arith
weigh-zero u h (p ∷ rows) = omega (arith, h p, weigh-zero u h rows)

pub weigh-set : (m : ℕ) (g : Generation) (rows : List Process) → Once m rows → (S : List ℕ) → weigh (ready_in m (named g (is_in S))) rows ≤ length S
weigh-set m g rows once [] = weigh-zero (ready_in m (named g (is_in []))) (none-row m g) rows
weigh-set m g rows once (x ∷ S) =
    omega (
      arith,
      weigh-or m g (is_in (x ∷ S)) (λ k. k == x) (is_in S) (λ k e. ⊎_elim (λ same. inl (eqb-refl k x (sym same))) (λ rest. inr rest) (in-cases x k S e)) rows,
      weigh-le-all (ready_in m (named g (λ k. k == x))) (live_named m g x) (only-row m g x) rows,
      once g x,
      weigh-set m g rows once S,
    )

pub filter-both : (t : ℕ → Bool) (S : List ℕ) → length (filter t S) + length (filter (λ k. not (t k)) S) ≡ length S
filter-both t [] = refl
filter-both t (x ∷ S) = go (t x) (filter-both t S)
  where
    go :
        (b : Bool) → length (filter t S) + length (filter (λ k. not (t k)) S) ≡ length S → length
        (cond b (x ∷ filter t S) (filter t S)) + length
        (cond (not b) (x ∷ filter (λ k. not (t k)) S) (filter (λ k. not (t k)) S)) ≡ suc (length S)
    go true e = omega arith
    go false e = omega arith

not-in : (b : Bool) → (b ≡ true) ⊎ (not b ≡ true)
not-in true = inl refl
not-in false = inr refl

-- what a set has not Ready is at least what a part of it has not Ready
pub weigh-part :
    (m : ℕ) (g : Generation) (rows : List Process) → Once m rows → (S T : List ℕ) → Distinct T → Within T S →
    weigh (ready_in m (named g (is_in S))) rows + length T ≤ weigh (ready_in m (named g (is_in T))) rows + length S
weigh-part m g rows once S T d w =
    let rest = filter (λ k. not (is_in T k)) S in
    let split =
    weigh-or m g (is_in S) (is_in T) (is_in rest)
    (λ k e. ⊎_elim (λ on. inl on) (λ off. inr (in-filter-on (λ j. not (is_in T j)) S k e off)) (not-in (is_in T k)))
    rows in
    let few = weigh-set m g rows once rest in
    let both = filter-both (is_in T) S in
    let short = shorter T (filter (is_in T) S) d (λ k e. in-filter-on (is_in T) S k (w k e) e) in
    omega (arith, split, few, both, short)

---- Numbers numbers_below a number

pub below-of : (n k : ℕ) → is_in (numbers_below n) k ≡ true → k < n
below-of n k e = let a : nat_lt k n ≡ true = sym (below-in n k) ∙ e in grind (arith, nat_tests)

pub below-on : (n k : ℕ) → k < n → is_in (numbers_below n) k ≡ true
below-on n k h = let a : nat_lt k n ≡ true = grind (arith, nat_tests) in below-in n k ∙ a

pub off-cases : (y x : ℕ) (S : List ℕ) → is_in (y ∷ S) x ≡ false → (y == x ≡ false) × (is_in S x ≡ false)
off-cases y x S e = go (y == x) e
  where
    go : (b : Bool) → (b || is_in S x) ≡ false → (b ≡ false) × (is_in S x ≡ false)
    go true h = absurd (cc)
    go false h = (refl, h)

not-single : (x y : ℕ) → (y == x) ≡ false → is_in (x ∷ []) y ≡ false
not-single x y e =
    let ne : x ≢ y = grind (arith, nat_tests) in
    go (x == y) (eqb-off x y ne)
  where
    go : (b : Bool) → b ≡ false → (b || false) ≡ false
    go true h = h
    go false h = refl

distinct-append : (S : List ℕ) (x : ℕ) → Distinct S → is_in S x ≡ false → Distinct (S ++ x ∷ [])
distinct-append [] x d f = (refl, tt)
distinct-append (y ∷ S) x d f =
    let off = off-cases y x S f in
    (is_in-append S (x ∷ []) y ∙ neither (is_in S y) (is_in (x ∷ []) y) d.0 (not-single x y off.0), distinct-append S x d.1 off.1)
  where
    neither : (a b : Bool) → a ≡ false → b ≡ false → (a || b) ≡ false
    neither true b e h = e
    neither false b e h = h

not-below : (n : ℕ) → is_in (numbers_below n) n ≡ false
not-below n = let e : nat_lt n n ≡ false = grind (arith, nat_tests) in below-in n n ∙ e

pub below-distinct : (n : ℕ) → Distinct (numbers_below n)
below-distinct zero = tt
below-distinct (suc n) = distinct-append (numbers_below n) n (below-distinct n) (not-below n)

pub below-length : (n : ℕ) → length (numbers_below n) ≡ n
below-length zero = refl
below-length (suc n) = omega (arith, length-append (numbers_below n) (n ∷ []), below-length n)

-- what holds of each number of a list
pub every-in : (P : ℕ → Type 0) (S : List ℕ) → ((k : ℕ) → is_in S k ≡ true → P k) → AllByRecursion P S
every-in P [] h = tt
every-in P (x ∷ S) h = (h x (in-here x x S refl), every-in P S (λ k e. h k (in-there x k S e)))
