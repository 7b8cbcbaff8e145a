-- A census, and what a count of a set says of the Ready workers.
use Rattle.std.proofs.Common.{inr, inl, ⊎_elim, ◌≡◌, ℕ, zero, suc, ◌+◌, ◌<◌, ◌≤◌, Bool, true, false, not, List, [], ◌∷◌}
use Rattle.std.proofs.Common.{◌++◌, length, refl, sym, cond, ap, ◌∙◌, subst, arith}
use Rattle.std.specs.List.{filter_map, filter, AllByRecursion, list_any}
use Rattle.std.specs.Prelude.{◌&&◌, ◌||◌, ◌==◌, nat_lt, ⊤}
use Rattle.std.proofs.lemmas.Bool.Decides.{nat_tests}
use Rattle.definitions.specs.Table.{same_generation, Process, Master, Worker, Foreign, is_worker}
use Rattle.call_laws.specs.Pieces.{is_ready}
use Rattle.vocabulary.specs.declared.table.Stance.TheVariants.{Starting, Ready, Draining, Exited}
use Rattle.listener_set.specs.declared.generation.Generation.{Generation}
use Rattle.definitions.specs.Calls.{is_exited_of, drop_where, census_of}
use Rattle.listener_set.specs.Numbers.{numbers_below, is_in, lacks}
use Rattle.table_laws.proofs.Rows.{one, weigh, change-same, weigh-le-all, weigh-same, weigh-add, every-any, every-more}
use Rattle.table_laws.proofs.Rows.{every-both, any-none, any-some, both-true}
use Rattle.call_laws.proofs.Choices.{and-right}
use Rattle.table_laws.proofs.Views.{Row, master_at, Names, named, View, Fine, Looks, live_named, ready_in, eqb-refl, eqb-is}
use Rattle.table_laws.proofs.Effects.{idle, bears-is, dropped-looks, worth-dropped-same, mine-worker, other-allows}

---- Numbers numbers_below a number

pub is_in-append : (ks js : List ℕ) (k : ℕ) → is_in (ks ++ js) k ≡ (is_in ks k || is_in js k)
is_in-append [] js k = refl
is_in-append (n ∷ ks) js k = go (n == k) (is_in-append ks js k)
  where
    go : (b : Bool) → is_in (ks ++ js) k ≡ (is_in ks k || is_in js k) → (b || is_in (ks ++ js) k) ≡ ((b || is_in ks k) || is_in js k)
    go true e = refl
    go false e = e

-- what is in a part of two lists is in both together
pub in-earlier : (ks js : List ℕ) (k : ℕ) → is_in ks k ≡ true → is_in (ks ++ js) k ≡ true
in-earlier ks js k e = is_in-append ks js k ∙ ap (λ b. b || is_in js k) e

pub in-later : (ks js : List ℕ) (k : ℕ) → is_in js k ≡ true → is_in (ks ++ js) k ≡ true
in-later ks js k e = is_in-append ks js k ∙ go (is_in ks k) (is_in js k) e
  where
    go : (a b : Bool) → b ≡ true → (a || b) ≡ true
    go true b e = refl
    go false b e = e

and-false : (b : Bool) → (b && false) ≡ false
and-false true = refl
and-false false = refl

-- a list of those that pass a test
pub in-filter : (t : ℕ → Bool) (ks : List ℕ) (k : ℕ) → is_in (filter t ks) k ≡ (is_in ks k && t k)
in-filter t [] k = refl
in-filter t (n ∷ ks) k = go (t n) refl (n == k) refl (in-filter t ks k)
  where
    go :
        (b : Bool) → t n ≡ b → (c : Bool) → (n == k) ≡ c → is_in (filter t ks) k ≡ (is_in ks k && t k) →
        is_in (cond b (n ∷ filter t ks) (filter t ks)) k ≡ ((c || is_in ks k) && t k)
    go true e true f ih = rw f (sym (ap t (sym (eqb-is n k f)) ∙ e))
    go true e false f ih = rw f ih
    go false e true f ih = let off : t k ≡ false = ap t (sym (eqb-is n k f)) ∙ e in ih ∙ ap (λ b. is_in ks k && b) off ∙ and-false (is_in ks k) ∙ sym off
    go false e false f ih = ih

below-step : (n k : ℕ) → (nat_lt k n || (n == k)) ≡ nat_lt k (suc n)
below-step n k = grind (arith, nat_tests)

or-false : (b : Bool) → (b || false) ≡ b
or-false true = refl
or-false false = refl

pub below-in : (n k : ℕ) → is_in (numbers_below n) k ≡ nat_lt k n
below-in zero k = grind (arith, nat_tests)
below-in (suc n) k =
    is_in-append (numbers_below n) (n ∷ []) k ∙ ap (λ b. b || ((n == k) || false)) (below-in n k) ∙ ap
    (λ b. nat_lt k n || b) (or-false (n == k)) ∙ below-step n k

counted-in :
    (n m : ℕ) (g : Generation) (rows : List Process) (k : ℕ) →
    is_in (filter (λ j. list_any (is_worker is_ready m g j) rows) (numbers_below n)) k ≡ (nat_lt k n && list_any (is_worker is_ready m g k) rows)
counted-in n m g rows k =
    in-filter (λ j. list_any (is_worker is_ready m g j) rows) (numbers_below n) k ∙ ap (λ b. b && list_any (is_worker is_ready m g k) rows) (below-in n k)

pub census-all :
    (m : ℕ) (g : Generation) (rows : List Process) (k : ℕ) →
    is_in (census_of m g rows) k ≡ (nat_lt k 1024 && list_any (is_worker is_ready m g k) rows)
unfolding census_of
census-all m g rows k = counted-in 1024 m g rows k

pub census-in : (m : ℕ) (g : Generation) (rows : List Process) (k : ℕ) → k < 1024 → is_in (census_of m g rows) k ≡ list_any (is_worker is_ready m g k) rows
census-in m g rows k lt =
    let e : nat_lt k 1024 ≡ true = grind (arith, nat_tests) in
    census-all m g rows k ∙ ap (λ b. b && list_any (is_worker is_ready m g k) rows) e

---- Census

abbrev pub after_census : Generation → List ℕ → View → View
after_census g cs v = record {
  number = v.number;
  others = v.others;
  image = v.image;
  holds = v.holds;
  starting = v.starting;
  ready = λ h k. v.ready h k && (is_in cs k || not (same_generation h g));
  held = v.held;
}

-- a row of a list that passes is one that list_any finds
pub every-any_of : {X : Type 0} (test : ℕ → X → Bool) (ps : List X) → AllByRecursion (λ p. (k : ℕ) → test k p ≡ true → list_any (test k) ps ≡ true) ps
every-any_of test [] = tt
every-any_of {X} test (p ∷ ps) =
    (λ k e. here k (test k p) e, every-more (λ q. (k : ℕ) → test k q ≡ true → list_any (test k) ps ≡ true) (λ q. (k : ℕ) → test k q ≡ true → list_any (test k) (p ∷ ps) ≡ true) (λ q h k e. there k (test k p) (h k e)) ps (every-any_of test ps))
  where
    here : (k : ℕ) (b : Bool) → b ≡ true → (b || list_any (test k) ps) ≡ true
    here k true e = refl
    here k false e = cc

    there : (k : ℕ) (b : Bool) → list_any (test k) ps ≡ true → (b || list_any (test k) ps) ≡ true
    there k true e = refl
    there k false e = e

-- what is known of each row at a census
abbrev Seen : ℕ → Generation → List ℕ → Process → Type 0
Seen m g cs p = (k : ℕ) → is_worker is_ready m g k p ≡ true → is_in cs k ≡ true

or-cases : (a b : Bool) → (b ≡ true → a ≡ true) → (a || not b) ≡ true
or-cases true b h = refl
or-cases false true h = h refl
or-cases false false h = refl

census-fine : (v : View) (g : Generation) (cs : List ℕ) (p : Process) → Fine (idle v) p × Seen v.number g cs p → Fine (idle (after_census g cs v)) p
census-fine v g cs (Master n q i live hs) h = h.0
census-fine v g cs (Worker n q g' k Starting hs) h = absurd (cc (h.0.1.0))
census-fine v g cs (Worker n q g' k Ready hs) h =
    (h.0.0, (both-true (v.ready g' k) _ h.0.1.0 (or-cases (is_in cs k) (same_generation g' g) (λ e. h.1 k (both-true (q == v.number) _ (eqb-refl q v.number h.0.0) (both-true (same_generation g' g) (k == k) e (eqb-refl k k refl))))), h.0.1.1))
census-fine v g cs (Worker n q g' k Draining hs) h = h.0
census-fine v g cs (Worker n q g' k Exited hs) h = h.0
census-fine v g cs (Foreign n hs) h = tt

exited-masters : (m : ℕ) (p : Process) → is_exited_of m p ≡ true → master_at m p ≡ 0
exited-masters m (Master n q i live hs) e = cc
exited-masters m (Worker n q g' k s hs) e = refl
exited-masters m (Foreign n hs) e = refl

exited-unready : (m m' : ℕ) (test : Names) (p : Process) → is_exited_of m p ≡ true → ready_in m' test p ≡ 0
exited-unready m m' test (Master n q i live hs) e = refl
exited-unready m m' test (Worker n q g' k Starting hs) e = refl
exited-unready m m' test (Worker n q g' k Ready hs) e = cc
exited-unready m m' test (Worker n q g' k Draining hs) e = refl
exited-unready m m' test (Worker n q g' k Exited hs) e = refl
exited-unready m m' test (Foreign n hs) e = refl

ready-bound :
    (v : View) (g : Generation) (limit : ℕ) → ((k : ℕ) → v.ready g k ≡ true → k < limit) → (p : Process) →
    Fine (idle v) p → (k : ℕ) → is_worker is_ready v.number g k p ≡ true → k < limit
ready-bound v g limit bound (Master n q i live hs) h k e = absurd (cc e)
ready-bound v g limit bound (Worker n q g' k' Starting hs) h k e = absurd (cc e)
ready-bound v g limit bound (Worker n q g' k' Ready hs) h k e =
    let is = bears-is g k g' k' (and-right (q == v.number) _ e) in
    bound k (subst (λ y. v.ready g y ≡ true) is.1 (subst (λ f. v.ready f k' ≡ true) is.0 h.1.0))
ready-bound v g limit bound (Worker n q g' k' Draining hs) h k e = absurd (cc e)
ready-bound v g limit bound (Worker n q g' k' Exited hs) h k e = absurd (cc e)
ready-bound v g limit bound (Foreign n hs) h k e = absurd (cc e)

pub ready-row :
    (v : View) (g : Generation) (limit : ℕ) → ((k : ℕ) → v.ready g k ≡ true → k < limit) → (p : Process) →
    Row (idle v) p → (k : ℕ) → is_worker is_ready v.number g k p ≡ true → k < limit
ready-row v g limit bound p h k e =
    ⊎_elim (λ f. ready-bound v g limit bound p f k e)
    (λ o. let off = mine-worker is_ready v.number g k (idle v) p refl o in absurd (cc)) h

pub census-looks :
    (v : View) (g : Generation) (rows : List Process) → ((k : ℕ) → v.ready g k ≡ true → k < 1024) →
    Looks (idle v) rows →
    Looks (idle (after_census g (census_of v.number g rows) v)) (filter_map (drop_where (is_exited_of v.number)) rows)
census-looks v g rows bound looks =
    let m = v.number in
    let cs = census_of m g rows in
    let w = after_census g cs v in
    let seen =
    every-more
    (λ p. Row (idle v) p × ((k : ℕ) → is_worker is_ready m g k p ≡ true → list_any (is_worker is_ready m g k) rows ≡ true))
    (λ p. Row (idle v) p × Seen m g cs p)
    (λ p h. (h.0, λ k e. census-in m g rows k (ready-row v g 1024 bound p h.0 k e) ∙ h.1 k e)) rows
    (every-both (Row (idle v)) (λ p. (k : ℕ) → is_worker is_ready m g k p ≡ true → list_any (is_worker is_ready m g k) rows ≡ true) rows looks.fine (every-any_of (λ k. is_worker is_ready m g k) rows))
    in
    dropped-looks (λ p. Row (idle v) p × Seen m g cs p) (idle w) (is_exited_of m) rows seen
    (λ p h e. ⊎_elim (λ f. inl (census-fine v g cs p (f, h.1))) (λ o. inr (other-allows (idle v) (idle w) refl refl (λ n e. e) p o)) h.0)
    (exited-masters m) looks.alone looks.once

pub census-weigh :
    (m m' : ℕ) (test : Names) (rows : List Process) →
    weigh (ready_in m' test) (filter_map (drop_where (is_exited_of m)) rows) ≡ weigh (ready_in m' test) rows
census-weigh m m' test rows =
    change-same (λ p. ⊤) (ready_in m' test) (drop_where (is_exited_of m))
    (λ p t. worth-dropped-same (ready_in m' test) (is_exited_of m p) p (exited-unready m m' test p)) rows
    (every-any rows)

---- Counting a set

abbrev pub Distinct : List ℕ → Type 0
Distinct [] = ⊤
Distinct (k ∷ ks) = (is_in ks k ≡ false) × Distinct ks

-- a part of a set
pub filter-distinct : (t : ℕ → Bool) (S : List ℕ) → Distinct S → Distinct (filter t S)
filter-distinct t [] d = tt
filter-distinct t (x ∷ S) d = go (t x) (filter-distinct t S d.1)
  where
    go : (b : Bool) → Distinct (filter t S) → Distinct (cond b (x ∷ filter t S) (filter t S))
    go true e = (in-filter t S x ∙ ap (λ b. b && t x) d.0, e)
    go false e = e

pub filter-every : {X : Type 0} (t : X → Bool) (P : X → Type 0) (xs : List X) → AllByRecursion P xs → AllByRecursion P (filter t xs)
filter-every t P [] all = tt
filter-every t P (x ∷ xs) all = go (t x) (filter-every t P xs all.1)
  where
    go : (b : Bool) → AllByRecursion P (filter t xs) → AllByRecursion P (cond b (x ∷ filter t xs) (filter t xs))
    go true e = (all.0, e)
    go false e = e

pub filter-swap : {X : Type 0} (f g : X → Bool) (xs : List X) → filter f (filter g xs) ≡ filter g (filter f xs)
filter-swap f g [] = refl
filter-swap f g (x ∷ xs) = go (f x) refl (g x) refl (filter-swap f g xs)
  where
    go :
        (b : Bool) → f x ≡ b → (c : Bool) → g x ≡ c → filter f (filter g xs) ≡ filter g (filter f xs) →
        filter f (cond c (x ∷ filter g xs) (filter g xs)) ≡ filter g (cond b (x ∷ filter f xs) (filter f xs))
    go true e true d ih = rw (e, d) (ap (λ l. x ∷ l) ih)
    go true e false d ih = rw d ih
    go false e true d ih = rw e ih
    go false e false d ih = ih

eqb-sym : (x k : ℕ) → (x == k) ≡ (k == x)
eqb-sym x k = grind (arith, nat_tests)

split-named : (d s e t : Bool) → (e ≡ true → t ≡ false) → one (d && (s && (e || t))) ≡ one (d && (s && e)) + one (d && (s && t))
split-named true true true true h = absurd (cc (h refl))
split-named true true true false h = refl
split-named true true false true h = refl
split-named true true false false h = refl
split-named true false e t h = refl
split-named false s e t h = refl

split-ready :
    (m : ℕ) (g : Generation) (x : ℕ) (S : List ℕ) → is_in S x ≡ false → (p : Process) →
    ready_in m (named g (is_in (x ∷ S))) p ≡ one (is_worker is_ready m g x p) + ready_in m (named g (is_in S)) p
split-ready m g x S off (Master n q i live hs) = refl
split-ready m g x S off (Worker n q g' k Starting hs) = refl
split-ready m g x S off (Worker n q g' k Ready hs) =
    split-named (q == m) (same_generation g' g) (x == k) (is_in S k) (λ e. subst (λ y. is_in S y ≡ false) (eqb-is x k e) off)
    ∙ ap (λ b. one ((q == m) && (same_generation g' g && b)) + one ((q == m) && (same_generation g' g && is_in S k))) (eqb-sym x k)
split-ready m g x S off (Worker n q g' k Draining hs) = refl
split-ready m g x S off (Worker n q g' k Exited hs) = refl
split-ready m g x S off (Foreign n hs) = refl

-- the Ready ones of a name are at most one
pub named-le : (m : ℕ) (g : Generation) (k : ℕ) (p : Process) → one (is_worker is_ready m g k p) ≤ live_named m g k p
named-le m g k (Master n q i live hs) = omega arith
named-le m g k (Worker n q g' k' Starting hs) = omega arith
named-le m g k (Worker n q g' k' Ready hs) = omega arith
named-le m g k (Worker n q g' k' Draining hs) = omega arith
named-le m g k (Worker n q g' k' Exited hs) = omega arith
named-le m g k (Foreign n hs) = omega arith

none-ready : (m : ℕ) (g : Generation) (p : Process) → ready_in m (named g (is_in [])) p ≡ 0
none-ready m g (Master n q i live hs) = refl
none-ready m g (Worker n q g' k s hs) = go (is_ready s) (q == m) (same_generation g' g)
  where
    go : (a b c : Bool) → one (a && (b && (c && false))) ≡ 0
    go true true true = refl
    go true true false = refl
    go true false c = refl
    go false b c = refl
none-ready m g (Foreign n hs) = refl

weigh-none : (u : Process → ℕ) → ((p : Process) → u p ≡ 0) → (rows : List Process) → weigh u rows ≡ 0
weigh-none u h [] = refl
weigh-none u h (p ∷ rows) = omega (arith, h p, weigh-none u h rows)

lacks-more : (k : ℕ) (S cs : List ℕ) (b : Bool) → is_in cs k ≡ b → length (lacks (k ∷ S) cs) + one b ≡ suc (length (lacks S cs))
lacks-more k S cs true e = rw e (omega arith)
lacks-more k S cs false e = rw e (omega arith)

pub count-set :
    (v : View) (g : Generation) (rows : List Process) (cs : List ℕ) → Looks v rows → (S : List ℕ) → Distinct S →
    AllByRecursion (λ k. list_any (is_worker is_ready v.number g k) rows ≡ is_in cs k) S →
    weigh (ready_in v.number (named g (is_in S))) rows + length (lacks S cs) ≡ length S
count-set v g rows cs looks [] d all = omega (arith, weigh-none (ready_in v.number (named g (is_in []))) (none-ready v.number g) rows)
count-set v g rows cs looks (k ∷ S) d all =
    let m = v.number in
    let sum =
    weigh-same (λ p. ⊤) (ready_in m (named g (is_in (k ∷ S))))
    (λ p. one (is_worker is_ready m g k p) + ready_in m (named g (is_in S)) p) (λ p h. split-ready m g k S d.0 p)
    rows (every-any rows) in
    let add = weigh-add (λ p. one (is_worker is_ready m g k p)) (ready_in m (named g (is_in S))) rows in
    let ih = count-set v g rows cs looks S d.1 all.1 in
    let le = weigh-le-all (λ p. one (is_worker is_ready m g k p)) (live_named m g k) (named-le m g k) rows in
    let once = looks.once g k in
    go (is_in cs k) refl all.0 sum add ih le once
  where
    go :
        (b : Bool) → is_in cs k ≡ b → list_any (is_worker is_ready v.number g k) rows ≡ is_in cs k → weigh
        (ready_in v.number (named g (is_in (k ∷ S)))) rows ≡ weigh
        (λ p. one (is_worker is_ready v.number g k p) + ready_in v.number (named g (is_in S)) p) rows → weigh
        (λ p. one (is_worker is_ready v.number g k p) + ready_in v.number (named g (is_in S)) p) rows ≡ weigh
        (λ p. one (is_worker is_ready v.number g k p)) rows + weigh (ready_in v.number (named g (is_in S))) rows → weigh
        (ready_in v.number (named g (is_in S))) rows + length (lacks S cs) ≡ length S → weigh
        (λ p. one (is_worker is_ready v.number g k p)) rows ≤ weigh (live_named v.number g k) rows → weigh
        (live_named v.number g k) rows ≤ 1 → weigh (ready_in v.number (named g (is_in (k ∷ S)))) rows + length
        (lacks (k ∷ S) cs) ≡ suc (length S)
    go true is a sum add ih le once = omega (arith, any-some (is_worker is_ready v.number g k) rows (a ∙ is), lacks-more k S cs true is, sum, add, ih, le, once)
    go false is a sum add ih le once =
        omega
        (arith, any-none (is_worker is_ready v.number g k) rows (a ∙ is), lacks-more k S cs false is, sum, add, ih, le, once)

-- What a count says of a set: of each part of it those that are Ready and those that are lacking are all.
abbrev pub Counted : ℕ → Generation → List ℕ → List ℕ → List Process → Type 0
Counted m g S lacking rows =
    (part : ℕ → Bool) →
    weigh (ready_in m (named g (is_in (filter part S)))) rows + length (filter part lacking) ≡ length (filter part S)

pub counted :
    (v : View) (g : Generation) (rows : List Process) (cs : List ℕ) → Looks v rows → (S : List ℕ) → Distinct S →
    AllByRecursion (λ k. list_any (is_worker is_ready v.number g k) rows ≡ is_in cs k) S →
    Counted v.number g S (lacks S cs) rows
counted v g rows cs looks S d all part =
    let some =
    count-set v g rows cs looks (filter part S) (filter-distinct part S d)
    (filter-every part (λ k. list_any (is_worker is_ready v.number g k) rows ≡ is_in cs k) S all) in
    ap (λ l. weigh (ready_in v.number (named g (is_in (filter part S)))) rows + length l) (filter-swap part (λ k. not (is_in cs k)) S) ∙ some

pub filter-all : {X : Type 0} (xs : List X) → filter (λ x. true) xs ≡ xs
filter-all [] = refl
filter-all (x ∷ xs) = ap (λ l. x ∷ l) (filter-all xs)

-- of the whole set
pub counted-all :
    (m : ℕ) (g : Generation) (S lacking : List ℕ) (rows : List Process) → Counted m g S lacking rows →
    weigh (ready_in m (named g (is_in S))) rows + length lacking ≡ length S
counted-all m g S lacking rows counts =
    omega (
      arith,
      counts (λ k. true),
      ap (λ l. weigh (ready_in m (named g (is_in l))) rows) (filter-all S),
      ap length (filter-all lacking),
      ap length (filter-all S),
    )
