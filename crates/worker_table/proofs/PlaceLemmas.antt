-- Entries in any order, seen in ascending numbers, and the room for them.
use Rattle.std.proofs.Common.{◌≡◌, ℕ, ◌<◌, ◌≤◌, Bool, true, false, cond, ◌||◌, nat_eq, List, [], ◌∷◌, length, Option, Some, None, is_some, refl, sym, ◌∙◌, ap, subst, inl, inr, arith}
use Rattle.std.proofs.lemmas.Bool.{true≢false}
use Rattle.std.proofs.lemmas.Bool.Decides.{eqb_tells, nat_tests}
use Rattle.std.proofs.lemmas.Map.Steps.{length-le_from_distinct_below}
use Rattle.std.proofs.lemmas.Map.Made.{is_some-lookup}
use Rattle.std.proofs.lemmas.Map.Entries.{length-keys_of}
use Rattle.std.proofs.lemmas.Map.Keys.{IsDistinct-cons}
use Rattle.std.specs.List.{list_any, AllByRecursion}
use Rattle.std.specs.Map.{lookup}
use Rattle.std.specs.Option.{option_flatten}
use Rattle.indexmap.specs.IndexMap.{IndexMap, keys, spare}
use Rattle.listener_set.specs.Numbers.{AreNumbers}
use Rattle.worker_table.specs.Beats.{Workers, numbers_in, beat_of, with_beat}
use Rattle.worker_table.specs.Places.{Places, in_order, IsRoomy}
use Rattle.worker_table.proofs.Orders.{Rise, beat_of-with_worker, beat_of-without_worker, Rise-with_worker, Rise-filter, AreBelow-numbers_in, same_workers}

-- ---- the order
pub Rise-with_beat : (ws : Workers) (nr : ℕ) (beat : Option (Option ℕ)) → Rise 0 ws → Rise 0 (with_beat ws nr beat)
Rise-with_beat ws nr None h = Rise-filter _ ws 0 h
Rise-with_beat ws nr (Some beat) h = Rise-with_worker ws nr 0 beat (omega arith) h

pub beat_of-with_beat : (ws : Workers) (nr : ℕ) (beat : Option (Option ℕ)) (q : ℕ) → beat_of (with_beat ws nr beat) q ≡ cond (nat_eq nr q) beat (beat_of ws q)
beat_of-with_beat ws nr None q = beat_of-without_worker ws nr q
beat_of-with_beat ws nr (Some beat) q = beat_of-with_worker ws nr beat q

pub Rise-in_order : (ps : Places) → Rise 0 (in_order ps)
unfolding in_order
Rise-in_order [] = tt
Rise-in_order (p ∷ ps) = Rise-with_beat (in_order ps) p.0 p.1 (Rise-in_order ps)

pub beat_of-in_order : (ps : Places) (q : ℕ) → beat_of (in_order ps) q ≡ option_flatten (lookup (nat_eq q) ps)
unfolding in_order
beat_of-in_order [] q = refl
beat_of-in_order (p ∷ ps) q = at (nat_eq p.0 q) (nat_eq q p.0) (grind (arith, nat_tests)) (beat_of-with_beat (in_order ps) p.0 p.1 q) (beat_of-in_order ps q)
  where
    at : (a b : Bool) → a ≡ b → beat_of (with_beat (in_order ps) p.0 p.1) q ≡ cond a p.1 (beat_of (in_order ps) q) → beat_of (in_order ps) q ≡ option_flatten (lookup (nat_eq q) ps) → beat_of (with_beat (in_order ps) p.0 p.1) q ≡ option_flatten (cond b (Some p.1) (lookup (nat_eq q) ps))
    at true true e there rest = there
    at false false e there rest = there ∙ rest
    at true false e there rest = cc
    at false true e there rest = cc

-- a place set is a worker put in or taken out
pub in_order-set : (ps old : Places) (nr : ℕ) (beat : Option (Option ℕ)) → ((q : ℕ) → lookup (nat_eq q) ps ≡ cond (nat_eq nr q) (Some beat) (lookup (nat_eq q) old)) → in_order ps ≡ with_beat (in_order old) nr beat
in_order-set ps old nr beat h =
    same_workers (in_order ps) (with_beat (in_order old) nr beat) 0 (Rise-in_order ps) (Rise-with_beat (in_order old) nr beat (Rise-in_order old))
    (λ q. beat_of-in_order ps q ∙ ap option_flatten (h q) ∙ at q (nat_eq nr q) ∙ ap (λ o. cond (nat_eq nr q) beat o) (sym (beat_of-in_order old q)) ∙ sym (beat_of-with_beat (in_order old) nr beat q))
  where
    at : (q : ℕ) (b : Bool) → option_flatten (cond b (Some beat) (lookup (nat_eq q) old)) ≡ cond b beat (option_flatten (lookup (nat_eq q) old))
    at q true = refl
    at q false = refl

pub in_order-none : (ps : Places) → ps ≡ [] → in_order ps ≡ []
unfolding in_order
in_order-none ps e = ap in_order e

-- ---- the room
apart : (k : ℕ) (ks : List ℕ) → list_any (nat_eq k) ks ≡ false → AllByRecursion (λ y. nat_eq k y ≡ false) ks
apart k [] h = tt
apart k (x ∷ xs) h = elim (eqb_tells k x) [
  | inl same ↦ absurd (true≢false (sym (ap (λ b. b || list_any (nat_eq k) xs) same.0) ∙ h))
  | inr other ↦ (other.0, apart k xs (sym (ap (λ b. b || list_any (nat_eq k) xs) other.0) ∙ h))
]

below_one : (k : ℕ) (ks : List ℕ) → k < 1024 → ((q : ℕ) → list_any (nat_eq q) ks ≡ true → q < 1024) → (q : ℕ) → list_any (nat_eq q) (k ∷ ks) ≡ true → q < 1024
below_one k ks low h q e = elim (eqb_tells q k) [
  | inl same ↦ (let P : ℕ → Type 0 = λ n. n < 1024 in subst P (sym same.1) low)
  | inr other ↦ h q (sym (ap (λ b. b || list_any (nat_eq q) ks) other.0) ∙ e)
]

-- a number that is not there has room
pub has_room : {S : Type 0} (m : IndexMap ℕ (Option (Option ℕ)) S) (k : ℕ) → IsRoomy m → k < 1024 → lookup (nat_eq k) m.entries ≡ None → 0 < spare m
has_room m k r low absent =
    let gone : list_any (nat_eq k) (keys m) ≡ false = sym (is_some-lookup (nat_eq k) m.entries) ∙ ap is_some absent in
    let longer : length (k ∷ keys m) ≤ 1024 = length-le_from_distinct_below (k ∷ keys m) 1024 (IsDistinct-cons nat_eq k (keys m) (apart k (keys m) gone) r.unique) (below_one k (keys m) low (λ q e. r.below q (is_some-lookup (nat_eq q) m.entries ∙ e))) in
    omega (arith, longer, r.room, length-keys_of m.entries)

-- and each number that is there after it was set is below the limit
pub below_set : (ps old : Places) (nr : ℕ) (beat : Option (Option ℕ)) → nr < 1024 → ((q : ℕ) → is_some (lookup (nat_eq q) old) ≡ true → q < 1024) → ((q : ℕ) → lookup (nat_eq q) ps ≡ cond (nat_eq nr q) (Some beat) (lookup (nat_eq q) old)) → (q : ℕ) → is_some (lookup (nat_eq q) ps) ≡ true → q < 1024
below_set ps old nr beat low below h q e = elim (eqb_tells nr q) [
  | inl same ↦ omega arith
  | inr other ↦ below q (sym (ap is_some (h q ∙ ap (λ b. cond b (Some beat) (lookup (nat_eq q) old)) other.0)) ∙ e)
]

some_inside : {A : Type 0} (o : Option (Option A)) → is_some (option_flatten o) ≡ true → is_some o ≡ true
some_inside None h = h
some_inside (Some a) h = refl

-- the workers of a table ascend, and are below the limit
pub AreNumbers-places : {S : Type 0} (m : IndexMap ℕ (Option (Option ℕ)) S) (ws : Workers) → IsRoomy m → in_order m.entries ≡ ws → AreNumbers 1024 (numbers_in ws)
AreNumbers-places m ws r is =
    let P : Workers → Type 0 = λ us. AreNumbers 1024 (numbers_in us) in
    let rising = Rise-in_order m.entries in
    subst P is (record {
      rising = rising;
      below = AreBelow-numbers_in (in_order m.entries) 0 1024 rising (λ q e. r.below q (some_inside (lookup (nat_eq q) m.entries) (sym (ap is_some (beat_of-in_order m.entries q)) ∙ e)));
    })

pub beat_of-places : {S : Type 0} (m : IndexMap ℕ (Option (Option ℕ)) S) (ws : Workers) (q : ℕ) → in_order m.entries ≡ ws → beat_of ws q ≡ option_flatten (lookup (nat_eq q) m.entries)
beat_of-places m ws q is = ap (λ us. beat_of us q) (sym is) ∙ beat_of-in_order m.entries q
