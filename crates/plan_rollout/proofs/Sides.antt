-- Where the workers of a group listen, and who they are.
use Rattle.std.proofs.Common.{◌≡◌, ℕ, suc, ◌+◌, ◌≤◌, ◌<◌, ◌&&◌, ◌||◌, Bool, true, false, cond, nat_eq, nat_lt, filter}
use Rattle.std.proofs.Common.{List, [], ◌∷◌, ◌++◌, length, map, get_or, refl, sym, ◌∙◌, ap, arith, Some, None}
use Rattle.std.specs.Prelude.{◌==◌}
use Rattle.std.proofs.lemmas.Bool.{eq-eqb, eqb-true, lt-ltb, and_parts}
use Rattle.std.proofs.lemmas.List.{length-map, map-append}
use Rattle.listener_set.specs.Numbers.{numbers_below, is_in, last}
use Rattle.listener_set.specs.NumberWordsLemmas.{is_in-filter_below}
use Rattle.worker_groups.specs.declared.groups.Group.{Group}
use Rattle.worker_groups.specs.Groups.{group_of}
use Rattle.worker_groups.proofs.GroupCounts.{group-within}
use Rattle.vocabulary.specs.Settings.{Settings}
use Rattle.definitions.specs.Master.{Record, addresses_of, layout_of}
use Rattle.table_laws.proofs.Sets.{below-length}
use Rattle.plan_rollout.specs.declared.crowd.Crowd.{Crowd}
use Rattle.plan_rollout.specs.Spots.{spots_of, members_of, all_members}
use Rattle.plan_rollout.specs.Sides.{AreOld}
use Rattle.plan_rollout.proofs.Serving.{at-place}

pub each-group : {X : Type 0} (f : ℕ → X) (n : ℕ) → length (map f (numbers_below n)) ≡ n
each-group f n = length-map (numbers_below n) f ∙ below-length n

pub old-spots : (r : Record) (s : Settings) (c : Crowd) (k : ℕ) → AreOld r s c → 1 ≤ length c.groups.now →
    get_or c.spots.now (group_of c.groups.now k) [] ≡ spots_of (layout_of r) (addresses_of r)
    (group_of r.posts.groups k)
old-spots r s c k old some =
    let gs = r.posts.groups in
    (λ i. get_or (old.spots i) (group_of (old.groups i) k) [])
    ∙ at-place (spots_of (layout_of r) (addresses_of r)) (length gs) (group_of gs k) []
    (group-within gs k (omega (arith, some, ap length old.groups)))

pub member-has : (gs : List Group) (k : ℕ) → 1 ≤ length gs → k < 1024 →
    is_in (get_or (all_members gs) (group_of gs k) []) k ≡ true
member-has gs k some lt =
    ap (λ ks. is_in ks k) (at-place (members_of gs) (length gs) (group_of gs k) [] (group-within gs k some))
    ∙ (is_in-filter_below (λ j. group_of gs j == group_of gs k) 1024 k
    ∙ (ap (λ b. b && nat_lt k 1024) (eq-eqb (group_of gs k) (group_of gs k) refl) ∙ lt-ltb k 1024 lt))

pub member-of : (gs : List Group) (k j : ℕ) → 1 ≤ length gs → is_in (get_or (all_members gs) (group_of gs k) []) j ≡
    true →
    group_of gs j ≡ group_of gs k
member-of gs k j some on =
    let there = sym (ap (λ ks. is_in ks j) (at-place (members_of gs) (length gs) (group_of gs k) []
    (group-within gs k some))
    ∙ is_in-filter_below (λ i. group_of gs i == group_of gs k) 1024 j) ∙ on in
    eqb-true (group_of gs j) (group_of gs k) (and_parts (group_of gs j == group_of gs k) (nat_lt j 1024) there).0

or-on : (a b : Bool) → b ≡ true → (a || b) ≡ true
or-on true b e = refl
or-on false b e = e

pub in-last : (ks : List ℕ) (k : ℕ) → last ks ≡ Some k → is_in ks k ≡ true
in-last [] k e = cc
in-last (x ∷ []) k e =
    let same : x ≡ k = cc in ap (λ b. b || false) (eq-eqb x k same)
in-last (x ∷ y ∷ ks) k e = or-on (nat_eq x k) (is_in (y ∷ ks) k) (in-last (y ∷ ks) k e)

pub none-left : (ks : List ℕ) → last ks ≡ None → ks ≡ []
none-left [] e = refl
none-left (x ∷ []) e = absurd (cc)
none-left (x ∷ y ∷ ks) e = absurd (let none = none-left (y ∷ ks) e in cc)

pub mapped-more : {X : Type 0} (f : ℕ → X) (n : ℕ) → map f (numbers_below (n + 1)) ≡ map f (numbers_below n) ++ f n ∷ []
mapped-more f n =
    let next : n + 1 ≡ suc n = omega arith in
    ap (λ k. map f (numbers_below k)) next ∙ map-append f (numbers_below n) (n ∷ [])

-- a filter that drops one is shorter
pub filter-shorter : (p : ℕ → Bool) (ks : List ℕ) (k : ℕ) → is_in ks k ≡ true → p k ≡ false →
    length (filter p ks) < length ks
filter-shorter p [] k on off = cc
filter-shorter p (x ∷ ks) k on off = go (nat_eq x k) refl (p x) refl on (λ e. filter-shorter p ks k e off)
  where
    few : (xs : List ℕ) → length (filter p xs) ≤ length xs
    few [] = omega arith
    few (y ∷ ys) = one (p y) (few ys)
      where
        one : (b : Bool) → length (filter p ys) ≤ length ys →
            length (cond b (y ∷ filter p ys) (filter p ys)) ≤ suc (length ys)
        one true h = omega arith
        one false h = omega arith

    go : (a : Bool) → nat_eq x k ≡ a → (b : Bool) → p x ≡ b → (a || is_in ks k) ≡ true →
        (is_in ks k ≡ true → length (filter p ks) < length ks) →
        length (cond b (x ∷ filter p ks) (filter p ks)) < suc (length ks)
    go true is true was on rest = absurd (let same : p x ≡ p k = ap p (eqb-true x k is) in cc)
    go true is false was on rest = omega (arith, few ks)
    go false is true was on rest = omega (arith, rest on)
    go false is false was on rest = omega (arith, few ks)
