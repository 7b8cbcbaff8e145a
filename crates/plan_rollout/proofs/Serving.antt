-- How many serve at each address.
use Rattle.std.proofs.Common.{◌≡◌, ℕ, ◌+◌, ◌≤◌, ◌<◌, ◌&&◌, ◌||◌, Bool, true, false, cond, not, nat_lt, List, [], ◌∷◌}
use Rattle.std.proofs.Common.{◌++◌, length, map, get_or, refl, ◌∙◌, ap, subst, arith, inl, inr}
use Rattle.std.specs.Prelude.{◌==◌}
use Rattle.std.specs.List.{count_by}
use Rattle.std.proofs.lemmas.Bool.{lt-ltb, eq-eqb, ne_eqb, cases_eq}
use Rattle.std.proofs.lemmas.List.FromFn.{get_or-map-range_with_len}
use Rattle.listener_set.specs.Numbers.{numbers_below, is_in, RisesFrom}
use Rattle.listener_set.specs.NumberWordsLemmas.{is_in-filter_below}
use Rattle.listener_set.proofs.Rising.{is_in-below}
use Rattle.worker_groups.specs.declared.groups.Group.{Group}
use Rattle.worker_groups.specs.Groups.{group_of}
use Rattle.worker_groups.proofs.GroupCounts.{group-within}
use Rattle.definitions.specs.Table.{Address}
use Rattle.definitions.specs.Master.{Layout, served}
use Rattle.definitions.specs.Plans.{without}
use Rattle.plan_rollout.specs.Spots.{spots_of, all_spots, one_at, serving_at}
use Rattle.plan_rollout.proofs.Lists.{count-append, count-one, below-range}

pub serving-more : (gs : List Group) (spots : List (List ℕ)) (ks : List ℕ) (k i : ℕ) →
    serving_at gs spots (ks ++ k ∷ []) i ≡ serving_at gs spots ks i + one_at (get_or spots (group_of gs k) []) i
serving-more gs spots ks k i =
    let test = λ (j : ℕ). is_in (get_or spots (group_of gs j) []) i in
    count-append test ks (k ∷ []) ∙ ap (λ n. serving_at gs spots ks i + n) (count-one test k)

-- what stands at the place of a group
pub at-place : {X : Type 0} (f : ℕ → X) (n i : ℕ) (d : X) → i < n → get_or (map f (numbers_below n)) i d ≡ f i
at-place f n i d lt =
    ap (λ ks. get_or (map f ks) i d) (below-range n) ∙ get_or-map-range_with_len f 0 n i i d lt (omega arith)

and-on : (a b : Bool) → b ≡ true → (a && b) ≡ a
and-on true b e = e
and-on false b e = refl

pub spot-is : (layout : Layout) (addresses : List Address) (place i : ℕ) → i < length addresses →
    is_in (spots_of layout addresses place) i ≡ layout.listens place (get_or addresses i [])
spot-is layout addresses place i lt =
    is_in-filter_below (λ j. layout.listens place (get_or addresses j [])) (length addresses) i
    ∙ and-on (layout.listens place (get_or addresses i [])) (nat_lt i (length addresses))
    (lt-ltb i (length addresses) lt)

pub serving-is : (layout : Layout) (addresses : List Address) (numbers : List ℕ) (i : ℕ) → 1 ≤ length layout.groups →
    i < length addresses →
    serving_at layout.groups (all_spots layout addresses) numbers i ≡ served layout numbers (get_or addresses i [])
serving-is layout addresses numbers i some lt = λ j. count_by (λ k. each k j) numbers
  where
    each : (k : ℕ) → is_in (get_or (all_spots layout addresses) (group_of layout.groups k) []) i
        ≡ layout.listens (group_of layout.groups k) (get_or addresses i [])
    each k =
        ap (λ spots. is_in spots i) (at-place (spots_of layout addresses) (length layout.groups)
        (group_of layout.groups k) [] (group-within layout.groups k some))
        ∙ spot-is layout addresses (group_of layout.groups k) i lt

pub tally-is : (layout : Layout) (addresses : List Address) (gs : List Group) (spots : List (List ℕ))
    (numbers : List ℕ) (i n : ℕ) →
    gs ≡ layout.groups → spots ≡ all_spots layout addresses → 1 ≤ length gs → i < length addresses → n ≡
    serving_at gs spots numbers i →
    n ≡ served layout numbers (get_or addresses i [])
tally-is layout addresses gs spots numbers i n groups is some lt e =
    e ∙ ((λ j. serving_at (groups j) (is j) numbers i) ∙
    serving-is layout addresses numbers i (omega (arith, some, ap length groups)) lt)

---- One less

absent : (k : ℕ) (ks : List ℕ) → is_in ks k ≡ false → without k ks ≡ ks
absent k [] e = refl
absent k (x ∷ ks) e = go (x == k) e (λ off. absent k ks off)
  where
    go : (b : Bool) → (b || is_in ks k) ≡ false → (is_in ks k ≡ false → without k ks ≡ ks) →
        cond (not b) (x ∷ without k ks) (without k ks) ≡ x ∷ ks
    go true e rest = absurd (cc)
    go false e rest = ap (λ ys. x ∷ ys) (rest e)

less : (a b c d e z : ℕ) → a ≡ b → c ≡ d + b → d ≡ e → e ≡ z → a + z ≡ c
less a b c d e z h i j l = omega (arith, h, i, j, l)

more : (a b c d e f z : ℕ) → a + z ≡ b → c ≡ d → d ≡ e + a → f ≡ e + b → c + z ≡ f
more a b c d e f z h i j l = omega (arith, h, i, j, l)

pub count-without : (p : ℕ → Bool) (k b : ℕ) (ks : List ℕ) → RisesFrom b ks → is_in ks k ≡ true →
    count_by p (without k ks) + cond (p k) 1 0 ≡ count_by p ks
count-without p k b [] rises on = cc
count-without p k b (x ∷ ks) rises on = elim (cases_eq x k) [
  | inl same ↦
      let gone = absent k ks (is_in-below ks (x + 1) k rises.1 (omega (arith, same))) in
      let shape : without k (x ∷ ks) ≡ ks = ap (λ b. cond (not b) (x ∷ without k ks) (without k ks))
      (eq-eqb x k same) ∙ gone in
      let turned : count_by p (x ∷ []) ≡ count_by p (k ∷ []) = ap (λ (j : ℕ). count_by p (j ∷ [])) same in
      less (count_by p (without k (x ∷ ks))) (count_by p ks) (count_by p (x ∷ ks)) (count_by p (x ∷ []))
      (count_by p (k ∷ [])) (cond (p k) 1 0)
      (ap (count_by p) shape) (count-append p (x ∷ []) ks) turned (count-one p k)
  | inr other ↦
      let off = ne_eqb x k other in
      let rest = count-without p k (x + 1) ks rises.1 (subst (λ (b : Bool). (b || is_in ks k) ≡ true) off on) in
      let shape : without k (x ∷ ks) ≡ x ∷ without k ks = ap (λ b. cond (not b) (x ∷ without k ks) (without k ks))
      off in
      more (count_by p (without k ks)) (count_by p ks) (count_by p (without k (x ∷ ks)))
      (count_by p (x ∷ without k ks)) (count_by p (x ∷ [])) (count_by p (x ∷ ks)) (cond (p k) 1 0)
      rest (ap (count_by p) shape) (count-append p (x ∷ []) (without k ks)) (count-append p (x ∷ []) ks)
]
