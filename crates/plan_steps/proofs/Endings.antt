-- Where the trees of a draft end, and which of its places lead to the parts.
use Rattle.std.proofs.Common.{◌≡◌, ◌≢◌, ℕ, zero, suc, ◌+◌, ◌-◌, ◌≤◌, max, Bool, true, List, [], ◌∷◌, ◌++◌, get_or, map}
use Rattle.std.proofs.Common.{filter, refl, sym, ◌∙◌, ap, subst, arith, ◌⊎◌, inl, inr, Some, slice_get, unwrap_or}
use Rattle.std.proofs.Common.{nat_lt, nat_eq}
use Rattle.std.proofs.lemmas.Bool.{and_from, and_parts, cases_lt, eqb-true, eq-eqb, false≢true}
use Rattle.vocabulary.specs.declared.plans.End.{End}
use Rattle.vocabulary.specs.declared.plans.End.TheVariants.{Done, RolledBack, ShortOld, ShortTarget, Split, JoinReady, JoinBack, Join}
use Rattle.definitions.specs.Run.{Tree, Branches, Ends, Does, Nothing, Branch}
use Rattle.plan_steps.specs.declared.step.Next.{Next}
use Rattle.plan_steps.specs.declared.step.Next.TheVariants.{To, Over, Both}
use Rattle.plan_steps.specs.declared.step.PlanEdge.{PlanEdge}
use Rattle.plan_steps.specs.declared.step.Step.{Step}
use Rattle.plan_steps.specs.Steps.{at_place, tree_among, branches_among, step_tree, trees_after, all_lead_back}
use Rattle.plan_steps.specs.Numbering.{holds_behind, holds_of_edges}
use Rattle.plan_steps.specs.Stretches.{has_some, ends_at, all_end_at, is_last, is_onward, ends_new, ends_old, split_end}
use Rattle.plan_steps.specs.Stretches.{one_more, to_split, farthest, split_behind, farthest_among, is_before, is_off}
use Rattle.plan_steps.proofs.Unfolded.{draft_at}

-- ---- what is behind a place

here : (steps : List Step) (k : ℕ) (s : Step) → all_lead_back 0 steps ≡ true → slice_get steps k ≡ Some s →
    at_place steps k ≡ step_tree 0 (trees_after [] steps) s
here steps k s back at = ap (λ o. unwrap_or o (Ends Done)) (draft_at steps k s back at)

to_place : (steps : List Step) (k : ℕ) → tree_among 0 (trees_after [] steps) (To (record { 0 = k })) ≡ at_place steps k
to_place steps k = ap (λ j. unwrap_or (slice_get (trees_after [] steps) j) (Ends Done)) (let e : k - 0 ≡ k = omega arith in e)

-- what a place ends at is what is behind it ends at
pub ends_pass : (test : End → Bool) (steps : List Step) → all_lead_back 0 steps ≡ true → (k : ℕ) (s : Step) →
    ends_at test (at_place steps k) ≡ true → slice_get steps k ≡ Some s →
    holds_of_edges (λ j. ends_at test (at_place steps j)) s.edges.items ≡ true
ends_pass test steps back k s ends at = all s.edges.items (and_parts (has_some (branches_among 0 (trees_after [] steps) s.edges.items)) (all_end_at test (branches_among 0 (trees_after [] steps) s.edges.items)) (subst (λ (t : Tree). ends_at test t ≡ true) (here steps k s back at) ends)).1
  where
    one : (next : Next) → ends_at test (tree_among 0 (trees_after [] steps) next) ≡ true → holds_behind (λ j. ends_at test (at_place steps j)) next ≡ true
    one (Over end) h = refl
    one (Both new old) h = refl
    one (To place) h = subst (λ (t : Tree). ends_at test t ≡ true) (to_place steps place.0) h

    all : (edges : List PlanEdge) → all_end_at test (branches_among 0 (trees_after [] steps) edges) ≡ true →
        holds_of_edges (λ j. ends_at test (at_place steps j)) edges ≡ true
    all [] h = refl
    all (e ∷ edges) h =
        let parts = and_parts (ends_at test (tree_among 0 (trees_after [] steps) e.next)) (all_end_at test (branches_among 0 (trees_after [] steps) edges)) h in
        and_from (holds_behind (λ j. ends_at test (at_place steps j)) e.next) _ (one e.next parts.0) (all edges parts.1)

none_more : (n : ℕ) → one_more n ≡ 0 → n ≡ 0
none_more zero h = refl
none_more (suc n) h = absurd (omega (arith, h))

max_none : (a b : ℕ) → max a b ≡ 0 → (a ≡ 0) × (b ≡ 0)
max_none a b h = (omega (arith, h), omega (arith, h))

-- what is behind a place that does not lead to the parts does not either
pub off_pass : (steps : List Step) → all_lead_back 0 steps ≡ true → (k : ℕ) (s : Step) → is_off steps k ≡ true →
    slice_get steps k ≡ Some s → holds_of_edges (is_off steps) s.edges.items ≡ true
off_pass steps back k s off at =
    all s.edges.items (none_more (farthest (branches_among 0 (trees_after [] steps) s.edges.items)) (sym (ap to_split (here steps k s back at)) ∙ eqb-true (to_split (at_place steps k)) 0 off))
  where
    one : (next : Next) → to_split (tree_among 0 (trees_after [] steps) next) ≡ 0 → holds_behind (is_off steps) next ≡ true
    one (Over end) h = refl
    one (Both new old) h = refl
    one (To place) h = eq-eqb (to_split (at_place steps place.0)) 0 (ap to_split (sym (to_place steps place.0)) ∙ h)

    all : (edges : List PlanEdge) → farthest (branches_among 0 (trees_after [] steps) edges) ≡ 0 → holds_of_edges (is_off steps) edges ≡ true
    all [] h = refl
    all (e ∷ edges) h =
        let parts = max_none (to_split (tree_among 0 (trees_after [] steps) e.next)) (farthest (branches_among 0 (trees_after [] steps) edges)) h in
        and_from (holds_behind (is_off steps) e.next) _ (one e.next parts.0) (all edges parts.1)

-- ---- places of different stretches differ

-- tests of the ends of one tree hold of one end
pub both_end : (p q : End → Bool) (t : Tree) → ends_at p t ≡ true → ends_at q t ≡ true → (e : End) × (p e ≡ true) × (q e ≡ true)
both_end p q (Ends end) h k = (end, h, k)
both_end p q (Does by order set Nothing) h k = absurd (false≢true h)
both_end p q (Does by order set (Branch replies said rest more)) h k =
    both_end p q rest (and_parts (ends_at p rest) (all_end_at p more) h).0 (and_parts (ends_at q rest) (all_end_at q more) k).0

max_some : (a b : ℕ) → 1 ≤ max a b → (1 ≤ a) ⊎ (1 ≤ b)
max_some a b h = elim (cases_lt 0 a) [ inl some ↦ inl (omega (arith, some)) | inr flat ↦ inr (omega (arith, flat, h)) ]

more_some : (n : ℕ) → 1 ≤ one_more n → 1 ≤ n
more_some zero h = absurd (omega (arith, h))
more_some (suc n) h = omega arith

mutual
  -- a tree that leads to the parts ends there
  pub ends_split : (p : End → Bool) (t : Tree) → 1 ≤ to_split t → ends_at p t ≡ true → p Split ≡ true
  ends_split p (Ends Split) h k = k
  ends_split p (Ends Done) h k = absurd (omega (arith, h))
  ends_split p (Ends RolledBack) h k = absurd (omega (arith, h))
  ends_split p (Ends ShortOld) h k = absurd (omega (arith, h))
  ends_split p (Ends ShortTarget) h k = absurd (omega (arith, h))
  ends_split p (Ends JoinReady) h k = absurd (omega (arith, h))
  ends_split p (Ends JoinBack) h k = absurd (omega (arith, h))
  ends_split p (Ends Join) h k = absurd (omega (arith, h))
  ends_split p (Does by order set branches) h k = all_split p branches (more_some (farthest branches) h) (and_parts (has_some branches) (all_end_at p branches) k).1

  all_split : (p : End → Bool) (branches : Branches) → 1 ≤ farthest branches → all_end_at p branches ≡ true → p Split ≡ true
  all_split p Nothing h k = absurd (omega (arith, h))
  all_split p (Branch replies said rest more) h k =
      let parts = and_parts (ends_at p rest) (all_end_at p more) k in
      elim (max_some (to_split rest) (farthest more) h) [
        | inl some ↦ ends_split p rest some parts.0
        | inr some ↦ all_split p more some parts.1
      ]

mutual
  -- a tree of what lies before the parts that does not lead to them ends for good
  pub ends_last : (t : Tree) → to_split t ≡ 0 → ends_at is_onward t ≡ true → ends_at is_last t ≡ true
  ends_last (Ends Split) h k = absurd (omega (arith, h))
  ends_last (Ends Done) h k = refl
  ends_last (Ends RolledBack) h k = refl
  ends_last (Ends ShortOld) h k = refl
  ends_last (Ends ShortTarget) h k = refl
  ends_last (Ends JoinReady) h k = absurd (false≢true k)
  ends_last (Ends JoinBack) h k = absurd (false≢true k)
  ends_last (Ends Join) h k = absurd (false≢true k)
  ends_last (Does by order set branches) h k =
      let parts = and_parts (has_some branches) (all_end_at is_onward branches) k in
      and_from (has_some branches) (all_end_at is_last branches) parts.0 (all_last branches (none_more (farthest branches) h) parts.1)

  all_last : (branches : Branches) → farthest branches ≡ 0 → all_end_at is_onward branches ≡ true → all_end_at is_last branches ≡ true
  all_last Nothing h k = refl
  all_last (Branch replies said rest more) h k =
      let none = max_none (to_split rest) (farthest more) h in
      let parts = and_parts (ends_at is_onward rest) (all_end_at is_onward more) k in
      and_from (ends_at is_last rest) (all_end_at is_last more) (ends_last rest none.0 parts.0) (all_last more none.1 parts.1)

pub new_old : (e : End) → ends_new e ≡ true → ends_old e ≡ true → ⊥
new_old Join h k = false≢true h
new_old JoinReady h k = false≢true k
new_old JoinBack h k = false≢true k
new_old Split h k = false≢true k
new_old Done h k = false≢true k
new_old RolledBack h k = false≢true k
new_old ShortOld h k = false≢true k
new_old ShortTarget h k = false≢true k

pub onward_new : (e : End) → is_onward e ≡ true → ends_new e ≡ true → ⊥
onward_new Join h k = false≢true h
onward_new JoinReady h k = false≢true h
onward_new JoinBack h k = false≢true h
onward_new Split h k = false≢true k
onward_new Done h k = false≢true k
onward_new RolledBack h k = false≢true k
onward_new ShortOld h k = false≢true k
onward_new ShortTarget h k = false≢true k

pub onward_old : (e : End) → is_onward e ≡ true → ends_old e ≡ true → ⊥
onward_old Join h k = false≢true h
onward_old JoinReady h k = false≢true h
onward_old JoinBack h k = false≢true h
onward_old Split h k = false≢true k
onward_old Done h k = false≢true k
onward_old RolledBack h k = false≢true k
onward_old ShortOld h k = false≢true k
onward_old ShortTarget h k = false≢true k

-- an end for good is one that is onward too
pub last_onward : (e : End) → is_last e ≡ true → is_onward e ≡ true
last_onward Join h = h
last_onward JoinReady h = h
last_onward JoinBack h = h
last_onward Split h = refl
last_onward Done h = refl
last_onward RolledBack h = refl
last_onward ShortOld h = refl
last_onward ShortTarget h = refl

-- ---- the splits of a draft, one step more

pub farthest_read : (trees : List Tree) (edges : List PlanEdge) → farthest_among (map to_split trees) edges ≡ farthest (branches_among 0 trees edges)
farthest_read trees [] = refl
farthest_read trees (e ∷ edges) = rw (one e.next, farthest_read trees edges) refl
  where
    at : (ts : List Tree) (k : ℕ) → get_or (map to_split ts) k 0 ≡ to_split (unwrap_or (slice_get ts k) (Ends Done))
    at [] k = refl
    at (t ∷ ts) zero = refl
    at (t ∷ ts) (suc k) = at ts k

    one : (next : Next) → split_behind (map to_split trees) next ≡ to_split (tree_among 0 trees next)
    one (Over end) = refl
    one (Both new old) = refl
    one (To place) = at trees place.0 ∙ ap (λ k. to_split (unwrap_or (slice_get trees k) (Ends Done))) (let e : place.0 ≡ place.0 - 0 = omega arith in e)

pub split_at : (steps : List Step) (k : ℕ) → get_or (map to_split (trees_after [] steps)) k 0 ≡ to_split (at_place steps k)
split_at steps k = at (trees_after [] steps) k
  where
    at : (ts : List Tree) (k : ℕ) → get_or (map to_split ts) k 0 ≡ to_split (unwrap_or (slice_get ts k) (Ends Done))
    at [] k = refl
    at (t ∷ ts) zero = refl
    at (t ∷ ts) (suc k) = at ts k

pub splits_more : (trees : List Tree) (s : Step) →
    map to_split (trees ++ step_tree 0 trees s ∷ [])
    ≡ map to_split trees ++ one_more (farthest_among (map to_split trees) s.edges.items) ∷ []
splits_more trees s = on trees ∙ ap (λ n. map to_split trees ++ one_more n ∷ []) (sym (farthest_read trees s.edges.items))
  where
    on : (ts : List Tree) → map to_split (ts ++ step_tree 0 trees s ∷ []) ≡ map to_split ts ++ one_more (farthest (branches_among 0 trees s.edges.items)) ∷ []
    on [] = refl
    on (t ∷ ts) = ap (λ ns. to_split t ∷ ns) (on ts)

pub farthest_within : (n : ℕ) (splits : List ℕ) (edges : List PlanEdge) → ((k : ℕ) → get_or splits k 0 ≤ n + 1) → farthest_among splits edges ≤ n + 1
farthest_within n splits [] h = omega arith
farthest_within n splits (e ∷ edges) h = omega (arith, one e.next, farthest_within n splits edges h)
  where
    end_within : (end : End) → split_end end ≤ 1
    end_within Split = omega arith
    end_within Join = omega arith
    end_within JoinReady = omega arith
    end_within JoinBack = omega arith
    end_within Done = omega arith
    end_within RolledBack = omega arith
    end_within ShortOld = omega arith
    end_within ShortTarget = omega arith

    one : (next : Next) → split_behind splits next ≤ n + 1
    one (Over end) = omega (arith, end_within end)
    one (Both new old) = omega arith
    one (To place) = h place.0

pub is_one_more : (n : ℕ) → n ≢ 0 → one_more n ≡ n + 1
is_one_more zero h = absurd (h refl)
is_one_more (suc n) h = omega arith

pub one_more_le : (n : ℕ) → one_more n ≤ n + 1
one_more_le zero = omega arith
one_more_le (suc n) = omega arith

-- places that are kept by their splits
pub before_kept : (steps : List Step) (splits places kept : List ℕ) → splits ≡ map to_split (trees_after [] steps) →
    kept ≡ filter (λ k. nat_lt 0 (get_or splits k 0)) places → kept ≡ filter (is_before steps) places
before_kept steps splits places kept same is = is ∙ (λ i. filter (λ k. nat_lt 0 ((ap (λ ss. get_or ss k 0) same ∙ split_at steps k) i)) places)

pub off_kept : (steps : List Step) (splits places : List ℕ) → splits ≡ map to_split (trees_after [] steps) →
    filter (λ k. nat_eq (get_or splits k 0) 0) places ≡ filter (is_off steps) places
off_kept steps splits places same = λ i. filter (λ k. nat_eq ((ap (λ ss. get_or ss k 0) same ∙ split_at steps k) i) 0) places
