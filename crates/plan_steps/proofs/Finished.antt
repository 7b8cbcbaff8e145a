-- A draft is finished.
use Rattle.std.proofs.Common.{◌≡◌, ℕ, zero, suc, ◌+◌, ◌-◌, ◌<◌, ◌≤◌, Bool, true, List, [], ◌∷◌, length, get_or, map}
use Rattle.std.proofs.Common.{refl, sym, ◌∙◌, ap, subst, arith, inl, inr, Some, slice_get, unwrap_or, nat_lt, nat_eq}
use Rattle.std.proofs.lemmas.Bool.{cases_lt, and_from, and_parts, ltb-true, lt-ltb, eq-eqb, or_left, or_right}
use Rattle.std.specs.List.{list_all}
use Rattle.listener_set.specs.Numbers.{is_in}
use Rattle.vocabulary.specs.declared.plans.End.TheVariants.{Done}
use Rattle.definitions.specs.Run.{Tree, Ends}
use Rattle.call_laws.specs.Lengths.{height}
use Rattle.plan_steps.specs.declared.step.Next.{Next}
use Rattle.plan_steps.specs.declared.step.Next.TheVariants.{To, Over, Both}
use Rattle.plan_steps.specs.declared.step.PlanEdge.{PlanEdge}
use Rattle.plan_steps.specs.declared.step.Step.{Step}
use Rattle.plan_steps.specs.Steps.{at_place, trees_after, all_below, all_lead_back, leads_back, all_lead_on, first_tree}
use Rattle.plan_steps.specs.Numbering.{IsNumberedFrom, IsNumbering, IsStretch, IsOrder, IsInOrder, AreDepths, IsWalk}
use Rattle.plan_steps.specs.Numbering.{IsByDepth, AreNumbers, AllNumbered, holds_of_edges, holds_behind, is_deeper}
use Rattle.plan_steps.specs.Numbering.{all_deeper, are_laid, all_within}
use Rattle.plan_steps.proofs.StepTrees.{all_weaker, all_below-le, length-trees}
use Rattle.plan_steps.proofs.Ordered.{Rises, layers_rise, rises_in, rises_to, in_layers, layers_in, layers_few}
use Rattle.plan_steps.proofs.Walked.{all_in, low_passes}
use Rattle.plan_steps.proofs.Depths.{is_depth, root_depth, root_alone}
use Rattle.plan_steps.proofs.Unfolded.{LeadsOn, AllLeadOn, OrderLeadsOn, IsRest, trees_numbered, plan_leads_on, length-numbered}

-- what was found of the steps of a draft
pub record AreOrdered (steps : List Step) (roots depths met order : List ℕ) : Type 0 where
  pub back : all_lead_back 0 steps ≡ true
  pub low : all_within (length steps) roots ≡ true
  pub laid : AreDepths steps roots depths
  pub walk : IsWalk steps roots met
  pub sorted : IsByDepth depths met order

pub all_from : (test : ℕ → Bool) (ks : List ℕ) → ((k : ℕ) → is_in ks k ≡ true → test k ≡ true) → list_all test ks ≡ true
all_from test [] h = refl
all_from test (x ∷ ks) h =
    and_from (test x) (list_all test ks) (h x (or_left (nat_eq x x) (is_in ks x) (eq-eqb x x refl)))
    (all_from test ks (λ k here. h k (or_right (nat_eq x k) (is_in ks k) here)))

-- one root is within
pub lone_root : (n first : ℕ) → first < n → all_within n (first ∷ []) ≡ true
lone_root n first low = and_from (nat_lt first n) true (lt-ltb first n low) refl

deeper_behind : (depths : List ℕ) (d : ℕ) (next : Next) → is_deeper depths d next ≡ true → holds_behind (λ k. nat_lt 0 (get_or depths k 0)) next ≡ true
deeper_behind depths d (Over end) h = refl
deeper_behind depths d (Both new old) h = refl
deeper_behind depths d (To place) h = lt-ltb 0 (get_or depths place.0 0) (omega (arith, ltb-true d (get_or depths place.0 0) h))

-- each place that was met has a depth
pub met_laid : (steps : List Step) (roots depths met : List ℕ) → AreDepths steps roots depths → IsWalk steps roots met → are_laid depths met ≡ true
met_laid steps roots depths met d walk =
    walk.reached (λ k. nat_lt 0 (get_or depths k 0)) (all_from (λ k. nat_lt 0 (get_or depths k 0)) roots (λ k root. lt-ltb 0 (get_or depths k 0) (omega (arith, d.begins k root))))
    (λ k s has at.
    all_weaker (λ e. is_deeper depths (get_or depths k 0) e.next) (λ e. holds_behind (λ j. nat_lt 0 (get_or depths j 0)) e.next) (λ e. deeper_behind depths (get_or depths k 0) e.next) s.edges.items
    (d.deeper k s at (omega (arith, ltb-true 0 (get_or depths k 0) has))))

pub order_rises : (steps : List Step) (roots depths met order : List ℕ) → AreOrdered steps roots depths met order → Rises depths 1 order
order_rises steps roots depths met order h = subst (Rises depths 1) (sym h.sorted.is) (layers_rise depths met 0 h.sorted.deepest)

pub order_in : (steps : List Step) (roots depths met order : List ℕ) → AreOrdered steps roots depths met order →
    (k : ℕ) → is_in order k ≡ true → is_in met k ≡ true
order_in steps roots depths met order h k here = in_layers depths met 0 h.sorted.deepest k (subst (λ (ks : List ℕ). is_in ks k ≡ true) h.sorted.is here)

pub in_order : (steps : List Step) (roots depths met order : List ℕ) → AreOrdered steps roots depths met order →
    (k : ℕ) → is_in met k ≡ true → is_in order k ≡ true
in_order steps roots depths met order h k here =
    subst (λ (ks : List ℕ). is_in ks k ≡ true) (sym h.sorted.is)
    (layers_in depths met 0 h.sorted.deepest k here (ltb-true 0 (get_or depths k 0) (all_in (λ j. nat_lt 0 (get_or depths j 0)) met k (met_laid steps roots depths met h.laid h.walk) here)) (omega (arith, h.sorted.enough k)))

pub order_few : (steps : List Step) (roots depths met order : List ℕ) → AreOrdered steps roots depths met order → length order ≤ length steps
order_few steps roots depths met order h = omega (arith, ap length h.sorted.is, layers_few depths met 0 h.sorted.deepest, h.walk.few)

pub order_within : (steps : List Step) (roots depths met order : List ℕ) → AreOrdered steps roots depths met order → all_within (length steps) order ≡ true
order_within steps roots depths met order h =
    all_from (λ k. nat_lt k (length steps)) order
    (λ k here. all_in (λ j. nat_lt j (length steps)) met k (h.walk.reached (λ j. nat_lt j (length steps)) h.low (low_passes steps h.back)) (order_in steps roots depths met order h k here))

pub all_back : (n m : ℕ) (steps : List Step) → m ≡ n + length steps → all_lead_back n steps ≡ true → list_all (λ s. all_below m s.edges.items) steps ≡ true
all_back n m [] e h = refl
all_back n m (s ∷ steps) e h =
    let parts = and_parts (leads_back n s) (all_lead_back (suc n) steps) h in
    and_from (all_below m s.edges.items) _ (all_below-le n m s.edges.items (omega arith) parts.0) (all_back (suc n) m steps (omega arith) parts.1)

pub found_in : (ks : List ℕ) (i p : ℕ) → slice_get ks i ≡ Some p → is_in ks p ≡ true
found_in [] i p at = cc
found_in (x ∷ ks) zero p at = let is : x ≡ p = cc in or_left (nat_eq x p) (is_in ks p) (eq-eqb x p is)
found_in (x ∷ ks) (suc i) p at = or_right (nat_eq x p) (is_in ks p) (found_in ks i p at)

-- each place's edges lead to places that stand later
pub order_leads_on : (steps : List Step) (roots depths met order numbers : List ℕ) →
    AreOrdered steps roots depths met order → AreNumbers order (length steps) numbers → OrderLeadsOn steps order numbers
order_leads_on steps roots depths met order numbers h ns i p s at step =
    let here = order_in steps roots depths met order h p (found_in order i p at) in
    let has : 1 ≤ get_or depths p 0 = rises_in depths 1 order p (order_rises steps roots depths met order h) (found_in order i p at) in
    all s.edges.items (h.walk.closed p s here step) (h.laid.deeper p s step has)
  where
    one : (next : Next) → holds_behind (is_in met) next ≡ true → is_deeper depths (get_or depths p 0) next ≡ true → LeadsOn order numbers i next
    one (Over end) known deep = tt
    one (Both new old) known deep = tt
    one (To place) known deep =
        let stands = ns.stands place.0 (in_order steps roots depths met order h place.0 known) in
        elim (cases_lt i (get_or numbers place.0 0 - 1)) [
          | inl later ↦ (omega (arith, later), stands.1)
          | inr sooner ↦
              absurd
              (let le : get_or depths place.0 0 ≤ get_or depths p 0 = rises_to depths 1 order (get_or numbers place.0 0 - 1) i place.0 p (order_rises steps roots depths met order h) sooner stands.1 at in
              omega (arith, le, ltb-true (get_or depths p 0) (get_or depths place.0 0) deep))
        ]

    all : (edges : List PlanEdge) → holds_of_edges (is_in met) edges ≡ true →
        all_deeper depths (get_or depths p 0) edges ≡ true → AllLeadOn order numbers i edges
    all [] known deep = tt
    all (e ∷ edges) known deep =
        let knowns = and_parts (holds_behind (is_in met) e.next) (holds_of_edges (is_in met) edges) known in
        let deeps = and_parts (is_deeper depths (get_or depths p 0) e.next) (all_deeper depths (get_or depths p 0) edges) deep in
        (one e.next knowns.0 deeps.0, all edges knowns.1 deeps.1)

-- the first place stands first
pub first_stands : (steps : List Step) (first : ℕ) (depths met order : List ℕ) → AreOrdered steps (first ∷ []) depths met order → slice_get order 0 ≡ Some first
first_stands steps first depths met order h = front order (order_rises steps (first ∷ []) depths met order h) (in_order steps (first ∷ []) depths met order h first (and_parts (is_in met first) true h.walk.begins).0)
  where
    front : (ks : List ℕ) → Rises depths 1 ks → is_in ks first ≡ true → slice_get ks 0 ≡ Some first
    front [] up here = cc
    front (x ∷ ks) up here =
        let most : get_or depths x 0 ≤ get_or depths first 0 = rises_in depths (get_or depths x 0) (x ∷ ks) first (omega arith, up.1) here in
        ap Some (root_alone steps first depths x h.laid (omega (arith, most, up.0, root_depth steps first depths h.back h.laid)))

-- ---- the plan

whole : (order : List ℕ) → IsRest order 0 order
whole order k = ap (slice_get order) (let e : k ≡ 0 + k = omega arith in e)

pub tree_of_plan : (steps : List Step) (first : ℕ) (depths met order numbers : List ℕ) (plan : List Step) →
    AreOrdered steps (first ∷ []) depths met order → AreNumbers order (length steps) numbers →
    AllNumbered numbers steps order plan → first_tree plan ≡ at_place steps first
tree_of_plan steps first depths met order numbers plan h ns all =
    ap (λ ts. unwrap_or (slice_get ts 0) (Ends Done)) (trees_numbered steps order numbers 0 order plan h.back (order_leads_on steps (first ∷ []) depths met order numbers h ns) (whole order) all)
    ∙ front order (first_stands steps first depths met order h)
  where
    front : (ks : List ℕ) → slice_get ks 0 ≡ Some first → unwrap_or (slice_get (map (at_place steps) ks) 0) (Ends Done) ≡ at_place steps first
    front [] at = cc
    front (x ∷ ks) at = let is : x ≡ first = cc in ap (at_place steps) is

pub plan_on : (steps : List Step) (roots depths met order numbers : List ℕ) (plan : List Step) →
    AreOrdered steps roots depths met order → AreNumbers order (length steps) numbers →
    AllNumbered numbers steps order plan → all_lead_on 1 plan ≡ true
plan_on steps roots depths met order numbers plan h ns all =
    plan_leads_on steps order numbers 0 order plan (order_leads_on steps roots depths met order numbers h ns) (whole order) (omega arith) all

pub plan_begins : (steps : List Step) (first : ℕ) (depths met order numbers : List ℕ) (plan : List Step) →
    AreOrdered steps (first ∷ []) depths met order → AllNumbered numbers steps order plan → 0 < length plan
plan_begins steps first depths met order numbers plan h all = omega (arith, length-numbered numbers steps order plan all, some order (first_stands steps first depths met order h))
  where
    some : (ks : List ℕ) → slice_get ks 0 ≡ Some first → 0 < length ks
    some [] at = cc
    some (x ∷ ks) at = omega arith

-- the height of the tree at a place
pub height_of : (steps : List Step) (heights : List ℕ) (first h : ℕ) → heights ≡ map height (trees_after [] steps) →
    h ≡ get_or heights first h → first < length steps → h ≡ height (at_place steps first)
height_of steps heights first h e is low =
    is ∙ (ap (λ hs. get_or hs first h) e ∙ (at (trees_after [] steps) first (omega (arith, length-trees steps))))
  where
    at : (ts : List Tree) (k : ℕ) → k < length ts → get_or (map height ts) k h ≡ height (unwrap_or (slice_get ts k) (Ends Done))
    at [] k low = absurd (omega arith)
    at (t ∷ ts) zero low = refl
    at (t ∷ ts) (suc k) low = at ts k (omega arith)

-- what was found of the steps of a draft, where they were lent
pub ordered : (steps lent : List Step) (roots order : List ℕ) → lent ≡ steps → all_lead_back 0 steps ≡ true →
    all_within (length steps) roots ≡ true → (o : IsOrder lent roots order) →
    AreOrdered steps roots o.depths o.met order
ordered steps lent roots order same back low o =
    subst (λ (xs : List Step). AreOrdered xs roots o.depths o.met order) same
    (record {
      back = subst (λ (xs : List Step). all_lead_back 0 xs ≡ true) (sym same) back;
      low = subst (λ (xs : List Step). all_within (length xs) roots ≡ true) (sym same) low;
      laid = o.laid;
      walk = o.walk;
      sorted = o.sorted;
    })

-- the places are a stretch
pub stretch_of : (steps : List Step) (roots depths met order : List ℕ) → AreOrdered steps roots depths met order → IsStretch steps roots order
stretch_of steps roots depths met order o =
    record {
      met = met;
      walk = o.walk.in_turn;
      depths = depths;
      laid = λ k here. is_depth steps roots depths k o.laid (let has = ltb-true 0 (get_or depths k 0) (all_in (λ j. nat_lt 0 (get_or depths j 0)) met k (met_laid steps roots depths met o.laid o.walk) here) in omega (arith, has));
      by_depth = o.sorted;
    }

-- how the plan numbers the places
numbering_of : (steps : List Step) (first : ℕ) (depths met order : List ℕ) (plan : List Step) →
    AreOrdered steps (first ∷ []) depths met order → IsInOrder steps order plan → IsNumbering steps first plan
numbering_of steps first depths met order plan o all =
    record {
      order = order;
      stretch = stretch_of steps (first ∷ []) depths met order o;
      numbers = all.numbers;
      numbered = all.numbered;
      steps_are = all.steps_are;
    }

-- in an order that was lent
pub finished : (steps lent : List Step) (first : ℕ) (order order_lent : List ℕ) (plan : List Step) → lent ≡ steps →
    all_lead_back 0 steps ≡ true → all_within (length steps) (first ∷ []) ≡ true → IsOrder lent (first ∷ []) order
    → order_lent ≡ order → IsInOrder steps order_lent plan → IsNumberedFrom steps first plan
finished steps lent first order order_lent plan same back low found again lent_all =
    let o = ordered steps lent (first ∷ []) order same back low found in
    let all = subst (λ (ks : List ℕ). IsInOrder steps ks plan) again lent_all in
    let depths = found.depths in
    let met = found.met in
    record {
      begins = plan_begins steps first depths met order all.numbers plan o all.steps_are;
      few = omega (arith, length-numbered all.numbers steps order plan all.steps_are, order_few steps (first ∷ []) depths met order o);
      on = plan_on steps (first ∷ []) depths met order all.numbers plan o all.numbered all.steps_are;
      tree = tree_of_plan steps first depths met order all.numbers plan o all.numbered all.steps_are;
      numbering = numbering_of steps first depths met order plan o all;
    }
