-- The four stretches of a plan with two parts, in a row.
use Rattle.std.proofs.Common.{◌≡◌, ℕ, zero, suc, ◌+◌, ◌-◌, ◌<◌, ◌≤◌, Bool, true, false, List, [], ◌∷◌, ◌++◌, length}
use Rattle.std.proofs.Common.{get_or, map, filter, refl, sym, ◌∙◌, ap, subst, arith, ◌⊎◌, inl, inr, Some, slice_get}
use Rattle.std.proofs.Common.{unwrap_or, nat_lt, nat_eq}
use Rattle.std.proofs.lemmas.Bool.{cases_lt, and_from, ltb-true, lt-ltb, eq-eqb, eqb-true, or_cases, or_left, or_right, false≢true}
use Rattle.std.proofs.lemmas.List.{length-map}
use Rattle.std.proofs.lemmas.Option.{slice_get_within}
use Rattle.std.proofs.lemmas.Map.Steps.{length-le_from_distinct_below}
use Rattle.std.specs.List.{list_all, list_any, IsDistinct}
use Rattle.listener_set.specs.Numbers.{is_in}
use Rattle.vocabulary.specs.declared.plans.End.{End}
use Rattle.vocabulary.specs.declared.plans.End.TheVariants.{Done}
use Rattle.definitions.specs.Run.{Ends}
use Rattle.plan_steps.specs.declared.step.Next.TheVariants.{To}
use Rattle.plan_steps.specs.declared.step.Place.{Place}
use Rattle.plan_steps.specs.declared.step.Step.{Step}
use Rattle.plan_steps.specs.declared.parts.Parts.{Parts}
use Rattle.plan_steps.specs.Steps.{at_place, trees_after, trees_from, all_lead_back, tree_behind, is_within}
use Rattle.plan_steps.specs.Numbering.{IsOrder, AreNumbers, AllNumbered, holds_of_edges, all_within}
use Rattle.plan_steps.specs.Stretches.{ends_at, is_last, is_onward, ends_new, ends_old, to_split, is_before, is_off}
use Rattle.plan_steps.specs.Stretches.{AreParts, AreOrders, OrderRuns, AreParted, IsPartedPlan, rest_roots}
use Rattle.plan_steps.proofs.Trees.{slice_get-append}
use Rattle.plan_steps.proofs.Ordered.{in_filter, filter_in}
use Rattle.plan_steps.proofs.Walked.{in_left, in_right, in_cases, all_in, all_append, in_itself}
use Rattle.plan_steps.proofs.Unfolded.{IsRest, OrderLeadsOn, trees_numbered, plan_leads_on, length-numbered}
use Rattle.plan_steps.proofs.Finished.{AreOrdered, ordered, order_in, in_order, order_within, first_stands, lone_root, stretch_of, all_from}
use Rattle.plan_steps.proofs.Distinct.{absent, distinct-append, distinct_filter, order_distinct}
use Rattle.plan_steps.proofs.StepTrees.{length-trees}
use Rattle.plan_steps.proofs.Endings.{off_kept, ends_pass, both_end, ends_split, ends_last, new_old, onward_new, onward_old, last_onward}
use Rattle.plan_steps.proofs.Later.{runs_of, runs_append, runs_before, runs_filter, filter_holds, later_leads}

-- what is so of the roots of a stretch, and passes on, is so of its places
holds_in : (steps : List Step) (roots depths met order : List ℕ) → AreOrdered steps roots depths met order → (test : ℕ → Bool) → list_all test roots ≡ true
    → ((k : ℕ) (s : Step) → test k ≡ true → slice_get steps k ≡ Some s → holds_of_edges test s.edges.items ≡ true) →
    (k : ℕ) → is_in order k ≡ true → test k ≡ true
holds_in steps roots depths met order h test begins passes k here = all_in test met k (h.walk.reached test begins passes) (order_in steps roots depths met order h k here)

any_in : (xs : List ℕ) (q : ℕ) → list_any (nat_eq q) xs ≡ true → is_in xs q ≡ true
any_in [] q h = h
any_in (x ∷ xs) q h = elim (or_cases (nat_eq q x) (list_any (nat_eq q) xs) h) [
  | inl same ↦ or_left (nat_eq x q) (is_in xs q) (eq-eqb x q (sym (eqb-true q x same)))
  | inr there ↦ or_right (nat_eq x q) (is_in xs q) (any_in xs q there)
]

-- the roots of the rest are places, at which trees end for good
pub roots_within : (steps : List Step) (first : ℕ) (parts : Parts) (reached : List ℕ) → all_lead_back 0 steps ≡ true →
    first < length steps → AreParts steps first parts → IsOrder steps (first ∷ []) reached →
    all_within (length steps) (rest_roots steps parts reached) ≡ true
roots_within steps first parts reached back low h found =
    let o = ordered steps steps (first ∷ []) reached refl back (lone_root (length steps) first low) found in
    and_from (nat_lt parts.ready.0 (length steps)) _ (lt-ltb parts.ready.0 (length steps) h.low.2)
    (and_from (nat_lt parts.back.0 (length steps)) _ (lt-ltb parts.back.0 (length steps) h.low.3)
    (all_from (λ k. nat_lt k (length steps)) (filter (is_off steps) reached)
    (λ k here. all_in (λ j. nat_lt j (length steps)) reached k (order_within steps (first ∷ []) found.depths found.met reached o) (in_filter (is_off steps) reached k here))))

pub parted : (steps : List Step) (first : ℕ) (parts : Parts) (reached order : List ℕ) → all_lead_back 0 steps ≡ true →
    first < length steps → length steps ≤ 65536 → AreParts steps first parts → IsOrder steps (first ∷ []) reached
    → AreOrders steps reached parts (rest_roots steps parts reached) order → AreParted steps first parts order
unfolding IsDistinct
parted steps first parts reached order back low few h found all = subst (AreParted steps first parts) (sym all.is) (record {
  can = record { few = omega (arith, short, few); within = within; distinct = once };
  few = short;
  runs = runs;
  stands = stands;
  has_new = in_right before (all.new ++ (all.old ++ all.rest)) parts.new.0 (in_left all.new (all.old ++ all.rest) parts.new.0 (root_in (parts.new.0 ∷ []) all.new all.new_is o_new parts.new.0 (in_itself parts.new.0)));
  has_old = in_right before (all.new ++ (all.old ++ all.rest)) parts.old.0 (in_right all.new (all.old ++ all.rest) parts.old.0 (in_left all.old all.rest parts.old.0 (root_in (parts.old.0 ∷ []) all.old all.old_is o_old parts.old.0 (in_itself parts.old.0))));
  has_ready = in_rest parts.ready.0 (or_left (nat_eq parts.ready.0 parts.ready.0) _ (eq-eqb parts.ready.0 parts.ready.0 refl));
  has_back = in_rest parts.back.0 (or_right (nat_eq parts.ready.0 parts.back.0) _ (or_left (nat_eq parts.back.0 parts.back.0) _ (eq-eqb parts.back.0 parts.back.0 refl)));
  stretches = record {
    reached = reached;
    new = all.new;
    old = all.old;
    rest = all.rest;
    reached_is = stretch_of steps (first ∷ []) found.depths found.met reached o;
    new_is = stretch_of steps (parts.new.0 ∷ []) all.new_is.depths all.new_is.met all.new o_new;
    old_is = stretch_of steps (parts.old.0 ∷ []) all.old_is.depths all.old_is.met all.old o_old;
    rest_is = stretch_of steps roots all.rest_is.depths all.rest_is.met all.rest o_rest;
    is = refl;
  };
})
  where
    before : List ℕ
    before = filter (is_before steps) reached

    roots : List ℕ
    roots = rest_roots steps parts reached

    o : AreOrdered steps (first ∷ []) found.depths found.met reached
    o = ordered steps steps (first ∷ []) reached refl back (lone_root (length steps) first low) found

    o_new : AreOrdered steps (parts.new.0 ∷ []) all.new_is.depths all.new_is.met all.new
    o_new = ordered steps steps (parts.new.0 ∷ []) all.new refl back (lone_root (length steps) parts.new.0 h.low.0) all.new_is

    o_old : AreOrdered steps (parts.old.0 ∷ []) all.old_is.depths all.old_is.met all.old
    o_old = ordered steps steps (parts.old.0 ∷ []) all.old refl back (lone_root (length steps) parts.old.0 h.low.1) all.old_is

    o_rest : AreOrdered steps roots all.rest_is.depths all.rest_is.met all.rest
    o_rest = ordered steps steps roots all.rest refl back (roots_within steps first parts reached back low h found) all.rest_is

    root_in : (rs ks : List ℕ) (is : IsOrder steps rs ks) → AreOrdered steps rs is.depths is.met ks → (k : ℕ) → is_in rs k ≡ true → is_in ks k ≡ true
    root_in rs ks is w k here = in_order steps rs is.depths is.met ks w k (all_in (is_in is.met) rs k w.walk.begins here)

    in_rest : (k : ℕ) → is_in roots k ≡ true → is_in (before ++ (all.new ++ (all.old ++ all.rest))) k ≡ true
    in_rest k here = in_right before (all.new ++ (all.old ++ all.rest)) k (in_right all.new (all.old ++ all.rest) k (in_right all.old all.rest k (root_in roots all.rest all.rest_is o_rest k here)))

    -- where trees end
    onward : (k : ℕ) → is_in reached k ≡ true → ends_at is_onward (at_place steps k) ≡ true
    onward = holds_in steps (first ∷ []) found.depths found.met reached o (λ k. ends_at is_onward (at_place steps k)) (and_from (ends_at is_onward (at_place steps first)) true h.before refl) (ends_pass is_onward steps back)

    news : (k : ℕ) → is_in all.new k ≡ true → ends_at ends_new (at_place steps k) ≡ true
    news = holds_in steps (parts.new.0 ∷ []) all.new_is.depths all.new_is.met all.new o_new (λ k. ends_at ends_new (at_place steps k)) (and_from (ends_at ends_new (at_place steps parts.new.0)) true h.new refl) (ends_pass ends_new steps back)

    olds : (k : ℕ) → is_in all.old k ≡ true → ends_at ends_old (at_place steps k) ≡ true
    olds = holds_in steps (parts.old.0 ∷ []) all.old_is.depths all.old_is.met all.old o_old (λ k. ends_at ends_old (at_place steps k)) (and_from (ends_at ends_old (at_place steps parts.old.0)) true h.old refl) (ends_pass ends_old steps back)

    other : (k : ℕ) → is_in (filter (is_off steps) reached) k ≡ true → ends_at is_last (at_place steps k) ≡ true
    other k here =
        let off = filter_holds (is_off steps) reached k here in
        ends_last (at_place steps k) (eqb-true (to_split (at_place steps k)) 0 off.1) (onward k off.0)

    rests : (k : ℕ) → is_in all.rest k ≡ true → ends_at is_last (at_place steps k) ≡ true
    rests = holds_in steps roots all.rest_is.depths all.rest_is.met all.rest o_rest (λ k. ends_at is_last (at_place steps k))
        (and_from (ends_at is_last (at_place steps parts.ready.0)) _ h.ready (and_from (ends_at is_last (at_place steps parts.back.0)) _ h.back (all_from (λ k. ends_at is_last (at_place steps k)) (filter (is_off steps) reached) other)))
        (ends_pass is_last steps back)

    leads : (k : ℕ) → is_in before k ≡ true → (is_in reached k ≡ true) × (is_before steps k ≡ true)
    leads = filter_holds (is_before steps) reached

    -- no place stands in two stretches
    apart : (p q : End → Bool) (k : ℕ) → ((e : End) → p e ≡ true → q e ≡ true → ⊥) →
        ends_at p (at_place steps k) ≡ true → ends_at q (at_place steps k) ≡ true → ⊥
    apart p q k never one two = let both = both_end p q (at_place steps k) one two in never both.0 both.1 both.2

    before_rest : (k : ℕ) → is_in before k ≡ true → is_in all.rest k ≡ true → ⊥
    before_rest k here there =
        let lead = ltb-true 0 (to_split (at_place steps k)) (leads k here).1 in
        false≢true (ends_split is_last (at_place steps k) (omega (arith, lead)) (rests k there))

    new_apart : (k : ℕ) → is_in all.new k ≡ true → is_in (all.old ++ all.rest) k ≡ false
    new_apart k here = absent (is_in (all.old ++ all.rest) k) (λ there. elim (in_cases all.old all.rest k there) [
      | inl old ↦ apart ends_new ends_old k new_old (news k here) (olds k old)
      | inr rest ↦ apart is_last ends_new k (λ e last. onward_new e (last_onward e last)) (rests k rest) (news k here)
    ])

    old_apart : (k : ℕ) → is_in all.old k ≡ true → is_in all.rest k ≡ false
    old_apart k here = absent (is_in all.rest k) (λ rest. apart is_last ends_old k (λ e last. onward_old e (last_onward e last)) (rests k rest) (olds k here))

    before_apart : (k : ℕ) → is_in before k ≡ true → is_in (all.new ++ (all.old ++ all.rest)) k ≡ false
    before_apart k here = absent (is_in (all.new ++ (all.old ++ all.rest)) k) (λ there. elim (in_cases all.new (all.old ++ all.rest) k there) [
      | inl new ↦ apart is_onward ends_new k onward_new (onward k (leads k here).0) (news k new)
      | inr more ↦ elim (in_cases all.old all.rest k more) [
        | inl old ↦ apart is_onward ends_old k onward_old (onward k (leads k here).0) (olds k old)
        | inr rest ↦ before_rest k here rest
      ]
    ])

    once_of : (rs ks : List ℕ) (is : IsOrder steps rs ks) → IsDistinct nat_eq ks
    once_of rs ks is = order_distinct steps rs is.depths is.met ks is.walk.in_turn is.sorted

    once : IsDistinct nat_eq (before ++ (all.new ++ (all.old ++ all.rest)))
    once =
        distinct-append before (all.new ++ (all.old ++ all.rest)) (distinct_filter (is_before steps) reached (once_of (first ∷ []) reached found))
        (distinct-append all.new (all.old ++ all.rest) (once_of (parts.new.0 ∷ []) all.new all.new_is)
        (distinct-append all.old all.rest (once_of (parts.old.0 ∷ []) all.old all.old_is) (once_of roots all.rest all.rest_is) old_apart) new_apart) before_apart

    within : all_within (length steps) (before ++ (all.new ++ (all.old ++ all.rest))) ≡ true
    within =
        all_append (λ k. nat_lt k (length steps)) before (all.new ++ (all.old ++ all.rest))
        (all_from (λ k. nat_lt k (length steps)) before (λ k here. all_in (λ j. nat_lt j (length steps)) reached k (order_within steps (first ∷ []) found.depths found.met reached o) (leads k here).0))
        (all_append (λ k. nat_lt k (length steps)) all.new (all.old ++ all.rest) (order_within steps (parts.new.0 ∷ []) all.new_is.depths all.new_is.met all.new o_new)
        (all_append (λ k. nat_lt k (length steps)) all.old all.rest (order_within steps (parts.old.0 ∷ []) all.old_is.depths all.old_is.met all.old o_old)
        (order_within steps roots all.rest_is.depths all.rest_is.met all.rest o_rest)))

    short : length (before ++ (all.new ++ (all.old ++ all.rest))) ≤ length steps
    short =
        length-le_from_distinct_below (before ++ (all.new ++ (all.old ++ all.rest))) (length steps) once
        (λ q here. ltb-true q (length steps) (all_in (λ j. nat_lt j (length steps)) (before ++ (all.new ++ (all.old ++ all.rest))) q within (any_in (before ++ (all.new ++ (all.old ++ all.rest))) q here)))

    -- each place leads to later ones
    else : (k : ℕ) → is_in reached k ≡ true → (is_before steps k ≡ true) ⊎ (is_in (all.new ++ (all.old ++ all.rest)) k ≡ true)
    else k here = elim (cases_lt 0 (to_split (at_place steps k))) [
      | inl lead ↦ inl (lt-ltb 0 (to_split (at_place steps k)) lead)
      | inr flat ↦
          let off : is_off steps k ≡ true = eq-eqb (to_split (at_place steps k)) 0 (omega (arith, flat)) in
          let root : is_in roots k ≡ true = or_right (nat_eq parts.ready.0 k) _ (or_right (nat_eq parts.back.0 k) _ (filter_in (is_off steps) reached k here off)) in
          inr (in_right all.new (all.old ++ all.rest) k (in_right all.old all.rest k (root_in roots all.rest all.rest_is o_rest k root)))
    ]

    runs : OrderRuns steps (before ++ (all.new ++ (all.old ++ all.rest)))
    runs =
        runs_before steps before (all.new ++ (all.old ++ all.rest))
        (runs_filter steps (first ∷ []) found.depths found.met reached (all.new ++ (all.old ++ all.rest)) (is_before steps) o else)
        (runs_append steps all.new (all.old ++ all.rest) (runs_of steps (parts.new.0 ∷ []) all.new_is.depths all.new_is.met all.new o_new)
        (runs_append steps all.old all.rest (runs_of steps (parts.old.0 ∷ []) all.old_is.depths all.old_is.met all.old o_old) (runs_of steps roots all.rest_is.depths all.rest_is.met all.rest o_rest)))

    front : (ks : List ℕ) → slice_get ks 0 ≡ Some first → slice_get (filter (is_before steps) ks) 0 ≡ Some first
    front [] at = cc
    front (x ∷ ks) at =
        let is : x ≡ first = cc in
        rw (ap (is_before steps) is ∙ h.begins) at

    low_first : (ks : List ℕ) → slice_get ks 0 ≡ Some first → 0 < length ks
    low_first [] at = cc
    low_first (x ∷ ks) at = omega arith

    stands : slice_get (before ++ (all.new ++ (all.old ++ all.rest))) 0 ≡ Some first
    stands =
        let own = front reached (first_stands steps first found.depths found.met reached o) in
        slice_get-append before (all.new ++ (all.old ++ all.rest)) 0 (low_first before own) ∙ own

-- ---- what was lent

pub reached_within : (steps : List Step) (first : ℕ) (reached lent splits splits_lent : List ℕ) →
    all_lead_back 0 steps ≡ true → first < length steps → IsOrder steps (first ∷ []) reached → lent ≡ reached →
    splits_lent ≡ splits → splits ≡ map to_split (trees_after [] steps) → all_within (length splits_lent) lent ≡ true
reached_within steps first reached lent splits splits_lent back low found again same is =
    let o = ordered steps steps (first ∷ []) reached refl back (lone_root (length steps) first low) found in
    let many : length splits_lent ≡ length steps = ap length (same ∙ is) ∙ (length-map (trees_after [] steps) to_split ∙ length-trees steps) in
    subst (λ (n : ℕ). all_within n lent ≡ true) (sym many) (subst (λ (ks : List ℕ). all_within (length steps) ks ≡ true) (sym again) (order_within steps (first ∷ []) found.depths found.met reached o))

pub roots_are : (steps : List Step) (parts : Parts) (reached lent splits splits_lent roots : List ℕ) → lent ≡ reached →
    splits_lent ≡ splits → splits ≡ map to_split (trees_after [] steps)
    → roots ≡ parts.ready.0 ∷ parts.back.0 ∷ filter (λ k. nat_eq (get_or splits_lent k 0) 0) lent → roots ≡ rest_roots steps parts reached
roots_are steps parts reached lent splits splits_lent roots again same is roots_is =
    roots_is ∙ ap (λ ks. parts.ready.0 ∷ parts.back.0 ∷ ks) (off_kept steps splits_lent lent (same ∙ is) ∙ ap (filter (is_off steps)) again)

-- ---- the plan

whole : (order : List ℕ) → IsRest order 0 order
whole order k = ap (slice_get order) (let e : k ≡ 0 + k = omega arith in e)

get_mapped : (steps : List Step) (ks : List ℕ) (i p : ℕ) → slice_get ks i ≡ Some p →
    unwrap_or (slice_get (map (at_place steps) ks) i) (Ends Done) ≡ at_place steps p
get_mapped steps [] i p at = cc
get_mapped steps (x ∷ ks) zero p at = let is : x ≡ p = cc in ap (at_place steps) is
get_mapped steps (x ∷ ks) (suc i) p at = get_mapped steps ks i p at

pub parted_plan : (steps : List Step) (first : ℕ) (parts : Parts) (order numbers : List ℕ) (plan : List Step)
    (told : Parts) → all_lead_back 0 steps ≡ true → AreParted steps first parts order →
    AreNumbers order (length steps) numbers
    → AllNumbered numbers steps order plan → told.new.0 ≡ get_or numbers parts.new.0 0 →
    told.old.0 ≡ get_or numbers parts.old.0 0 → told.ready.0 ≡ get_or numbers parts.ready.0 0 →
    told.back.0 ≡ get_or numbers parts.back.0 0
    → IsPartedPlan steps first parts plan told
parted_plan steps first parts order numbers plan told back h ns all e_new e_old e_ready e_back = record {
  begins = omega (arith, length-numbered numbers steps order plan all, some order h.stands);
  few = omega (arith, length-numbered numbers steps order plan all, h.few);
  on = plan_leads_on steps order numbers 0 order plan leads (whole order) (omega arith) all;
  placed = and_from (is_within plan (To told.new)) _ (placed parts.new.0 told.new e_new h.has_new)
      (and_from (is_within plan (To told.old)) _ (placed parts.old.0 told.old e_old h.has_old) (and_from (is_within plan (To told.ready)) _ (placed parts.ready.0 told.ready e_ready h.has_ready) (placed parts.back.0 told.back e_back h.has_back)));
  tree = ap (λ ts. unwrap_or (slice_get ts 0) (Ends Done)) trees ∙ get_mapped steps order 0 first h.stands;
  new = there parts.new.0 told.new e_new h.has_new;
  old = there parts.old.0 told.old e_old h.has_old;
  ready = there parts.ready.0 told.ready e_ready h.has_ready;
  back = there parts.back.0 told.back e_back h.has_back;
  numbering = record {
    order = order;
    stretches = h.stretches;
    numbers = numbers;
    numbered = ns;
    steps_are = all;
    told_new = e_new;
    told_old = e_old;
    told_ready = e_ready;
    told_back = e_back;
  };
}
  where
    leads : OrderLeadsOn steps order numbers
    leads = later_leads steps order numbers h.can.distinct ns h.runs

    trees : trees_from 1 plan ≡ map (at_place steps) order
    trees = trees_numbered steps order numbers 0 order plan back leads (whole order) all

    some : (ks : List ℕ) → slice_get ks 0 ≡ Some first → 0 < length ks
    some [] at = cc
    some (x ∷ ks) at = omega arith

    there : (p : ℕ) (number : Place) → number.0 ≡ get_or numbers p 0 → is_in order p ≡ true → tree_behind plan (To number) ≡ at_place steps p
    there p number is here =
        ap (λ ts. unwrap_or (slice_get ts (number.0 - 1)) (Ends Done)) trees
        ∙ get_mapped steps order (number.0 - 1) p (ap (λ k. slice_get order (k - 1)) is ∙ (ns.stands p here).1)

    placed : (p : ℕ) (number : Place) → number.0 ≡ get_or numbers p 0 → is_in order p ≡ true → is_within plan (To number) ≡ true
    placed p number is here =
        let at = ns.stands p here in
        and_from (nat_lt 0 number.0) (nat_lt number.0 (suc (0 + length plan))) (lt-ltb 0 number.0 (omega (arith, at.0, is)))
        (lt-ltb number.0 (suc (0 + length plan)) (omega (arith, is, at.0, slice_get_within order (get_or numbers p 0 - 1) p at.1, length-numbered numbers steps order plan all)))
