-- How far a walk has come.
use Rattle.std.proofs.Common.{◌≡◌, ℕ, zero, suc, ◌+◌, ◌<◌, ◌≤◌, ◌||◌, Bool, true, false, List, [], ◌∷◌, ◌++◌, length}
use Rattle.std.proofs.Common.{get_or, set, replicate, reverse, refl, sym, ◌∙◌, ap, subst, arith, length-append, ◌⊎◌}
use Rattle.std.proofs.Common.{inl, inr, Some, slice_get, nat_eq, nat_lt}
use Rattle.std.proofs.lemmas.Bool.{or_cases, or_left, or_right, and_from, and_parts, eqb-true, eq-eqb, lt-ltb, ltb-true, cases_eq, false≢true}
use Rattle.std.proofs.lemmas.List.{reverse-append, length-reverse, length-replicate, length-set, get_or-set_same, get_or-set_other, reverse-reverse}
use Rattle.std.specs.List.{list_all}
use Rattle.listener_set.specs.Numbers.{is_in}
use Rattle.plan_steps.specs.declared.step.Next.{Next}
use Rattle.plan_steps.specs.declared.step.Next.TheVariants.{To, Over, Both}
use Rattle.plan_steps.specs.declared.step.PlanEdge.{PlanEdge}
use Rattle.plan_steps.specs.declared.step.Step.{Step}
use Rattle.plan_steps.specs.Steps.{is_below, all_below, all_lead_back}
use Rattle.plan_steps.specs.Numbering.{place_behind, places_behind, holds_behind, holds_of_edges, all_within, Walks, IsWalk}
use Rattle.plan_steps.proofs.StepTrees.{all_weaker, back_at}
use Rattle.plan_steps.proofs.Depths.{in_behind}

-- ---- members

pub in_left : (xs ys : List ℕ) (k : ℕ) → is_in xs k ≡ true → is_in (xs ++ ys) k ≡ true
in_left [] ys k h = cc
in_left (x ∷ xs) ys k h = elim (or_cases (nat_eq x k) (is_in xs k) h) [
  | inl here ↦ or_left (nat_eq x k) (is_in (xs ++ ys) k) here
  | inr there ↦ or_right (nat_eq x k) (is_in (xs ++ ys) k) (in_left xs ys k there)
]

pub in_right : (xs ys : List ℕ) (k : ℕ) → is_in ys k ≡ true → is_in (xs ++ ys) k ≡ true
in_right [] ys k h = h
in_right (x ∷ xs) ys k h = or_right (nat_eq x k) (is_in (xs ++ ys) k) (in_right xs ys k h)

pub in_cases : (xs ys : List ℕ) (k : ℕ) → is_in (xs ++ ys) k ≡ true → (is_in xs k ≡ true) ⊎ (is_in ys k ≡ true)
in_cases [] ys k h = inr h
in_cases (x ∷ xs) ys k h = elim (or_cases (nat_eq x k) (is_in (xs ++ ys) k) h) [
  | inl here ↦ inl (or_left (nat_eq x k) (is_in xs k) here)
  | inr there ↦ elim (in_cases xs ys k there) [
    | inl left ↦ inl (or_right (nat_eq x k) (is_in xs k) left)
    | inr right ↦ inr right
  ]
]

pub in_itself : (k : ℕ) → is_in (k ∷ []) k ≡ true
in_itself k = or_left (nat_eq k k) false (eq-eqb k k refl)

pub in_one : (x k : ℕ) → is_in (x ∷ []) k ≡ true → x ≡ k
in_one x k h = elim (or_cases (nat_eq x k) false h) [ inl same ↦ eqb-true x k same | inr no_more ↦ absurd (false≢true no_more) ]

in_reverse : (xs : List ℕ) (k : ℕ) → is_in xs k ≡ true → is_in (reverse xs) k ≡ true
in_reverse [] k h = h
in_reverse (x ∷ xs) k h =
    subst (λ (ys : List ℕ). is_in ys k ≡ true) (sym (reverse-append (x ∷ []) xs))
    (elim (or_cases (nat_eq x k) (is_in xs k) h) [
      | inl here ↦ in_right (reverse xs) (x ∷ []) k (or_left (nat_eq x k) false here)
      | inr there ↦ in_left (reverse xs) (x ∷ []) k (in_reverse xs k there)
    ])

pub all_append : {X : Type 0} (test : X → Bool) (xs ys : List X) → list_all test xs ≡ true → list_all test ys ≡ true → list_all test (xs ++ ys) ≡ true
all_append test [] ys h k = k
all_append test (x ∷ xs) ys h k = and_from (test x) _ (and_parts (test x) (list_all test xs) h).0 (all_append test xs ys (and_parts (test x) (list_all test xs) h).1 k)

pub all_front : {X : Type 0} (test : X → Bool) (xs ys : List X) → list_all test (xs ++ ys) ≡ true → (list_all test xs ≡ true) × (list_all test ys ≡ true)
all_front test [] ys h = (refl, h)
all_front test (x ∷ xs) ys h =
    let parts = and_parts (test x) (list_all test (xs ++ ys)) h in
    let rest = all_front test xs ys parts.1 in
    (and_from (test x) (list_all test xs) parts.0 rest.0, rest.1)

all_reverse : (test : ℕ → Bool) (xs : List ℕ) → list_all test xs ≡ true → list_all test (reverse xs) ≡ true
all_reverse test [] h = refl
all_reverse test (x ∷ xs) h =
    let parts = and_parts (test x) (list_all test xs) h in
    subst (λ (ys : List ℕ). list_all test ys ≡ true) (sym (reverse-append (x ∷ []) xs))
    (all_append test (reverse xs) (x ∷ []) (all_reverse test xs parts.1) (and_from (test x) true parts.0 refl))

pub all_in : (test : ℕ → Bool) (xs : List ℕ) (k : ℕ) → list_all test xs ≡ true → is_in xs k ≡ true → test k ≡ true
all_in test [] k h here = cc
all_in test (x ∷ xs) k h here =
    let parts = and_parts (test x) (list_all test xs) h in
    elim (or_cases (nat_eq x k) (is_in xs k) here) [
      | inl same ↦ subst (λ (j : ℕ). test j ≡ true) (eqb-true x k same) parts.0
      | inr there ↦ all_in test xs k parts.1 there
    ]

-- ---- what is behind edges

behind_weaker : (t u : ℕ → Bool) (next : Next) → ((k : ℕ) → t k ≡ true → u k ≡ true) → holds_behind t next ≡ true → holds_behind u next ≡ true
behind_weaker t u (Over end) f h = refl
behind_weaker t u (Both new old) f h = refl
behind_weaker t u (To place) f h = f place.0 h

pub edges_weaker : (t u : ℕ → Bool) (edges : List PlanEdge) → ((k : ℕ) → t k ≡ true → u k ≡ true) →
    holds_of_edges t edges ≡ true → holds_of_edges u edges ≡ true
edges_weaker t u edges f = all_weaker (λ e. holds_behind t e.next) (λ e. holds_behind u e.next) (λ e. behind_weaker t u e.next f) edges

one_behind : (next : Next) (ps : List ℕ) → holds_behind (is_in (place_behind next ps)) next ≡ true
one_behind (Over end) ps = refl
one_behind (Both new old) ps = refl
one_behind (To place) ps = or_left (nat_eq place.0 place.0) (is_in ps place.0) (eq-eqb place.0 place.0 refl)

-- what is behind edges is among the places behind them
edges_in : (edges : List PlanEdge) → holds_of_edges (is_in (places_behind edges)) edges ≡ true
edges_in [] = refl
edges_in (e ∷ edges) =
    and_from (holds_behind (is_in (places_behind (e ∷ edges))) e.next) _ (one_behind e.next (places_behind edges))
    (edges_weaker (is_in (places_behind edges)) (is_in (places_behind (e ∷ edges))) edges (in_behind e.next (places_behind edges)) (edges_in edges))

all_behind : (test : ℕ → Bool) (next : Next) (ps : List ℕ) → holds_behind test next ≡ true → list_all test ps ≡ true →
    list_all test (place_behind next ps) ≡ true
all_behind test (Over end) ps h k = k
all_behind test (Both new old) ps h k = k
all_behind test (To place) ps h k = and_from (test place.0) (list_all test ps) h k

all_of_edges : (test : ℕ → Bool) (edges : List PlanEdge) → holds_of_edges test edges ≡ true → list_all test (places_behind edges) ≡ true
all_of_edges test [] h = refl
all_of_edges test (e ∷ edges) h =
    let parts = and_parts (holds_behind test e.next) (holds_of_edges test edges) h in
    all_behind test e.next (places_behind edges) parts.0 (all_of_edges test edges parts.1)

length-behind : (next : Next) (ps : List ℕ) → length (place_behind next ps) ≤ length ps + 1
length-behind (Over end) ps = omega arith
length-behind (Both new old) ps = omega arith
length-behind (To place) ps = omega arith

length-places_behind : (edges : List PlanEdge) → length (places_behind edges) ≤ length edges
length-places_behind [] = omega arith
length-places_behind (e ∷ edges) = omega (arith, length-behind e.next (places_behind edges), length-places_behind edges)

-- ---- what is left to do

-- how many are not met
abbrev pub unmet : List Bool → ℕ
unmet [] = 0
unmet (true ∷ flags) = unmet flags
unmet (false ∷ flags) = suc (unmet flags)

-- the steps that are not met, and their edges
abbrev pub work : List Bool → List Step → ℕ
work [] steps = 0
work (flag ∷ flags) [] = 0
work (true ∷ flags) (s ∷ steps) = work flags steps
work (false ∷ flags) (s ∷ steps) = suc (length s.edges.items) + work flags steps

unmet_set : (flags : List Bool) (k : ℕ) → k < length flags → get_or flags k false ≡ false → unmet flags ≡ suc (unmet (set flags k true))
unmet_set [] k low e = absurd (omega arith)
unmet_set (true ∷ flags) zero low e = cc
unmet_set (false ∷ flags) zero low e = refl
unmet_set (true ∷ flags) (suc k) low e = unmet_set flags k (omega arith) e
unmet_set (false ∷ flags) (suc k) low e = ap suc (unmet_set flags k (omega arith) e)

work_set : (flags : List Bool) (steps : List Step) (k : ℕ) (s : Step) → k < length flags →
    get_or flags k false ≡ false → slice_get steps k ≡ Some s →
    work flags steps ≡ suc (length s.edges.items) + work (set flags k true) steps
work_set [] steps k s low e at = absurd (omega arith)
work_set (flag ∷ flags) [] k s low e at = cc
work_set (true ∷ flags) (x ∷ steps) zero s low e at = cc
work_set (false ∷ flags) (x ∷ steps) zero s low e at = let is : x ≡ s = cc in ap (λ t. suc (length t.edges.items) + work flags steps) is
work_set (true ∷ flags) (x ∷ steps) (suc k) s low e at = work_set flags steps k s (omega arith) e at
work_set (false ∷ flags) (x ∷ steps) (suc k) s low e at = omega (arith, work_set flags steps k s (omega arith) e at)

pub unmet_none : (n : ℕ) → unmet (replicate n false) ≡ n
unmet_none zero = refl
unmet_none (suc n) = ap suc (unmet_none n)

-- ---- the loop

-- met, or waiting to be
abbrev pub is_known : List ℕ → List ℕ → ℕ → Bool
is_known met waiting k = is_in met k || is_in waiting k

pub record AreWalked (steps : List Step) (roots : List ℕ) (flags : List Bool) (met waiting : List ℕ) : Type 0 where
  pub count : length flags ≡ length steps
  pub flagged : (k : ℕ) → get_or flags k false ≡ true → is_in met k ≡ true
  pub begins : list_all (is_known met waiting) roots ≡ true
  pub closed : (k : ℕ) (s : Step) → is_in met k ≡ true → slice_get steps k ≡ Some s → holds_of_edges (is_known met waiting) s.edges.items ≡ true
  pub reached : (test : ℕ → Bool) → list_all test roots ≡ true →
      ((k : ℕ) (s : Step) → test k ≡ true → slice_get steps k ≡ Some s → holds_of_edges test s.edges.items ≡ true) →
      (list_all test met ≡ true) × (list_all test waiting ≡ true)
  pub only : (k : ℕ) → is_in met k ≡ true → get_or flags k false ≡ true
  pub turns : (all : List ℕ) → Walks steps met (reverse waiting) all → Walks steps [] roots all
  pub few : length met + unmet flags ≡ length steps

pub walked_none : (steps : List Step) (roots : List ℕ) (flags : List Bool) (met waiting : List ℕ) →
    flags ≡ replicate (length steps) false → met ≡ [] → waiting ≡ reverse roots →
    AreWalked steps roots flags met waiting
walked_none steps roots flags met waiting e none one = rw (e, none, one)
    record {
      count = length-replicate (length steps) false;
      flagged = λ k h. absurd (false≢true (sym (never (length steps) k) ∙ h));
      begins = all_known roots (λ k here. here);
      closed = λ k s h at. absurd (false≢true h);
      reached = λ test h passes. (refl, all_reverse test roots h);
      only = λ k h. absurd (false≢true h);
      turns = λ all walk. subst (λ (ws : List ℕ). Walks steps [] ws all) (reverse-reverse roots) walk;
      few = omega (arith, unmet_none (length steps));
    }
  where
    never : (n k : ℕ) → get_or (replicate n false) k false ≡ false
    never zero k = refl
    never (suc n) zero = refl
    never (suc n) (suc k) = never n k

    all_known : (ks : List ℕ) → ((k : ℕ) → is_in ks k ≡ true → is_in roots k ≡ true) → list_all (is_known [] (reverse roots)) ks ≡ true
    all_known [] f = refl
    all_known (x ∷ ks) f =
        and_from (is_known [] (reverse roots) x) _ (in_reverse roots x (f x (or_left (nat_eq x x) (is_in ks x) (eq-eqb x x refl))))
        (all_known ks (λ k here. f k (or_right (nat_eq x k) (is_in ks k) here)))

-- a place that was met goes from those that wait
pub walked_past : (steps : List Step) (roots : List ℕ) (flags : List Bool) (met waiting : List ℕ) (p : ℕ) →
    AreWalked steps roots flags met (waiting ++ p ∷ []) → get_or flags p false ≡ true →
    AreWalked steps roots flags met waiting
walked_past steps roots flags met waiting p h was =
    record {
      count = h.count;
      flagged = h.flagged;
      begins = all_weaker (is_known met (waiting ++ p ∷ [])) (is_known met waiting) still roots h.begins;
      closed = λ k s here at. edges_weaker (is_known met (waiting ++ p ∷ [])) (is_known met waiting) s.edges.items still (h.closed k s here at);
      reached = λ test begins passes. ((h.reached test begins passes).0, (all_front test waiting (p ∷ []) (h.reached test begins passes).1).0);
      only = h.only;
      turns = λ all walk. h.turns all (subst (λ (ws : List ℕ). Walks steps met ws all) (sym (reverse-append waiting (p ∷ []))) (Walks.passes (h.flagged p was) walk));
      few = h.few;
    }
  where
    still : (k : ℕ) → is_known met (waiting ++ p ∷ []) k ≡ true → is_known met waiting k ≡ true
    still k known = elim (or_cases (is_in met k) (is_in (waiting ++ p ∷ []) k) known) [
      | inl here ↦ or_left (is_in met k) (is_in waiting k) here
      | inr there ↦ elim (in_cases waiting (p ∷ []) k there) [
        | inl waits ↦ or_right (is_in met k) (is_in waiting k) waits
        | inr last ↦ or_left (is_in met k) (is_in waiting k) (subst (λ (j : ℕ). is_in met j ≡ true) (in_one p k last) (h.flagged p was))
      ]
    ]

some_one : {x y : Step} → Some x ≡ Some y → x ≡ y
some_one e = cc

-- a place is met, and what is behind it waits
pub walked_on : (steps : List Step) (roots : List ℕ) (flags : List Bool) (met waiting : List ℕ) (p : ℕ) (s : Step) →
    AreWalked steps roots flags met (waiting ++ p ∷ []) → get_or flags p false ≡ false → slice_get steps p ≡ Some s →
    p < length flags
    → AreWalked steps roots (set flags p true) (met ++ p ∷ []) (waiting ++ reverse (places_behind s.edges.items))
walked_on steps roots flags met waiting p s h was at low =
    record {
      count = length-set flags p true ∙ h.count;
      flagged = λ k flag. elim (cases_eq k p) [
        | inl same ↦ in_right met (p ∷ []) k (subst (λ (j : ℕ). is_in (j ∷ []) k ≡ true) same (in_itself k))
        | inr other ↦ in_left met (p ∷ []) k (h.flagged k (sym (get_or-set_other flags p k true false other) ∙ flag))
      ];
      begins = all_weaker (is_known met (waiting ++ p ∷ [])) (is_known (met ++ p ∷ []) (waiting ++ reverse (places_behind s.edges.items))) still roots h.begins;
      closed = λ k t here there. elim (in_cases met (p ∷ []) k here) [
        | inl before ↦ edges_weaker (is_known met (waiting ++ p ∷ [])) (is_known (met ++ p ∷ []) (waiting ++ reverse (places_behind s.edges.items))) t.edges.items still (h.closed k t before there)
        | inr last ↦
            let found : slice_get steps p ≡ Some t = ap (slice_get steps) (in_one p k last) ∙ there in
            subst (λ (u : Step). holds_of_edges (is_known (met ++ p ∷ []) (waiting ++ reverse (places_behind s.edges.items))) u.edges.items ≡ true) (some_one (sym at ∙ found))
            (edges_weaker (is_in (places_behind s.edges.items)) (is_known (met ++ p ∷ []) (waiting ++ reverse (places_behind s.edges.items))) s.edges.items
            (λ j behind. or_right (is_in (met ++ p ∷ []) j) (is_in (waiting ++ reverse (places_behind s.edges.items)) j) (in_right waiting (reverse (places_behind s.edges.items)) j (in_reverse (places_behind s.edges.items) j behind)))
            (edges_in s.edges.items))
      ];
      reached = λ test begins passes.
          let all = h.reached test begins passes in
          let waits = all_front test waiting (p ∷ []) all.1 in
          let own : test p ≡ true = (and_parts (test p) true waits.1).0 in
          (all_append test met (p ∷ []) all.0 waits.1, all_append test waiting (reverse (places_behind s.edges.items)) waits.0 (all_reverse test (places_behind s.edges.items) (all_of_edges test s.edges.items (passes p s own at))));
      only = λ k here. elim (cases_eq k p) [
        | inl same ↦ ap (λ j. get_or (set flags p true) j false) same ∙ get_or-set_same flags p true false low
        | inr other ↦ elim (in_cases met (p ∷ []) k here) [
          | inl before ↦ get_or-set_other flags p k true false other ∙ h.only k before
          | inr last ↦ absurd (other (sym (in_one p k last)))
        ]
      ];
      turns = λ all walk. h.turns all
          (subst (λ (ws : List ℕ). Walks steps met ws all) (sym (reverse-append waiting (p ∷ [])))
          (Walks.meets (not_in (is_in met p) (h.only p)) at (subst (λ (ws : List ℕ). Walks steps (met ++ p ∷ []) ws all) next walk)));
      few = omega (arith, h.few, unmet_set flags p low was, length-append met (p ∷ []));
    }
  where
    next : reverse (waiting ++ reverse (places_behind s.edges.items)) ≡ places_behind s.edges.items ++ reverse waiting
    next = reverse-append waiting (reverse (places_behind s.edges.items)) ∙ ap (λ ps. ps ++ reverse waiting) (reverse-reverse (places_behind s.edges.items))

    not_in : (b : Bool) → (b ≡ true → get_or flags p false ≡ true) → b ≡ false
    not_in true flag = absurd (false≢true (sym was ∙ flag refl))
    not_in false flag = refl

    still : (k : ℕ) → is_known met (waiting ++ p ∷ []) k ≡ true → is_known (met ++ p ∷ []) (waiting ++ reverse (places_behind s.edges.items)) k ≡ true
    still k known = elim (or_cases (is_in met k) (is_in (waiting ++ p ∷ []) k) known) [
      | inl here ↦ or_left (is_in (met ++ p ∷ []) k) (is_in (waiting ++ reverse (places_behind s.edges.items)) k) (in_left met (p ∷ []) k here)
      | inr there ↦ elim (in_cases waiting (p ∷ []) k there) [
        | inl waits ↦ or_right (is_in (met ++ p ∷ []) k) (is_in (waiting ++ reverse (places_behind s.edges.items)) k) (in_left waiting (reverse (places_behind s.edges.items)) k waits)
        | inr last ↦ or_left (is_in (met ++ p ∷ []) k) (is_in (waiting ++ reverse (places_behind s.edges.items)) k) (in_right met (p ∷ []) k last)
      ]
    ]

low_behind : (n k : ℕ) (next : Next) → k < n → is_below k next ≡ true → holds_behind (λ j. nat_lt j n) next ≡ true
low_behind n k (Over end) lt below = refl
low_behind n k (Both new old) lt below = refl
low_behind n k (To place) lt below = lt-ltb place.0 n (omega (arith, ltb-true place.0 k below))

-- what is behind the edges of a place is a place
pub low_passes : (steps : List Step) → all_lead_back 0 steps ≡ true → (k : ℕ) (s : Step) →
    nat_lt k (length steps) ≡ true → slice_get steps k ≡ Some s →
    holds_of_edges (λ j. nat_lt j (length steps)) s.edges.items ≡ true
low_passes steps back k s here at =
    all_weaker (λ e. is_below k e.next) (λ e. holds_behind (λ j. nat_lt j (length steps)) e.next) (λ e. low_behind (length steps) k e.next (ltb-true k (length steps) here)) s.edges.items
    (subst (λ (n : ℕ). all_below n s.edges.items ≡ true) (let e : 0 + k ≡ k = omega arith in e) (back_at 0 steps k s back at))

-- places that are met or wait are places of the steps
pub walked_low : (steps : List Step) (roots : List ℕ) (flags : List Bool) (met waiting : List ℕ) →
    AreWalked steps roots flags met waiting → all_lead_back 0 steps ≡ true → all_within (length steps) roots ≡ true →
    list_all (λ k. nat_lt k (length steps)) waiting ≡ true
walked_low steps roots flags met waiting h back low = (h.reached (λ k. nat_lt k (length steps)) low (low_passes steps back)).1

-- nothing waits any more
pub walked_all : (steps : List Step) (roots : List ℕ) (flags : List Bool) (met : List ℕ) → AreWalked steps roots flags met [] → IsWalk steps roots met
walked_all steps roots flags met h =
    record {
      begins = all_weaker (is_known met []) (is_in met) over roots h.begins;
      closed = λ k s here at. edges_weaker (is_known met []) (is_in met) s.edges.items over (h.closed k s here at);
      reached = λ test begins passes. (h.reached test begins passes).0;
      few = omega (arith, h.few);
      in_turn = h.turns met Walks.over;
    }
  where
    over : (k : ℕ) → is_known met [] k ≡ true → is_in met k ≡ true
    over k known = elim (or_cases (is_in met k) false known) [ inl here ↦ here | inr no_more ↦ absurd (false≢true no_more) ]

-- the place that waited last is a place of the steps
pub place_low : (steps : List Step) (roots : List ℕ) (flags : List Bool) (met waiting rest : List ℕ) (p : ℕ) →
    AreWalked steps roots flags met waiting → waiting ≡ rest ++ p ∷ [] → all_lead_back 0 steps ≡ true →
    all_within (length steps) roots ≡ true → p < length steps
place_low steps roots flags met waiting rest p h e back low =
    let all = subst (λ (ws : List ℕ). list_all (λ k. nat_lt k (length steps)) ws ≡ true) e (walked_low steps roots flags met waiting h back low) in
    ltb-true p (length steps) (and_parts (nat_lt p (length steps)) true (all_front (λ k. nat_lt k (length steps)) rest (p ∷ []) all).1).0

-- less is left to do where a place is met
pub work_less : (flags : List Bool) (steps : List Step) (p : ℕ) (s : Step) (waiting rest new : List ℕ) →
    p < length flags → get_or flags p false ≡ false → slice_get steps p ≡ Some s → waiting ≡ rest ++ p ∷ [] →
    new ≡ rest ++ reverse (places_behind s.edges.items)
    → work (set flags p true) steps + length new < work flags steps + length waiting
work_less flags steps p s waiting rest new low was at e f =
    omega (arith, work_set flags steps p s low was at, ap length e, length-append rest (p ∷ []), ap length f, length-append rest (reverse (places_behind s.edges.items)), length-reverse (places_behind s.edges.items), length-places_behind s.edges.items)
