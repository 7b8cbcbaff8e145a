-- The trees of steps.
use Rattle.std.proofs.Common.{nat_lt, ◌≡◌, ℕ, zero, suc, ◌+◌, ◌<◌, ◌≤◌, ◌&&◌, Bool, true, false, List, [], ◌∷◌, ◌++◌}
use Rattle.std.proofs.Common.{length, get_or, take, refl, sym, ◌∙◌, ap, subst, arith, add-zero, zero-add, length-append}
use Rattle.std.proofs.Common.{append_assoc, Some, slice_get}
use Rattle.std.proofs.lemmas.Bool.{ltb-true, lt-ltb, and_parts, and_from}
use Rattle.std.proofs.lemmas.List.{append-nil, take_at, take_all, take_more}
use Rattle.std.specs.List.{list_all}
use Rattle.definitions.specs.Run.{Tree}
use Rattle.plan_steps.specs.declared.step.Step.{Step}
use Rattle.plan_steps.specs.declared.step.Next.{Next}
use Rattle.plan_steps.specs.declared.step.Next.TheVariants.{To, Over, Both}
use Rattle.plan_steps.specs.declared.step.PlanEdge.{PlanEdge}
use Rattle.plan_steps.specs.Steps.{step_tree, trees_after, trees_from, is_below, all_below, leads_back, all_lead_back}

-- what each passes each passes by a weaker test
pub all_weaker : {X : Type 0} (p q : X → Bool) → ((x : X) → p x ≡ true → q x ≡ true) → (xs : List X) → list_all p xs ≡ true → list_all q xs ≡ true
all_weaker p q f [] h = refl
all_weaker p q f (x ∷ xs) h = let parts = and_parts (p x) (list_all p xs) h in and_from (q x) (list_all q xs) (f x parts.0) (all_weaker p q f xs parts.1)

-- ---- the trees of a draft

pub length-trees_after : (trees : List Tree) (steps : List Step) → length (trees_after trees steps) ≡ length trees + length steps
unfolding trees_after
length-trees_after trees [] = sym (add-zero (length trees))
length-trees_after trees (s ∷ steps) = length-trees_after (trees ++ step_tree 0 trees s ∷ []) steps ∙ omega (arith, length-append trees (step_tree 0 trees s ∷ []))

-- as many trees as steps
pub length-trees : (steps : List Step) → length (trees_after [] steps) ≡ length steps
length-trees steps = length-trees_after [] steps ∙ zero-add (length steps)

pub trees_after-nil : trees_after [] [] ≡ []
unfolding trees_after
trees_after-nil = refl

pub trees_after-push : (trees : List Tree) (steps : List Step) (s : Step) →
    trees_after trees (steps ++ s ∷ []) ≡ trees_after trees steps ++ step_tree 0 (trees_after trees steps) s ∷ []
unfolding trees_after
trees_after-push trees [] s = refl
trees_after-push trees (x ∷ steps) s = trees_after-push (trees ++ step_tree 0 trees x ∷ []) steps s

trees_after-begins : (trees : List Tree) (steps : List Step) → (more : List Tree) × (trees_after trees steps ≡ trees ++ more)
unfolding trees_after
trees_after-begins trees [] = ([], sym (append-nil trees))
trees_after-begins trees (s ∷ steps) =
    let rest = trees_after-begins (trees ++ step_tree 0 trees s ∷ []) steps in
    (step_tree 0 trees s ∷ rest.0, rest.1 ∙ append_assoc trees (step_tree 0 trees s ∷ []) rest.0)

trees_after-take : (trees : List Tree) (k : ℕ) (steps : List Step) → trees_after trees (take k steps) ≡ take (length trees + k) (trees_after trees steps)
unfolding trees_after
trees_after-take trees zero steps =
    let front = trees_after-begins trees steps in
    sym (ap (λ ts. take (length trees + 0) ts) front.1 ∙ take_at trees front.0 (length trees + 0) (sym (add-zero (length trees))))
trees_after-take trees (suc k) [] = sym (take_all (length trees + suc k) trees (omega arith))
trees_after-take trees (suc k) (s ∷ steps) =
    trees_after-take (trees ++ step_tree 0 trees s ∷ []) k steps
    ∙ ap (λ n. take n (trees_after (trees ++ step_tree 0 trees s ∷ []) steps)) (let e : length (trees ++ step_tree 0 trees s ∷ []) + k ≡ length trees + suc k = omega (arith, length-append trees (step_tree 0 trees s ∷ [])) in e)

-- the trees of the first steps are the first trees
pub trees-take : (k : ℕ) (steps : List Step) → trees_after [] (take k steps) ≡ take k (trees_after [] steps)
trees-take k steps = trees_after-take [] k steps ∙ ap (λ n. take n (trees_after [] steps)) (zero-add k)

-- one step more
pub trees-more : (steps : List Step) (i : ℕ) (s : Step) → i < length steps → s ≡ get_or steps i s →
    trees_after [] (take (i + 1) steps) ≡ trees_after [] (take i steps) ++ step_tree 0 (trees_after [] (take i steps)) s
    ∷ []
trees-more steps i s h is = ap (trees_after []) (take_more steps i s h ∙ ap (λ x. take i steps ++ x ∷ []) (sym is)) ∙ trees_after-push [] (take i steps) s

-- ---- edges that lead back

and_assoc : (a b c : Bool) → (a && (b && c)) ≡ ((a && b) && c)
and_assoc true b c = refl
and_assoc false b c = refl

and_true : (a : Bool) → (a && true) ≡ a
and_true true = refl
and_true false = refl

pub all_lead_back-push : (n : ℕ) (steps : List Step) (s : Step) → all_lead_back n (steps ++ s ∷ []) ≡ (all_lead_back n steps && leads_back (n + length steps) s)
all_lead_back-push n [] s = and_true (leads_back n s) ∙ ap (λ k. leads_back k s) (sym (add-zero n))
all_lead_back-push n (x ∷ steps) s =
    ap (λ b. leads_back n x && b) (all_lead_back-push (suc n) steps s ∙ ap (λ k. all_lead_back (suc n) steps && leads_back k s) (omega arith))
    ∙ and_assoc (leads_back n x) (all_lead_back (suc n) steps) _

pub all_lead_back-take : (n k : ℕ) (steps : List Step) → all_lead_back n steps ≡ true → all_lead_back n (take k steps) ≡ true
all_lead_back-take n zero steps h = refl
all_lead_back-take n (suc k) [] h = refl
all_lead_back-take n (suc k) (s ∷ steps) h =
    and_from (leads_back n s) _ (and_parts (leads_back n s) _ h).0 (all_lead_back-take (suc n) k steps (and_parts (leads_back n s) _ h).1)

pub back_at : (n : ℕ) (steps : List Step) (i : ℕ) (s : Step) → all_lead_back n steps ≡ true → slice_get steps i ≡ Some s → leads_back (n + i) s ≡ true
back_at n [] i s h at = cc
back_at n (x ∷ steps) zero s h at =
    let is : x ≡ s = cc in
    subst (λ (y : Step). leads_back (n + 0) y ≡ true) is (subst (λ (k : ℕ). leads_back k x ≡ true) (sym (add-zero n)) (and_parts (leads_back n x) _ h).0)
back_at n (x ∷ steps) (suc i) s h at =
    subst (λ (k : ℕ). leads_back k s ≡ true) (let e : suc n + i ≡ n + suc i = omega arith in e) (back_at (suc n) steps i s (and_parts (leads_back n x) _ h).1 at)

below_of : (n m : ℕ) (next : Next) → n ≤ m → is_below n next ≡ true → is_below m next ≡ true
below_of n m (Over end) h b = refl
below_of n m (Both new old) h b =
    let p = and_parts (nat_lt new.0 n) (nat_lt old.0 n) b in
    and_from (nat_lt new.0 m) (nat_lt old.0 m) (lt-ltb new.0 m (omega (arith, h, ltb-true new.0 n p.0))) (lt-ltb old.0 m (omega (arith, h, ltb-true old.0 n p.1)))
below_of n m (To place) h b = lt-ltb place.0 m (omega (arith, ltb-true place.0 n b))

-- edges that lead below n lead below more
pub all_below-le : (n m : ℕ) (edges : List PlanEdge) → n ≤ m → all_below n edges ≡ true → all_below m edges ≡ true
all_below-le n m edges h = all_weaker (λ e. is_below n e.next) (λ e. is_below m e.next) (λ e b. below_of n m e.next h b) edges

-- ---- the trees of a plan

pub length-trees_from : (first : ℕ) (steps : List Step) → length (trees_from first steps) ≡ length steps
unfolding trees_from
length-trees_from first [] = refl
length-trees_from first (s ∷ steps) = ap suc (length-trees_from (suc first) steps)
