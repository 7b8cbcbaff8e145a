-- Edges that lead to two places lead to the same two.
use Rattle.std.proofs.Common.{◌≡◌, ℕ, zero, suc, Bool, true, false, cond, List, [], ◌∷◌, ◌++◌, take, refl, ◌∙◌, ap}
use Rattle.std.proofs.lemmas.Bool.{and_parts, and_from}
use Rattle.std.proofs.lemmas.List.Folds.{list_all-append}
use Rattle.plan_steps.specs.declared.step.Next.{Next}
use Rattle.plan_steps.specs.declared.step.Next.TheVariants.{To, Over, Both}
use Rattle.plan_steps.specs.declared.step.PlanEdge.{PlanEdge}
use Rattle.plan_steps.specs.declared.step.Step.{Step}
use Rattle.plan_steps.specs.Steps.{all_below}
use Rattle.plan_steps.specs.Stretches.{splits_to, all_split_to, steps_split_to}
use Rattle.plan_steps.proofs.StepTrees.{all_weaker}
use Rattle.rollback_plan.specs.Drafts.{is_plain, are_plain}
use Rattle.rollback_plan.proofs.DraftTrees.{plain_below}

-- one step more, which may not have been added
pub splits_push : (ok : Bool) (a b : ℕ) (old new : List Step) (s : Step) → new ≡ cond ok (old ++ s ∷ []) old →
    all_split_to a b s.edges.items ≡ true → steps_split_to a b old ≡ true → steps_split_to a b new ≡ true
splits_push true a b old new s e h k =
    ap (steps_split_to a b) e ∙ (list_all-append (λ x. all_split_to a b x.edges.items) old (s ∷ []) ∙ and_from (steps_split_to a b old) (steps_split_to a b (s ∷ [])) k (and_from (all_split_to a b s.edges.items) true h refl))
splits_push false a b old new s e h k = ap (steps_split_to a b) e ∙ k

pub splits_take : (a b k : ℕ) (steps : List Step) → steps_split_to a b steps ≡ true → steps_split_to a b (take k steps) ≡ true
splits_take a b zero steps h = refl
splits_take a b (suc k) [] h = refl
splits_take a b (suc k) (s ∷ steps) h =
    let parts = and_parts (all_split_to a b s.edges.items) (steps_split_to a b steps) h in
    and_from (all_split_to a b s.edges.items) (steps_split_to a b (take k steps)) parts.0 (splits_take a b k steps parts.1)

plain_splits : (n a b : ℕ) (next : Next) → is_plain n next ≡ true → splits_to a b next ≡ true
plain_splits n a b (Over end) h = refl
plain_splits n a b (Both new old) h = cc
plain_splits n a b (To place) h = refl

-- edges that lead to one place
pub plain_split : (n a b : ℕ) (edges : List PlanEdge) → are_plain n edges ≡ true → all_split_to a b edges ≡ true
plain_split n a b edges = all_weaker (λ e. is_plain n e.next) (λ e. splits_to a b e.next) (λ e h. plain_splits n a b e.next h) edges

pub plain_all_below : (n : ℕ) (edges : List PlanEdge) → are_plain n edges ≡ true → all_below n edges ≡ true
plain_all_below n edges = all_weaker (λ e. is_plain n e.next) _ (λ e h. plain_below n e.next h) edges
