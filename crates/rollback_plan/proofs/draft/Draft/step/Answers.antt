use Rattle.std.proofs.Common.{◌≡◌, ◌+◌, ◌≤◌, ℕ, Bool, true, false, cond, [], ◌∷◌, ◌++◌, List, length, arith, refl}
use Rattle.std.proofs.Common.{zero-add, ◌∙◌, ap, subst, is_ok, IsErrOf, IsErrAnd, ◌↔◌, Ok, Err, Result}
use Rattle.plan_steps.proofs.StepTrees.{length-trees, trees_after-push, all_lead_back-push}
use Rattle.std.proofs.lemmas.Bool.{and_from}
use Rattle.plan_steps.specs.Steps.{leads_back, all_lead_back, trees_after}
use Rattle.rollback_plan.specs.declared.draft.DraftRefusal.{DraftRefusal}
use Rattle.rollback_plan.specs.declared.draft.DraftRefusal.TheVariants.{TooLarge, Memory}
use Rattle.plan_steps.specs.declared.step.Place.{Place}
use Rattle.plan_steps.specs.declared.step.Step.{Step}
use Rattle.rollback_plan.proofs.Splits.{splits_push}
use Rattle.rollback_plan.proofs.draft.Draft.step.Goals as goal

few_more : (ok : Bool) (old new : ℕ) → new ≡ cond ok (old + 1) old → old + 1 ≤ 65536 → new ≤ 65536
few_more true old new e h = omega arith
few_more false old new e h = omega arith

-- after a push that may have failed, each edge leads back
still_back : (ok : Bool) (old new : List Step) (s : Step) → new ≡ cond ok (old ++ s ∷ []) old →
    all_lead_back 0 old ≡ true → leads_back (length old) s ≡ true → all_lead_back 0 new ≡ true
still_back true old new s e h k = ap (all_lead_back 0) e ∙ (all_lead_back-push 0 old s ∙ and_from (all_lead_back 0 old) (leads_back (0 + length old) s) h (ap (λ n. leads_back n s) (zero-add (length old)) ∙ k))
still_back false old new s e h k = ap (all_lead_back 0) e ∙ h

other_error : (r : Result Place DraftRefusal) (n : ℕ) → IsErrAnd r (λ e. e ≡ Memory) → n + 1 ≤ 65536 → IsErrOf r TooLarge ↔ (n ≡ 65536)
other_error (Err e) n same h = (λ (f : IsErrOf {T = Place} (Err e) TooLarge). (cc), λ at. absurd (omega arith))
other_error (Ok x) n none h = absurd none

no_error : (p : Place) (n : ℕ) → n + 1 ≤ 65536 → IsErrOf (Ok p) TooLarge ↔ (n ≡ 65536)
no_error p n h = (λ (f : IsErrOf (Ok p) TooLarge). (cc), λ same. absurd (omega arith))

pub returns-then-place-ge-MOST_STEPS-clause-too_large : goal.returns-then-place-ge-MOST_STEPS-clause-too_large
returns-then-place-ge-MOST_STEPS-clause-too_large c =
    (λ _. omega (arith, length-trees c.args.self.now.steps.items, c.args.self.now.few), λ _. refl)

pub invariant_of-self : goal.invariant_of-self
invariant_of-self c =
    record {
      few = few_more (is_ok c.push.result) _ _ c.push.ensures.len (omega (arith, length-trees c.args.self.now.steps.items));
      back =
          still_back (is_ok c.push.result) c.args.self.now.steps.items c.push.new.self.items c.args.step c.push.ensures.items c.args.self.now.back
          (subst (λ (n : ℕ). leads_back n c.args.step ≡ true) (length-trees c.args.self.now.steps.items) c.requires);
    }

pub returns-in_err-push-clause-too_large : goal.returns-in_err-push-clause-too_large
returns-in_err-push-clause-too_large c = other_error c.from_residual.result _ c.from_residual.ensures.1 (omega (arith, length-trees c.args.self.now.steps.items))

pub returns-clause-place : goal.returns-clause-place
returns-clause-place c = omega (arith, length-trees c.args.self.now.steps.items)

pub returns-clause-ok : goal.returns-clause-ok
returns-clause-ok c = ap (trees_after []) c.in_ok-push.ensures.items ∙ trees_after-push [] c.args.self.now.steps.items c.args.step

pub returns-clause-splits : goal.returns-clause-splits
returns-clause-splits c = λ a b h k. splits_push true a b c.args.self.now.steps.items c.push.new.self.items c.args.step c.in_ok-push.ensures.items h k

pub returns-clause-too_large : goal.returns-clause-too_large
returns-clause-too_large c = no_error _ _ (omega (arith, length-trees c.args.self.now.steps.items))
