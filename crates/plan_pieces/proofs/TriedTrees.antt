-- What a new master tries is built.
use Rattle.std.proofs.Common.{◌≡◌, ℕ, ◌+◌, true, List, [], ◌∷◌, ◌++◌, length, drop, Some, slice_get, refl, sym, ◌∙◌, ap, subst}
use Rattle.definitions.specs.Calls.{Call}
use Rattle.definitions.specs.Run.{Tree}
use Rattle.definitions.specs.Plans.{tries, tries_all}
use Rattle.rollback_plan.specs.declared.draft.Draft.{Draft}
use Rattle.plan_steps.specs.declared.step.Place.{Place}
use Rattle.plan_steps.specs.declared.step.Next.{Next}
use Rattle.plan_steps.specs.declared.step.Next.TheVariants.{To}
use Rattle.plan_steps.specs.Steps.{tree_among}
use Rattle.rollback_plan.specs.Drafts.{trees_of, is_plain, IsMade, LeadsTo, Keeps}
use Rattle.rollback_plan.proofs.DraftTrees.{plain_below, tree_kept, leads_to}
use Rattle.rollback_plan.proofs.Lists.{drop_at}

-- the tree to which an edge leads in a draft
abbrev behind : Draft → Next → Tree
behind d next = tree_among 0 (trees_of d) next

-- one call more is tried, in a draft
pub tried_more : (by : ℕ) (calls : List Call) (i : ℕ) (call : Call) (old mid new : Draft) (rest back next : Next) (place : Place) (set : List ℕ)
    → slice_get calls i ≡ Some call → set ≡ [] → Keeps old mid → is_plain (length (trees_of old)) back ≡ true
    → LeadsTo mid next (tries_all by (drop (i + 1) calls) (behind old rest) (behind old back))
    → IsMade new place (tries by call set (behind mid next) (behind mid back))
    → LeadsTo new (To place) (tries_all by (drop i calls) (behind old rest) (behind old back))
tried_more by calls i call old mid new rest back next place set at none keeps there before made =
    let ok = behind old rest in
    let bad = behind old back in
    let is = ap (λ s. tries by call s (behind mid next) (behind mid back)) none
    ∙ (ap (λ t. tries by call [] t (behind mid back)) before.is
    ∙ (ap (λ t. tries by call [] (tries_all by (drop (i + 1) calls) ok bad) t) (tree_kept old mid back keeps (plain_below (length (trees_of old)) back there))
    ∙ ap (λ cs. tries_all by cs ok bad) (sym (drop_at calls i call at)))) in
    leads_to new place (tries_all by (drop i calls) ok bad) (subst (IsMade new place) is made)

---- One list of calls after another

tries_all-append : (by : ℕ) (calls more : List Call) (rest back : Tree) →
    tries_all by (calls ++ more) rest back ≡ tries_all by calls (tries_all by more rest back) back
tries_all-append by [] more rest back = refl
tries_all-append by (call ∷ calls) more rest back = ap (λ t. tries by call [] t back) (tries_all-append by calls more rest back)

-- calls before others
pub tried_on : (by : ℕ) (calls first : List Call) (mid new : Draft) (next back place : Next) (rest bad : Tree) →
    behind mid back ≡ bad → LeadsTo mid next (tries_all by calls rest bad)
    → LeadsTo new place (tries_all by first (behind mid next) (behind mid back)) → LeadsTo new place (tries_all by (first ++ calls) rest bad)
tried_on by calls first mid new next back place rest bad same made more =
    subst (LeadsTo new place)
    (ap (λ t. tries_all by first t (behind mid back)) made.is ∙ (ap (tries_all by first (tries_all by calls rest bad)) same ∙ sym (tries_all-append by first calls rest bad))) more
