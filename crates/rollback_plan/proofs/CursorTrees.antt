-- The tree where a cursor stands: the step that it begins with, and where the step's edges lead.
use Rattle.std.proofs.Common.{◌≡◌, ◌-◌, true, false, ◌&&◌, ◌||◌, not, List, [], ◌∷◌, refl, sym, ◌∙◌, ap, subst}
use Rattle.std.proofs.Common.{if◌then◌else◌, Option, None, Some, slice_get, option_map}
use Rattle.std.proofs.lemmas.Bool.{and_parts, false≢true}
use Rattle.vocabulary.specs.declared.calls.Answer.{Answer}
use Rattle.vocabulary.specs.declared.calls.Reply.{Reply}
use Rattle.vocabulary.specs.declared.plans.End.{End}
use Rattle.vocabulary.specs.declared.plans.End.TheVariants.{Done, RolledBack, ShortOld, ShortTarget, Split, JoinReady, JoinBack, Join}
use Rattle.vocabulary.specs.declared.plans.PidNote.{PidNote}
use Rattle.call_laws.specs.Pieces.{branch}
use Rattle.definitions.specs.Run.{Tree, Branches, Ends, Does, reply_of}
use Rattle.rollback_plan.specs.Following.{follow}
use Rattle.definitions.specs.Plans.{Turn, New, Old, graft, graft_all, beside_all, weave, weave_all}
use Rattle.plan_steps.specs.declared.parts.Parts.{Parts}
use Rattle.plan_steps.specs.declared.step.PlanEdge.{PlanEdge}
use Rattle.plan_steps.specs.declared.step.Step.{Step}
use Rattle.plan_steps.specs.declared.step.Place.{Place}
use Rattle.plan_steps.specs.declared.step.Next.{Next}
use Rattle.plan_steps.specs.declared.step.Next.TheVariants.{To, Over, Both}
use Rattle.plan_steps.specs.Steps.{trees_from, branches_among, tree_behind, tree_here, all_lead_on, edge_for, is_within}
use Rattle.plan_steps.specs.Woven.{part_end}
use Rattle.plan_steps.proofs.Woven.{on_rest, graft_branch, weave_branch, beside_branch}
use Rattle.rollback_plan.specs.declared.cursor.At.{At}
use Rattle.rollback_plan.specs.declared.cursor.At.TheVariants.{Before, Beside, Behind}
use Rattle.rollback_plan.specs.Places.{is_step, is_split, is_alone, is_at, is_both, goes_new, without_first, end_behind}
use Rattle.rollback_plan.specs.Places.{joined_in, tree_at, turn_of, left_at, chosen_at, led_at, begins, end_of, IsEnd}
use Rattle.rollback_plan.proofs.PlanTrees.{tree_at_place, follow_here, within_at, some_at}

-- a tree begins with a step, whose edges lead so
pub record HasNext (t : Tree) (s : Step) (after : Next → Tree) : Type 0 where
  pub first : begins t s
  pub leads : (answer : Answer) → follow (Some t) answer ≡ option_map (λ e. (e.note, after e.next)) (edge_for s.edges.items (reply_of s.set answer))

-- the branches of a step in a plan
abbrev pub branches_of : List Step → Step → Branches
branches_of steps s = branches_among 1 (trees_from 1 steps) s.edges.items

rest_mapped : (f : Tree → Tree) (g : Next → Tree) (o : Option PlanEdge) →
    on_rest f (option_map (λ e. (e.note, g e.next)) o) ≡ option_map (λ e. (e.note, f (g e.next))) o
rest_mapped f g None = refl
rest_mapped f g (Some e) = refl

plain : (steps : List Step) (s : Step) → HasNext (tree_here steps s) s (tree_behind steps)
plain steps s = record { first = (refl, refl, refl); leads = follow_here steps s }

never : {X : Type 0} → false ≡ true → X
never e = absurd (false≢true e)

-- a step of which each rest is another
changed : (f : Tree → Tree) (steps : List Step) (s : Step) (bs : Branches) →
    ((r : Reply) → branch bs r ≡ on_rest f (branch (branches_of steps s) r)) →
    HasNext (Does s.by s.order s.set bs) s (λ next. f (tree_behind steps next))
changed f steps s bs is = record {
  first = (refl, refl, refl);
  leads = λ answer. is (reply_of s.set answer) ∙ (ap (on_rest f) (follow_here steps s answer) ∙ rest_mapped f (tree_behind steps) (edge_for s.edges.items (reply_of s.set answer)));
}

-- a step stands there
abbrev pub StandsAt : List Step → Next → Step → Type 0
StandsAt steps (To place) s = slice_get steps (place.0 - 1) ≡ Some s
StandsAt steps (Over end) s = ⊥
StandsAt steps (Both new old) s = ⊥

-- the tree of a step that stands there
tree_there : (steps : List Step) (place : Place) (s : Step) → all_lead_on 1 steps ≡ true →
    slice_get steps (place.0 - 1) ≡ Some s → tree_behind steps (To place) ≡ tree_here steps s
tree_there steps place s on at = tree_at_place steps place.0 s on at

-- some step stands there
pub some_step : (steps : List Step) (place : Place) → is_within steps (To place) ≡ true → (s : Step) × (slice_get steps (place.0 - 1) ≡ Some s)
some_step steps place w = some_at steps (place.0 - 1) (within_at steps (To place) place refl w)

-- ---- both parts

both_new : (steps : List Step) (join : End → Tree) (s x : Step) (turns : List Turn) →
    HasNext (Does s.by s.order s.set (weave_all join (branches_of steps s) turns (tree_here steps x))) s
    (λ next. weave join (tree_behind steps next) turns (tree_here steps x))
both_new steps join s x turns = changed (λ t. weave join t turns (tree_here steps x)) steps s (weave_all join (branches_of steps s) turns (tree_here steps x)) (weave_branch join (branches_of steps s) turns (tree_here steps x))

both_old : (steps : List Step) (join : End → Tree) (x s : Step) (turns : List Turn) →
    HasNext (weave join (tree_here steps x) (Old ∷ turns) (tree_here steps s)) s
    (λ next. weave join (tree_here steps x) turns (tree_behind steps next))
both_old steps join x s turns =
    let goes : List Turn → Tree → Tree = λ later still. Does x.by x.order x.set (weave_all join (branches_of steps x) later still) in
    changed (λ t. weave join (tree_here steps x) turns t) steps s (beside_all goes turns (branches_of steps s)) (beside_branch goes turns (branches_of steps s))

alone_new : (steps : List Step) (join : End → Tree) (s : Step) (turns : List Turn) (end : End) →
    HasNext (weave join (tree_here steps s) turns (Ends end)) s
    (λ next. weave join (tree_behind steps next) turns (Ends end))
alone_new steps join s turns end = changed (λ t. weave join t turns (Ends end)) steps s (weave_all join (branches_of steps s) turns (Ends end)) (weave_branch join (branches_of steps s) turns (Ends end))

alone_old : (steps : List Step) (join : End → Tree) (s : Step) (turns : List Turn) (end : End) →
    HasNext (weave join (Ends end) turns (tree_here steps s)) s
    (λ next. weave join (Ends end) turns (tree_behind steps next))
alone_old steps join s turns end = changed (graft (λ e. join end)) steps s (graft_all (λ e. join end) (branches_of steps s)) (graft_branch (λ e. join end) (branches_of steps s))

-- what follows the next step of a cursor
abbrev pub after_step : List Step → Option Parts → At → List Turn → Next → Tree
after_step steps parts at turns next = led_at steps parts at (turn_of turns) next (left_at at turns)

-- where both go on
beside_goes : (steps : List Step) (parts : Option Parts) (a b : Place) (turns : List Turn) (s : Step) →
    all_lead_on 1 steps ≡ true → is_within steps (To a) ≡ true → is_within steps (To b) ≡ true →
    StandsAt steps (chosen_at (Beside (To a) (To b)) (turn_of turns)) s
    → HasNext (tree_at steps parts (Beside (To a) (To b)) turns) s (after_step steps parts (Beside (To a) (To b)) turns)
beside_goes steps parts a b [] s on wa wb at =
    let join = joined_in steps parts in
    let x = some_step steps b wb in
    subst (λ (t : Tree). HasNext (weave join (tree_behind steps (To a)) [] t) s (λ next. weave join (tree_behind steps next) [] t)) (sym (tree_there steps b x.0 on x.1))
    (subst (λ (t : Tree). HasNext (weave join t [] (tree_here steps x.0)) s (λ next. weave join (tree_behind steps next) [] (tree_here steps x.0))) (sym (tree_there steps a s on at)) (both_new steps join s x.0 []))
beside_goes steps parts a b (New ∷ turns) s on wa wb at =
    let join = joined_in steps parts in
    let x = some_step steps b wb in
    subst (λ (t : Tree). HasNext (weave join (tree_behind steps (To a)) (New ∷ turns) t) s (λ next. weave join (tree_behind steps next) turns t)) (sym (tree_there steps b x.0 on x.1))
    (subst (λ (t : Tree). HasNext (weave join t (New ∷ turns) (tree_here steps x.0)) s (λ next. weave join (tree_behind steps next) turns (tree_here steps x.0))) (sym (tree_there steps a s on at)) (both_new steps join s x.0 turns))
beside_goes steps parts a b (Old ∷ turns) s on wa wb at =
    let join = joined_in steps parts in
    let x = some_step steps a wa in
    subst (λ (t : Tree). HasNext (weave join t (Old ∷ turns) (tree_behind steps (To b))) s (λ next. weave join t turns (tree_behind steps next))) (sym (tree_there steps a x.0 on x.1))
    (subst (λ (t : Tree). HasNext (weave join (tree_here steps x.0) (Old ∷ turns) t) s (λ next. weave join (tree_here steps x.0) turns (tree_behind steps next))) (sym (tree_there steps b s on at)) (both_old steps join x.0 s turns))

-- The step that is next, and where its edges lead.
pub goes : (steps : List Step) (parts : Option Parts) (at : At) (turns : List Turn) (s : Step) →
    all_lead_on 1 steps ≡ true → is_at steps parts at ≡ true → StandsAt steps (chosen_at at (turn_of turns)) s →
    HasNext (tree_at steps parts at turns) s (after_step steps parts at turns)
goes steps None (Before (To p)) turns s on w at = subst (λ (t : Tree). HasNext t s (tree_behind steps)) (sym (tree_there steps p s on at)) (plain steps s)
goes steps (Some q) (Before (To p)) turns s on w at =
    let onward = part_end (tree_behind steps (To q.ready)) (tree_behind steps (To q.back)) (tree_behind steps (To q.new)) (tree_behind steps (To q.old)) turns in
    subst (λ (t : Tree). HasNext (graft onward t) s (λ next. graft onward (tree_behind steps next))) (sym (tree_there steps p s on at))
    (changed (graft onward) steps s (graft_all onward (branches_of steps s)) (graft_branch onward (branches_of steps s)))
goes steps parts (Before (Over end)) turns s on w at = absurd at
goes steps parts (Before (Both new old)) turns s on w at = absurd at
goes steps parts (Behind (To p)) turns s on w at = subst (λ (t : Tree). HasNext t s (tree_behind steps)) (sym (tree_there steps p s on at)) (plain steps s)
goes steps parts (Behind (Over end)) turns s on w at = absurd at
goes steps parts (Behind (Both new old)) turns s on w at = absurd at
goes steps parts (Beside (To a) (To b)) turns s on w at =
    let one = and_parts (is_within steps (To a)) (is_within steps (To b) && true) w in
    beside_goes steps parts a b turns s on one.0 (and_parts (is_within steps (To b)) true one.1).0 at
goes steps parts (Beside (To a) (Over end)) turns s on w at =
    let join = joined_in steps parts in
    subst (λ (t : Tree). HasNext (weave join t turns (Ends end)) s (λ next. weave join (tree_behind steps next) turns (Ends end))) (sym (tree_there steps a s on at)) (alone_new steps join s turns end)
goes steps parts (Beside (To a) (Both new old)) turns s on w at =
    let join = joined_in steps parts in
    subst (λ (t : Tree). HasNext (weave join t turns (Ends Split)) s (λ next. weave join (tree_behind steps next) turns (Ends Split))) (sym (tree_there steps a s on at)) (alone_new steps join s turns Split)
goes steps parts (Beside (Over end) (To b)) turns s on w at =
    let join = joined_in steps parts in
    subst (λ (t : Tree). HasNext (weave join (Ends end) turns t) s (λ next. weave join (Ends end) turns (tree_behind steps next))) (sym (tree_there steps b s on at)) (alone_old steps join s turns end)
goes steps parts (Beside (Both new old) (To b)) turns s on w at =
    let join = joined_in steps parts in
    subst (λ (t : Tree). HasNext (weave join (Ends Split) turns t) s (λ next. weave join (Ends Split) turns (tree_behind steps next))) (sym (tree_there steps b s on at)) (alone_old steps join s turns Split)
goes steps parts (Beside (Over end) (Over other)) turns s on w at = absurd at
goes steps parts (Beside (Over end) (Both new old)) turns s on w at = absurd at
goes steps parts (Beside (Both new old) (Over end)) turns s on w at = absurd at
goes steps parts (Beside (Both new old) (Both newer older)) turns s on w at = absurd at

-- a turn makes a difference only where both parts go on
pub same_chosen : (at : At) (t u : Turn) → (is_both at ≡ true → t ≡ u) → chosen_at at t ≡ chosen_at at u
same_chosen (Before next) t u same = refl
same_chosen (Behind next) t u same = refl
same_chosen (Beside (To a) (To b)) t u same = ap (λ (x : Turn). chosen_at (Beside (To a) (To b)) x) (same refl)
same_chosen (Beside (To a) (Over end)) t u same = refl
same_chosen (Beside (To a) (Both new old)) t u same = refl
same_chosen (Beside (Over end) old) t u same = refl
same_chosen (Beside (Both a b) old) t u same = refl

pub same_led : (steps : List Step) (parts : Option Parts) (at : At) (t u : Turn) (next : Next) (turns : List Turn) →
    (is_both at ≡ true → t ≡ u) → led_at steps parts at t next turns ≡ led_at steps parts at u next turns
same_led steps parts (Before from) t u next turns same = refl
same_led steps parts (Behind from) t u next turns same = refl
same_led steps parts (Beside (To a) (To b)) t u next turns same = ap (λ (x : Turn). led_at steps parts (Beside (To a) (To b)) x next turns) (same refl)
same_led steps parts (Beside (To a) (Over end)) t u next turns same = refl
same_led steps parts (Beside (To a) (Both new old)) t u next turns same = refl
same_led steps parts (Beside (Over end) old) t u next turns same = refl
same_led steps parts (Beside (Both a b) old) t u next turns same = refl

-- The step that is next at a turn, and where its edges lead at it.
pub goes_at : (steps : List Step) (parts : Option Parts) (at : At) (turn : Turn) (turns : List Turn) (s : Step) →
    all_lead_on 1 steps ≡ true → is_at steps parts at ≡ true → (is_both at ≡ true → turn_of turns ≡ turn) →
    StandsAt steps (chosen_at at turn) s
    → HasNext (tree_at steps parts at turns) s (λ next. led_at steps parts at turn next (left_at at turns))
goes_at steps parts at turn turns s on w same stands =
    let there = goes steps parts at turns s on w (subst (λ (n : Next). StandsAt steps n s) (sym (same_chosen at (turn_of turns) turn same)) stands) in
    record { first = there.first; leads = λ answer. there.leads answer ∙ alike (edge_for s.edges.items (reply_of s.set answer)) }
  where
    alike : (o : Option PlanEdge) →
        option_map {U = Option PidNote × Tree}
        (λ e. (e.note, led_at steps parts at (turn_of turns) e.next (left_at at turns))) o
        ≡ option_map {U = Option PidNote × Tree} (λ e. (e.note, led_at steps parts at turn e.next (left_at at turns))) o
    alike None = refl
    alike (Some e) = ap (λ t. Some (e.note, t)) (same_led steps parts at (turn_of turns) turn e.next (left_at at turns) same)

-- before any turns that are left stand others, of which the first is the turn
pub earlier : (at : At) (turn : Turn) (turns : List Turn) → (before : List Turn) × (is_both at ≡ true → turn_of before ≡ turn) × (left_at at before ≡ turns)
earlier at turn turns =
    elim (is_both at) as (λ b. (before : List Turn) × (b ≡ true → turn_of before ≡ turn) × ((if b then without_first before else before) ≡ turns)) [
      | true ↦ (turn ∷ turns, λ _. refl, refl)
      | false ↦ (turns, λ e. never e, refl)
    ]

-- it stands at a place of the steps
pub chosen_within : (steps : List Step) (parts : Option Parts) (at : At) (turn : Turn) → is_at steps parts at ≡ true →
    is_within steps (chosen_at at turn) ≡ true
chosen_within steps parts (Before next) turn w = (and_parts (is_within steps next) _ w).0
chosen_within steps parts (Behind next) turn w = w
chosen_within steps parts (Beside new old) turn w =
    let one = and_parts (is_within steps new) (is_within steps old && (is_step new || is_step old)) w in
    elim (goes_new new old turn) as (λ b. is_within steps (if b then new else old) ≡ true) [
      | true ↦ one.0
      | false ↦ (and_parts (is_within steps old) (is_step new || is_step old) one.1).0
    ]

-- ---- ends

-- an end before the parts is none where they begin
alone_or : (steps : List Step) (next : Next) (parts : Option Parts) → is_at steps parts (Before next) ≡ true → (is_alone parts || not (is_split next)) ≡ true
alone_or steps next parts w = (and_parts (is_within steps next) (is_alone parts || not (is_split next)) w).1

-- what stands where a cursor stands, if it is an end
pub ends : (steps : List Step) (parts : Option Parts) (at : At) (turn : Turn) (turns : List Turn) →
    is_at steps parts at ≡ true → is_step (chosen_at at turn) ≡ false → IsEnd (tree_at steps parts at turns)
ends steps None (Before (Over end)) turn turns w stop = tt
ends steps None (Before (Both new old)) turn turns w stop = tt
ends steps (Some q) (Before (Over Done)) turn turns w stop = tt
ends steps (Some q) (Before (Over RolledBack)) turn turns w stop = tt
ends steps (Some q) (Before (Over ShortOld)) turn turns w stop = tt
ends steps (Some q) (Before (Over ShortTarget)) turn turns w stop = tt
ends steps (Some q) (Before (Over Split)) turn turns w stop = never (alone_or steps (Over Split) (Some q) w)
ends steps (Some q) (Before (Over JoinReady)) turn turns w stop = tt
ends steps (Some q) (Before (Over JoinBack)) turn turns w stop = tt
ends steps (Some q) (Before (Over Join)) turn turns w stop = tt
ends steps (Some q) (Before (Both new old)) turn turns w stop = never (alone_or steps (Both new old) (Some q) w)
ends steps parts (Before (To p)) turn turns w stop = never (sym stop)
ends steps parts (Behind (Over end)) turn turns w stop = tt
ends steps parts (Behind (Both new old)) turn turns w stop = tt
ends steps parts (Behind (To p)) turn turns w stop = never (sym stop)
ends steps parts (Beside (To a) (To b)) New turns w stop = never (sym stop)
ends steps parts (Beside (To a) (To b)) Old turns w stop = never (sym stop)
ends steps parts (Beside (To a) (Over end)) turn turns w stop = never (sym stop)
ends steps parts (Beside (To a) (Both new old)) turn turns w stop = never (sym stop)
ends steps parts (Beside (Over end) (To b)) turn turns w stop = never (sym stop)
ends steps parts (Beside (Both new old) (To b)) turn turns w stop = never (sym stop)
ends steps parts (Beside (Over end) (Over other)) turn turns w stop = never w
ends steps parts (Beside (Over end) (Both new old)) turn turns w stop = never w
ends steps parts (Beside (Both new old) (Over end)) turn turns w stop = never w
ends steps parts (Beside (Both new old) (Both newer older)) turn turns w stop = never w

-- a step is no end
no_end : (t : Tree) (s : Step) → begins t s → end_of t ≡ None
no_end (Ends end) s h = absurd h
no_end (Does by order set branches) s h = refl

-- the end where a cursor stands, by where it stands
abbrev pub end_there : At → Option End
end_there (Before next) = end_behind next
end_there (Beside new old) = None
end_there (Behind next) = end_behind next

goes_on : (steps : List Step) (parts : Option Parts) (at : At) (turns : List Turn) (p : Place) →
    all_lead_on 1 steps ≡ true → is_at steps parts at ≡ true → is_within steps (To p) ≡ true →
    ((s : Step) → slice_get steps (p.0 - 1) ≡ Some s → StandsAt steps (chosen_at at (turn_of turns)) s) →
    None ≡ end_of (tree_at steps parts at turns)
goes_on steps parts at turns p on w wp stands =
    let x = some_step steps p wp in
    sym (no_end (tree_at steps parts at turns) x.0 (goes steps parts at turns x.0 on w (stands x.0 x.1)).first)

pub end_is : (steps : List Step) (parts : Option Parts) (at : At) (turns : List Turn) → all_lead_on 1 steps ≡ true →
    is_at steps parts at ≡ true → end_there at ≡ end_of (tree_at steps parts at turns)
end_is steps parts (Before (To p)) turns on w = goes_on steps parts (Before (To p)) turns p on w (and_parts (is_within steps (To p)) _ w).0 (λ s at. at)
end_is steps None (Before (Over end)) turns on w = refl
end_is steps None (Before (Both new old)) turns on w = refl
end_is steps (Some q) (Before (Over Done)) turns on w = refl
end_is steps (Some q) (Before (Over RolledBack)) turns on w = refl
end_is steps (Some q) (Before (Over ShortOld)) turns on w = refl
end_is steps (Some q) (Before (Over ShortTarget)) turns on w = refl
end_is steps (Some q) (Before (Over Split)) turns on w = never (alone_or steps (Over Split) (Some q) w)
end_is steps (Some q) (Before (Over JoinReady)) turns on w = refl
end_is steps (Some q) (Before (Over JoinBack)) turns on w = refl
end_is steps (Some q) (Before (Over Join)) turns on w = refl
end_is steps (Some q) (Before (Both new old)) turns on w = never (alone_or steps (Both new old) (Some q) w)
end_is steps parts (Behind (To p)) turns on w = goes_on steps parts (Behind (To p)) turns p on w w (λ s at. at)
end_is steps parts (Behind (Over end)) turns on w = refl
end_is steps parts (Behind (Both new old)) turns on w = refl
end_is steps parts (Beside (To a) (To b)) [] on w = goes_on steps parts (Beside (To a) (To b)) [] a on w (and_parts (is_within steps (To a)) _ w).0 (λ s at. at)
end_is steps parts (Beside (To a) (To b)) (New ∷ turns) on w = goes_on steps parts (Beside (To a) (To b)) (New ∷ turns) a on w (and_parts (is_within steps (To a)) _ w).0 (λ s at. at)
end_is steps parts (Beside (To a) (To b)) (Old ∷ turns) on w =
    goes_on steps parts (Beside (To a) (To b)) (Old ∷ turns) b on w (and_parts (is_within steps (To b)) _ (and_parts (is_within steps (To a)) _ w).1).0 (λ s at. at)
end_is steps parts (Beside (To a) (Over end)) turns on w = goes_on steps parts (Beside (To a) (Over end)) turns a on w (and_parts (is_within steps (To a)) _ w).0 (λ s at. at)
end_is steps parts (Beside (To a) (Both new old)) turns on w = goes_on steps parts (Beside (To a) (Both new old)) turns a on w (and_parts (is_within steps (To a)) _ w).0 (λ s at. at)
end_is steps parts (Beside (Over end) (To b)) turns on w = goes_on steps parts (Beside (Over end) (To b)) turns b on w (and_parts (is_within steps (To b)) _ w).0 (λ s at. at)
end_is steps parts (Beside (Both new old) (To b)) turns on w = goes_on steps parts (Beside (Both new old) (To b)) turns b on w (and_parts (is_within steps (To b)) _ w).0 (λ s at. at)
end_is steps parts (Beside (Over end) (Over other)) turns on w = never w
end_is steps parts (Beside (Over end) (Both new old)) turns on w = never w
end_is steps parts (Beside (Both new old) (Over end)) turns on w = never w
end_is steps parts (Beside (Both new old) (Both newer older)) turns on w = never w
