-- No master has steps in both parts.
use Rattle.std.proofs.Common.{◌≡◌, ◌≢◌, ◌-◌, ℕ, ◌==◌, Bool, true, false, ◌&&◌, not, List, [], ◌∷◌, slice_get, Option}
use Rattle.std.proofs.Common.{Some, refl, sym, ◌∙◌, ap, subst, arith, if◌then◌else◌}
use Rattle.std.proofs.lemmas.Bool.{and_from, and_parts, false≢true}
use Rattle.std.proofs.lemmas.Bool.Decides.{nat_tests}
use Rattle.std.specs.List.{list_all}
use Rattle.definitions.specs.Run.{Tree, Branches, Ends, Does, Nothing, Branch}
use Rattle.vocabulary.specs.declared.plans.Order.{Order}
use Rattle.definitions.specs.Plans.{Turn, New, Old}
use Rattle.plan_steps.specs.declared.parts.Parts.{Parts}
use Rattle.plan_steps.specs.declared.step.Place.{Place}
use Rattle.plan_steps.specs.declared.step.PlanEdge.{PlanEdge}
use Rattle.plan_steps.specs.declared.step.Step.{Step}
use Rattle.plan_steps.specs.declared.step.Next.{Next}
use Rattle.plan_steps.specs.declared.step.Next.TheVariants.{To, Over, Both}
use Rattle.plan_steps.specs.Steps.{trees_from, branches_among, tree_among, tree_behind, tree_here, all_lead_on, is_within}
use Rattle.rollback_plan.specs.declared.cursor.At.{At}
use Rattle.rollback_plan.specs.declared.cursor.At.TheVariants.{Before, Beside, Behind}
use Rattle.rollback_plan.specs.Places.{goes_new, chosen_at, is_at, is_both, tree_at, turn_of, begins, IsEnd}
use Rattle.rollback_plan.specs.Masters.{all_by, all_by_in, are_apart, is_apart, leads_apart, begins_by}
use Rattle.rollback_plan.proofs.PlanTrees.{tree_at_place}
use Rattle.rollback_plan.proofs.CursorTrees.{StandsAt, some_step, goes}

-- what each master that passes one test passes too
mutual
  by_weaker : (p q : ℕ → Bool) → ((image : ℕ) → p image ≡ true → q image ≡ true) → (t : Tree) → all_by p t ≡ true → all_by q t ≡ true
  by_weaker p q le (Ends end) h = refl
  by_weaker p q le (Does by order set branches) h =
      let parts = and_parts (p by) (all_by_in p branches) h in
      and_from (q by) (all_by_in q branches) (le by parts.0) (by_weaker_in p q le branches parts.1)

  by_weaker_in : (p q : ℕ → Bool) → ((image : ℕ) → p image ≡ true → q image ≡ true) → (bs : Branches) → all_by_in p bs ≡ true → all_by_in q bs ≡ true
  by_weaker_in p q le Nothing h = refl
  by_weaker_in p q le (Branch replies said rest more) h =
      let parts = and_parts (all_by p rest) (all_by_in p more) h in
      and_from (all_by q rest) (all_by_in q more) (by_weaker p q le rest parts.0) (by_weaker_in p q le more parts.1)

-- two trees, each of one master, are apart where the masters are two
pub apart_by : (a b : ℕ) (new old : Tree) → a ≢ b → all_by (λ image. image == a) new ≡ true → all_by (λ image. image == b) old ≡ true → are_apart new old ≡ true
apart_by a b new old ne of_a of_b =
    by_weaker (λ image. image == a) (λ image. all_by (λ other. not (image == other)) old) (λ image is. by_weaker (λ other. other == b) (λ other. not (image == other)) (unlike image is) old of_b) new of_a
  where
    unlike : (image : ℕ) → (image == a) ≡ true → (other : ℕ) → (other == b) ≡ true → not (image == other) ≡ true
    unlike image is other it = grind (arith, nat_tests)

-- the first steps of two trees that are apart are two masters'
pub first_apart : (by other : ℕ) (order : Order) (set : List ℕ) (bs : Branches) → all_by (λ it. not (by == it)) (Does other order set bs) ≡ true → by ≢ other
first_apart by other order set bs h is =
    let parts = and_parts (not (by == other)) (all_by_in (λ it. not (by == it)) bs) h in
    let e = parts.0 in
    absurd (grind (arith, nat_tests))

-- the test holds behind each edge
by_edges : (test : ℕ → Bool) (n : ℕ) (trees : List Tree) (edges : List PlanEdge) →
    all_by_in test (branches_among n trees edges) ≡ true →
    list_all (λ e. all_by test (tree_among n trees e.next)) edges ≡ true
by_edges test n trees [] h = refl
by_edges test n trees (e ∷ edges) h =
    let parts = and_parts (all_by test (tree_among n trees e.next)) (all_by_in test (branches_among n trees edges)) h in
    and_from (all_by test (tree_among n trees e.next)) (list_all (λ e. all_by test (tree_among n trees e.next)) edges) parts.0 (by_edges test n trees edges parts.1)

by_edges_of : (new : Tree) (n : ℕ) (trees : List Tree) (edges : List PlanEdge) →
    all_by (λ image. all_by_in (λ other. not (image == other)) (branches_among n trees edges)) new ≡ true →
    list_all (λ e. are_apart new (tree_among n trees e.next)) edges ≡ true
by_edges_of new n trees [] h = refl
by_edges_of new n trees (e ∷ edges) h =
    let t = tree_among n trees e.next in
    let bs = branches_among n trees edges in
    let one = λ (image : ℕ). λ (k : all_by_in (λ other. not (image == other)) (Branch e.replies.now e.note t bs) ≡ true). and_parts (all_by (λ other. not (image == other)) t) (all_by_in (λ other. not (image == other)) bs) k in
    let both : ℕ → Bool = λ image. all_by_in (λ other. not (image == other)) (Branch e.replies.now e.note t bs) in
    and_from (are_apart new t) (list_all (λ e. are_apart new (tree_among n trees e.next)) edges)
    (by_weaker both (λ image. all_by (λ other. not (image == other)) t) (λ image k. (one image k).0) new h)
    (by_edges_of new n trees edges (by_weaker both (λ image. all_by_in (λ other. not (image == other)) bs) (λ image k. (one image k).1) new h))

---- Steps of a plan

all_true : {X : Type 0} (xs : List X) → list_all (λ x. true) xs ≡ true
all_true [] = refl
all_true (x ∷ xs) = all_true xs

-- the tree of the step that stands there
stands_tree : (steps : List Step) (next : Next) (s : Step) → all_lead_on 1 steps ≡ true → StandsAt steps next s → tree_behind steps next ≡ tree_here steps s
stands_tree steps (To place) s on at = tree_at_place steps place.0 s on at
stands_tree steps (Over end) s on at = absurd at
stands_tree steps (Both new old) s on at = absurd at

-- what is left of both parts is apart behind each edge of the next step
pub led_apart : (steps : List Step) (at : At) (turn : Turn) (s : Step) → all_lead_on 1 steps ≡ true →
    StandsAt steps (chosen_at at turn) s → is_apart steps at ≡ true →
    list_all (λ e. leads_apart steps at turn e.next) s.edges.items ≡ true
led_apart steps (Before from) turn s on stands apart = all_true s.edges.items
led_apart steps (Behind from) turn s on stands apart = all_true s.edges.items
led_apart steps (Beside new old) turn s on stands apart =
    elim (goes_new new old turn) as (λ b. StandsAt steps (if b then new else old) s → list_all (λ e. if b then are_apart (tree_behind steps e.next) (tree_behind steps old) else are_apart (tree_behind steps new) (tree_behind steps e.next)) s.edges.items ≡ true) [
      | true ↦ λ here.
          let is = subst (λ (t : Tree). are_apart t (tree_behind steps old) ≡ true) (stands_tree steps new s on here) apart in
          by_edges (λ image. all_by (λ other. not (image == other)) (tree_behind steps old)) 1 (trees_from 1 steps) s.edges.items (and_parts _ (all_by_in _ (branches_among 1 (trees_from 1 steps) s.edges.items)) is).1
      | false ↦ λ here.
          let is = subst (λ (t : Tree). are_apart (tree_behind steps new) t ≡ true) (stands_tree steps old s on here) apart in
          by_edges_of (tree_behind steps new) 1 (trees_from 1 steps) s.edges.items
          (by_weaker (λ image. all_by (λ other. not (image == other)) (tree_here steps s)) (λ image. all_by_in (λ other. not (image == other)) (branches_among 1 (trees_from 1 steps) s.edges.items))
          (λ image k. (and_parts (not (image == s.by)) (all_by_in (λ other. not (image == other)) (branches_among 1 (trees_from 1 steps) s.edges.items)) k).1) (tree_behind steps new) is)
    ] stands

---- Whose turn it is

first_is : (t : Tree) (s : Step) (by : ℕ) → begins t s → begins_by by t → by ≡ s.by
first_is (Ends end) s by first is = absurd is
first_is (Does i order set bs) s by first is = is ∙ sym first.0

-- two steps that stand in both parts are two masters'
two_masters : (steps : List Step) (a b : Place) (x s : Step) → all_lead_on 1 steps ≡ true → StandsAt steps (To a) x →
    StandsAt steps (To b) s → is_apart steps (Beside (To a) (To b)) ≡ true → x.by ≢ s.by
two_masters steps a b x s on there here apart =
    let is = subst (λ (t : Tree). are_apart t (tree_behind steps (To b)) ≡ true) (stands_tree steps (To a) x on there) apart in
    let first = (and_parts (all_by (λ other. not (x.by == other)) (tree_behind steps (To b))) (all_by_in _ (branches_among 1 (trees_from 1 steps) x.edges.items)) is).0 in
    first_apart x.by s.by s.order s.set (branches_among 1 (trees_from 1 steps) s.edges.items) (subst (λ (t : Tree). all_by (λ other. not (x.by == other)) t ≡ true) (stands_tree steps (To b) s on here) first)

-- where the next step is the master's of the old part's step, it is the old one's turn, and else the new one's
pub record IsShownBy (by : ℕ) (s : Step) (turns : List Turn) : Type 0 where
  pub old : by ≡ s.by → turn_of turns ≡ Old
  pub new : by ≢ s.by → turn_of turns ≡ New

news_turn : (steps : List Step) (parts : Option Parts) (a b : Place) (turns : List Turn) (by : ℕ) (x s : Step) →
    all_lead_on 1 steps ≡ true → is_at steps parts (Beside (To a) (To b)) ≡ true →
    is_apart steps (Beside (To a) (To b)) ≡ true → StandsAt steps (To b) x → x.by ≡ s.by →
    begins_by by (tree_at steps parts (Beside (To a) (To b)) turns) → turn_of turns ≡ New → IsShownBy by s turns
news_turn steps parts a b turns by x s on within apart here same begun is =
    let y = some_step steps a (and_parts (is_within steps (To a)) _ within).0 in
    let stands : StandsAt steps (chosen_at (Beside (To a) (To b)) (turn_of turns)) y.0 = subst (λ (t : Turn). StandsAt steps (chosen_at (Beside (To a) (To b)) t) y.0) (sym is) y.1 in
    let own = first_is (tree_at steps parts (Beside (To a) (To b)) turns) y.0 by (goes steps parts (Beside (To a) (To b)) turns y.0 on within stands).first begun in
    record { old = λ its. absurd (two_masters steps a b y.0 x on y.1 here apart (sym own ∙ (its ∙ sym same))); new = λ _. is }

both_goes : (steps : List Step) (parts : Option Parts) (a b : Place) (turns : List Turn) (by : ℕ) (x s : Step) →
    all_lead_on 1 steps ≡ true → is_at steps parts (Beside (To a) (To b)) ≡ true →
    is_apart steps (Beside (To a) (To b)) ≡ true → StandsAt steps (To b) x → x.by ≡ s.by →
    begins_by by (tree_at steps parts (Beside (To a) (To b)) turns) → IsShownBy by s turns
both_goes steps parts a b [] by x s on within apart here same begun = news_turn steps parts a b [] by x s on within apart here same begun refl
both_goes steps parts a b (New ∷ turns) by x s on within apart here same begun = news_turn steps parts a b (New ∷ turns) by x s on within apart here same begun refl
both_goes steps parts a b (Old ∷ turns) by x s on within apart here same begun =
    let own = first_is (tree_at steps parts (Beside (To a) (To b)) (Old ∷ turns)) x by (goes steps parts (Beside (To a) (To b)) (Old ∷ turns) x on within here).first begun in
    record { old = λ _. refl; new = λ other. absurd (other (own ∙ same)) }

same_first : (t : Tree) (x s : Step) → begins t x → begins t s → x.by ≡ s.by
same_first (Ends end) x s one other = absurd one
same_first (Does by order set branches) x s one other = one.0 ∙ sym other.0

pub shown_by : (steps : List Step) (parts : Option Parts) (at : At) (turns : List Turn) (by : ℕ) (s : Step) →
    all_lead_on 1 steps ≡ true → is_at steps parts at ≡ true → is_apart steps at ≡ true →
    begins (tree_at steps parts at (Old ∷ [])) s → begins_by by (tree_at steps parts at turns) → is_both at ≡ true →
    IsShownBy by s turns
shown_by steps parts (Before next) turns by s on within apart olds begun both = absurd (false≢true both)
shown_by steps parts (Behind next) turns by s on within apart olds begun both = absurd (false≢true both)
shown_by steps parts (Beside (Over end) old) turns by s on within apart olds begun both = absurd (false≢true both)
shown_by steps parts (Beside (Both a b) old) turns by s on within apart olds begun both = absurd (false≢true both)
shown_by steps parts (Beside (To a) (Over end)) turns by s on within apart olds begun both = absurd (false≢true both)
shown_by steps parts (Beside (To a) (Both b c)) turns by s on within apart olds begun both = absurd (false≢true both)
shown_by steps parts (Beside (To a) (To b)) turns by s on within apart olds begun both =
    let x = some_step steps b (and_parts (is_within steps (To b)) _ (and_parts (is_within steps (To a)) _ within).1).0 in
    let first = (goes steps parts (Beside (To a) (To b)) (Old ∷ []) x.0 on within x.1).first in
    both_goes steps parts a b turns by x.0 s on within apart x.1 (same_first (tree_at steps parts (Beside (To a) (To b)) (Old ∷ [])) x.0 s first olds) begun

-- an end begins with no step
pub none_begins : (t : Tree) (by : ℕ) → IsEnd t → begins_by by t → ⊥
none_begins (Ends end) by over begun = begun
none_begins (Does i order set branches) by over begun = over
