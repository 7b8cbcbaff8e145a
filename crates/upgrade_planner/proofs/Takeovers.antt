-- The new master's part, in a draft.
use Rattle.std.proofs.Common.{◌≡◌, ℕ, List, [], ◌∷◌, ◌++◌, ◌<◌, length, map, refl, ◌∙◌, ap, subst}
use Rattle.listener_set.specs.declared.generation.Generation.{Generation}
use Rattle.definitions.specs.Table.{Address}
use Rattle.definitions.specs.Calls.{Call, OpenAt, CloseAt, AwaitReady, Adopt}
use Rattle.definitions.specs.Master.{Crew, fork_of}
use Rattle.definitions.specs.Run.{Tree, Ends, JoinReady, JoinBack}
use Rattle.definitions.specs.Plans.{tries, tries_all}
use Rattle.rollback_plan.specs.declared.draft.Draft.{Draft}
use Rattle.plan_steps.specs.declared.step.Place.{Place}
use Rattle.plan_steps.specs.declared.step.Next.{Next}
use Rattle.plan_steps.specs.declared.step.Next.TheVariants.{Over}
use Rattle.plan_steps.specs.Steps.{tree_among}
use Rattle.rollback_plan.specs.Drafts.{trees_of, tree_at, IsMade, LeadsTo, Keeps}
use Rattle.rollback_plan.proofs.DraftTrees.{at_kept}
use Rattle.plan_pieces.proofs.TriedTrees.{tried_on}
use Rattle.upgrade_planner.specs.Trees.{staffing}

-- a part that ends as the new master's does
abbrev pub part : ℕ → List Call → Tree
part by calls = tries_all by calls (Ends JoinReady) (Ends JoinBack)

-- workers are forked and waited for
pub staffed : (by : ℕ) (crew : Crew) (g : Generation) (numbers : List ℕ) (waited new : Draft) (waiting next : Next)
    → g ≡ crew.generation
    → LeadsTo waited waiting (part by (map (AwaitReady g) numbers))
    → LeadsTo new next (tries_all by (map (fork_of crew) numbers) (tree_among 0 (trees_of waited) waiting) (Ends JoinBack))
    → LeadsTo new next (part by (staffing crew numbers))
staffed by crew g numbers waited new waiting next same waits forks =
    let wait = subst (λ (h : Generation). LeadsTo waited waiting (part by (map (AwaitReady h) numbers))) same waits in
    tried_on by (map (AwaitReady crew.generation) numbers) (map (fork_of crew) numbers) waited new waiting (Over JoinBack) next (Ends JoinReady) (Ends JoinBack) refl wait forks

-- a handover is adopted, addresses are closed and opened, and then other calls follow
pub came : (by : ℕ) (calls : List Call) (dropped added : List Address) (set : List ℕ) (manned opened closed new : Draft)
    (manning opening closing : Next) (place : Place)
    → set ≡ []
    → LeadsTo manned manning (part by calls)
    → LeadsTo opened opening (tries_all by (map OpenAt added) (tree_among 0 (trees_of manned) manning) (Ends JoinBack))
    → LeadsTo closed closing (tries_all by (map CloseAt dropped) (tree_among 0 (trees_of opened) opening) (Ends JoinBack))
    → IsMade new place (tries by Adopt set (tree_among 0 (trees_of closed) closing) (Ends JoinBack))
    → IsMade new place (part by (Adopt ∷ (map CloseAt dropped ++ (map OpenAt added ++ calls))))
came by calls dropped added set manned opened closed new manning opening closing place none mans opens closes adopts =
    let open_on = tried_on by calls (map OpenAt added) manned opened manning (Over JoinBack) opening (Ends JoinReady) (Ends JoinBack) refl mans opens in
    let close_on = tried_on by (map OpenAt added ++ calls) (map CloseAt dropped) opened closed opening (Over JoinBack) closing (Ends JoinReady) (Ends JoinBack) refl open_on closes in
    subst (IsMade new place) (ap (λ s. tries by Adopt s (tree_among 0 (trees_of closed) closing) (Ends JoinBack)) none ∙ ap (λ t. tries by Adopt [] t (Ends JoinBack)) close_on.is) adopts

---- Behind both parts

-- a pid is written, where there is one to write, before a count
pub written : (by : ℕ) (calls : List Call) (old counted new : Draft) (counting back place : Place) (rest : Tree) →
    back.0 < length (trees_of old) → Keeps old counted → IsMade counted counting rest
    → IsMade new place (tries_all by calls (tree_at counted counting) (tree_at counted back)) → IsMade new place (tries_all by calls rest (tree_at old back))
written by calls old counted new counting back place rest low keeps counts writes =
    subst (IsMade new place) (ap (λ t. tries_all by calls t (tree_at counted back)) counts.is ∙ ap (tries_all by calls rest) (at_kept old counted back keeps low)) writes
