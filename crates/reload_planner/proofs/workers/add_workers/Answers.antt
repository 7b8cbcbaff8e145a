use Rattle.std.proofs.Common.{◌≡◌, ℕ, List, length, reverse, take, true, sym, ◌∙◌, ap, subst}
use Rattle.std.proofs.lemmas.Result.{IfOk-weaker}
use Rattle.listener_set.specs.declared.generation.Generation.{Generation}
use Rattle.vocabulary.specs.declared.plans.Side.TheVariants.{Old}
use Rattle.definitions.specs.Master.{Crew}
use Rattle.definitions.specs.Run.{Tree}
use Rattle.definitions.specs.Plans.{settle, starts}
use Rattle.call_laws.specs.Pieces.{quits}
use Rattle.plan_steps.specs.declared.step.Place.{Place}
use Rattle.rollback_plan.specs.Drafts.{tree_at, IsMade, are_places}
use Rattle.rollback_plan.specs.Back.{AreMade}
use Rattle.rollback_plan.proofs.DraftTrees.{made_kept}
use Rattle.plan_pieces.proofs.Places.{made_places}
use Rattle.reload_planner.proofs.workers.add_workers.Goals as goal

pub add_starts-requires-clause-rest : goal.add_starts-requires-clause-rest
add_starts-requires-clause-rest c = (made_kept c.add_each.new.draft c.back.new.self c.in_ok-quitting.quitting _ c.in_ok-ways_back.ensures.keeps c.in_ok-quitting.ensures.made).below

pub add_starts-requires-clause-ways : goal.add_starts-requires-clause-ways
add_starts-requires-clause-ways c =
    subst (λ (places : List Place). are_places c.back.new.self places ≡ true) (sym c.deref.ensures.value) (made_places c.back.new.self c.in_ok-ways_back.ways_back.forked.items _ _ c.in_ok-ways_back.ensures.forked)

pub returns-clause-made : goal.returns-clause-made
returns-clause-made c =
    let s = c.args.scene.now in
    let fresh = c.args.starts.now in
    let surplus = c.args.quits.now in
    let ways = c.in_ok-ways_back.ways_back.forked.items in
    let here = ap (λ (crew : Crew). crew.generation) c.crew.view_is in
    let way = made_kept c.add_each.new.draft c.back.new.self c.in_ok-quitting.quitting _ c.in_ok-ways_back.ensures.keeps c.in_ok-quitting.ensures.made in
    let bad = λ (g : Generation) (forked : List ℕ). quits s.by g forked (settle s.by s.crew s.ready Old s.rounds) in
    let settled = tree_at c.settle.new.self c.in_ok-settled.settled in
    let told : tree_at c.back.new.self c.in_ok-quitting.quitting ≡ quits s.by c.crew.inside.generation (reverse surplus) settled = way.is in
    let quit = told ∙ (ap (λ (g : Generation). quits s.by g (reverse surplus) settled) here ∙ ap (quits s.by s.crew.generation (reverse surplus)) c.in_ok-settled.ensures.made.is) in
    let back = subst (λ (g : Generation). AreMade c.back.new.self ways (length fresh) (λ i. bad g (reverse (take i fresh)))) here c.in_ok-ways_back.ensures.forked in
    IfOk-weaker c.add_starts.result _ _
    (λ place made.
    subst (λ (t : Tree). IsMade c.add_starts.new.draft place (starts s.by s.crew fresh t (bad s.crew.generation))) quit
    (made (bad s.crew.generation) (subst (λ (places : List Place). AreMade c.back.new.self places (length fresh) (λ i. bad s.crew.generation (reverse (take i fresh)))) (sym c.deref.ensures.value) back)))
    c.add_starts.ensures.made
