use Rattle.std.proofs.Common.{length, reverse, take, ap, subst}
use Rattle.std.specs.Prelude.{if◌then◌else◌}
use Rattle.std.proofs.lemmas.Result.{IfOk-weaker}
use Rattle.definitions.specs.Plans.{awaits_gone}
use Rattle.call_laws.specs.Pieces.{quits}
use Rattle.listener_set.specs.declared.generation.Generation.{Generation}
use Rattle.definitions.specs.Master.{Crew}
use Rattle.rollback_plan.specs.Drafts.{tree_at}
use Rattle.rollback_plan.specs.Back.{AreMade}
use Rattle.rollback_plan.proofs.BackTrees.{quits_made}
use Rattle.reload_planner.proofs.back.add_ways.Goals as goal

pub returns-clause-made : goal.returns-clause-made
returns-clause-made c =
    let u = c.args.renewal.now in
    let ks = c.args.numbers.now in
    let back = tree_at c.args.draft.now c.args.back in
    let rest = if c.args.waits then awaits_gone u.by u.new.generation (reverse ks) back else back in
    let here = ap (λ (crew : Crew). crew.generation) c.new.view_is in
    IfOk-weaker c.add_told.result _ _
    (λ ways made.
    subst (λ (g : Generation). AreMade c.add_told.new.draft ways.items (length ks)
    (λ i. quits u.by g (reverse (take i ks)) rest)) here
    (quits_made u.by c.new.inside.generation c.add_told.new.draft ways.items ks _ rest
    c.in_ok-waiting.ensures.made.is made))
    c.add_told.ensures.made
