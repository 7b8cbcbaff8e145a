use Rattle.std.proofs.Common.{◌≡◌, [], ◌∷◌, inr, sym, ◌∙◌, ap, subst}
use Rattle.std.proofs.lemmas.Result.{IfErr-weaker}
use Rattle.definitions.specs.Claims.{heirs_of}
use Rattle.kernel_model.specs.Pattern.{moment_at}
use Rattle.kernel_model.specs.State.{State}
use Rattle.plan_executor.specs.Refusals.{IsRefused}
use Rattle.plan_executor.proofs.Refused.{unrefused}
use Rattle.plan_executor.proofs.trial.spare.Goals as goal

pub returns-then-not-names_master-clause-spared : goal.returns-then-not-names_master-clause-spared
returns-then-not-names_master-clause-spared c =
    unrefused (c.args.state.now.generation.image ∷ []) (heirs_of c.args.state.now c.args.target.now) c.args.section.now.pattern 0 _ (sym c.names_master.ensures ∙ c.if-not-names_master.true)

pub returns-clause-refused : goal.returns-clause-refused
returns-clause-refused c =
    let same : c.in_ok-copy.copy.table ≡ c.args.kernel.now.table = ap (λ (s : State). s.table) c.in_ok-copy.ensures.same in
    IfErr-weaker c.spare_on.result _ _ (λ why is. inr (subst (λ t. IsRefused t c.args.state.now c.args.target.now c.args.section.now.turns (moment_at c.args.section.now.pattern) why) same is)) c.spare_on.ensures.refused
