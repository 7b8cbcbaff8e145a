use Rattle.std.proofs.Common.{ap, sym, ◌∙◌}
use Rattle.definitions.specs.Claims.{names_any}
use Rattle.plan_executor.specs.Naming.{listed}
use Rattle.plan_executor.proofs.Refused.{names_any-list_any, nobody}
use Rattle.plan_executor.proofs.naming.names_master.Goals as goal

pub returns-in-Some : goal.returns-in-Some
returns-in-Some c =
    c.names_image.ensures ∙ (names_any-list_any c.in-Some.image c.args.exits.now ∙ ap (λ image. names_any (listed image) c.args.exits.now) (sym c.in-Some.is))

pub returns-in-None : goal.returns-in-None
returns-in-None c = sym (ap (λ image. names_any (listed image) c.args.exits.now) c.in-None.is ∙ nobody c.args.exits.now)
