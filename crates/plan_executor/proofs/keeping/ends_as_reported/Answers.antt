use Rattle.plan_executor.proofs.Enacting.{keeps}
use Rattle.plan_executor.proofs.keeping.ends_as_reported.Goals as goal

pub returns : goal.returns
returns c = keeps c.plans_end_as_reported.ensures c.parts_are_walked.ensures.apart c.args.target.now c.requires c.read_settings.ensures
