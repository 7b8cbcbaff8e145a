use Rattle.std.proofs.Common.{◌≡◌, None, Some, [], ◌∷◌, sym, ◌∙◌, ap, subst, rules}
use Rattle.definitions.specs.Claims.{refused_among}
use Rattle.kernel_model.specs.Pattern.{moment_at}
use Rattle.kernel_model.specs.Room.{LacksNumbers}
use Rattle.plan_executor.specs.Naming.{listed}
use Rattle.plan_executor.proofs.Enacting.{IsMade, made, found-is}
use Rattle.plan_executor.proofs.trial.spare_on.Goals as goal
use Rattle.plan_executor.proofs.trial.spare_on.Goals.{After-heir_of-heir}

-- what was tried
tried : (c : After-heir_of-heir) →
    IsMade c.args.copy.now.table c.args.state.now c.args.target.now c.args.section.now.turns
    (moment_at c.args.section.now.pattern) c.run.new.log.entries c.run.new.kernel.table c.run.result
tried c =
    made c.args.state.now c.args.target.now c.args.plan.now c.args.section.now.turns (moment_at c.args.section.now.pattern) c.args.copy.now.table c.run.new.kernel.table c.run.new.log.entries c.run.result
    c.requires.plan c.run.ensures.path_law c.run.ensures.replays

pub returns-in-None-clause-spared : goal.returns-in-None-clause-spared
returns-in-None-clause-spared c =
    let r = c.args.state.now in
    let target = c.args.target.now in
    let turns = c.args.section.now.turns in
    let pattern = moment_at c.args.section.now.pattern in
    let entries = c.run.new.log.entries in
    let none : refused_among (r.generation.image ∷ []) (listed c.heir_of-heir.result) pattern 0 entries ≡ None = search rules in
    found-is r target turns pattern c.args.copy.now.table c.run.new.kernel.table entries c.run.result None (tried (goal.at.returns-in-None-clause-spared c).After-heir_of-heir)
    (ap (λ images. refused_among (r.generation.image ∷ []) images pattern 0 entries) (sym c.heir_of-heir.ensures) ∙ none)

pub returns-in-Some-clause-refused : goal.returns-in-Some-clause-refused
returns-in-Some-clause-refused c =
    let r = c.args.state.now in
    let target = c.args.target.now in
    let turns = c.args.section.now.turns in
    let pattern = moment_at c.args.section.now.pattern in
    let entries = c.run.new.log.entries in
    let found : refused_among (r.generation.image ∷ []) (listed c.heir_of-heir.result) pattern 0 entries ≡ Some c.in-Some.moment = search rules in
    record {
      agrees = c.requires.agrees;
      has_plan = c.requires.plan.has_plan;
      numbers = subst (λ n. LacksNumbers c.args.copy.now.table n → ⊥) c.requires.plan.longest c.requires.numbers;
      first =
          found-is r target turns pattern c.args.copy.now.table c.run.new.kernel.table entries c.run.result (Some c.in-Some.moment) (tried (goal.at.returns-in-Some-clause-refused c).After-heir_of-heir)
          (ap (λ images. refused_among (r.generation.image ∷ []) images pattern 0 entries) (sym c.heir_of-heir.ensures) ∙ found);
    }
