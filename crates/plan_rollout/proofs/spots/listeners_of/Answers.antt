use Rattle.std.proofs.Common.{◌∙◌, sym}
use Rattle.definitions.specs.Master.{fds_in, listeners_under}
use Rattle.plan_rollout.proofs.spots.listeners_of.Goals as goal

pub returns-in-None : goal.returns-in-None
returns-in-None c =
    let given = sym c.in-None.is ∙ c.given_in.ensures ∙ (λ i. fds_in (c.state.view_is i).posts c.args.place) in
    λ i. listeners_under (given i) (c.state.view_is i).listeners

pub returns-in-Some : goal.returns-in-Some
returns-in-Some c =
    let given = sym c.in-Some.is ∙ c.given_in.ensures ∙ (λ i. fds_in (c.state.view_is i).posts c.args.place) in
    c.only.ensures ∙ (λ i. listeners_under (given i) (c.state.view_is i).listeners)
