use Rattle.std.proofs.Common.{◌∙◌, ap, sym, map}
use Rattle.vocabulary.specs.declared.table.Listener.{Listener}
use Rattle.listener_set.specs.AddressList.{has}
use Rattle.definitions.specs.Master.{fds_of, listeners_under}
use Rattle.service_state.proofs.Grouped.{listens-has}
use Rattle.service_state.proofs.wanting.is_counted_now.Goals as goal

pub returns-in-None : goal.returns-in-None
returns-in-None c =
    let r = c.args.state.now in
    let a = c.args.address.now in
    let given = sym c.in-None.is ∙ c.given.ensures ∙ (λ i. fds_of (c.state.view_is i).posts c.args.number) in
    c.holds.ensures
    ∙ listens-has c.state.inside.listeners a
    ∙ (λ i. has (map (λ (l : Listener). l.address) (listeners_under (given i) (c.state.view_is i).listeners)) a)

pub returns-in-Some : goal.returns-in-Some
returns-in-Some c =
    let a = c.args.address.now in
    let given = sym c.in-Some.is ∙ c.given.ensures ∙ (λ i. fds_of (c.state.view_is i).posts c.args.number) in
    c.holds-in-Some.ensures
    ∙ listens-has c.only.result a
    ∙ ap (λ ls. has (map (λ (l : Listener). l.address) ls) a) c.only.ensures
    ∙ (λ i. has (map (λ (l : Listener). l.address) (listeners_under (given i) (c.state.view_is i).listeners)) a)
