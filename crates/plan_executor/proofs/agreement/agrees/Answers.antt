use Rattle.std.proofs.Common.{◌≡◌, ◌∙◌, ap, subst, map, IsTrue}
use Rattle.std.specs.Prelude.{◌↔◌}
use Rattle.definitions.specs.Master.{Record, Agrees}
use Rattle.listener_set.specs.Numbers.{RisesFrom}
use Rattle.vocabulary.specs.declared.table.Listener.{Listener}
use Rattle.plan_executor.proofs.Descriptors.{rises}
use Rattle.plan_executor.proofs.agreement.agrees.Goals as goal

pub returns-clause-agrees : goal.returns-clause-agrees
returns-clause-agrees c =
    let r = c.state.inside in
    let at = c.state.view_is in
    let crew = c.crew.ensures in
    let listeners = c.as_slice.ensures.items ∙ ap (λ (x : Record). x.listeners) at in
    let same : record { listeners = c.as_slice.result.now; posts = c.crew.result.posts; generation = c.crew.result.generation; ready = r.ready; wanted = r.wanted; retries = r.retries; timeout = r.timeout; pid_path = r.pid_path; note = r.note; pid = r.pid } ≡ c.args.state.now =
    (λ i. record { listeners = listeners i; posts = (crew i).posts; generation = (crew i).generation; ready = (at i).ready; wanted = (at i).wanted; retries = (at i).retries; timeout = (at i).timeout; pid_path = (at i).pid_path; note = (at i).note; pid = (at i).pid }) in
    subst (λ (x : Record). IsTrue c.agrees_with.result ↔ Agrees c.args.kernel.now.table x) same (c.agrees_with.ensures r.wanted r.retries r.timeout)

pub returns-clause-descriptors : goal.returns-clause-descriptors
returns-clause-descriptors c =
    subst (λ (r : Record). RisesFrom 3 (map (λ (l : Listener). l.descriptor) r.listeners)) c.state.view_is (rises 3 c.state.inside.listeners c.as_slice.ensures.listed)
