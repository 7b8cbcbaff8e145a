use Rattle.std.proofs.Common.{◌≡◌, sym, ap, ◌∙◌}
use Rattle.vocabulary.specs.Settings.{Settings}
use Rattle.definitions.specs.Table.{Generation}
use Rattle.definitions.specs.Calls.{Handover}
use Rattle.definitions.specs.Master.{Record, handover_of}
use Rattle.upgrade_planner.proofs.Handing.{hands-written}
use Rattle.upgrade_planner.proofs.planning.handed.Goals as goal

pub returns : goal.returns
returns c =
    let v = c.state.inside in
    let s = c.settings.inside in
    let r : Record = record { listeners = v.listeners; posts = v.posts; generation = v.generation; ready = v.ready; wanted = v.wanted; retries = v.retries; timeout = v.timeout; pid_path = v.pid_path; note = v.note; pid = v.pid } in
    let said : Settings = record { listeners = s.listeners; workers = s.workers; groups = s.groups; timeout = s.timeout; retries = s.retries; surge = s.surge; pid = s.pid } in
    let told : Generation → Handover = λ g. record { old_pid = r.pid; generation = g; listeners = r.listeners; want = said.listeners; groups = said.groups; pid_file = r.pid_path } in
    hands-written c.write.result (λ text. text.items) _ (handover_of c.args.state.now c.args.settings.now)
    (ap told (c.requires ∙ ap (λ (known : Record). (handover_of known said).generation) (sym c.state.view_is))
    ∙ ap (λ (known : Record). handover_of known said) c.state.view_is
    ∙ ap (λ (settings : Settings). handover_of c.args.state.now settings) c.settings.view_is)
    c.write.ensures.exact c.write.ensures.read_back
