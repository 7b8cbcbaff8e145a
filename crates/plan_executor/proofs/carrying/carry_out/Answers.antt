use Rattle.std.proofs.Common.{◌≡◌, ◌+◌, length, ◌∙◌}
use Rattle.call_laws.specs.Lengths.{plan_length}
use Rattle.kernel_model.specs.Pattern.{moment_at}
use Rattle.plan_executor.proofs.Enacting.{made, enacted}
use Rattle.plan_executor.proofs.carrying.carry_out.Goals as goal

pub returns : goal.returns
returns c =
    let r = c.args.state.now in
    let target = c.args.target.now in
    let turns = c.args.section.now.turns in
    let pattern = moment_at c.args.section.now.pattern in
    let plan = c.args.prepared.plan in
    let entries = c.run-report.new.log.entries in
    let last = c.run-report.new.kernel in
    let runs = made r target plan turns pattern c.args.kernel.now.table last.table entries c.run-report.result c.requires.ready.planned c.run-report.ensures.path_law c.run-report.ensures.replays in
    let room : last.room + length entries ≡ plan_length r target = c.run-report.ensures.room_left ∙ c.requires.ready.room in
    enacted c.args.kernel.now last r target turns pattern plan c.args.prepared.log
    (record { log = c.run-report.new.log; report = c.run-report.result; after = c.record_left-after.result })
    c.requires.ready c.ends_as_reported.ensures runs room c.requires.spared c.record_left-after.ensures
