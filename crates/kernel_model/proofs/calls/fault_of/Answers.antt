use Rattle.kernel_rows.specs.Seen.{seen_caller}
use Rattle.kernel_table.specs.Seen.{seen}
use Rattle.kernel_model.proofs.calls.fault_of.Goals as goal

pub returns-in-OpenAt : goal.returns-in-OpenAt
returns-in-OpenAt c = rw c.in-OpenAt.is (c.open_fault.ensures (seen_caller c.args.store.now.addresses.items c.args.caller.now) c.in-OpenAt.field-0 (seen c.args.store.now))

pub returns-in-Late : goal.returns-in-Late
returns-in-Late c = rw (c.in-AwaitReady.is, c.in-Late.is) c.late.ensures

pub returns-in-Late-fate : goal.returns-in-Late-fate
returns-in-Late-fate c = rw (c.in-AwaitGone.is, c.in-Late-fate.is) c.late-in-Late-fate.ensures

pub returns-in-SpawnMaster : goal.returns-in-SpawnMaster
returns-in-SpawnMaster c = rw c.in-SpawnMaster.is (c.spawn_fault.ensures (seen_caller c.args.store.now.addresses.items c.args.caller.now) c.in-SpawnMaster.field-0 (seen c.args.store.now))
