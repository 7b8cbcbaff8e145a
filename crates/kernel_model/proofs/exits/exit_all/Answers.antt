use Rattle.std.proofs.Common.{◌∙◌}
use Rattle.kernel_table.specs.Seen.{seen}
use Rattle.kernel_model.proofs.ExitLoop.{table-turn, kept-turn, EditsRows-then}
use Rattle.kernel_model.proofs.exits.exit_all.Goals as goal

pub loop-name-preserved : goal.loop-name-preserved
loop-name-preserved c =
    let turn = c.exit.ensures in
    let before = c.loop-name.invariant in
    record {
      table = table-turn c.args.names.now c.loop-name.name-index _ (seen c.loop-name.store) (seen c.exit.new.store) turn.table c.loop-name-test.true ∙ before.table;
      kept = kept-turn c.args.names.now c.loop-name.name-index _ (seen c.loop-name.store) (seen c.exit.new.store) turn.table before.kept;
      room = EditsRows-then c.args.store.now c.loop-name.store c.exit.new.store before.room turn.room;
    }
