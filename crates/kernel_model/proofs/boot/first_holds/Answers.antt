use Rattle.std.proofs.Common.{sym, ◌∙◌, arith}
use Rattle.kernel_model.proofs.Booting.{first_pairs-none, first_pairs-put}
use Rattle.kernel_model.proofs.boot.first_holds.Goals as goal

pub loop-socket-init : goal.loop-socket-init
loop-socket-init c = c.new-holds.ensures ∙ sym first_pairs-none

pub loop-socket-preserved : goal.loop-socket-preserved
loop-socket-preserved c =
    first_pairs-put c.put.result c.loop-socket.holds c.put.new.self c.loop-socket.socket (omega arith) c.loop-socket.invariant c.put.ensures.lowest c.put.ensures.after c.put.ensures.full.0
