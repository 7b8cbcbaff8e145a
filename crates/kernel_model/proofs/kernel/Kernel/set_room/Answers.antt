use Rattle.std.proofs.Common.{sym, subst, rules}
use Rattle.kernel_table.specs.Room.{IsKept}
use Rattle.kernel_table.proofs.Names.{KnowsNames-same}
use Rattle.kernel_model.proofs.Room.{sound-grown}
use Rattle.kernel_model.proofs.kernel.Kernel.set_room.Goals as goal

pub invariant_of-self : goal.invariant_of-self
invariant_of-self c = sound-grown c.self.inside.store c.grow.new.self c.self.inside.room c.grow.ensures.same c.grow.ensures.free c.grow.ensures.lone (c.grow.ensures.kept c.self.inside.room) c.self.invariant

pub invariant_of-self-2 : goal.invariant_of-self-2
invariant_of-self-2 c =
    let before = c.self.invariant in
    record {
      room = search rules;
      kept = subst IsKept (sym c.grow.ensures.same) before.kept;
      names = KnowsNames-same c.self.inside.store c.grow.new.self c.grow.ensures.same c.grow.ensures.free before.names c.grow.ensures.lone;
    }
