use Rattle.std.proofs.Common.{rules, sym, subst}
use Rattle.kernel_table.specs.Room.{IsKept}
use Rattle.kernel_table.proofs.Names.{KnowsNames-copied}
use Rattle.kernel_model.proofs.kernel.Kernel.copy.Goals as goal

pub invariant_of-result : goal.invariant_of-result
invariant_of-result c =
    let before = c.self.invariant in
    record {
      room = search rules;
      kept = subst IsKept (sym c.in-Ok.ensures.same) before.kept;
      names = KnowsNames-copied c.self.inside.store c.in-Ok.store c.in-Ok.ensures.same c.in-Ok.ensures.free before.names c.in-Ok.ensures.lone;
    }
