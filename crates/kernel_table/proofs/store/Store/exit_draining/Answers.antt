use Rattle.std.proofs.Common.{refl, sym, subst}
use Rattle.kernel_table.specs.Seen.{seen}
use Rattle.kernel_table.specs.Free.{AreFree}
use Rattle.kernel_table.proofs.Free.{AreFree-draining}
use Rattle.kernel_table.proofs.store.Store.exit_draining.Goals as goal

pub returns-clause-room : goal.returns-clause-room
returns-clause-room c =
    let s = c.args.self.now in
    let rows = c.exit_draining.ensures.rows s.addresses.items in
    record {
      others = refl;
      len = c.exit_draining.ensures.len;
      capacity = c.exit_draining.ensures.capacity;
      names = λ known. record { free = subst (AreFree s.free) (sym rows) (AreFree-draining s.free (seen s).rows known.free c.args.generation c.args.nr); lone = tt };
    }
