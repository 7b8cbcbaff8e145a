use Rattle.std.proofs.Common.{refl, sym, subst}
use Rattle.kernel_table.specs.Seen.{seen}
use Rattle.kernel_table.specs.Free.{AreFree}
use Rattle.kernel_table.proofs.Free.{AreFree-edited}
use Rattle.kernel_table.proofs.store.Store.edit.Goals as goal

pub returns-clause-room : goal.returns-clause-room
returns-clause-room c =
    let s = c.args.self.now in
    let rows = rw c.deref.ensures.value at c.edit.ensures.rows in
    record {
      others = refl;
      len = c.edit.ensures.len;
      capacity = c.edit.ensures.capacity;
      names = λ known. record { free = subst (AreFree s.free) (sym rows) (AreFree-edited s.free (seen s).rows known.free s.addresses.items c.args.edit.now); lone = tt };
    }
