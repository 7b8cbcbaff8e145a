use Rattle.std.proofs.Common.{ap, subst, sym, refl, arith}
use Rattle.std.specs.Prelude.{IfSome}
use Rattle.definitions.specs.Table.{is_worker}
use Rattle.call_laws.specs.Pieces.{is_any, with_rows}
use Rattle.kernel_rows.specs.declared.edits.Edit.TheVariants.{Kill}
use Rattle.kernel_table.specs.Seen.{seen}
use Rattle.kernel_table.specs.Free.{AreFree}
use Rattle.kernel_table.specs.Lone.{AreLone}
use Rattle.kernel_table.proofs.Free.{AreFree-edited}
use Rattle.kernel_table.proofs.Names.{lone-dropped, row-out}
use Rattle.kernel_table.proofs.store.Store.take_out.Goals as goal

pub returns-clause-table : goal.returns-clause-table
returns-clause-table c =
    let s = c.args.self.now in
    ap (with_rows (seen s)) (row-out s c.args.name c.args.place c.remove.new.self.items c.remove.ensures.items c.requires)

pub returns-clause-room : goal.returns-clause-room
returns-clause-room c =
    let s = c.args.self.now in
    let name = c.args.name in
    let rows = row-out s name c.args.place c.remove.new.self.items c.remove.ensures.items c.requires in
    let any = is_worker is_any name.parent name.generation name.nr in
    record {
      others = refl;
      len = omega (arith, c.remove.ensures.len);
      capacity = c.remove.ensures.capacity;
      names = λ known. record {
        free = subst (AreFree s.free) (sym rows) (AreFree-edited s.free (seen s).rows known.free s.addresses.items (Kill name));
        lone = subst (λ ps. IfSome s.lone (λ l. AreLone l ps)) (sym rows) (lone-dropped s.lone any (seen s).rows known.lone);
      };
    }
