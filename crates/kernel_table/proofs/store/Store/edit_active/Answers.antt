use Rattle.std.proofs.Common.{sym, ap, subst, ◌∙◌, refl, []}
use Rattle.definitions.specs.Table.{is_active, is_worker}
use Rattle.call_laws.specs.Pieces.{with_rows}
use Rattle.kernel_rows.specs.declared.process.Holder.{Holder}
use Rattle.kernel_rows.specs.declared.process.Row.TheVariants.{Foreign}
use Rattle.kernel_rows.specs.Seen.{seen_holder}
use Rattle.kernel_table.specs.Seen.{seen}
use Rattle.kernel_rows.proofs.Lists.{list_any-map}
use Rattle.kernel_table.specs.Free.{AreFree}
use Rattle.kernel_rows.proofs.Lone.{any-at, edited-none}
use Rattle.kernel_table.proofs.Free.{AreFree-edited}
use Rattle.kernel_table.proofs.store.Store.edit_active.Goals as goal

pub returns-in_default-clause-table : goal.returns-in_default-clause-table
returns-in_default-clause-table c =
    let s = c.args.self.now in
    let name = c.args.name in
    let active = is_worker is_active name.parent name.generation name.nr in
    let none = c.in_default.ensures.none refl s.addresses.items in
    ap (with_rows (seen s)) (sym (edited-none s.addresses.items name c.args.edit.now c.requires.edit (seen s).rows none))

pub change_at-requires-clause-alone : goal.change_at-requires-clause-alone
change_at-requires-clause-alone c =
    let name = c.args.name in
    rw c.deref.ensures.value (c.requires.kept.formed.once name.parent name.generation name.nr)

pub returns-clause-found : goal.returns-clause-found
returns-clause-found c =
    let s = c.args.self.now in
    let name = c.args.name in
    let active = is_worker is_active name.parent name.generation name.nr in
    let d : Holder = record { row = Foreign 0; holds = [] } in
    let found = c.in-Some.ensures.found in
    let some = any-at (λ h. active (seen_holder s.addresses.items h)) s.holders.items c.in-Some.place d found.there (found.active s.addresses.items d) in
    sym (list_any-map active (seen_holder s.addresses.items) s.holders.items ∙ some)

pub returns-clause-room : goal.returns-clause-room
returns-clause-room c =
    let s = c.args.self.now in
    let rows = rw c.deref.ensures.value at c.change_at.ensures.rows in
    record {
      others = refl;
      len = c.change_at.ensures.len;
      capacity = c.change_at.ensures.capacity;
      names = λ known. record { free = subst (AreFree s.free) (sym rows) (AreFree-edited s.free (seen s).rows known.free s.addresses.items c.args.edit.now); lone = tt };
    }
