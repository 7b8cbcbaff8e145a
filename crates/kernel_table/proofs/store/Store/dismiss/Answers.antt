use Rattle.std.proofs.Common.{true, false, not, sym, ap, ◌∙◌}
use Rattle.std.specs.List.{list_any}
use Rattle.definitions.specs.Table.{is_active, is_worker}
use Rattle.kernel_table.specs.declared.store.Store.{Store}
use Rattle.kernel_table.specs.Seen.{seen}
use Rattle.kernel_table.proofs.Names.{lone-stance}
use Rattle.kernel_table.proofs.store.Store.dismiss.Goals as goal

pub returns-then-is_worker_row-clause-active : goal.returns-then-is_worker_row-clause-active
returns-then-is_worker_row-clause-active c =
    let name = c.args.name in
    let active = is_worker is_active name.parent name.generation name.nr in
    let s = c.lone_place.new.self in
    let same = ap (λ (x : Store). list_any active (seen x).rows) c.lone_place.ensures.same in
    let found = lone-stance s name c.in-Some.place c.in-Some.ensures.place true (sym c.if-is_worker_row.true ∙ c.is_worker_row.ensures s.addresses.items) in
    sym (ap not (sym same ∙ found))

pub returns-else-is_worker_row-clause-active : goal.returns-else-is_worker_row-clause-active
returns-else-is_worker_row-clause-active c =
    let name = c.args.name in
    let active = is_worker is_active name.parent name.generation name.nr in
    let s = c.lone_place.new.self in
    let same = ap (λ (x : Store). list_any active (seen x).rows) c.lone_place.ensures.same in
    let found = lone-stance s name c.in-Some.place c.in-Some.ensures.place false (sym c.if-is_worker_row.false ∙ c.is_worker_row.ensures s.addresses.items) in
    sym (ap not (sym same ∙ found))
