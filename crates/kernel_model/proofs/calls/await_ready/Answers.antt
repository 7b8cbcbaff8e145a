use Rattle.std.proofs.Common.{refl, sym, ◌∙◌}
use Rattle.kernel_model.proofs.ExitLoop.{EditsRows-then}
use Rattle.kernel_model.proofs.Room.{GrowsByOne-edits}
use Rattle.kernel_model.proofs.calls.await_ready.Goals as goal

pub returns-then-edit_active-clause-outcome : goal.returns-then-edit_active-clause-outcome
returns-then-edit_active-clause-outcome c =
    let found = rw c.worker-name.ensures at c.edit_active.ensures.found in
    let table = rw c.worker-name.ensures at c.edit_active.ensures.table in
    rw (sym found ∙ c.if-edit_active.true, table) refl

pub returns-else-edit_active-clause-outcome : goal.returns-else-edit_active-clause-outcome
returns-else-edit_active-clause-outcome c =
    let none = rw c.worker-name.ensures at c.edit_active.ensures.found in
    let same = c.edit_active.ensures.same c.if-edit_active.false in
    let table = rw (c.worker-name.ensures, same) at c.edit.ensures.table in
    rw (sym none ∙ c.if-edit_active.false, table) refl

pub returns-else-edit_active-clause-grows : goal.returns-else-edit_active-clause-grows
returns-else-edit_active-clause-grows c =
    GrowsByOne-edits c.args.store.now c.edit.new.self (EditsRows-then c.args.store.now c.edit_active.new.self c.edit.new.self c.edit_active.ensures.room c.edit.ensures.room)
