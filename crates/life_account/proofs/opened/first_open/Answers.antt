use Rattle.std.proofs.Common.{sym, ◌∙◌, ap, ◌++◌, ◌+◌, drop}
use Rattle.kernel_model.specs.Readers.{hold_rows}
use Rattle.life_account.proofs.Opening.{opens, opens-next, opens-over}
use Rattle.life_account.proofs.opened.first_open.Goals as goal

pub returns-in_default : goal.returns-in_default
returns-in_default c =
    opens-over c.args.process (hold_rows c.args.kernel.now.table.rows) c.loop-place.place c.loop-place.kept.items
    (sym c.hold.ensures ∙ c.in_default.is) c.loop-place.invariant

pub loop-place-preserved : goal.loop-place-preserved
loop-place-preserved c =
    let holds = hold_rows c.args.kernel.now.table.rows in
    ap (λ xs. xs ++ opens c.args.process (drop (c.loop-place.place + 1) holds)) c.in_ok-add_own.ensures
    ∙ opens-next c.args.process holds c.loop-place.place c.in-Some.hold c.loop-place.kept.items (sym c.hold.ensures ∙ c.in-Some.is)
    ∙ c.loop-place.invariant
