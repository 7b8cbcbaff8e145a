use Rattle.std.proofs.Common.{sym, ◌∙◌, ap, arith}
use Rattle.worker_table.specs.Beats.{is_overdue}
use Rattle.worker_table.proofs.PlaceLemmas.{AreNumbers-places}
use Rattle.worker_table.proofs.Loops.{Gathers-none, Gathers-one, Gathers-pass, Gathers-all}
use Rattle.worker_table.proofs.workers.WorkerTable.overdue.Goals as goal
use Rattle.worker_table.proofs.workers.WorkerTable.overdue.Goals.{then-is_overdue, else-is_overdue}

pub loop-nr-init : goal.loop-nr-init
loop-nr-init c = rw c.none-overdue.ensures (Gathers-none c.args.self.now c.args.now c.args.timeout)

pub loop-nr-preserved : goal.loop-nr-preserved
loop-nr-preserved c =
    let ws = c.args.self.now in
    let test = ap (λ b. is_overdue c.args.now c.args.timeout b) (sym c.last_beat.ensures) ∙ sym c.is_overdue.ensures in
    elim c.if-is_overdue.branch [
      | then-is_overdue w ↦ rw (w.overdue-is, w.add.ensures) (Gathers-one ws c.args.now c.args.timeout c.loop-nr.nr c.loop-nr.overdue c.loop-nr.invariant (test ∙ w.if-is_overdue.true))
      | else-is_overdue w ↦ rw w.overdue-is (Gathers-pass ws c.args.now c.args.timeout c.loop-nr.nr c.loop-nr.overdue c.loop-nr.invariant (test ∙ w.if-is_overdue.false))
    ]

pub returns-clause-overdue : goal.returns-clause-overdue
returns-clause-overdue c =
    let numbers = AreNumbers-places c.self.inside.places c.args.self.now c.self.invariant c.self.view_is in
    Gathers-all c.args.self.now c.args.now c.args.timeout c.loop-nr.nr c.loop-nr.overdue numbers (omega arith) c.loop-nr.invariant

pub returns-clause-numbers : goal.returns-clause-numbers
returns-clause-numbers c = AreNumbers-places c.self.inside.places c.args.self.now c.self.invariant c.self.view_is
