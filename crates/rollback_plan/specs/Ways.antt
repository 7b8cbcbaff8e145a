-- The ways back of one master.
use Rattle.std.specs.Prelude.{ℕ, ◌+◌, ◌*◌, length}
use Rattle.definitions.specs.Run.{Tree}
use Rattle.rollback_plan.specs.declared.draft.Draft.{Draft}
use Rattle.rollback_plan.specs.declared.settling.Undone.{Undone}
use Rattle.rollback_plan.specs.declared.settling.WaysBack.{WaysBack}
use Rattle.rollback_plan.specs.Back.{quits_back, closes_back, AreMade}

-- a settle of so many rounds, a close of each address and a quit of each number
abbrev pub steps_back : Undone → ℕ → ℕ
steps_back undone rounds = (1 + 4 * rounds) + length undone.opened.now + length undone.forked.now

-- these ways undo it, and settle then
pub record AreWaysBack (d : Draft) (ways : WaysBack) (by : ℕ) (undone : Undone) (settled : Tree) : Type 0 where
  pub opened : AreMade d ways.opened.items (length undone.opened.now) (closes_back by undone.opened.now settled)
  pub forked : AreMade d ways.forked.items (length undone.forked.now)
      (quits_back by undone.generation undone.forked.now
      (closes_back by undone.opened.now settled (length undone.opened.now)))
