use Rattle.std.proofs.Common.{ℕ, List, ◌↔◌}
use Rattle.kernel_rows.specs.Holds.{seen_holds}
use Rattle.kernel_rows.specs.Seen.{seen_rows}
use Rattle.kernel_agreement.specs.Agreement.{AreRunning}
use Rattle.kernel_agreement.proofs.agreement.are_running.Given as goal

-- All run where those that are left do.
abbrev pub invariant-loop-holder : goal.invariant-loop-holder
invariant-loop-holder l =
    (addresses : List (List ℕ))
    → AreRunning l.master.number l.crew (seen_holds addresses l.master.holds) (seen_rows addresses l.holder-iterator)
    ↔ AreRunning l.master.number l.crew (seen_holds addresses l.master.holds) (seen_rows addresses l.holders.items)
