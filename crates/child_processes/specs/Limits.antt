-- How long a child may keep its master waiting.
use Rattle.std.specs.Prelude.{ℕ, ◌*◌, Bool, true, false}
use Rattle.child_processes.specs.declared.limits.ChildLimits.{ChildLimits}
use Rattle.child_processes.specs.declared.limits.Debt.{Debt}
use Rattle.child_processes.specs.declared.limits.Debt.TheVariants.{Readiness, Answer, Call, End, Room}

-- how many seconds a child has for what it owes; 0 is without a limit
abbrev pub seconds_for : ChildLimits → Debt → ℕ
seconds_for limits Readiness = limits.ready
seconds_for limits Answer = limits.answer
seconds_for limits Call = 8 * limits.ready
seconds_for limits End = limits.ready
seconds_for limits Room = limits.answer

-- what a child owes that is heard: whether it is a master, has said anything so far, and was told to quit
abbrev pub owed_by : Bool → Bool → Bool → Debt
owed_by is_master false told_to_quit = Readiness
owed_by true true told_to_quit = Call
owed_by false true true = End
owed_by false true false = Answer
