-- Calls of one kind.
use Rattle.std.specs.Prelude.{ℕ, List, length, map}
use Rattle.listener_set.specs.declared.generation.Generation.{Generation}
use Rattle.definitions.specs.Calls.{Call}
use Rattle.definitions.specs.Master.{fork_of}
use Rattle.vocabulary.specs.declared.calls.Call.TheVariants as call
use Rattle.plan_steps.specs.declared.batch.Errand.{Errand}
use Rattle.plan_steps.specs.declared.batch.Errand.TheVariants as asked
use Rattle.plan_steps.specs.declared.batch.Batch.{Batch}
use Rattle.plan_steps.specs.declared.batch.Batch.TheVariants as batch

-- the call that asks it of a worker
abbrev pub asked_call : Errand → Generation → ℕ → Call
asked_call asked.AwaitReady = call.AwaitReady
asked_call asked.Quit = call.Quit
asked_call asked.Kill = call.Kill
asked_call asked.AwaitGone = call.AwaitGone
asked_call asked.Usr1 = call.Usr1

-- the calls in their order
abbrev pub calls_of : Batch → List Call
calls_of (batch.Forks crew numbers) = map (fork_of crew.now) numbers.now
calls_of (batch.Workers what g numbers) = map (asked_call what g) numbers.now
calls_of (batch.Opens addresses) = map call.OpenAt addresses.now
calls_of (batch.Closes addresses) = map call.CloseAt addresses.now

-- how many they are
abbrev pub size_of : Batch → ℕ
size_of (batch.Forks crew numbers) = length numbers.now
size_of (batch.Workers what g numbers) = length numbers.now
size_of (batch.Opens addresses) = length addresses.now
size_of (batch.Closes addresses) = length addresses.now
