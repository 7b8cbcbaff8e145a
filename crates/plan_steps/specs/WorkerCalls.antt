-- Calls that name a worker, in little room.
use Rattle.std.specs.Prelude.{ℕ, Option, Some, None}
use Rattle.listener_set.specs.declared.generation.Generation.{Generation}
use Rattle.definitions.specs.Calls.{Call}
use Rattle.vocabulary.specs.declared.calls.Call.TheVariants as call
use Rattle.plan_steps.specs.declared.worker_call.Asking.{Asking}
use Rattle.plan_steps.specs.declared.worker_call.Asking.TheVariants as asking
use Rattle.plan_steps.specs.Batches.{asked_call}

-- the call that asks it of a worker
abbrev pub kept_call : Asking → Generation → ℕ → Call
kept_call asking.Fork = λ g k. call.Fork g k None
kept_call (asking.Other what) = asked_call what

-- the call, where it names a worker and no descriptors
abbrev pub call_of_worker : Call → Option Call
call_of_worker (call.Fork g k None) = Some (call.Fork g k None)
call_of_worker (call.AwaitReady g k) = Some (call.AwaitReady g k)
call_of_worker (call.Quit g k) = Some (call.Quit g k)
call_of_worker (call.Kill g k) = Some (call.Kill g k)
call_of_worker (call.AwaitGone g k) = Some (call.AwaitGone g k)
call_of_worker (call.Usr1 g k) = Some (call.Usr1 g k)
call_of_worker _ = None
