use Rattle.call_laws.proofs.Aside.{calls-leave-alone}
use Rattle.call_laws.proofs.calls_leave_others_alone.Goals as goal

pub returns : goal.returns
returns c = calls-leave-alone
