use Rattle.kernel_model.proofs.calls.own_answer.Goals as goal

pub returns-in-Fork-clause-outcome : goal.returns-in-Fork-clause-outcome
returns-in-Fork-clause-outcome c = rw c.in-Fork.is c.fork.ensures.outcome

pub returns-in-AwaitReady-clause-outcome : goal.returns-in-AwaitReady-clause-outcome
returns-in-AwaitReady-clause-outcome c = rw c.in-AwaitReady.is c.await_ready.ensures.outcome

pub returns-in-AwaitGone-clause-outcome : goal.returns-in-AwaitGone-clause-outcome
returns-in-AwaitGone-clause-outcome c = rw c.in-AwaitGone.is c.await_gone.ensures.outcome
