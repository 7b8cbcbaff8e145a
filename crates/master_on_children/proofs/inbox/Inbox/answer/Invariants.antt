use Rattle.master_on_children.proofs.Answering.{Goes}
use Rattle.master_on_children.proofs.inbox.Inbox.answer.Given as goal

abbrev pub invariant-loop : goal.invariant-loop
invariant-loop g l = Goes g.I.Read.remaining l.fn.self l.self l.counter
