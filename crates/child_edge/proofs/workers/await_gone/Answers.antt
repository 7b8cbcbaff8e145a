use Rattle.std.proofs.Common.{Bool, List}
use Rattle.child_edge.specs.State.{state_of}
use Rattle.child_workers.specs.declared.worker.Worker.{Worker}
use Rattle.child_edge.specs.Table.{answers, with_workers, gone_or_late}
use Rattle.child_edge.proofs.workers.await_gone.Goals as goal

pub returns-clause-turn : goal.returns-clause-turn
returns-clause-turn g c = rw c.gone_or_late.ensures (c.await_each-is_late.ensures.left (λ (p : List Worker × Bool). answers (with_workers (state_of c.args.state.now) p.0) (gone_or_late p.1)))
