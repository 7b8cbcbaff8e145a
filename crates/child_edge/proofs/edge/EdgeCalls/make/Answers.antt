use Rattle.child_family.proofs.Talking.{held-end}
use Rattle.child_edge.proofs.Calls.{calls-more}
use Rattle.child_edge.proofs.edge.EdgeCalls.make.Goals as goal

pub returns-clause-turn : goal.returns-clause-turn
returns-clause-turn g c = c.make.ensures.turn _ _ (held-end _ _)

pub returns-clause-follows : goal.returns-clause-follows
returns-clause-follows g c = λ told first entries h. calls-more _ _ _ _ _ _ _ _ h (c.make.ensures.turn _ _ (held-end _ _))
