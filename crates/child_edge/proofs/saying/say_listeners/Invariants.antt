use Rattle.std.proofs.Common.{drop, map}
use Rattle.vocabulary.specs.declared.table.Listener.{Listener}
use Rattle.child_family.specs.Lines.{listener_line}
use Rattle.child_edge.specs.Each.{says_lines}
use Rattle.child_edge.specs.Table.{Turn}
use Rattle.child_edge.specs.Turns.{GoesOn}
use Rattle.child_edge.proofs.saying.say_listeners.Given as goal

abbrev pub invariant-loop-listener : goal.invariant-loop-listener
invariant-loop-listener g l = (next : Turn) → GoesOn (g.F.Family.told l.initial.family) (g.F.Family.told l.family) (says_lines l.id (map (λ (x : Listener). listener_line x.address) l.listeners) next) (says_lines l.id (map (λ (x : Listener). listener_line x.address) (drop l.listener-index l.listeners)) next)
