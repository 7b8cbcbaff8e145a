use Rattle.std.proofs.Common.{List, map}
use Rattle.std.proofs.lemmas.List.{at_drop_all}
use Rattle.vocabulary.specs.declared.table.Listener.{Listener}
use Rattle.child_family.specs.Lines.{listener_line}
use Rattle.child_edge.specs.Each.{says_lines}
use Rattle.child_edge.proofs.Turning.{goes-into}
use Rattle.child_edge.proofs.saying.say_listeners.Goals as goal

pub returns : goal.returns
returns g c = λ rest. goes-into _ _ _ _ _ (at_drop_all (λ (xs : List Listener). says_lines c.args.id (map (λ (x : Listener). listener_line x.address) xs) rest) c.args.listeners.now c.loop-listener.listener-index c.loop-listener-test.false) (c.loop-listener.invariant rest)
