use Rattle.std.proofs.Common.{◌∙◌}
use Rattle.child_edge.proofs.Turning.{greeted-goes}
use Rattle.child_edge.proofs.starting.greet.Goals as goal

pub returns : goal.returns
returns g c = greeted-goes c.args.worker.now c.args.listeners.now _ _ _ _ _ _ _ _ (c.bytes.ensures.text ∙ c.worker_line-line.ensures) c.as_slice.ensures.items c.say.ensures c.say_listeners.ensures c.say-2.ensures
