-- The replies that a step can have, and the answers that a call can.
use Rattle.std.specs.Prelude.{Bool, true, List, [], ◌∷◌}
use Rattle.vocabulary.specs.declared.calls.Call.{Call}
use Rattle.vocabulary.specs.declared.calls.Answer.{Answer}
use Rattle.vocabulary.specs.declared.calls.Answer.TheVariants as answer
use Rattle.vocabulary.specs.declared.calls.Reply.{Reply}
use Rattle.vocabulary.specs.declared.calls.Reply.TheVariants as reply
use Rattle.vocabulary.specs.declared.plans.Order.{Order}
use Rattle.vocabulary.specs.declared.plans.Order.TheVariants.{Make, ForkLacking, AwaitLacking, KillLacking}
use Rattle.call_laws.specs.Pieces.{among, replies_to}
use Rattle.definitions.specs.Run.{reply_of}

abbrev pub order_replies : Order → List Reply
order_replies (Make call) = replies_to call
order_replies (ForkLacking crew) = reply.Forked ∷ reply.Again ∷ reply.NoMemory ∷ []
order_replies (AwaitLacking g) = reply.IsReady ∷ reply.Gone ∷ reply.Late ∷ []
order_replies (KillLacking g) = reply.Fine ∷ []

-- whether a call can be answered so
abbrev pub is_listed : Call → Answer → Bool
is_listed call answer.MasterGone = true
is_listed call a = among (replies_to call) (reply_of [] a)
