use Rattle.std.proofs.Common.{◌≡◌, [], Bool, true, false, cond, refl, ◌∙◌}
use Rattle.definitions.specs.Calls.{Stepped}
use Rattle.definitions.specs.Run.{reply_of}
use Rattle.std.specs.List.{list_any}
use Rattle.definitions.specs.Table.{is_active, is_worker}
use Rattle.kernel_table.specs.Seen.{seen}
use Rattle.kernel_model.proofs.replies.own_reply.Goals as goal

-- the reply to one of two answers
either : (b : Bool) (x y : Stepped) → cond b (reply_of [] x.answer) (reply_of [] y.answer) ≡ reply_of [] (cond b x y).answer
either true x y = refl
either false x y = refl

pub returns-in-Fork : goal.returns-in-Fork
returns-in-Fork c = rw c.in-Fork.is (c.fork_reply.ensures c.in-Fork.field-2)

pub returns-in-AwaitReady : goal.returns-in-AwaitReady
returns-in-AwaitReady c =
    rw c.in-AwaitReady.is (c.worker_reply.ensures ∙ either (list_any (is_worker is_active c.args.caller.now.number c.in-AwaitReady.generation c.in-AwaitReady.nr) (seen c.args.store.now).rows) _ _)

pub returns-in-AwaitGone : goal.returns-in-AwaitGone
returns-in-AwaitGone c =
    rw c.in-AwaitGone.is (c.worker_reply-in-AwaitGone.ensures ∙ either (list_any (is_worker is_active c.args.caller.now.number c.in-AwaitGone.generation c.in-AwaitGone.nr) (seen c.args.store.now).rows) _ _)
