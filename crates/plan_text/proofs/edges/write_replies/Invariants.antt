use Rattle.std.proofs.Common.{◌≡◌, ◌++◌, drop}
use Rattle.plan_text.specs.PlanText.{reply_words}
use Rattle.plan_text.proofs.edges.write_replies.Given as goal

abbrev pub invariant-loop-reply : goal.invariant-loop-reply
invariant-loop-reply l =
    l.out.items ++ reply_words l.step l.edge l.behind (drop l.reply-index l.replies) ≡ l.fn.out.items ++ reply_words l.step l.edge l.behind l.replies
