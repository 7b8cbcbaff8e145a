use Rattle.std.proofs.Common.{ap, ◌∙◌}
use Rattle.definitions.specs.Calls.{Stepped, after_exits}
use Rattle.handover_text.specs.Reading.{handed_by}
use Rattle.call_replies.specs.Replies.{is_listed}
use Rattle.plan_executor.proofs.Replaying.{step-listed}
use Rattle.explorer.proofs.position.answered.Goals as goal

pub returns-clause-listed : goal.returns-clause-listed
returns-clause-listed c =
    let due = c.args.due.now in
    ap (λ (s : Stepped). is_listed due.call s.answer) c.call-answer.ensures.step
    ∙ step-listed (handed_by c.args.text.now) due.by due.call c.args.fate (after_exits c.args.exits.now c.args.kernel.now.table)
