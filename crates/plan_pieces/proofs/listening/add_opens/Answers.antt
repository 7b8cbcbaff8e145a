use Rattle.std.proofs.lemmas.Result.{IfOk-weaker}
use Rattle.plan_pieces.proofs.AttemptTrees.{opens_attempted}
use Rattle.plan_pieces.proofs.listening.add_opens.Goals as goal

pub returns-clause-made : goal.returns-clause-made
returns-clause-made c =
    IfOk-weaker c.add_attempts.result _ _ (λ place made ok bad ways e. made _ _ ways (opens_attempted c.args.by c.args.addresses.now _ ok bad e)) c.add_attempts.ensures.made
