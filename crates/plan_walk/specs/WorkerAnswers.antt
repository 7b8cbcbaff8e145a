-- Answers to calls that name a worker.
use Rattle.vocabulary.specs.declared.calls.Answer.{Answer}
use Rattle.vocabulary.specs.declared.calls.Answer.TheVariants as answer
use Rattle.plan_walk.specs.declared.slot.WorkerAnswer.{WorkerAnswer}
use Rattle.plan_walk.specs.declared.slot.WorkerAnswer.TheVariants as short

-- the answer itself
abbrev pub answer_of : WorkerAnswer → Answer
answer_of short.Fine = answer.Fine
answer_of short.Forked = answer.Forked
answer_of short.Again = answer.Again
answer_of short.NoMemory = answer.NoMemory
answer_of short.IsReady = answer.IsReady
answer_of short.Gone = answer.Gone
answer_of short.Late = answer.Late
answer_of short.MasterGone = answer.MasterGone
