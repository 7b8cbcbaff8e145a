-- What follows an answer in the tree of a plan.
use Rattle.std.specs.Prelude.{List, Option, Some, None}
use Rattle.vocabulary.specs.declared.calls.Answer.{Answer}
use Rattle.vocabulary.specs.declared.plans.PidNote.{PidNote}
use Rattle.call_laws.specs.Pieces.{branch}
use Rattle.definitions.specs.Run.{Tree, Ends, Does, reply_of}

-- what follows an answer: the note that is set, and the rest
abbrev pub follow : Option Tree → Answer → Option (Option PidNote × Tree)
follow None a = None
follow (Some (Ends end)) a = None
follow (Some (Does by order set branches)) a = branch branches (reply_of set a)
