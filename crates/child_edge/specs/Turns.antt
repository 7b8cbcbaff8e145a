-- What is told between two moments, as part of an edge's turn.
use Rattle.std.specs.Prelude.{List, Option}
use Rattle.vocabulary.specs.declared.calls.Answer.{Answer}
use Rattle.child_family.specs.Told.{Told}
use Rattle.child_family.specs.Talk.{Held}
use Rattle.child_edge.specs.State.{State}
use Rattle.child_edge.specs.Table.{Turn}

-- Whatever comes of the turn then: where the second turn goes on from the new moment, the first one went on from the old.
abbrev pub GoesOn : Option (List Told) → Option (List Told) → Turn → Turn → Type 0
GoesOn old new before after = (last : Option (List Told)) (a : State × Answer) → Held new last after a → Held old last before a

-- what was told is the beginning of a turn, whatever follows it
abbrev pub Begins : Option (List Told) → Option (List Told) → (Turn → Turn) → Type 0
Begins old new talk = (rest : Turn) → GoesOn old new (talk rest) rest

-- what was told is the beginning of a turn that finds something out, and this is what it found
abbrev pub Finds : {B : Type 0} → Option (List Told) → Option (List Told) → ((B → Turn) → Turn) → B → Type 0
Finds {B} old new talk found = (rest : B → Turn) → GoesOn old new (talk rest) (rest found)
