-- Where an edge made no call, its family was asked nothing.
use Rattle.std.specs.Prelude.{List, [], Option, Some, None, refl}
use Rattle.std.proofs.Common.{sym, append-nil}
use Rattle.child_family.specs.Told.{Told}
use Rattle.child_edge.specs.State.{State}
use Rattle.child_edge.specs.Edge.{CallsHeld}

pub CallsHeld-none : (now : Option (List Told)) (s : State) → CallsHeld now now s [] s
CallsHeld-none None s = record { told = tt }
CallsHeld-none (Some xs) s = record { told = (xs, [], refl, sym (append-nil xs), (refl, refl)) }
