-- Calls of a plan that are made on children, and whose questions are answered from the input.
use Rattle.std.specs.Prelude.{ℕ, List, [], Option, refl}
use Rattle.vocabulary.specs.declared.reports.Entry.{Entry}
use Rattle.child_family.specs.declared.family.Family.{Ghosts}
use Rattle.child_edge.specs.State.{state_of}
use Rattle.child_edge.specs.Edge.{CallsHeld}
use Rattle.child_edge.specs.EdgeLemmas.{CallsHeld-none}
use Rattle.master_on_children.specs.Inbox.{on_children, AreAnswered}
use Rattle.master_on_children.specs.declared.attended.Attended.{Attended}

module _ {F I L : Type 0} {f : Ghosts F} (remaining : I → Option (List ℕ)) where
  -- These calls led from the one to the other: the questions as they were answered, and the others as conversations with children.
  pub record AreMade (first : Attended F I L f) (entries : List Entry) (last : Attended F I L f) : Type 0 where
    pub held : CallsHeld (f.told first.edge.family) (f.told last.edge.family) (state_of first.edge.state) (on_children entries) (state_of last.edge.state)
    pub answered : AreAnswered remaining first.inbox entries last.inbox

  pub AreMade-none : (calls : Attended F I L f) → AreMade calls [] calls
  AreMade-none calls = record { held = CallsHeld-none (f.told calls.edge.family) (state_of calls.edge.state); answered = refl }
