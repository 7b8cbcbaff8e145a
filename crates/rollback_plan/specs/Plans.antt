-- What a contract sees of a plan.
use Rattle.std.specs.Prelude.{ℕ, List, [], Option}
use Rattle.definitions.specs.Run.{Tree}
use Rattle.definitions.specs.Plans.{Turn}
use Rattle.vocabulary.specs.declared.plans.PidNote.{PidNote}
use Rattle.vocabulary.specs.declared.plans.Sides.{Sides}
use Rattle.plan_steps.specs.declared.parts.Parts.{Parts}
use Rattle.plan_steps.specs.declared.step.Step.{Step}
use Rattle.plan_steps.specs.Steps.{trees_from}
use Rattle.plan_steps.specs.Woven.{woven, length_in}
use Rattle.rollback_plan.specs.declared.plan.Plan.{Plan}

-- its steps in order
abbrev pub steps_of : Plan → List Step
steps_of p = p.steps.items

-- the places of its parts, where it has parts
abbrev pub parts_of : Plan → Option Parts
parts_of p = p.parts

-- the tree that a plan stands for, where the two masters take these turns
abbrev pub tree_under : Plan → List Turn → Tree
tree_under p turns = woven p.steps.items p.parts turns

-- the tree that it stands for where the new master goes on until its part has ended
abbrev pub tree_of : Plan → Tree
tree_of p = tree_under p []

-- the number of steps on its longest path; with parts, the sum over its four stretches
abbrev pub length_of : Plan → ℕ
length_of p = length_in p.steps.items p.parts

-- the note of the record that it was planned for
abbrev pub note_of : Plan → PidNote
note_of p = p.note

-- the groups of both sides
abbrev pub sides_told : Plan → Sides
sides_told p = p.sides

-- the text for the new master
abbrev pub text_of : Plan → List ℕ
text_of p = p.text.items

-- the tree of each of its steps, in their order
abbrev pub trees_in : Plan → List Tree
trees_in p = trees_from 1 p.steps.items
