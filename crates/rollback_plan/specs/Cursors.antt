-- What a contract sees of a cursor.
use Rattle.std.specs.Prelude.{◌≡◌, true, List, [], Some}
use Rattle.std.specs.Option.{option_map}
use Rattle.std.specs.List.{list_all}
use Rattle.vocabulary.specs.declared.calls.Answer.{Answer}
use Rattle.definitions.specs.Run.{Tree, reply_of}
use Rattle.rollback_plan.specs.Following.{follow}
use Rattle.definitions.specs.Plans.{Turn}
use Rattle.plan_steps.specs.declared.step.Step.{Step}
use Rattle.plan_steps.specs.declared.step.Next.{Next}
use Rattle.plan_steps.specs.Steps.{edge_for, is_within}
use Rattle.rollback_plan.specs.declared.cursor.Cursor.{Cursor}
use Rattle.rollback_plan.specs.Places.{tree_at, turn_of, left_at, led_at, begins, is_both}
use Rattle.rollback_plan.specs.Masters.{leads_apart}

-- the rest of the tree, where the two masters take these turns
abbrev pub rest_under : Cursor → List Turn → Tree
rest_under c turns = tree_at c.plan.now.steps.items c.plan.now.parts c.at turns

-- the rest where the new master goes on until its part has ended
abbrev pub rest_of : Cursor → Tree
rest_of c = rest_under c []

abbrev pub left_after : Cursor → List Turn → List Turn
left_after c turns = left_at c.at turns

abbrev pub led_to : Cursor → Turn → Next → List Turn → Tree
led_to c turn next turns = led_at c.plan.now.steps.items c.plan.now.parts c.at turn next turns

-- A turn is the first of the turns. Only where both parts go on does it make a difference.
abbrev pub IsTurn : Cursor → Turn → List Turn → Type 0
IsTurn c turn turns = is_both c.at ≡ true → turn_of turns ≡ turn

-- A step is next at a turn: the rest begins with it, and its edges lead on.
pub record IsNextStep (c : Cursor) (turn : Turn) (s : Step) : Type 0 where
  pub first : (turns : List Turn) → IsTurn c turn turns → begins (rest_under c turns) s
  pub leads : (turns : List Turn) (answer : Answer) → IsTurn c turn turns →
      follow (Some (rest_under c turns)) answer
      ≡ option_map (λ e. (e.note, led_to c turn e.next (left_after c turns)))
      (edge_for s.edges.items (reply_of s.set answer))
  pub within : list_all (λ e. is_within c.plan.now.steps.items e.next) s.edges.items ≡ true
  pub apart : list_all (λ e. leads_apart c.plan.now.steps.items c.at turn e.next) s.edges.items ≡ true
