-- The text of a plan.
use Rattle.std.specs.Prelude.{ℕ, ◌+◌, ◌==◌, Bool, true, false, ◌&&◌, List, [], ◌∷◌, ◌++◌, length, Option, Some, None, codes, if◌then◌else◌}
use Rattle.std.specs.List.{list_any}
use Rattle.std.specs.Fmt.{decimal}
use Rattle.vocabulary.specs.declared.calls.Call.{Call}
use Rattle.vocabulary.specs.declared.calls.Call.TheVariants.{Census}
use Rattle.vocabulary.specs.declared.calls.Reply.{Reply}
use Rattle.vocabulary.specs.declared.calls.Reply.TheVariants.{MasterGone}
use Rattle.vocabulary.specs.declared.plans.PidNote.{PidNote}
use Rattle.vocabulary.specs.declared.plans.Order.{Order}
use Rattle.vocabulary.specs.declared.plans.Order.TheVariants.{Make}
use Rattle.call_replies.specs.Replies.{order_replies}
use Rattle.plan_steps.specs.declared.parts.Parts.{Parts}
use Rattle.plan_steps.specs.declared.step.Next.{Next}
use Rattle.plan_steps.specs.declared.step.Next.TheVariants.{To, Over, Both}
use Rattle.plan_steps.specs.declared.step.PlanEdge.{PlanEdge}
use Rattle.plan_steps.specs.declared.step.Step.{Step}
use Rattle.plan_steps.specs.Steps.{edge_for}
use Rattle.call_text.specs.SetText.{set_text}
use Rattle.call_text.specs.CallText.{order_line}
use Rattle.call_text.specs.Words.{reply_text, end_text, note_text}
use denote.Enum.Bare.{sameb}
use Rattle.vocabulary.specs.contracts.plans.End.{the_type as end_type}
use Rattle.vocabulary.specs.contracts.plans.PidNote.{the_type as note_type}

-- the replies that a step can have, the plain one first and that the master is gone last
abbrev pub replies_of : Order → List Reply
replies_of order = order_replies order ++ MasterGone ∷ []

---- Which replies go the same way

abbrev pub same_next : Next → Next → Bool
same_next (To one) (To other) = one.0 == other.0
same_next (Over one) (Over other) = sameb end_type one other
same_next (Both one two) (Both other another) = one.0 == other.0 && two.0 == another.0
same_next (To one) (Over other) = false
same_next (To one) (Both other another) = false
same_next (Over one) (To other) = false
same_next (Over one) (Both other another) = false
same_next (Both one two) (To other) = false
same_next (Both one two) (Over other) = false

abbrev pub same_note : Option PidNote → Option PidNote → Bool
same_note (Some one) (Some other) = sameb note_type one other
same_note None None = true
same_note (Some one) None = false
same_note None (Some other) = false

-- two edges that set the same note and have the same rest of the plan
abbrev pub same_way : PlanEdge → PlanEdge → Bool
same_way one other = same_next one.next other.next && same_note one.note other.note

abbrev pub goes_by : PlanEdge → Option PlanEdge → Bool
goes_by e None = false
goes_by e (Some other) = same_way e other

-- whether a reply to a step goes the way of an edge
abbrev pub goes : Step → PlanEdge → Reply → Bool
goes s e r = goes_by e (edge_for s.edges.items r)

---- Edges

-- the replies that go the way of an edge, with the same text behind each
abbrev pub reply_words : Step → PlanEdge → List ℕ → List Reply → List ℕ
reply_words s e behind [] = []
reply_words s e behind (r ∷ rs) = (if goes s e r then reply_text r ++ behind else []) ++ reply_words s e behind rs

abbrev pub place_text : Next → List ℕ
place_text (To place) = decimal place.0
place_text (Over end) = end_text end
-- the new part's place and the old one's
place_text (Both new old) = decimal new.0 ++ codes "+" ++ decimal old.0

abbrev pub note_part : Option PidNote → List ℕ
note_part None = []
note_part (Some note) = codes " pid " ++ note_text note

abbrev pub edge_text : Step → PlanEdge → List Reply → List ℕ
edge_text s e replies = codes " | " ++ reply_words s e (codes " ") replies ++ place_text e.next ++ note_part e.note

abbrev pub unless_gone : Step → List Reply → Option PlanEdge → Option PlanEdge
unless_gone s earlier None = None
unless_gone s earlier (Some e) = if list_any (goes s e) earlier then None else Some e

-- the edge of a reply, unless an earlier reply goes the same way
abbrev pub new_edge : Step → List Reply → Reply → Option PlanEdge
new_edge s earlier r = unless_gone s earlier (edge_for s.edges.items r)

abbrev pub text_of : (PlanEdge → List ℕ) → Option PlanEdge → List ℕ
text_of text None = []
text_of text (Some e) = text e

-- the texts of the edges of the replies behind the earlier ones
abbrev pub texts_of : (PlanEdge → List ℕ) → Step → List Reply → List Reply → List ℕ
texts_of text s earlier [] = []
texts_of text s earlier (r ∷ rs) = text_of text (new_edge s earlier r) ++ texts_of text s (earlier ++ r ∷ []) rs

-- the edges of a step that has these replies
abbrev pub edges_text : Step → List Reply → List ℕ
edges_text s replies = texts_of (λ e. edge_text s e replies) s [] replies

---- Steps

abbrev pub set_behind : Call → List ℕ → List ℕ
set_behind (Census g) set = codes " set " ++ set_text set
set_behind _ set = []

-- a census has its set
abbrev pub set_part : Order → List ℕ → List ℕ
set_part (Make call) set = set_behind call set
set_part _ set = []

abbrev pub step_text : ℕ → Step → List ℕ
step_text n s =
    decimal n ++ codes " " ++ order_line s.by s.order ++ set_part s.order s.set ++ edges_text s (replies_of s.order)
    ++ codes "\n"

-- steps in order, the first of them the n-th
abbrev pub steps_text : ℕ → List Step → List ℕ
steps_text n [] = []
steps_text n (s ∷ steps) = step_text n s ++ steps_text (n + 1) steps

---- Two parts

-- where the plan goes on when both of its parts have ended
abbrev pub joined_text : ℕ → ℕ → List ℕ
joined_text ready back = codes "join ready " ++ decimal ready ++ codes " " ++ codes "back " ++ decimal back ++ codes "\n"

abbrev pub join_text : Option Parts → List ℕ
join_text None = []
join_text (Some p) = joined_text p.ready.0 p.back.0

---- Plans

-- a plan by the number of steps on its longest path, its numbered steps, and its parts, where it has any
abbrev pub plan_text : ℕ → List Step → Option Parts → List ℕ
plan_text longest steps parts =
    codes "plan steps " ++ decimal (length steps) ++ codes " longest " ++ decimal longest ++ codes "\n" ++ steps_text 1 steps ++ join_text parts
