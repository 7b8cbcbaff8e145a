-- The picture of a plan, in the language of Graphviz.
use Rattle.std.specs.Prelude.{ℕ, ◌+◌, ◌==◌, Bool, true, false, ◌||◌, List, [], ◌∷◌, ◌++◌, Option, Some, None, codes, if◌then◌else◌}
use Rattle.std.specs.Fmt.{decimal}
use Rattle.vocabulary.specs.declared.plans.PidNote.{PidNote}
use Rattle.vocabulary.specs.declared.calls.Reply.{Reply}
use Rattle.vocabulary.specs.declared.plans.End.TheVariants.{JoinReady, JoinBack}
use Rattle.plan_steps.specs.declared.parts.Parts.{Parts}
use Rattle.plan_steps.specs.declared.step.Next.TheVariants.{Both}
use Rattle.plan_steps.specs.declared.step.PlanEdge.{PlanEdge}
use Rattle.plan_steps.specs.declared.step.Step.{Step}
use Rattle.call_text.specs.CallText.{order_line}
use Rattle.call_text.specs.Words.{end_text, note_text}
use Rattle.plan_text.specs.PlanText.{replies_of, goes, reply_words, place_text, edge_text, texts_of, set_part}
use Rattle.plan_text.specs.declared.edges.EdgeForm.{EdgeForm}
use Rattle.plan_text.specs.declared.edges.EdgeForm.TheVariants.{Line, Arrow}

-- a byte within quotes: a quote and a backslash have a backslash before them
abbrev pub escaped : ℕ → List ℕ
escaped byte = if byte == 34 || byte == 92 then 92 ∷ byte ∷ [] else byte ∷ []

abbrev pub quoted : List ℕ → List ℕ
quoted [] = []
quoted (byte ∷ text) = escaped byte ++ quoted text

---- Arrows

-- whether an edge is the way of the first of the replies, the plain one
abbrev pub is_plain : Step → PlanEdge → List Reply → Bool
is_plain s e [] = false
is_plain s e (r ∷ rs) = goes s e r

abbrev pub note_line : Option PidNote → List ℕ
note_line None = []
note_line (Some note) = codes "pid " ++ note_text note ++ codes "\\l"

-- the plain way is drawn straight and bold
abbrev pub style_part : Bool → List ℕ
style_part true = codes ", weight=9, style=bold"
style_part false = []

-- from the n-th step to the place that an edge leads to
abbrev pub way_text : ℕ → PlanEdge → List ℕ
way_text n e = codes "  " ++ decimal n ++ codes " -> \"" ++ place_text e.next ++ codes "\""

-- the replies that go the way of an edge, and its note, each in a line
abbrev pub label_text : Step → PlanEdge → List Reply → List ℕ
label_text s e replies = codes " [label=\"" ++ reply_words s e (codes "\\l") replies ++ note_line e.note ++ codes "\""

-- the arrow of an edge from the n-th step
abbrev pub arrow_text : ℕ → Step → List Reply → PlanEdge → List ℕ
arrow_text n s replies e = way_text n e ++ label_text s e replies ++ style_part (is_plain s e replies) ++ codes "];\n"

-- the arrows from the n-th step, which has these replies
abbrev pub arrows_text : ℕ → Step → List Reply → List ℕ
arrows_text n s replies = texts_of (λ e. arrow_text n s replies e) s [] replies

-- an edge, written in its step's line or as an arrow from the n-th step
abbrev pub written : EdgeForm → Step → List Reply → PlanEdge → List ℕ
written Line s replies = λ e. edge_text s e replies
written (Arrow n) s replies = λ e. arrow_text n s replies e

---- Steps

-- what opens the box of a number
abbrev pub opening : ℕ → List ℕ
opening n = codes "  " ++ decimal n ++ codes " [shape=box, label=\""

-- a box with a number and a line behind it
abbrev pub box_text : ℕ → List ℕ → List ℕ
box_text n line = opening n ++ decimal n ++ codes " " ++ quoted line ++ codes "\"];\n"

abbrev pub step_line : Step → List ℕ
step_line s = order_line s.by s.order ++ set_part s.order s.set

abbrev pub drawn_step : ℕ → Step → List ℕ
drawn_step n s = box_text n (step_line s) ++ arrows_text n s (replies_of s.order)

-- steps in order, the first of them the n-th
abbrev pub drawn_steps : ℕ → List Step → List ℕ
drawn_steps n [] = []
drawn_steps n (s ∷ steps) = drawn_step n s ++ drawn_steps (n + 1) steps

---- Two parts

-- from a mark to a step
abbrev pub mark_text : List ℕ → ℕ → List ℕ
mark_text mark n = codes "  \"" ++ mark ++ codes "\" -> \"" ++ decimal n ++ codes "\";\n"

-- from the place of both to the first step of each
abbrev pub ways_in : Parts → List ℕ
ways_in p = mark_text (place_text (Both p.new p.old)) p.new.0 ++ mark_text (place_text (Both p.new p.old)) p.old.0

-- from the end of the new master's part to where the plan goes on
abbrev pub ways_on : Parts → List ℕ
ways_on p = mark_text (end_text JoinReady) p.ready.0 ++ mark_text (end_text JoinBack) p.back.0

abbrev pub drawn_parts : Option Parts → List ℕ
drawn_parts None = []
drawn_parts (Some p) = ways_in p ++ ways_on p

---- Plans

-- a plan by its numbered steps and its parts, where it has any
abbrev pub graph_text : List Step → Option Parts → List ℕ
graph_text steps parts =
    codes "digraph plan {\n  node [fontname=monospace];\n  edge [fontname=monospace];\n" ++ drawn_steps 1 steps ++ drawn_parts parts ++ codes "}\n"
