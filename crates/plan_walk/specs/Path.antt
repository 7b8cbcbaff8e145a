-- Paths of a plan's tree, and the report of one.
use Rattle.std.specs.Prelude.{ℕ, ◌+◌, ◌≡◌, List, [], ◌∷◌, ◌++◌, Option, Some, None, unwrap_or}
use Rattle.vocabulary.specs.declared.calls.Answer.TheVariants as answer
use Rattle.vocabulary.specs.declared.reports.Outcome.TheVariants as outcome
use Rattle.definitions.specs.Run.{reply_of, Done, call_of, Tree, Ends, Does, Entry, Report, Outcome, Lack, ready_after}
use Rattle.definitions.specs.Run.{lacked_by, lacked_after, outcome_of, At}
use Rattle.definitions.specs.Master.{PidNote, Sides}
use Rattle.call_laws.specs.Pieces.{lacked_last, went_wrong, first_cause}
use Rattle.rollback_plan.specs.Following.{follow}

-- How far a path has come: the rest of the tree, or nothing where the last answer had no edge; the last count, and
-- what the last counts lacked; the note; the first call that went wrong, counted from 1; and how many calls were made.
pub record Trail : Type 0 where
  pub rest : Option Tree
  pub ready : List ℕ
  pub lacked : List Lack
  pub note : PidNote
  pub cause : Option ℕ
  pub made : ℕ

abbrev pub begin : Tree → PidNote → Trail
begin tree note = record { rest = Some tree; ready = []; lacked = []; note = note; cause = None; made = 0 }

---- One entry

abbrev pub set_of : Option Tree → List ℕ
set_of (Some (Does by order set branches)) = set
set_of _ = []

abbrev pub rest_after : Option (Option PidNote × Tree) → Option Tree
rest_after None = None
rest_after (Some edge) = Some edge.1

abbrev pub note_after : Option (Option PidNote × Tree) → PidNote → PidNote
note_after None note = note
note_after (Some edge) note = unwrap_or edge.0 note

abbrev pub advance : Trail → Entry → Trail
advance t e = record {
  rest = rest_after (follow t.rest e.answer);
  ready = ready_after e.answer t.ready;
  lacked = lacked_after e.by (set_of t.rest) e.answer t.lacked;
  note = note_after (follow t.rest e.answer) t.note;
  cause = first_cause t.cause (went_wrong e.call (reply_of (set_of t.rest) e.answer)) (t.made + 1);
  made = t.made + 1;
}

abbrev pub trail_after : Trail → List Entry → Trail
trail_after t [] = t
trail_after t (e ∷ entries) = trail_after (advance t e) entries

---- Paths

-- The entry is a call of the step that is next, by its master, with the worker that it names.
abbrev pub Asks : Option Tree → List Lack → Entry → Type 0
Asks (Some (Does by order set branches)) lacked e = (e.by ≡ by) × (e.call ≡ call_of order (lacked_by by lacked))
Asks _ lacked e = ⊥

-- Each entry is the next step's.
abbrev pub Follows : Trail → List Entry → Type 0
Follows t [] = Unit {0}
Follows t (e ∷ entries) = Asks t.rest t.lacked e × Follows (advance t e) entries

-- No step is next: the path is at an end, or its last answer had no edge.
abbrev pub IsOver : Option Tree → Type 0
IsOver (Some (Does by order set branches)) = ⊥
IsOver _ = Unit {0}

---- Reports

-- the end that the path is at, or Lost where the last answer had no edge
abbrev pub IsOutcome : Sides → Option Tree → List ℕ → Outcome → Type 0
IsOutcome sides None lacking o = o ≡ outcome.Lost
IsOutcome sides (Some (Ends end)) lacking o = o ≡ outcome_of sides (At end) lacking
IsOutcome sides (Some (Does by order set branches)) lacking o = ⊥

pub record Reports (sides : Sides) (t : Trail) (report : Report) : Type 0 where
  pub outcome : IsOutcome sides t.rest (lacked_last t.lacked) report.outcome
  pub cause : report.cause ≡ t.cause
  pub note : report.note ≡ t.note
  pub ready : report.ready ≡ t.ready

-- the last entry says that its master is gone
abbrev pub EndsGone : List Entry → Type 0
EndsGone entries =
    (front : List Entry) × (last : Entry) × (entries ≡ front ++ last ∷ []) × (last.answer ≡ answer.MasterGone)

-- The entries are a whole path of the tree, or a path and one entry after it where a master is gone and the step has
-- no edge for that, and the report is theirs.
pub record KeepsPathLaw
    (tree : Tree) (note : PidNote) (sides : Sides) (entries : List Entry) (report : Report) : Type 0 where
  pub path : Follows (begin tree note) entries
  pub report_is : Reports sides (trail_after (begin tree note) entries) report
  pub lost : report.outcome ≡ outcome.Lost → EndsGone entries

---- An example: a tree without a step has the empty path, which is over

example : (note : PidNote) → IsOver (trail_after (begin (Ends Done) note) []).rest
example note = tt
