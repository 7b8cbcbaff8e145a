-- How a new master serves, from the first line of its handover on.
use Rattle.std.specs.Prelude.{⊤, ℕ, ◌≡◌, ◌⊎◌, List, [], ◌∷◌, ◌++◌, Option, Some, None, Ok, Err}
use Rattle.definitions.specs.Calls.{Call, Answer, Handover}
use Rattle.vocabulary.specs.declared.calls.Answer.TheVariants.{Counted}
use Rattle.handover_text.specs.Spelling.{HandoverRefusal}
use Rattle.handover_text.specs.Reading.{reading}
use Rattle.child_family.specs.declared.family.Family.{Ghosts}
use Rattle.child_family.specs.Talk.{Held}
use Rattle.child_edge.specs.declared.edge.Edge.{Edge}
use Rattle.child_edge.specs.State.{state_of}
use Rattle.child_edge.specs.Table.{turn_of, reigning_tick}
use Rattle.child_edge.specs.Edge.{begun_from}
use Rattle.child_programs.specs.declared.answering.Refusing.{Refusing}
use Rattle.child_programs.specs.declared.master.NewMaster.{NewMaster}
use Rattle.child_programs.specs.declared.serving.Received.{Received}
use Rattle.child_programs.specs.declared.serving.Received.TheVariants as received
use Rattle.child_programs.specs.declared.serving.ServedMaster.{ServedMaster}
use Rattle.child_programs.specs.Requests.{Part, More, Whole, Other, part_of, with_line, refused}
use Rattle.child_programs.specs.Response.{Response, fails}
use Rattle.child_programs.specs.Served.{IsNextLine, AreNextLines, IsServed}
use Rattle.child_programs.specs.Master.{waits_of, asked, IsHeard}

---- Who answers

-- an edge answers a call by its conversation with the children
abbrev pub AnswersByEdge : {F : Type 0} (f : Ghosts F) → Edge F f → ℕ → Call → List ℕ → Edge F f → Answer → Type 0
AnswersByEdge f old by call text new a =
    Held (f.told old.family) (f.told new.family) (turn_of (record (state_of old.state) { text = text }) by call)
    (state_of new.state, a)

-- at a tick it counts those that beat of its workers, or of those of its own child master once it has left
abbrev pub BeatsByEdge : {F : Type 0} (f : Ghosts F) → Edge F f → ℕ → Edge F f → List ℕ → Type 0
BeatsByEdge f old now new numbers = Held (f.told old.family) (f.told new.family) (reigning_tick (state_of old.state) now) (state_of new.state, Counted numbers)

-- a master whose handover was faulty took nothing over, and has no workers
abbrev pub AnswersNothing : Refusing → ℕ → Call → List ℕ → Refusing → Answer → Type 0
AnswersNothing old by call text new a = a ≡ refused call

abbrev pub BeatsNobody : Refusing → ℕ → Refusing → List ℕ → Type 0
BeatsNobody old now new numbers = numbers ≡ []

-- What a line comes to, where calls and ticks are answered so. Where memory is refused, the master fails.
abbrev pub HearsBy : {M : Type 0} → (M → ℕ → Call → List ℕ → M → Answer → Type 0) → (M → ℕ → M → List ℕ → Type 0) →
    NewMaster M → List ℕ → NewMaster M → Response → Type 0
HearsBy answers beats old line new r =
    (IsHeard answers beats (asked (waits_of old.waiting old.handover) line).0 old.answers new.answers r ×
    (waits_of new.waiting new.handover ≡ (asked (waits_of old.waiting old.handover) line).1)) ⊎ (r ≡ fails)

---- The handover

-- these lines are of a handover, and none ends it
abbrev pub AreMore : List (List ℕ) → Type 0
AreMore [] = ⊤
AreMore (line ∷ lines) = (part_of line ≡ More) × AreMore lines

-- a text with lines behind it, each with its newline
abbrev pub with_lines : List ℕ → List (List ℕ) → List ℕ
with_lines text [] = text
with_lines text (line ∷ lines) = with_lines (with_line text line) lines

-- The next lines of an input are of a handover, and the one after them is this part of it.
pub record IsHandedOver (unread : Option (List ℕ)) (line : List ℕ) (part : Part) (left : Option (List ℕ)) : Type 0 where
  pub lines : List (List ℕ)
  pub from : Option (List ℕ)
  pub are_next : AreNextLines unread lines from
  pub are_more : AreMore lines
  pub is_next : IsNextLine from (Some line) left
  pub is_part : part_of line ≡ part

-- It came to its last line, and this is its text.
pub record IsWhole (unread : Option (List ℕ)) (text : List ℕ) (left : Option (List ℕ)) : Type 0 where
  pub last : List ℕ
  pub handed : IsHandedOver unread last Whole left
  pub text_is : text ≡ with_line (with_lines [] handed.lines) last

-- It ended before its last line.
pub record IsCut (unread : Option (List ℕ)) : Type 0 where
  pub lines : List (List ℕ)
  pub from : Option (List ℕ)
  pub left : Option (List ℕ)
  pub are_next : AreNextLines unread lines from
  pub are_more : AreMore lines
  pub is_next : IsNextLine from None left

-- what came of its lines; the last one that was heard is known
abbrev pub IsReceived : Option (List ℕ) → List ℕ → Option (List ℕ) → Received → Type 0
IsReceived unread line left (received.Whole text) = IsWhole unread text left
IsReceived unread line left (received.Broken text) = IsHandedOver unread line Other left
IsReceived unread line left received.Ended = IsCut unread

---- The service

-- A master that waits for nothing yet serves on an input, and calls and ticks are answered so; who answers at first and at last is named.
pub record IsServedBy {M : Type 0} (answers : M → ℕ → Call → List ℕ → M → Answer → Type 0)
    (beats : M → ℕ → M → List ℕ → Type 0) (first : M) (unread before : Option (List ℕ)) (status : ℕ) (last : M)
    (after : Option (List ℕ)) : Type 0 where
  pub old : NewMaster M
  pub new : NewMaster M
  pub begins : old.answers ≡ first
  pub waits : old.waiting ≡ None
  pub served : IsServed (HearsBy answers beats) unread old before status new after
  pub ends : new.answers ≡ last

-- A faulty handover was refused: a whole one that cannot be read, or one that a line broke off which asks for an answer. That line
-- is answered, too.
pub record IsRefused (unread before : Option (List ℕ)) (status : ℕ) (after : Option (List ℕ)) : Type 0 where
  pub from : Option (List ℕ)
  pub first : Refusing
  pub last : Refusing
  pub faulty :
      ((text : List ℕ) × IsWhole unread text from × (why : HandoverRefusal) × (reading text ≡ Err why))
      ⊎ ((line : List ℕ) × (left : Option (List ℕ)) × (handed : IsHandedOver unread line Other left) × (handed.from ≡ from))
  pub served : IsServedBy AnswersNothing BeatsNobody first from before status last after

-- A handover was taken over: the edge begins with what it says.
pub record IsAdopted {F : Type 0} (f : Ghosts F) (family : F) (pid : ℕ) (unread before : Option (List ℕ)) (status : ℕ)
    (left : F) (after : Option (List ℕ)) : Type 0 where
  pub from : Option (List ℕ)
  pub text : List ℕ
  pub whole : IsWhole unread text from
  pub handover : Handover
  pub is_read : reading text ≡ Ok handover
  pub first : Edge F f
  pub last : Edge F f
  pub begins : state_of first.state ≡ begun_from handover pid
  pub family_is : first.family ≡ family
  pub served : IsServedBy (AnswersByEdge f) (BeatsByEdge f) first from before status last after
  pub left_is : last.family ≡ left

-- A master on an input: memory was refused or a read failed, and nothing was said; its handover was cut, and nothing was said; the
-- handover was refused; or it was taken over.
abbrev pub IsServedAsMaster : {F : Type 0} (f : Ghosts F) → F → ℕ → Option (List ℕ) → Option (List ℕ) → ServedMaster F → Option (List ℕ) → Type 0
IsServedAsMaster {F} f family pid unread before r after =
    ((r.status ≡ 1) × (after ≡ before))
    ⊎ ((r.status ≡ 0) × (r.family ≡ Some family) × (after ≡ before) × IsCut unread)
    ⊎ ((r.family ≡ Some family) × IsRefused unread before r.status after)
    ⊎ ((left : F) × (r.family ≡ Some left) × IsAdopted f family pid unread before r.status left after)
