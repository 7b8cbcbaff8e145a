-- The lines of an input, and the answers to questions.
use Rattle.std.specs.Prelude.{ℕ, ◌≡◌, List, [], ◌∷◌, Option, Some, None, Result, Ok, Err, IsSome, is_some, if◌then◌else◌}
use Rattle.vocabulary.specs.declared.calls.Answer.{Answer}
use Rattle.vocabulary.specs.declared.calls.Answer.TheVariants.{Back}
use Rattle.vocabulary.specs.declared.reports.Entry.{Entry}
use Rattle.child_processes.specs.NextLine.{unheard}
use Rattle.master_on_children.specs.Typed.{Typed, AreRead, IsWhole}
use Rattle.master_on_children.specs.Questions.{Asked, replies, lacks, asked, question_of}
use Rattle.master_on_children.specs.declared.fault.SupervisorFault.{SupervisorFault}
use Rattle.master_on_children.specs.declared.inbox.Inbox.{Inbox}

-- the calls that are made on the children: all but the questions
abbrev pub on_children : List Entry → List Entry
on_children [] = []
on_children (e ∷ entries) = if is_some (question_of e.call) then on_children entries else e ∷ on_children entries

-- what a read comes to once the input has ended
abbrev pub over : Result (Unit {0}) SupervisorFault → Result (Option Typed) SupervisorFault
over (Ok done) = Ok None
over (Err fault) = Err fault

-- An input has ended, and if it had before, then as it did.
abbrev pub IsOver : Option (Result (Unit {0}) SupervisorFault) → Option (Result (Unit {0}) SupervisorFault) → Type 0
IsOver None new = IsSome new
IsOver (Some end) new = new ≡ Some end

module _ {I : Type 0} (remaining : I → Option (List ℕ)) where
  -- the bytes of the input that no line told, where they are known
  abbrev pub unread : Inbox I → Option (List ℕ)
  unread inbox = unheard remaining inbox.lines

  -- One line more of an input that has not ended. The end and a fault are kept.
  abbrev pub Takes : Inbox I → Result (Option Typed) SupervisorFault → Inbox I → Type 0
  Takes old (Ok (Some line)) new = (new ≡ record old { lines = new.lines }) × AreRead (unread old) (line ∷ []) (unread new)
  Takes old (Ok None) new =
      (new ≡ record old { lines = new.lines; ended = Some (Ok tt) }) × AreRead (unread old) [] (unread new) ×
      IsWhole (unread old) (unread new)
  Takes old (Err fault) new = (new ≡ record old { lines = new.lines; ended = Some (Err fault) }) × AreRead (unread old) [] (unread new)

  -- One line more. Once the input has ended, that is what each further read comes to.
  abbrev pub ReadsMore : Option (Result (Unit {0}) SupervisorFault) → Inbox I → Result (Option Typed) SupervisorFault → Inbox I → Type 0
  ReadsMore None old read new = Takes old read new
  ReadsMore (Some end) old read new = (read ≡ over end) × (new ≡ old)

  -- The next line to act on: the first that waits, or else one more.
  abbrev pub TakesNext : List Typed → Inbox I → Result (Option Typed) SupervisorFault → Inbox I → Type 0
  TakesNext [] old next new = ReadsMore old.ended old next new
  TakesNext (line ∷ lines) old next new = (next ≡ Ok (Some line)) × (new ≡ record old { waiting = lines })

  abbrev pub IsNextLine : Inbox I → Result (Option Typed) SupervisorFault → Inbox I → Type 0
  IsNextLine old next new = TakesNext old.waiting old next new

  -- What came of a question, where all lines that were read are used up. Where there was neither an answer nor 64 lines, the input has
  -- ended, and the answer is to go back. How it ended before is kept.
  abbrev pub IsGiven : Asked → Answer → Inbox I → Inbox I → Type 0
  IsGiven (replies answer waiting left) a old new = (a ≡ answer) × (new.waiting ≡ waiting) × (left ≡ []) × (new.ended ≡ old.ended)
  IsGiven (lacks waiting) a old new =
      (a ≡ Back) × (new.waiting ≡ waiting) × IsOver old.ended new.ended ×
      (old.ended ≡ None → new.ended ≡ Some (Ok tt) → IsWhole (unread old) (unread new))

  -- The answer to a question, by the lines that were read for it.
  pub record IsAnswered (old : Inbox I) (a : Answer) (new : Inbox I) : Type 0 where
    pub ahead : List Typed
    pub are_read : AreRead (unread old) ahead (unread new)
    pub none_read : IsSome old.ended → ahead ≡ []
    pub is_given : IsGiven (asked old.waiting ahead) a old new

  -- No other call takes a line.
  abbrev pub IsAnsweredTo : Option ℕ → Inbox I → Answer → Inbox I → Type 0
  IsAnsweredTo None old a new = new ≡ old
  IsAnsweredTo (Some question) old a new = IsAnswered old a new

  -- The questions among these calls were answered, one after another.
  abbrev pub AreAnswered : Inbox I → List Entry → Inbox I → Type 0
  AreAnswered old [] new = new ≡ old
  AreAnswered old (e ∷ entries) new = (mid : Inbox I) × IsAnsweredTo (question_of e.call) old e.answer mid × AreAnswered mid entries new
