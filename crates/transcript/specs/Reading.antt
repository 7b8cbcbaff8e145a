-- Texts of several blocks, read line by line.
use Rattle.std.specs.Prelude.{ℕ, ◌+◌, ◌==◌, List, [], ◌∷◌, ◌++◌, length, Option, Some, None, option_map, Result, Ok, Err, if◌then◌else◌}
use Rattle.definitions.specs.Run.{ready_after}
use Rattle.vocabulary.specs.declared.reports.Entry.{Entry}
use Rattle.vocabulary.specs.declared.reports.Report.{Report}
use Rattle.control_words.specs.declared.words.Word.{Word}
use Rattle.word_runner.specs.declared.block.Block.{Block}
use Rattle.word_runner.specs.declared.block.Block.TheVariants as block
use Rattle.word_runner.specs.declared.block.Body.{Body}
use Rattle.word_runner.specs.declared.block.Body.TheVariants as body
use Rattle.plain_text.specs.Lines.{lines_of}
use Rattle.lines_text.specs.Reading.{unless_refused, reading_of}
use Rattle.lines_text.specs.declared.refusal.TextRefusal.{TextRefusal}
use Rattle.lines_text.specs.declared.refusal.TextRefusal.TheVariants as text
use Rattle.transcript.specs.BlockLine.{Line, Heard, Unread, Nothing, Refused, Made, Ended}
use Rattle.transcript.specs.LineReading.{plain_of, made_line, line_of}

---- Who was ready

-- the numbers of the last count among calls, or those before them
abbrev pub count_after : List ℕ → List Entry → List ℕ
count_after ready [] = ready
count_after ready (e ∷ es) = count_after (ready_after e.answer ready) es

abbrev pub last_count : List Entry → List ℕ
last_count entries = count_after [] entries

abbrev pub with_ready : List ℕ → Report → Report
with_ready ready r = record { outcome = r.outcome; cause = r.cause; note = r.note; ready = ready }

---- One line

-- a block that has begun: its word, and the calls so far
pub record Opened : Type 0 where
  pub word : Word
  pub made : List Entry

-- how far reading has come: the blocks that are read, and the one that has begun
pub record Reading : Type 0 where
  pub done : List Block
  pub current : Option Opened

abbrev pub begun : Reading
begun = record { done = []; current = None }

-- behind calls there stands no other body
abbrev pub if_first : ℕ → List Entry → Option TextRefusal
if_first number [] = None
if_first number (e ∷ es) = Some (text.Line number)

-- why a line with this number can't stand in a block
abbrev pub fault_within : ℕ → Line → Opened → Option TextRefusal
fault_within number (Made n e) o = if n == length o.made + 1 then None else Some (text.Order number)
fault_within number (Ended report) o = None
fault_within number Nothing o = if_first number o.made
fault_within number (Refused code) o = if_first number o.made
fault_within number _ o = Some (text.Line number)

-- why it can't stand between blocks
abbrev pub fault_between : ℕ → Line → Option TextRefusal
fault_between number (Heard word) = None
fault_between number (Unread refusal) = None
fault_between number _ = Some (text.Line number)

abbrev pub fault_at : ℕ → Line → Option Opened → Option TextRefusal
fault_at number line None = fault_between number line
fault_at number line (Some o) = fault_within number line o

abbrev pub if_fitting : Line → Option TextRefusal → Result Line TextRefusal
if_fitting line None = Ok line
if_fitting line (Some refusal) = Err refusal

abbrev pub if_formed : ℕ → Option Opened → Option Line → Result Line TextRefusal
if_formed number current None = Err (text.Line number)
if_formed number current (Some line) = if_fitting line (fault_at number line current)

-- a line other than a call, with its number, or why it is refused
abbrev pub plain_here : ℕ → Reading → List ℕ → Result Line TextRefusal
plain_here number r line = if_formed number r.current (plain_of line)

-- a call that has the number n in its block, or why it is refused
abbrev pub call_here : ℕ → Reading → ℕ → List ℕ → Result Line TextRefusal
call_here number r n rest = if_formed number r.current (made_line n rest)

-- any line
abbrev pub line_here : ℕ → Reading → List ℕ → Result Line TextRefusal
line_here number r line = if_formed number r.current (line_of line)

abbrev pub opened : Word → Reading → Reading
opened word r = record { done = r.done; current = Some (record { word = word; made = [] }) }

-- the block that ends so
abbrev pub closed : (Opened → Body) → Option Opened → List Block
closed ending None = []
closed ending (Some o) = block.Heard o.word (ending o) ∷ []

abbrev pub with_block : (Opened → Body) → Reading → Reading
with_block ending r = record { done = r.done ++ closed ending r.current; current = None }

abbrev pub with_entry : Entry → Opened → Opened
with_entry e o = record { word = o.word; made = o.made ++ e ∷ [] }

abbrev pub ran : Report → Opened → Body
ran report o = body.Ran (record { entries = o.made; room = 0 }) (with_ready (last_count o.made) report)

abbrev pub with_line : Line → Reading → Reading
with_line (Heard word) r = opened word r
with_line (Unread refusal) r = record { done = r.done ++ block.Unread refusal ∷ []; current = r.current }
with_line Nothing r = with_block (λ _. body.Nothing) r
with_line (Refused code) r = with_block (λ _. body.Refused code) r
with_line (Made n e) r = record { done = r.done; current = option_map (with_entry e) r.current }
with_line (Ended report) r = with_block (ran report) r

-- what is known after a line that was read, unless it was refused
abbrev pub known_after : Reading → Result Line TextRefusal → Result Reading TextRefusal
known_after r one = unless_refused one (λ line. Ok (with_line line r))

-- what is known after a line, or why the line is refused
abbrev pub taken : ℕ → Reading → List ℕ → Result Reading TextRefusal
taken number r text = known_after r (line_here number r text)

---- All lines

-- a text does not end within a block
abbrev pub ended : ℕ → List Block → Option Opened → Result (List Block) TextRefusal
ended number done None = Ok done
ended number done (Some o) = Err (text.Line number)

abbrev pub finished : ℕ → Reading → Result (List Block) TextRefusal
finished number r = ended number r.done r.current

-- what a text gives: the blocks, or its first faulty line
abbrev pub blocks_of : List ℕ → Result (List Block) TextRefusal
blocks_of text = reading_of taken finished 1 begun (lines_of text)
