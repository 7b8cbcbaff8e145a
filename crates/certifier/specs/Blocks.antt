-- Blocks, compared one after another with plans and kernel.
use Rattle.std.specs.Prelude.{⊤, ℕ, ◌≡◌, ◌+◌, ◌-◌, ◌⊎◌, if◌then◌else◌, Bool, true, false, List, [], ◌∷◌, ◌++◌, length, slice_get, take, Option, Some, None}
use Rattle.vocabulary.specs.Settings.{Settings}
use Rattle.vocabulary.specs.declared.targets.Target.{Target}
use Rattle.vocabulary.specs.declared.reports.Entry.{Entry}
use Rattle.vocabulary.specs.declared.reports.Report.{Report}
use Rattle.definitions.specs.Master.{Record}
use Rattle.kernel_model.specs.State.{State}
use Rattle.worker_table.specs.Beats.{Workers}
use Rattle.worker_table.specs.Calls.{beating}
use Rattle.control_words.specs.declared.words.Word.{Word}
use Rattle.control_words.specs.declared.words.Word.TheVariants.{Hup, Usr2, Usr2Attended}
use Rattle.word_runner.specs.declared.asking.Asked.{Asked}
use Rattle.word_runner.specs.declared.asking.Asked.TheVariants as asks
use Rattle.word_runner.specs.declared.block.Block.{Block}
use Rattle.word_runner.specs.declared.block.Block.TheVariants.{Heard, Unread}
use Rattle.word_runner.specs.declared.block.Body.{Body}
use Rattle.word_runner.specs.declared.block.Body.TheVariants.{Nothing, Refused, Ran}
use Rattle.word_runner.specs.Asking.{asked_by, IsActOn, IsNoted}
use Rattle.word_runner.specs.declared.standing.Standing.{Standing}
use Rattle.word_runner.specs.Words.{HasRun}
use Rattle.kernel_pattern.specs.declared.section.Section.{Section}
use Rattle.plan_executor.specs.Words.{quiet_section, EnactsAt}
use Rattle.mismatches.specs.declared.Mismatch.{Mismatch}
use Rattle.mismatches.specs.declared.Mismatch.TheVariants as mismatch
use Rattle.certifier.specs.Certified.{IsCertified}
use Rattle.certifier.specs.Explained.{IsMismatch}

-- What a word asks of the master; nothing where it has stopped.
abbrev pub asked_at : Option Settings → Word → Option Record → Workers → Asked
asked_at settings word None workers = asks.Nothing
asked_at settings word (Some r) workers = asked_by word r workers settings

---- One block

-- A word that asks for no target came to nothing: a beat is noted, whatever the table of workers says of it, and all else is as it was.
abbrev pub IsIdle : Asked → Standing State → Standing State → Type 0
IsIdle asks.Nothing old new = new ≡ old
IsIdle (asks.Beat beat) old new =
    (body : Body) × IsNoted (beating old.workers beat.nr beat.now) beat.nr beat.now old.workers body new.workers × (new ≡ record old { workers = new.workers })
IsIdle (asks.Act target) old new = ⊥
IsIdle (asks.Refused code) old new = new ≡ old

-- A word asks the master for a target. These calls and this report of it are certified by a section, and to carry the target out
-- in that, which makes just these calls and this report, leads from the one standing to the other.
pub record IsFollowed (settings : Option Settings) (word : Word) (entries : List Entry) (report : Report)
    (old : Standing State) (section : Section) (new : Standing State) : Type 0 where
  pub master : Record
  pub runs : old.record ≡ Some master
  pub target : Target
  pub asks : asked_by word master old.workers settings ≡ asks.Act target
  pub certified : IsCertified old.world.table master target entries report section
  pub room : ℕ
  pub carried_out : HasRun (EnactsAt (section ∷ [])) 0 old master target (record { entries = entries; room = room }) report new

-- A section explains what a word came to, which leads from one standing to the other. A refused word changes nothing, and is taken
-- as it is.
abbrev pub IsBodyTaken : Option Settings → Word → Body → Standing State → Section → Standing State → Type 0
IsBodyTaken settings word Nothing old section new = (section ≡ quiet_section) × IsIdle (asked_at settings word old.record old.workers) old new
IsBodyTaken settings word (Refused code) old section new = (section ≡ quiet_section) × (new ≡ old)
IsBodyTaken settings word (Ran log report) old section new = IsFollowed settings word log.entries report old section new

-- It explains a block. An unread line changes nothing, and is taken as it is.
abbrev pub IsTaken : Option Settings → Block → Standing State → Section → Standing State → Type 0
IsTaken settings (Heard word body) old section new = IsBodyTaken settings word body old section new
IsTaken settings (Unread refusal) old section new = (section ≡ quiet_section) × (new ≡ old)

-- Calls and a report do not match: those of a target as `certify` says, and the first where no target is asked for.
abbrev pub IsRunFault : Asked → Standing State → Record → List Entry → Report → Mismatch → Type 0
IsRunFault asks.Nothing s r entries report why = why ≡ mismatch.Step 1
IsRunFault (asks.Beat beat) s r entries report why = why ≡ mismatch.Step 1
IsRunFault (asks.Act target) s r entries report why = IsMismatch s.world.table r target entries report why
IsRunFault (asks.Refused code) s r entries report why = why ≡ mismatch.Step 1

abbrev pub IsRunFaultOf : Option Record → Option Settings → Word → Standing State → List Entry → Report → Mismatch → Type 0
IsRunFaultOf None settings word s entries report why = why ≡ mismatch.Step 1
IsRunFaultOf (Some r) settings word s entries report why = IsRunFault (asked_by word r s.workers settings) s r entries report why

-- What is wrong with what a word came to. Where it asks for a target, it does not come to nothing.
abbrev pub IsBodyFault : Option Settings → Word → Body → Standing State → Mismatch → Type 0
IsBodyFault settings word Nothing s why = (why ≡ mismatch.Short) × IsActOn (λ target. ⊤) (asked_at settings word s.record s.workers)
IsBodyFault settings word (Refused code) s why = ⊥
IsBodyFault settings word (Ran log report) s why = IsRunFaultOf s.record settings word s log.entries report why

-- What is wrong with a block, want of memory aside.
abbrev pub IsFault : Option Settings → Block → Standing State → Mismatch → Type 0
IsFault settings (Heard word body) s why = IsBodyFault settings word body s why
IsFault settings (Unread refusal) s why = ⊥

---- The goals of words: the settings that they go over to, one after another

-- a word that can go over to other settings, and that was carried out
abbrev pub goes_over : Block → Bool
goes_over (Heard Hup (Ran log report)) = true
goes_over (Heard Usr2 (Ran log report)) = true
goes_over (Heard Usr2Attended (Ran log report)) = true
goes_over _ = false

-- the goal of the next word: the first of those that are left
abbrev pub goal_of : List Settings → Option Settings
goal_of goals = slice_get goals 0

-- without the first one, unless it is the last
abbrev pub later_goals : List Settings → List Settings
later_goals [] = []
later_goals (g ∷ []) = g ∷ []
later_goals (g ∷ h ∷ gs) = h ∷ gs

-- Those that are left after a block, and after blocks: each word that goes over takes one, and the last one stays.
abbrev pub goals_then : Block → List Settings → List Settings
goals_then b goals = if goes_over b then later_goals goals else goals

abbrev pub goals_after : List Block → List Settings → List Settings
goals_after [] goals = goals
goals_after (b ∷ bs) goals = goals_after bs (goals_then b goals)

---- Block after block

-- Sections explain blocks, one each, which lead from one standing to the other. Each word goes over to the goal that is its.
abbrev pub AreTaken : List Settings → List Block → Standing State → List Section → Standing State → Type 0
AreTaken goals [] old [] new = new ≡ old
AreTaken goals [] old (s ∷ ss) new = ⊥
AreTaken goals (b ∷ bs) old [] new = ⊥
AreTaken goals (b ∷ bs) old (s ∷ ss) new =
    (middle : Standing State) × IsTaken (goal_of goals) b old s middle × AreTaken (goals_then b goals) bs middle ss new

-- The blocks before the n-th, counted from 1, are explained, and where they lead to it is wrong for this reason, or memory is wanted.
pub record StopsAtBlock (goals : List Settings) (blocks : List Block) (old : Standing State) (n : ℕ) (why : Mismatch) : Type 0 where
  pub front : List Block
  pub block : Block
  pub behind : List Block
  pub parts : blocks ≡ front ++ block ∷ behind
  pub number : n ≡ length front + 1
  pub sections : List Section
  pub there : Standing State
  pub taken : AreTaken goals front old sections there
  pub fault : (why ≡ mismatch.Memory) ⊎ IsFault (goal_of (goals_after front goals)) block there why

-- The blocks before the n-th, counted from 1, lead from the one standing to the other.
abbrev pub LeadsUpTo : List Settings → List Block → Standing State → ℕ → Standing State → Type 0
LeadsUpTo goals blocks old n new = (sections : List Section) × AreTaken goals (take (n - 1) blocks) old sections new
