-- The values that have a text which is read.
use Rattle.std.specs.Prelude.{⊤, ℕ, ◌≡◌, ◌≤◌, ◌<◌, ◌^◌, true, ◌⊎◌, List, ◌++◌, length, Option, Some, None, codes}
use Rattle.std.specs.List.{sum}
use Rattle.listener_set.specs.declared.generation.Generation.{Generation}
use Rattle.listener_set.specs.AddressText.{IsAddress}
use Rattle.listener_set.specs.PathText.{is_path}
use Rattle.listener_set.specs.Numbers.{AreBelow, AreNumbers}
use Rattle.listener_set.specs.DescriptorSets.{AreDescriptorNumbers}
use Rattle.vocabulary.specs.declared.names.Name.{Name}
use Rattle.vocabulary.specs.declared.names.Name.TheVariants as name
use Rattle.vocabulary.specs.declared.calls.Call.{Call}
use Rattle.vocabulary.specs.declared.calls.Call.TheVariants.{OpenAt, CloseAt, Fork, AwaitReady, Quit, Kill, Census}
use Rattle.vocabulary.specs.declared.calls.Call.TheVariants.{AwaitGone, SpawnMaster, Adopt, WritePid, MovePid}
use Rattle.vocabulary.specs.declared.calls.Call.TheVariants.{RemovePid, Alive, Leave, Usr1, TermMaster, Ask}
use Rattle.vocabulary.specs.declared.calls.Answer.{Answer}
use Rattle.vocabulary.specs.declared.calls.Answer.TheVariants as answer
use Rattle.vocabulary.specs.declared.reports.Report.{Report}
use Rattle.vocabulary.specs.declared.reports.Outcome.{Outcome}
use Rattle.vocabulary.specs.declared.reports.Outcome.TheVariants as outcome
use Rattle.call_replies.specs.Replies.{is_listed}

-- The numbers of images, configurations and masters are at most 4,294,967,295; a worker's is at most 1023.
abbrev pub IsNumber : ℕ → Type 0
IsNumber n = n < 2 ^ 32

abbrev pub IsWorkerNumber : ℕ → Type 0
IsWorkerNumber nr = nr < 1024

abbrev pub IsGeneration : Generation → Type 0
IsGeneration g = IsNumber g.image × IsNumber g.config

abbrev pub IsWorker : Generation → ℕ → Type 0
IsWorker g nr = IsGeneration g × IsWorkerNumber nr

abbrev pub IsName : Name → Type 0
IsName (name.Worker g nr) = IsWorker g nr
IsName (name.Draining g nr) = IsWorker g nr
IsName (name.Master i) = IsNumber i

-- a path that a configuration can name, or such a one with a suffix
abbrev pub IsPath : List ℕ → Type 0
IsPath path = (is_path path ≡ true) ⊎ ((stem : List ℕ) × (is_path stem ≡ true) × (path ≡ stem ++ codes ".oldbin"))

-- the descriptors that a new worker gets: all of its master's, or a set of ascending ones from 3 to 66
abbrev pub IsShare : Option (List ℕ) → Type 0
IsShare None = ⊤
IsShare (Some fds) = AreDescriptorNumbers fds

abbrev pub IsCall : Call → Type 0
IsCall (OpenAt a) = IsAddress a
IsCall (CloseAt a) = IsAddress a
IsCall (Fork g nr fds) = IsWorker g nr × IsShare fds
IsCall (AwaitReady g nr) = IsWorker g nr
IsCall (Quit g nr) = IsWorker g nr
IsCall (Kill g nr) = IsWorker g nr
IsCall (Census g) = IsGeneration g
IsCall (AwaitGone g nr) = IsWorker g nr
IsCall (SpawnMaster i) = IsNumber i
IsCall Adopt = ⊤
IsCall (WritePid path) = IsPath path
IsCall (MovePid from to) = IsPath from × IsPath to
IsCall (RemovePid path) = IsPath path
IsCall (Alive i) = IsNumber i
IsCall Leave = ⊤
IsCall (Usr1 g nr) = IsWorker g nr
IsCall (TermMaster i) = IsNumber i
IsCall (Ask n) = IsNumber n

-- a call with the master that makes it
abbrev pub IsCallLine : ℕ × Call → Type 0
IsCallLine line = IsNumber line.0 × IsCall line.1

-- A listener's descriptor is from 3 to 66.
abbrev pub IsAnswer : Answer → Type 0
IsAnswer (answer.Opened fd) = (3 ≤ fd) × (fd ≤ 66)
IsAnswer (answer.Counted ns) = AreNumbers 1024 ns
IsAnswer _ = ⊤

-- an answer that a call can have
abbrev pub IsAnswerTo : Call → Answer → Type 0
IsAnswerTo call a = IsAnswer a × (is_listed call a ≡ true)

-- Calls are counted from 1. A report's text may name any number as its cause.
abbrev pub IsCount : ℕ → Type 0
IsCount n = (1 ≤ n) × (n < 2 ^ 32)

abbrev pub IsCause : Option ℕ → Type 0
IsCause None = ⊤
IsCause (Some n) = IsNumber n

-- how many workers each of at most 16 groups lacks, where one group lacks one at least
pub record AreShortfalls (ns : List ℕ) : Type 0 where
  pub most : length ns ≤ 16
  pub within : AreBelow (2 ^ 32) ns
  pub some : 1 ≤ sum ns

abbrev pub IsOutcome : Outcome → Type 0
IsOutcome outcome.Done = ⊤
IsOutcome outcome.RolledBack = ⊤
IsOutcome (outcome.Degraded side shortfalls) = AreShortfalls shortfalls
IsOutcome outcome.Lost = ⊤

-- a report of which the text says all but the numbers that were ready
abbrev pub IsReport : List ℕ → Report → Type 0
IsReport ready r = IsOutcome r.outcome × IsCause r.cause × (r.ready ≡ ready)
