-- What control words come to, one after another, whatever carries targets out.
use Rattle.std.specs.Prelude.{ℕ, ◌≡◌, ◌+◌, List, [], ◌∷◌, Option, Some, None}
use Rattle.vocabulary.specs.Settings.{Settings}
use Rattle.definitions.specs.Master.{Record}
use Rattle.vocabulary.specs.declared.targets.Target.{Target}
use Rattle.vocabulary.specs.declared.reports.Report.{Report}
use Rattle.worker_table.specs.Beats.{Workers, followed}
use Rattle.worker_table.specs.Calls.{beating}
use Rattle.control_words.specs.declared.words.Word.{Word}
use Rattle.plan_walk.specs.Log.{Told}
use Rattle.word_runner.specs.declared.block.Block.{Block}
use Rattle.word_runner.specs.declared.block.Block.TheVariants.{Heard, Unread}
use Rattle.word_runner.specs.declared.block.Body.{Body}
use Rattle.word_runner.specs.declared.block.Body.TheVariants.{Nothing, Refused, Ran}
use Rattle.word_runner.specs.declared.enactor.Enacted.{Enacted}
use Rattle.word_runner.specs.declared.standing.Standing.{Standing}
use Rattle.word_runner.specs.Codes.{stopped_code}
use Rattle.word_runner.specs.Started.{started}
use Rattle.word_runner.specs.declared.asking.Asked.{Asked}
use Rattle.word_runner.specs.declared.asking.Asked.TheVariants as asks
use Rattle.word_runner.specs.Asking.{asked_by, AsksTarget, IsNoted}

---- A word that asks for no target

-- a refused word prints its code and changes nothing
abbrev pub IsStill : {G : Type 0} → List ℕ → Standing G → Body → Standing G → Type 0
IsStill code old body new = (body ≡ Refused code) × (new ≡ old)

---- One word

-- The target was carried out from the one to the other. Then the record is the one that this leaves, and of the workers
-- those that are ready stay, each with its last beat unless the run started it.
pub record HasRun {G : Type 0} (enacts : G → ℕ → Record → Target → Enacted → G → Type 0) (place : ℕ) (old : Standing G)
    (r : Record) (target : Target) (log : Told) (report : Report) (new : Standing G) : Type 0 where
  pub enacted : enacts old.world place r target (record { log = log; report = report; after = new.record }) new.world
  pub workers : new.workers ≡ followed old.workers report.ready (started new.record log.entries)

-- What carries targets out declined this one with this code.
pub record IsDeclined {G : Type 0} (declines : G → ℕ → Record → Target → List ℕ → Type 0) (place : ℕ) (old : Standing G)
    (r : Record) (target : Target) (code : List ℕ) (new : Standing G) : Type 0 where
  pub declined : declines old.world place r target code
  pub still : new ≡ old

-- A word asks the running master for a target, and memory is wanted to carry that out. Where there is no word, none is.
abbrev pub WantsMemory : {G : Type 0} → (G → ℕ → Record → Target → Type 0) → Option Settings → Option Word → ℕ → Standing G → Type 0
WantsMemory wants settings None place s = ⊥
WantsMemory wants settings (Some word) place s = AsksTarget (wants s.world place) s.record settings word s.workers

module _ {G : Type 0} (enacts : G → ℕ → Record → Target → Enacted → G → Type 0) (declines : G → ℕ → Record → Target → List ℕ → Type 0) where
  -- What a running master makes of a target.
  abbrev pub IsActed : ℕ → Standing G → Record → Target → Body → Standing G → Type 0
  IsActed place old r target Nothing new = ⊥
  IsActed place old r target (Refused code) new = IsDeclined declines place old r target code new
  IsActed place old r target (Ran log report) new = HasRun enacts place old r target log report new

  -- What it makes of what a word asks.
  abbrev pub IsAsked : Asked → ℕ → Record → Standing G → Body → Standing G → Type 0
  IsAsked asks.Nothing place r old body new = (body ≡ Nothing) × (new ≡ old)
  IsAsked (asks.Beat beat) place r old body new =
      IsNoted (beating old.workers beat.nr beat.now) beat.nr beat.now old.workers body new.workers × (new ≡ record old { workers = new.workers })
  IsAsked (asks.Act target) place r old body new = IsActed place old r target body new
  IsAsked (asks.Refused code) place r old body new = IsStill code old body new

  abbrev pub IsHeard : Option Record → Option Settings → Word → ℕ → Standing G → Body → Standing G → Type 0
  IsHeard None settings word place old body new = IsStill stopped_code old body new
  IsHeard (Some r) settings word place old body new = IsAsked (asked_by word r old.workers settings) place r old body new

  -- What a word at a place comes to, from one standing to another.
  abbrev pub ComesTo : Option Settings → Word → ℕ → Standing G → Body → Standing G → Type 0
  ComesTo settings word place old body new = IsHeard old.record settings word place old body new

  -- The first words of a list, the first of which has this place, come to these blocks, and lead from one standing to the other.
  abbrev pub AreDone : Option Settings → List Word → ℕ → Standing G → List Block → Standing G → Type 0
  AreDone settings words place old [] new = new ≡ old
  AreDone settings [] place old (block ∷ blocks) new = ⊥
  AreDone settings (word ∷ words) place old (Unread refusal ∷ blocks) new = ⊥
  AreDone settings (word ∷ words) place old (Heard own body ∷ blocks) new =
      (middle : Standing G) × (own ≡ word) × ComesTo settings word place old body middle × AreDone settings words (place + 1) middle blocks new
