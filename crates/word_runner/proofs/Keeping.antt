-- What each run keeps, words keep.
use Rattle.std.proofs.Common.{◌≡◌, ℕ, ◌+◌, List, [], ◌∷◌, Option, Some, None, sym, subst}
use Rattle.vocabulary.specs.Settings.{Settings}
use Rattle.definitions.specs.Master.{Record}
use Rattle.vocabulary.specs.declared.targets.Target.{Target}
use Rattle.vocabulary.specs.declared.reports.Report.{Report}
use Rattle.control_words.specs.declared.words.Word.{Word}
use Rattle.plan_walk.specs.Log.{Told}
use Rattle.word_runner.specs.declared.block.Block.{Block}
use Rattle.word_runner.specs.declared.block.Block.TheVariants.{Heard, Unread}
use Rattle.word_runner.specs.declared.block.Body.{Body}
use Rattle.word_runner.specs.declared.block.Body.TheVariants.{Nothing, Refused, Ran}
use Rattle.word_runner.specs.declared.enactor.Enacted.{Enacted}
use Rattle.word_runner.specs.declared.asking.Asked.{Asked}
use Rattle.word_runner.specs.declared.asking.Asked.TheVariants as asks
use Rattle.word_runner.specs.Asking.{asked_by}
use Rattle.word_runner.specs.declared.standing.Standing.{Standing}
use Rattle.word_runner.specs.Words.{HasRun, IsActed, IsAsked, IsHeard, AreDone}

-- a fact on what targets are carried out on and on the record, which each run keeps
module _ {G : Type 0} (enacts : G → ℕ → Record → Target → Enacted → G → Type 0)
    (declines : G → ℕ → Record → Target → List ℕ → Type 0) (Holds : G → Option Record → Type 0)
    (runs : (place : ℕ) (old : Standing G) (r : Record) (target : Target) (log : Told) (report : Report)
    (new : Standing G) → HasRun enacts place old r target log report new → Holds old.world old.record →
    Holds new.world new.record) where
  abbrev There : Standing G → Type 0
  There s = Holds s.world s.record

  still : (old new : Standing G) → new ≡ old → There old → There new
  still old new same h = subst There (sym same) h

  acted : (target : Target) (place : ℕ) (r : Record) (old : Standing G) (body : Body) (new : Standing G) →
      IsActed enacts declines place old r target body new → There old → There new
  acted target place r old Nothing new is h = absurd is
  acted target place r old (Refused code) new is h = still old new is.still h
  acted target place r old (Ran log report) new is h = runs place old r target log report new is h

  asked : (what : Asked) (place : ℕ) (r : Record) (old : Standing G) (body : Body) (new : Standing G) →
      IsAsked enacts declines what place r old body new → There old → There new
  asked asks.Nothing place r old body new is h = still old new is.1 h
  asked (asks.Beat beat) place r old body new is h = subst There (sym is.1) h
  asked (asks.Act target) place r old body new is h = acted target place r old body new is h
  asked (asks.Refused code) place r old body new is h = still old new is.1 h

  heard : (state : Option Record) (settings : Option Settings) (word : Word) (place : ℕ) (old : Standing G)
      (body : Body) (new : Standing G) → IsHeard enacts declines state settings word place old body new → There old →
      There new
  heard None settings word place old body new is h = still old new is.1 h
  heard (Some r) settings word place old body new is h = asked (asked_by word r old.workers settings) place r old body new is h

  pub done-keeps : (settings : Option Settings) (words : List Word) (place : ℕ) (first : Standing G)
      (blocks : List Block) (last : Standing G) → AreDone enacts declines settings words place first blocks last →
      There first → There last
  done-keeps settings words place first [] last done h = still first last done h
  done-keeps settings [] place first (b ∷ blocks) last done h = absurd done
  done-keeps settings (w ∷ words) place first (Unread refusal ∷ blocks) last done h = absurd done
  done-keeps settings (w ∷ words) place first (Heard own body ∷ blocks) last done h =
      done-keeps settings words (place + 1) done.0 blocks last done.3 (heard first.record settings w place first body done.0 done.2 h)
