-- What is counted of the deaths of a word's masters, and what is said of them.
use Rattle.std.specs.Prelude.{◌≡◌, ℕ, nat_eq, nat_lt, Bool, false, ◌&&◌, ◌||◌, not, List, Option, Some, None, is_some, if◌then◌else◌}
use Rattle.vocabulary.specs.Settings.{Settings}
use Rattle.vocabulary.specs.declared.targets.Target.{Target}
use Rattle.definitions.specs.Table.{Table}
use Rattle.definitions.specs.Master.{Record}
use Rattle.definitions.specs.Plans.{Turn}
use Rattle.call_laws.specs.Pieces.{quiet}
use Rattle.control_words.specs.declared.words.Word.{Word}
use Rattle.word_runner.specs.declared.block.Body.{Body}
use Rattle.word_runner.specs.declared.block.Body.TheVariants.{Nothing, Refused}
use Rattle.word_runner.specs.declared.asking.Asked.{Asked}
use Rattle.word_runner.specs.declared.asking.Asked.TheVariants as asks
use Rattle.word_runner.specs.Asking.{asked_by, AsksTarget}
use Rattle.plan_executor.specs.Codes.{enact_code}
use Rattle.plan_executor.specs.Refusals.{IsRefused}
use Rattle.plan_executor.specs.declared.enactment.EnactRefusal.{EnactRefusal}
use Rattle.death_explorer.specs.declared.counts.DeathCounts.{DeathCounts}
use Rattle.death_explorer.specs.declared.counts.LeastLeft.{LeastLeft}
use Rattle.death_explorer.specs.Deaths.{counted_all, deaths_by}
use Rattle.exploration_text.specs.DeathsText.{deaths_text}
use Rattle.master_on_kernel.specs.Explorations.{IsToldOf}
use Rattle.master_on_kernel.specs.Outlooks.{Tells}
use Rattle.master_on_kernel.specs.declared.dying.DeathTrials.{DeathTrials}
use Rattle.master_on_kernel.specs.declared.dying.DeathsExplored.{DeathsExplored}
use Rattle.master_on_kernel.specs.declared.dying.DeathsExplored.TheVariants.{All, Told}
use Rattle.master_on_kernel.specs.declared.planning.Outlook.{Outlook}
use Rattle.master_on_kernel.specs.declared.rehearsal.Rehearsal.{Rehearsal}
use Rattle.master_on_kernel.specs.declared.summing.Demands.{Demands}

-- The target can't be carried out by some turns, though nothing goes wrong, and the code says why.
pub record HasNoDeaths (t : Table) (r : Record) (target : Target) (body : Body) : Type 0 where
  pub why : EnactRefusal
  pub turns : List Turn
  pub due : IsRefused t r target turns (λ n. quiet) why
  pub told : body ≡ Refused (enact_code why)

-- All deaths in the runs of a target are counted.
abbrev pub AreAllCounted : Table → Record → Target → DeathTrials → DeathCounts → DeathCounts → Type 0
AreAllCounted t r target trials before after =
    after ≡ counted_all r trials.settings.now (deaths_by r target 0 trials.orders.now t) before

-- Where there is none, it is told why.
abbrev pub AreDeathsOf : Table → Record → Target → DeathTrials → DeathCounts → DeathCounts → DeathsExplored → Type 0
AreDeathsOf t r target trials before after All = AreAllCounted t r target trials before after
AreDeathsOf t r target trials before after (Told body) = HasNoDeaths t r target body

-- what is told of a word that a master is asked, where it has no deaths
abbrev pub IsToldDead : Asked → Record → Rehearsal → Body → Type 0
IsToldDead asks.Nothing r m body = IsToldOf asks.Nothing r m body
IsToldDead (asks.Beat beat) r m body = IsToldOf (asks.Beat beat) r m body
IsToldDead (asks.Act target) r m body = HasNoDeaths m.standing.world.table r target body
IsToldDead (asks.Refused code) r m body = IsToldOf (asks.Refused code) r m body

abbrev pub IsToldDeadBy : Option Record → Rehearsal → Word → Body → Type 0
IsToldDeadBy None m word body = body ≡ Nothing
IsToldDeadBy (Some r) m word body = IsToldDead (asked_by word r m.standing.workers (Some m.next)) r m body

-- Where all deaths of a word are counted, they are those of the target that it asks for. Where it has none, it is told what it
-- comes to instead.
abbrev pub AreDeathsCounted : Rehearsal → Word → DeathTrials → DeathCounts → DeathCounts → DeathsExplored → Type 0
AreDeathsCounted m word trials before after All =
    AsksTarget (λ r target. AreAllCounted m.standing.world.table r target trials before after) m.standing.record (Some m.next) word m.standing.workers
AreDeathsCounted m word trials before after (Told body) = IsToldDeadBy m.standing.record m word body

---- What is said of them

-- a start did not bring the service of the settings in full
abbrev pub is_lost : DeathCounts → Bool
is_lost counts = nat_lt 0 counts.short.count || nat_lt 0 counts.closed.count

-- an address had fewer Ready workers before a start than are wanted
abbrev pub is_few : Option ℕ → Option LeastLeft → Bool
is_few (Some wanted) (Some found) = nat_lt found.ready wanted
is_few _ _ = false

abbrev pub is_death_violated : Demands → DeathCounts → Bool
is_death_violated demands counts = (demands.forbids_degraded && is_lost counts) || is_few demands.least counts.least

-- no death was healed, or none was there
abbrev pub is_death_unknown : Demands → DeathCounts → Bool
is_death_unknown demands counts = (demands.requires_done && nat_eq counts.healed.count 0) || (is_some demands.least && not (is_some counts.least))

abbrev pub death_status : Demands → DeathCounts → ℕ
death_status demands counts = if is_death_violated demands counts then 4 else if is_death_unknown demands counts then 6 else 0

pub record CountsDeaths (orders : List (List Turn)) (counts : DeathCounts) (demands : Demands) (outlook : Outlook) : Type 0 where
  pub text : outlook.text.items ≡ deaths_text orders counts
  pub status : outlook.status ≡ death_status demands counts

-- what was counted, or what the word came to instead
abbrev pub IsDeathSummary : DeathsExplored → List (List Turn) → DeathCounts → Demands → Outlook → Type 0
IsDeathSummary All orders counts demands outlook = CountsDeaths orders counts demands outlook
IsDeathSummary (Told body) orders counts demands outlook = Tells body outlook
