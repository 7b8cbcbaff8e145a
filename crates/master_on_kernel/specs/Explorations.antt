-- What is counted of the runs of a word.
use Rattle.std.specs.Prelude.{◌≡◌, Bool, List, [], ◌∷◌, Option, Some, None}
use Rattle.vocabulary.specs.declared.targets.Target.{Target}
use Rattle.definitions.specs.Table.{Table}
use Rattle.definitions.specs.Master.{Record}
use Rattle.definitions.specs.Plans.{Turn}
use Rattle.definitions.specs.Run.{Pattern}
use Rattle.control_words.specs.declared.words.Word.{Word}
use Rattle.worker_table.specs.Beats.{Workers}
use Rattle.worker_table.specs.Calls.{beating}
use Rattle.word_runner.specs.declared.block.Body.{Body}
use Rattle.word_runner.specs.declared.block.Body.TheVariants.{Nothing, Refused}
use Rattle.word_runner.specs.declared.asking.Asked.{Asked}
use Rattle.word_runner.specs.declared.asking.Asked.TheVariants as asks
use Rattle.word_runner.specs.Asking.{asked_by, IsNoted, AsksTarget}
use Rattle.plan_executor.specs.Codes.{enact_code}
use Rattle.plan_executor.specs.Refusals.{IsRefused}
use Rattle.plan_executor.specs.declared.enactment.EnactRefusal.{EnactRefusal}
use Rattle.order_explorer.specs.declared.choosing.ChosenOrders.{ChosenOrders}
use Rattle.order_explorer.specs.declared.exploring.OrderSearch.{OrderSearch}
use Rattle.order_explorer.specs.declared.totals.Totals.{Totals}
use Rattle.order_explorer.specs.Choosing.{IsChosen}
use Rattle.order_explorer.specs.Exploring.{AreAdded, AreSearched}
use Rattle.master_on_kernel.specs.declared.exploring.Explored.{Explored}
use Rattle.master_on_kernel.specs.declared.exploring.Explored.TheVariants.{All, Cut, Told}
use Rattle.master_on_kernel.specs.declared.rehearsal.Rehearsal.{Rehearsal}

-- A target that can't be carried out, whatever the turns are, and whatever goes wrong or doesn't.
abbrev pub IsHopeless : Table → Record → Target → EnactRefusal → Type 0
IsHopeless t r target why = (turns : List Turn) (pattern : Pattern) → IsRefused t r target turns pattern why

-- There is no such reason.
abbrev pub HasRuns : Table → Record → Target → Type 0
HasRuns t r target = (why : EnactRefusal) → IsHopeless t r target why → ⊥

-- The target can't be carried out, and the code says why.
pub record HasNoRuns (t : Table) (r : Record) (target : Target) (body : Body) : Type 0 where
  pub why : EnactRefusal
  pub due : IsHopeless t r target why
  pub told : body ≡ Refused (enact_code why)

-- Where all runs of a target by these orders are counted, the totals have what was found by each of them, once. Where it is cut,
-- there are some. Where there is none, it is told why.
abbrev pub AreCounted : OrderSearch → Totals → Totals → Explored → Type 0
AreCounted search before after All = AreSearched search before after
AreCounted search before after Cut = HasRuns search.kernel.now.table search.state.now search.target.now
AreCounted search before after (Told body) = HasNoRuns search.kernel.now.table search.state.now search.target.now body

-- what is told of a word that a master is asked, where it has no runs
abbrev pub IsToldOf : Asked → Record → Rehearsal → Body → Type 0
IsToldOf asks.Nothing r m body = body ≡ Nothing
IsToldOf (asks.Beat beat) r m body = (after : Workers) × IsNoted (beating m.standing.workers beat.nr beat.now) beat.nr beat.now m.standing.workers body after
IsToldOf (asks.Act target) r m body = HasNoRuns m.standing.world.table r target body
IsToldOf (asks.Refused code) r m body = body ≡ Refused code

-- a master that has ended answers nothing
abbrev pub IsToldInstead : Option Record → Rehearsal → Word → Body → Type 0
IsToldInstead None m word body = body ≡ Nothing
IsToldInstead (Some r) m word body = IsToldOf (asked_by word r m.standing.workers (Some m.next)) r m body

-- Where all runs of a word by these orders are counted, they are those of the target that it asks for. Where it has none, it is told
-- what it comes to instead.
abbrev pub IsExplored : Rehearsal → Word → List (List Turn) → Bool → Totals → Totals → Explored → Type 0
IsExplored m word orders pairs before after All =
    AsksTarget (λ r target. AreAdded r target m.standing.world.table pairs 0 orders before after) m.standing.record (Some m.next) word m.standing.workers
IsExplored m word orders pairs before after Cut = AsksTarget (HasRuns m.standing.world.table) m.standing.record (Some m.next) word m.standing.workers
IsExplored m word orders pairs before after (Told body) = IsToldInstead m.standing.record m word body

---- The orders of a word

-- those of a target; of a word that asks for none, the one without turns
abbrev pub HasOrdersOf : Asked → Record → Bool → ChosenOrders → Type 0
HasOrdersOf (asks.Act target) r pairs chosen = IsChosen r target pairs chosen
HasOrdersOf _ r pairs chosen = chosen.lists.items ≡ [] ∷ []

abbrev pub HasOrdersBy : Option Record → Rehearsal → Word → Bool → ChosenOrders → Type 0
HasOrdersBy None m word pairs chosen = chosen.lists.items ≡ [] ∷ []
HasOrdersBy (Some r) m word pairs chosen = HasOrdersOf (asked_by word r m.standing.workers (Some m.next)) r pairs chosen

-- All orders in which two masters can carry a word out.
abbrev pub HasOrders : Rehearsal → Word → Bool → ChosenOrders → Type 0
HasOrders m word pairs chosen = HasOrdersBy m.standing.record m word pairs chosen
