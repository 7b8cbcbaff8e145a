-- How a target is explored by one order after another.
use Rattle.std.specs.Prelude.{ℕ, ◌≡◌, ◌+◌, Bool, List, [], ◌∷◌, None}
use Rattle.vocabulary.specs.declared.targets.Target.{Target}
use Rattle.definitions.specs.Table.{Table}
use Rattle.definitions.specs.Master.{Record}
use Rattle.definitions.specs.Plans.{Turn}
use Rattle.definitions.specs.Run.{Pattern}
use Rattle.plan_executor.specs.Refusals.{IsRefused}
use Rattle.plan_executor.specs.declared.enactment.EnactRefusal.{EnactRefusal}
use Rattle.explorer.specs.declared.findings.Findings.{Findings}
use Rattle.explorer.specs.Tallies.{nothing_counted}
use Rattle.explorer.specs.Explored.{explored_from}
use Rattle.explorer.specs.Searched.{AreFewest, AreMost}
use Rattle.order_explorer.specs.declared.exploring.OrderSearch.{OrderSearch}
use Rattle.order_explorer.specs.declared.totals.Totals.{Totals}
use Rattle.order_explorer.specs.Totals.{totals_with}

-- The order at place n is explored as `explore` does it by these turns, with nothing found before, and what is found is added.
pub record IsAdded (r : Record) (target : Target) (t : Table) (pairs : Bool) (n : ℕ) (turns : List Turn) (before after : Totals) : Type 0 where
  pub begun : Findings
  pub no_least : begun.least ≡ None
  pub no_most : begun.most ≡ None
  pub found : Findings
  pub tally : found.tally ≡ explored_from r target turns t pairs nothing_counted
  pub least : AreFewest (record { state = r; target = target; turns = turns; table = t }) pairs begun found
  pub most : AreMost (record { state = r; target = target; turns = turns; table = t }) pairs begun found
  pub added : after ≡ totals_with n found before

-- Each of these orders is, one after another, of which the first is at place n.
abbrev pub AreAdded : Record → Target → Table → Bool → ℕ → List (List Turn) → Totals → Totals → Type 0
AreAdded r target t pairs n [] before after = after ≡ before
AreAdded r target t pairs n (turns ∷ orders) before after =
    (middle : Totals) × IsAdded r target t pairs n turns before middle × AreAdded r target t pairs (n + 1) orders middle after

-- the same of what is asked for
abbrev pub IsSearched : OrderSearch → ℕ → List Turn → Totals → Totals → Type 0
IsSearched search n turns before after = IsAdded search.state.now search.target.now search.kernel.now.table search.pairs n turns before after

abbrev pub AreSearched : OrderSearch → Totals → Totals → Type 0
AreSearched search before after = AreAdded search.state.now search.target.now search.kernel.now.table search.pairs 0 search.orders.now before after

-- The target is refused so by whatever turns, and whatever goes wrong.
abbrev pub IsHopelessly : OrderSearch → EnactRefusal → Type 0
IsHopelessly search why = (turns : List Turn) (pattern : Pattern) → IsRefused search.kernel.now.table search.state.now search.target.now turns pattern why

-- It is refused for no such reason.
abbrev pub IsNeverRefused : OrderSearch → Type 0
IsNeverRefused search = (why : EnactRefusal) → IsHopelessly search why → ⊥
