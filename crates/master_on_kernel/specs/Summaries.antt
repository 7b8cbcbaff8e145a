-- What is said of runs that were counted, and the status that goes with it.
use Rattle.std.specs.Prelude.{◌≡◌, ℕ, nat_eq, nat_lt, Bool, false, true, ◌&&◌, ◌||◌, List, Option, Some, None, is_some, if◌then◌else◌}
use Rattle.definitions.specs.Plans.{Turn}
use Rattle.order_explorer.specs.declared.totals.OrderedLeast.{OrderedLeast}
use Rattle.order_explorer.specs.declared.totals.Totals.{Totals}
use Rattle.exploration_text.specs.SummaryText.{summary_text}
use Rattle.master_on_kernel.specs.Outlooks.{Tells}
use Rattle.master_on_kernel.specs.declared.planning.Outlook.{Outlook}
use Rattle.master_on_kernel.specs.declared.summing.Demands.{Demands}
use Rattle.master_on_kernel.specs.declared.exploring.Explored.{Explored}
use Rattle.master_on_kernel.specs.declared.exploring.Explored.TheVariants.{All, Cut, Told}

abbrev pub is_degraded : Totals → Bool
is_degraded totals = nat_lt 0 totals.degraded_old.count || nat_lt 0 totals.degraded_target.count

-- an address that stays had fewer Ready workers than are wanted
abbrev pub is_short : Option ℕ → Option OrderedLeast → Bool
is_short (Some wanted) (Some found) = nat_lt found.least.ready wanted
is_short _ _ = false

-- a run showed what is not to be
abbrev pub is_violated : Demands → Totals → Bool
is_violated demands totals = (demands.forbids_degraded && is_degraded totals) || is_short demands.least totals.least

-- no run was done
abbrev pub is_never_done : Totals → Bool
is_never_done totals = nat_eq totals.done.count 0

-- there is no address of which so many are wanted
abbrev pub has_no_address : Option ℕ → Option OrderedLeast → Bool
has_no_address (Some wanted) None = true
has_no_address _ _ = false

-- something is demanded
abbrev pub demands_some : Demands → Bool
demands_some demands = demands.forbids_degraded || demands.requires_done || is_some demands.least

-- what is demanded is not known: runs are left, no run was done, or no address stays
abbrev pub is_unknown : Demands → Totals → Bool → Bool
is_unknown demands totals is_cut =
    (is_cut && demands_some demands) || (demands.requires_done && is_never_done totals) || has_no_address demands.least totals.least

abbrev pub status_of : Demands → Totals → Bool → ℕ
status_of demands totals is_cut =
    if is_violated demands totals then 4 else if is_unknown demands totals is_cut then 6 else 0

pub record Counts (orders : List (List Turn)) (totals : Totals) (is_cut : Bool) (demands : Demands) (outlook : Outlook) : Type 0 where
  pub text : outlook.text.items ≡ summary_text orders totals is_cut
  pub status : outlook.status ≡ status_of demands totals is_cut

-- what was counted, or what the word came to instead
abbrev pub IsSummary : Explored → List (List Turn) → Totals → Demands → Outlook → Type 0
IsSummary All orders totals demands outlook = Counts orders totals false demands outlook
IsSummary Cut orders totals demands outlook = Counts orders totals true demands outlook
IsSummary (Told body) orders totals demands outlook = Tells body outlook
