-- A walk of a plan whose answers the kernel gives under a pattern is the run of the plan under it.
--
-- With `MergesAreWoven`: any merge of a walk of the new part with a walk of the old one, and a walk of what follows
-- both, answered as the kernel answers, is the run of the plan under the turns that it uses. So the headline holds of
-- every merge.

use Rattle.definitions.specs as above
use Rattle.std.specs.Prelude.{◌≡◌, ◌≢◌, ℕ, ◌+◌, List, [], ◌∷◌, ◌++◌}
use above.Table.{Table}
use above.Calls.{Handed, after_exits, step_with}
use above.Run.{Tree, Ends, End, Entry, Pattern, Progress, Ran, run_with, At, lacked_by}
use above.Plans.{weave}
use Rattle.theorems.specs.Apart.{WalksAll, Walks, IsOf, AreCountsOf, AreOfBoth, of_master, turns_used}

-- Each call has the answer that the kernel gives there, the first being number n + 1 of the pattern; the table last.
abbrev pub IsAnswered : Handed → Pattern → ℕ → Table → List Entry → Table → Type 0
IsAnswered handed pattern n t [] last = t ≡ last
IsAnswered handed pattern n t (e ∷ entries) last =
    let moment = pattern (n + 1) in
    let s = step_with handed e.by e.call moment.fate (after_exits moment.exits t) in
    (s.answer ≡ e.answer) × IsAnswered handed pattern (n + 1) s.table entries last

abbrev pub WalksAreRuns : Type 0
WalksAreRuns =
    (handed : Handed) (tree : Tree) (pattern : Pattern) (p : Progress) (entries : List Entry) (last : Table)
    (end : End) →
    WalksAll tree p.lacked entries (Ends end) → IsAnswered handed pattern p.calls p.table entries last →
    ((run_with handed tree pattern p).entries ≡ entries) × ((run_with handed tree pattern p).last.table ≡ last)
    × ((run_with handed tree pattern p).ending ≡ At end)

-- what a run goes on as, from a progress on
pub record GoesOn (handed : Handed) (pattern : Pattern) (ran : Ran) (entries : List Entry) (t : Table)
    (later : Tree) : Type 0 where
  pub from : Progress
  pub table : from.table ≡ t
  pub entries_are : ran.entries ≡ entries ++ (run_with handed later pattern from).entries
  pub last : ran.last ≡ (run_with handed later pattern from).last
  pub ending : ran.ending ≡ (run_with handed later pattern from).ending

-- A merge of a walk of the new part with a walk of the old one, each to its end, whose answers the kernel gives: the run
-- of both parts under the turns that it uses makes just these calls, and goes on as what is joined.
abbrev pub MergesAreRuns : Type 0
MergesAreRuns =
    (handed : Handed) (pattern : Pattern) (p : Progress) (join : End → Tree) (new old : Tree) (a b : ℕ)
    (entries : List Entry) (end other : End) (t : Table) →
    a ≢ b → IsOf a new → IsOf b old → AreCountsOf a b p.lacked → AreOfBoth a b entries →
    Walks new (lacked_by a p.lacked) (of_master a entries) (Ends end) →
    Walks old (lacked_by b p.lacked) (of_master b entries) (Ends other) →
    IsAnswered handed pattern p.calls p.table entries t →
    GoesOn handed pattern (run_with handed (weave join new (turns_used new old entries) old) pattern p) entries t
    (join end)
