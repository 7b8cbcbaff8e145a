-- What a master knows of its groups is what its configuration says of them.
use Rattle.std.specs.Prelude.{ℕ, ◌≡◌, ◌<◌, List, Some, map, length, ⊤}
use Rattle.worker_groups.specs.Groups.{addresses_in}
use Rattle.listener_set.specs.Numbers.{RisesFrom}
use Rattle.vocabulary.specs.Settings.{Settings}
use Rattle.vocabulary.specs.declared.plans.Side.TheVariants as side
use Rattle.vocabulary.specs.declared.reports.Outcome.TheVariants as outcome
use Rattle.definitions.specs.Table.{Address}
use Rattle.definitions.specs.Master.{Layout, layout_in, Listener, Record, layout_of, Target, Workers, Mend, Reopen}
use Rattle.definitions.specs.Master.{Reload, Upgrade, Attended, Stop, layout_wanted}
use Rattle.call_laws.specs.Start.{started}
use Rattle.definitions.specs.Run.{Report, Outcome}
use Rattle.definitions.specs.After.{record_after}

-- the same groups, and each listens at the same addresses
abbrev pub IsSameLayout : Layout → Layout → Type 0
IsSameLayout l m = (l.groups ≡ m.groups) × ((place : ℕ) (a : Address) → place < length l.groups → l.listens place a ≡ m.listens place a)

-- the groups of a configuration take all of its addresses
abbrev pub TakeAll : Settings → Type 0
TakeAll s = addresses_in s.groups ≡ length s.listeners

-- A master that starts listens as its configuration lays out.
abbrev pub StartsLaidOut : Type 0
StartsLaidOut =
    (s : Settings) (wanted : ℕ) (ready : List ℕ) (pid : ℕ) → TakeAll s →
    IsSameLayout (layout_of (started s wanted ready pid)) (layout_in s.groups s.listeners)

---- After a plan

-- the layout of the side that an outcome names
abbrev pub layout_told : Record → Target → Outcome → Layout
layout_told r target outcome.Done = layout_wanted r target
layout_told r target outcome.RolledBack = layout_of r
layout_told r target (outcome.Degraded side.Old shortfalls) = layout_of r
layout_told r target (outcome.Degraded side.Target shortfalls) = layout_wanted r target
layout_told r target outcome.Lost = layout_of r

-- What is asked where a target has a configuration: that its groups take all addresses, and that the record's descriptors rise, from 3 on.
abbrev pub CanBeLaidOut : Record → Target → Type 0
CanBeLaidOut r (Reload s) = TakeAll s × RisesFrom 3 (map (λ (l : Listener). l.descriptor) r.listeners)
CanBeLaidOut r (Upgrade s) = TakeAll s × RisesFrom 3 (map (λ (l : Listener). l.descriptor) r.listeners)
CanBeLaidOut r (Attended s) = TakeAll s × RisesFrom 3 (map (λ (l : Listener). l.descriptor) r.listeners)
CanBeLaidOut r (Workers n) = ⊤
CanBeLaidOut r (Mend overdue) = ⊤
CanBeLaidOut r Reopen = ⊤
CanBeLaidOut r (Stop quick) = ⊤

-- The record that a plan leaves listens as the side that its outcome names is laid out.
abbrev pub RecordsLaidOut : Type 0
RecordsLaidOut =
    (r : Record) (target : Target) (report : Report) (pid : ℕ) (left : Record) → CanBeLaidOut r target →
    record_after r target report pid ≡ Some left → IsSameLayout (layout_of left) (layout_told r target report.outcome)
