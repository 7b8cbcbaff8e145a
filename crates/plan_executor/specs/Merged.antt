-- What the two masters of an upgrade did, taken for each of them.
use Rattle.std.specs.Prelude.{◌≡◌, Bool, true, false, List, [], ◌++◌, ⊤}
use Rattle.vocabulary.specs.Settings.{Settings}
use Rattle.vocabulary.specs.declared.reports.Entry.{Entry}
use Rattle.vocabulary.specs.declared.targets.Target.{Target}
use Rattle.vocabulary.specs.declared.targets.Target.TheVariants.{Workers, Mend, Reopen, Reload, Upgrade, Attended, Stop}
use Rattle.definitions.specs.Calls.{SpawnMaster}
use Rattle.definitions.specs.Master.{Crew, Record, addresses_of, crew_of}
use Rattle.definitions.specs.Run.{Tree, Ends, End, Done, Split}
use Rattle.definitions.specs.After.{crew_wanted}
use Rattle.definitions.specs.Plans.{Turn, joined, does, move_aside, new_part, old_part, taken_over, back_from}
use Rattle.call_laws.specs.Pieces.{spawn_edges}
use Rattle.theorems.specs.Apart.{WalksAll, IsWalkedApart}

-- The steps of an upgrade before the parts of its masters, up to where these begin.
abbrev pub before_parts : Record → Crew → Tree
before_parts r new =
    move_aside r.generation.image r.pid_path r.note
    (does r.generation.image (SpawnMaster new.generation.image) (spawn_edges (Ends Split) (Ends Done))) (Ends Done)

-- Once the first of the entries have led to the parts, the new master's entries behind them are a walk of its part, and the old one's
-- of its own, merged as the turns say; and behind both parts the rest is a walk of what follows them, to an end of the plan.
abbrev pub AreMerged : Bool → Record → Crew → Settings → List Turn → List Entry → Type 0
AreMerged attended r new s turns entries =
    let by = r.generation.image in
    let heir = new.generation.image in
    let old = crew_of r in
    let back = back_from by heir old r.ready r.retries r.pid_path in
    let join = joined (taken_over attended by old new r.ready r.retries r.pid_path s.workers back) back in
    (first behind : List Entry) → entries ≡ first ++ behind → WalksAll (before_parts r new) [] first (Ends Split) →
    (end : End) × IsWalkedApart join (new_part new (addresses_of r) s.listeners s.workers) turns
    (old_part by old r.ready r.retries) heir by [] behind (Ends end)

-- So it is in an upgrade. A target of one master has no parts.
abbrev pub ActsApart : Record → Target → List Turn → List Entry → Type 0
ActsApart r (Upgrade s) turns entries = AreMerged false r (crew_wanted r (Upgrade s)) s turns entries
ActsApart r (Attended s) turns entries = AreMerged true r (crew_wanted r (Attended s)) s turns entries
ActsApart r (Workers n) turns entries = ⊤
ActsApart r (Mend overdue) turns entries = ⊤
ActsApart r Reopen turns entries = ⊤
ActsApart r (Reload s) turns entries = ⊤
ActsApart r (Stop quick) turns entries = ⊤
