-- What a family in memory tells.
use Rattle.std.specs.Prelude.{List, map, Option, Some, None, if◌then◌else◌}
use Rattle.child_recorder.specs.declared.recorded.FamilyCall.{FamilyCall}
use Rattle.child_recorder.specs.declared.recorded.FamilyCall.TheVariants.{Started, Said, HeardLine, Stopped, Awaited, Wrote, Renamed, Removed}
use Rattle.child_recorder.specs.declared.recorded.Recorded.{Recorded}
use Rattle.child_family.specs.Told.{Told, heard_of, started_child, said, heard, stopped_child, awaited_child}
use Rattle.child_family.specs.Told.{wrote_file, renamed_file, removed_file}

abbrev pub told_of : FamilyCall → Told
told_of (Started role result) = started_child role result
told_of (Said id line ok) = said id line.items ok
told_of (HeardLine id h line) = heard id (heard_of h line.items)
told_of (Stopped id) = stopped_child id
told_of (Awaited id ok) = awaited_child id ok
told_of (Wrote path contents ok) = wrote_file path contents.items ok
told_of (Renamed from to ok) = renamed_file from to ok
told_of (Removed path ok) = removed_file path ok

-- the calls that were made, unless one could not be kept
abbrev pub calls_of : Recorded → Option (List Told)
calls_of r = if r.is_whole then Some (map told_of r.calls.items) else None
