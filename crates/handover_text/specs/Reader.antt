-- What a reader of a handover knows: which lines can come next, and what was read so far.
use Rattle.std.specs.Prelude.{Result, Ok, Err, Option, Some, None, List, []}
use Rattle.worker_groups.specs.declared.groups.Group.{Group}
use Rattle.definitions.specs.Calls.{Handover}
use Rattle.handover_text.specs.Reading.{Reached, Read, AtVersion, AtOldPid, AtGeneration, AtFirstListener, AtListeners}
use Rattle.handover_text.specs.Reading.{AtWants, AtGroup, AtPidFile, AtEnd, Over}
use Rattle.vocabulary.specs.declared.handover.HandoverRefusal.{HandoverRefusal}
use Rattle.handover_text.specs.declared.reader.NextLine.{NextLine}
use Rattle.handover_text.specs.declared.reader.NextLine.TheVariants as next

abbrev pub place_of : NextLine → Reached
place_of next.Version = AtVersion
place_of (next.OldPid version) = AtOldPid version
place_of (next.Generation version) = AtGeneration version
place_of (next.FirstListener version) = AtFirstListener version
place_of (next.Listeners version) = AtListeners version
place_of next.Wants = AtWants
place_of (next.Group g) = AtGroup g
place_of next.PidFile = AtPidFile
place_of (next.End version) = AtEnd version
place_of (next.Nothing version) = Over version

-- the groups, where there are some
abbrev pub groups_in : Option (List Group) → List Group
groups_in None = []
groups_in (Some groups) = groups

-- what reading a line gives: the state after it, or the line's refusal
abbrev pub read_to : Result (Unit {0}) HandoverRefusal → Reached × Handover → Read
read_to (Ok u) state = Ok state
read_to (Err refusal) state = Err refusal
