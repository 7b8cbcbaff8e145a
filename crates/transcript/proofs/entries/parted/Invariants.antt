use Rattle.std.proofs.Common.{◌≡◌, ◌≤◌, length}
use Rattle.transcript.specs.EntryReading.{parted_below, parted}
use Rattle.transcript.proofs.entries.parted.Given as goal

abbrev pub invariant-loop-place : goal.invariant-loop-place
invariant-loop-place l = (parted_below l.place l.text ≡ parted l.text) × (l.place ≤ length l.text)

abbrev pub decreases-loop-place : goal.decreases-loop-place
decreases-loop-place l = l.place
