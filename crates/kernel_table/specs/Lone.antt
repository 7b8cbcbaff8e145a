-- Names that one worker bears at most.
use Rattle.std.specs.Prelude.{ℕ, ◌≡◌, ◌≤◌, ◌<◌, false, List, count_by}
use Rattle.listener_set.specs.Numbers.{is_in}
use Rattle.definitions.specs.Table.{Process, is_worker}
use Rattle.call_laws.specs.Pieces.{is_any}
use Rattle.kernel_table.specs.declared.lone_names.LoneNames.{LoneNames}

-- Of the master and generation one worker at most, in any stance, bears a number that is not doubled.
abbrev pub AreLone : LoneNames → List Process → Type 0
AreLone lone rows = (k : ℕ) → k < 1024 → is_in lone.doubled k ≡ false → count_by (is_worker is_any lone.parent lone.generation k) rows ≤ 1
