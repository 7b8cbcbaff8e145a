-- What a call leaves alone.
use Rattle.std.specs.Prelude.{ℕ, ◌≡◌, true}
use Rattle.definitions.specs.Table.{Table, live_master}
use Rattle.definitions.specs.Calls.{Call}
use Rattle.call_laws.specs.Aside.{is_own_call, LeavesAlone}

-- A call by which a master builds or mends changes no process, hold or file of another master or of its workers, from the table that
-- the exits before it left.
abbrev pub LeavesOthersAlone : ℕ → Call → Table → Table → Type 0
LeavesOthersAlone image call middle after = is_own_call call ≡ true → LeavesAlone image (live_master image middle.rows) middle after
