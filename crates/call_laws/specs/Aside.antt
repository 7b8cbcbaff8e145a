-- What a call by which a master builds or mends leaves alone.
use Rattle.std.specs.Prelude.{ℕ, ◌≡◌, Bool, true, false, not, List, Option, Some, None, filter}
use Rattle.definitions.specs.Table.{Process, Table, Caller, live_master}
use Rattle.definitions.specs.Calls.{Call, OpenAt, CloseAt, Fork, AwaitReady, Quit, Kill, Census, Adopt, Fate, is_of}
use Rattle.definitions.specs.Calls.{step_with, Handed}

-- the calls that concern a master and its workers alone
abbrev pub is_own_call : Call → Bool
is_own_call (OpenAt a) = true
is_own_call (CloseAt a) = true
is_own_call (Fork g k fds) = true
is_own_call (AwaitReady g k) = true
is_own_call (Quit g k) = true
is_own_call (Kill g k) = true
is_own_call (Census g) = true
is_own_call Adopt = true
is_own_call _ = false

-- the rows, with their holds, that are neither the master's own nor its workers'
abbrev pub aside_of : ℕ → List Process → List Process
aside_of master rows = filter (λ p. not (is_of master p)) rows

-- Such a call, however it is answered, leaves every other process as it was, with all its holds, and every file;
-- where its master is gone it leaves the whole table.
pub record LeavesAlone (image : ℕ) (o : Option Caller) (before after : Table) : Type 0 where
  pub rows : (c : Caller) → o ≡ Some c → aside_of c.number after.rows ≡ aside_of c.number before.rows
  pub gone : o ≡ None → after ≡ before
  pub files : after.files ≡ before.files

abbrev pub CallsLeaveAlone : Type 0
CallsLeaveAlone =
    (handed : Handed) (image : ℕ) (call : Call) (fate : Option Fate) (t : Table) → is_own_call call ≡ true →
    LeavesAlone image (live_master image t.rows) t (step_with handed image call fate t).table
