-- How a supervisor starts, and all that it does.
use Rattle.std.specs.Prelude.{ℕ, ◌≡◌, true, List, [], Option, Some, None, Result}
use Rattle.std.specs.Io.KnownBytes.{Keeps}
use Rattle.vocabulary.specs.Settings.{Settings}
use Rattle.definitions.specs.Master.{Record}
use Rattle.call_laws.specs.Start.{started}
use Rattle.child_family.specs.Told.{Told, Tells, wrote_file}
use Rattle.child_family.specs.declared.family.Family.{Ghosts}
use Rattle.child_edge.specs.Edge.{begun_by}
use Rattle.child_family.specs.Lines.{pid_text}
use Rattle.child_edge.specs.State.{state_of}
use Rattle.word_runner.specs.declared.standing.Standing.{Standing}
use Rattle.word_runner.specs.declared.block.Block.{Block}
use Rattle.master_on_children.specs.Inbox.{unread}
use Rattle.master_on_children.specs.Lines.{IsRun}
use Rattle.master_on_children.specs.declared.attended.Attended.{Attended}
use Rattle.master_on_children.specs.declared.next.NextRefusal.{NextRefusal}

-- The pid file was written where there is a path for it; otherwise the family was asked nothing.
abbrev pub IsWritten : Option (List ℕ) → ℕ → Option (List Told) → Option (List Told) → Type 0
IsWritten None pid old new = new ≡ old
IsWritten (Some path) pid old new = Tells old new (wrote_file path (pid_text pid) true)

-- the record of a master that starts: as many workers are wanted as the settings say, and none is ready
abbrev pub first_record : Settings → ℕ → Record
first_record s pid = started s s.workers [] pid

module _ {F I L : Type 0} {f : Ghosts F} (remaining : I → Option (List ℕ)) where
  -- A master that starts over a family and an input: it has its record, no worker, and no line of the input yet.
  pub record IsFirst (s : Settings) (pid : ℕ) (family : F) (input : I) (first : Standing (Attended F I L f)) : Type 0 where
    pub family_is : first.world.edge.family ≡ family
    pub knows : state_of first.world.edge.state ≡ begun_by (first_record s pid)
    pub record_is : first.record ≡ Some (first_record s pid)
    pub workers : first.workers ≡ []
    pub none_waits : first.world.inbox.waiting ≡ []
    pub is_open : first.world.inbox.ended ≡ None
    pub unread_is : Keeps (remaining input) (unread remaining first.world.inbox)

-- The pid file was written, a master started over the family and the input, and these are all the blocks that it came to. It gives
-- the family back.
pub record IsSupervised {F I N : Type 0} (L : Type 0) (f : Ghosts F) (remaining : I → Option (List ℕ))
    (reads : N → Result Settings NextRefusal → N → Type 0) (s : Settings) (pid : ℕ) (family : F) (input : I) (n : N)
    (blocks : List Block) (m : N) (left : F) : Type 0 where
  pub begun : F
  pub written : IsWritten s.pid pid (f.told family) (f.told begun)
  pub first : Standing (Attended F I L f)
  pub is_first : IsFirst remaining s pid begun input first
  pub last : Standing (Attended F I L f)
  pub is_run : IsRun remaining reads n first blocks m last
  pub left_is : left ≡ last.world.edge.family
