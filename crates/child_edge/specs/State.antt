-- What an edge knows.
use Rattle.std.specs.Prelude.{ℕ, Bool, List, Option}
pub use Rattle.definitions.specs.Master.{Listener}
use Rattle.child_workers.specs.declared.worker.Worker.{Worker}
pub use Rattle.child_edge.specs.declared.state.ChildMaster.{ChildMaster}
use Rattle.child_edge.specs.declared.state.EdgeState.{EdgeState}

pub record State : Type 0 where
  -- the image whose calls it makes itself, and its own process number
  pub image : ℕ
  pub pid : ℕ
  -- where it listens, in ascending descriptors
  pub listeners : List Listener
  -- upwards in number, and those of one number by their start
  pub workers : List Worker
  -- how many starts of workers there were, failed ones too
  pub starts : ℕ
  -- the master that it started
  pub child : Option ChildMaster
  -- whether it took over from an older master
  pub adopted : Bool
  -- whether its own master has left; it goes on passing lines
  pub left : Bool
  -- the text of the handover
  pub text : List ℕ

abbrev pub state_of : EdgeState → State
state_of s = record {
  image = s.image;
  pid = s.pid;
  listeners = s.listeners;
  workers = s.workers.items;
  starts = s.starts;
  child = s.child;
  adopted = s.adopted;
  left = s.left;
  text = s.text.items;
}
