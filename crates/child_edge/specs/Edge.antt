-- What an edge begins with, and what it has done.
use Rattle.std.specs.Prelude.{◌≡◌, ℕ, ◌==◌, Bool, true, false, ◌&&◌, List, [], ◌∷◌, ◌++◌, Option, Some, None, IfSome, is_some, if◌then◌else◌}
use Rattle.vocabulary.specs.declared.reports.Entry.{Entry}
use Rattle.definitions.specs.Master.{Record}
use Rattle.definitions.specs.Calls.{Handover}
use Rattle.child_family.specs.Told.{Told}
use Rattle.child_family.specs.Talk.{IsHeld}
use Rattle.child_workers.specs.declared.worker.Worker.{Worker}
use Rattle.child_workers.specs.Workers.{is_ready}
use Rattle.child_edge.specs.State.{State, Listener}
use Rattle.child_edge.specs.Table.{turn_of}

-- no worker, and no child master
abbrev pub begun : ℕ → ℕ → List Listener → Bool → State
begun image pid listeners adopted = record {
  image = image;
  pid = pid;
  listeners = listeners;
  workers = [];
  starts = 0;
  child = None;
  adopted = adopted;
  left = false;
  text = [];
}

-- the master of a record
abbrev pub begun_by : Record → State
begun_by r = begun r.generation.image r.pid r.listeners false

-- a master that takes over
abbrev pub begun_from : Handover → ℕ → State
begun_from h pid = begun h.generation.image pid h.listeners true

-- the start that the last beat of a number named; of several ready ones of the number, that of the last which has beaten
abbrev pub start_after : ℕ → Option ℕ → List Worker → Option ℕ
start_after nr found [] = found
start_after nr found (w ∷ ws) = start_after nr (if (is_ready w.stage && (w.nr == nr)) && is_some w.beat then w.beat else found) ws

abbrev pub start_of : ℕ → List Worker → Option ℕ
start_of nr ws = start_after nr None ws

-- These are the conversations of the calls, one after another, and led from one state to another.
abbrev pub AreHeld : State → List Entry → List Told → State → Type 0
AreHeld first [] ts last = (ts ≡ []) × (last ≡ first)
AreHeld first (e ∷ es) ts last =
    (mid : State) × (now more : List Told) × (ts ≡ now ++ more) × IsHeld (turn_of first e.by e.call) now (mid, e.answer)
    × AreHeld mid es more last

-- Where the family tells its calls, those between the two moments are the conversations of these calls.
pub record CallsHeld (old new : Option (List Told)) (first : State) (entries : List Entry) (last : State) : Type 0 where
  pub told : IfSome new (λ ys. (xs ts : List Told) × (old ≡ Some xs) × (ys ≡ xs ++ ts) × AreHeld first entries ts last)
