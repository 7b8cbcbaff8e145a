-- The tree of a reload in steps, by the lists that it goes through, and how many steps it has at most.
use Rattle.std.specs.Prelude.{ℕ, ◌+◌, ◌*◌, ◌&&◌, Bool, true, not, List, [], ◌∷◌, length, reverse}
use Rattle.vocabulary.specs.Settings.{Settings}
use Rattle.definitions.specs.Table.{Address}
use Rattle.definitions.specs.Calls.{Census}
use Rattle.definitions.specs.Master.{Crew, Record}
use Rattle.definitions.specs.Run.{Tree}
use Rattle.definitions.specs.Plans.{asks, awaits_gone, either, opens, starts}
use Rattle.call_laws.specs.Pieces.{quits}
use Rattle.reload_planner.specs.Changes.{on_tree}
use Rattle.definitions.specs.Plans.{Step, quits_new, in_steps, closes_opened}

-- A step but the last: its new workers are started, the operator is asked, and its old workers quit and are waited for.
abbrev pub wave_tree : Bool → ℕ → Crew → Crew → List ℕ → List ℕ → Tree → (List ℕ → Tree) → Tree
wave_tree asks_now by old new fresh leaving rest bad =
    starts by new fresh
    (asks asks_now by 1
    (quits by old.generation (reverse leaving) (awaits_gone by old.generation (reverse leaving) rest))
    (bad (reverse fresh)))
    bad

-- The last step, where these new workers are wanted.
abbrev pub last_tree : Bool → ℕ → Crew → Crew → List ℕ → List ℕ → ℕ → List Address → List ℕ → Bool → Tree → Tree
last_tree asked by old new numbers left rounds dropped wanted first back =
    starts by new numbers
    (either by (Census new.generation) wanted
    (asks (asked && first) by 1 (on_tree by old new left rounds dropped wanted)
    (quits_new by new (not first) numbers back (reverse numbers)))
    (quits_new by new (not first) numbers back (reverse numbers)))
    (quits_new by new (not first) numbers back)

-- Addresses are opened, and the steps follow.
abbrev pub renewed_tree :
    Bool → ℕ → Crew → Crew → List ℕ → ℕ → List Address → List Address → List ℕ → List Step → List ℕ → List ℕ → Tree
renewed_tree asked by old new ready rounds added dropped wanted steps last left =
    opens by added []
    (λ opened. in_steps asked true by old new steps (last_tree asked by old new last left rounds dropped wanted)
    (closes_opened by old ready rounds opened))
    (closes_opened by old ready rounds)

---- How many steps

-- the workers that start or quit in these steps
abbrev pub moved : List Step → ℕ
moved [] = 0
moved (step ∷ steps) = length step.starts + length step.quits + moved steps

-- where so many start or quit, so many are left, and so many addresses are added and dropped
abbrev pub most_moved : ℕ → ℕ → ℕ → ℕ → ℕ → ℕ
most_moved workers left rounds added dropped = 6 * workers + left + 2 * (1 + 4 * rounds) + 2 * added + dropped + 2

-- by the workers that are ready and those that are wanted, the addresses before and after, and the rounds of a settle
abbrev pub most_reload : Record → Settings → ℕ
most_reload r s =
    6 * (length r.ready + s.workers) + length r.listeners + 2 * length s.listeners + 2 * (1 + 4 * r.retries) + 2
