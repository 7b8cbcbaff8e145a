-- How many workers live at once during a reload.
use Rattle.std.specs.Prelude.{◌≡◌, refl, ℕ, ◌+◌, ◌-◌, ◌≤◌, ◌&&◌, ◌==◌, ◌∷◌, not, if◌then◌else◌, Bool, true, false, List, [], length, max, nat_lt, nat_le, count_by, None, ⊤}
use Rattle.std.specs.List.{AllByRecursion, list_any}
use Rattle.listener_set.specs.Numbers.{numbers_below}
use Rattle.vocabulary.specs.Settings.{Settings}
use Rattle.vocabulary.specs.declared.targets.Target.TheVariants.{Reload}
use Rattle.definitions.specs.Table.{Process, Worker, Table, Draining, Exited, same_stance, is_worker_where}
use Rattle.definitions.specs.Master.{Record, Target}
use Rattle.definitions.specs.Run.{Pattern, Ran}
use Rattle.definitions.specs.Plans.{Turn, Step, rolled, rollout_of}
use Rattle.definitions.specs.Claims.{IsStart, run_of, refusal_of}

-- the process drained at first
abbrev pub drained_in : Table → ℕ → Bool
drained_in first n = list_any (is_worker_where (same_stance Draining) (λ m. m == n) (λ g k. true)) first.rows

-- a worker of the master that is Starting, Ready or Draining, and did not drain at first
abbrev pub is_living : ℕ → (ℕ → Bool) → Process → Bool
is_living master drained (Worker n q g k s hs) = not (same_stance Exited s) && ((q == master) && not (drained n))
is_living master drained _ = false

abbrev pub living_of : Table → Record → Table → ℕ
living_of first r t = count_by (is_living r.pid (drained_in first)) t.rows

-- So many live before these steps: in each its new workers come, and then its old ones go. The most at once.
abbrev pub most_of : ℕ → List Step → List ℕ → ℕ
most_of live [] last = live + length last
most_of live (step ∷ steps) last =
    max (live + length step.starts) (most_of (live + length step.starts - length step.quits) steps last)

-- the most in a reload that starts so many in a step
abbrev pub ceiling_of : Record → Settings → ℕ → ℕ
ceiling_of r s surge = most_of (length r.ready) (rollout_of r s surge).steps (rollout_of r s surge).last

-- At no table of a reload do more of the master's workers live.
abbrev pub StaysBelow : Table → Record → Target → Ran → Type 0
StaysBelow first r (Reload s) ran = AllByRecursion (λ p. living_of first r p.table ≤ ceiling_of r s s.surge) ran.passed
StaysBelow first r _ ran = ⊤

abbrev pub RunsStayBelow : Type 0
RunsStayBelow =
    (t : Table) (r : Record) (target : Target) (turns : List Turn) (pattern : Pattern) → IsStart t r →
    refusal_of r target turns pattern t ≡ None → StaysBelow t r target (run_of r target turns pattern t)

-- Where neither side has more than one group, at most so many live at once as were ready, or are wanted, whichever is more, and those
-- of one step; where there is one step alone, as were ready and are wanted.
abbrev pub CeilingIsLow : Type 0
CeilingIsLow =
    (surge : ℕ) (t : Table) (r : Record) (s : Settings) → IsStart t r → length r.posts.groups ≡ 1 → length s.groups ≡ 1 →
    ceiling_of r s surge
    ≤ (if nat_lt 0 surge && nat_lt surge (length (numbers_below s.workers)) then max (length r.ready) s.workers + surge
    else length r.ready + s.workers)

---- Examples: three in steps of one, of which four live at most

three_in_steps : rolled (λ started left. nat_le 3 (length started + length left)) 3 1 [] (numbers_below 3) (numbers_below 3)
    ≡ record { steps = record { starts = 0 ∷ []; quits = 2 ∷ [] } ∷ record { starts = 1 ∷ []; quits = 1 ∷ [] } ∷ []; last = 2 ∷ []; left = 0 ∷ [] }
three_in_steps = refl

four_live : most_of 3 (record { starts = 0 ∷ []; quits = 2 ∷ [] } ∷ record { starts = 1 ∷ []; quits = 1 ∷ [] } ∷ []) (2 ∷ []) ≡ 4
four_live = refl
