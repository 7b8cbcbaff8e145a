-- What plans do for each of a list of calls.
use Rattle.std.specs.Prelude.{◌≡◌, ℕ, ◌+◌, ◌*◌, Bool, true, false, List, [], ◌∷◌, Some, length, map, reverse, slice_get, if◌then◌else◌}
use Rattle.listener_set.specs.declared.generation.Generation.{Generation}
use Rattle.definitions.specs.Calls.{Call, OpenAt, AwaitReady, Kill, AwaitGone}
use Rattle.definitions.specs.Run.{Tree, Nothing}
use Rattle.call_laws.specs.Pieces.{replies_to, gone_edges, quits, kills, usr1s, closes}
use Rattle.definitions.specs.Plans.{on, does, either, then_edge, await_any_edges, forks_any, awaits_any, awaits_gone}
use Rattle.plan_steps.specs.declared.batch.Errand.{Errand}
use Rattle.plan_steps.specs.declared.batch.Errand.TheVariants as asked
use Rattle.plan_steps.specs.declared.batch.Batch.{Batch}
use Rattle.plan_steps.specs.declared.batch.Batch.TheVariants.{Workers, Forks, Opens, Closes}
use Rattle.plan_steps.specs.Batches.{calls_of}

---- Whatever is answered

-- a call, whatever is answered; a worker that is late is killed
abbrev pub anyway : ℕ → Call → Tree → Tree
anyway by (AwaitReady g k) rest = does by (AwaitReady g k) (await_any_edges rest (does by (Kill g k) (then_edge rest)))
anyway by (AwaitGone g k) rest = does by (AwaitGone g k) (gone_edges rest (does by (Kill g k) (then_edge rest)))
anyway by call rest = does by call (on (replies_to call) rest Nothing)

abbrev pub anyway_steps : Call → ℕ
anyway_steps (AwaitReady g k) = 2
anyway_steps (AwaitGone g k) = 2
anyway_steps call = 1

-- the same call for each of some workers: quits, and waits until they are gone, from the last to the first
abbrev pub asked_tree : ℕ → Errand → Generation → List ℕ → Tree → Tree
asked_tree by asked.AwaitReady g ks = awaits_any by g ks
asked_tree by asked.Quit g ks = quits by g (reverse ks)
asked_tree by asked.Kill g ks = kills by g ks
asked_tree by asked.AwaitGone g ks = awaits_gone by g (reverse ks)
asked_tree by asked.Usr1 g ks = usr1s by g ks

-- any calls in their order
abbrev pub all_anyway : ℕ → List Call → Tree → Tree
all_anyway by [] rest = rest
all_anyway by (call ∷ calls) rest = anyway by call (all_anyway by calls rest)

-- calls of one kind
abbrev pub in_turn : ℕ → Batch → Tree → Tree
in_turn by (Workers what g numbers) rest = asked_tree by what g numbers.now rest
in_turn by (Forks crew numbers) rest = forks_any by crew.now numbers.now rest
in_turn by (Opens addresses) rest = all_anyway by (map OpenAt addresses.now) rest
in_turn by (Closes addresses) rest = closes by addresses.now rest

-- whether the last of the calls is made first
abbrev pub goes_back : Batch → Bool
goes_back (Workers asked.Quit g numbers) = true
goes_back (Workers asked.AwaitGone g numbers) = true
goes_back calls = false

-- the calls in the order in which they are made
abbrev pub made_calls : Batch → List Call
made_calls calls = if goes_back calls then reverse (calls_of calls) else calls_of calls

-- how many steps that takes
abbrev pub steps_in : Batch → ℕ
steps_in (Workers asked.AwaitReady g numbers) = 2 * length numbers.now
steps_in (Workers asked.AwaitGone g numbers) = 2 * length numbers.now
steps_in (Workers what g numbers) = length numbers.now
steps_in (Forks crew numbers) = length numbers.now
steps_in (Opens addresses) = length addresses.now
steps_in (Closes addresses) = length addresses.now

---- Until one fails

-- the i-th of these trees tries the calls from the i-th on; where one fails it takes the way back of those before it
pub record IsAttempted (by : ℕ) (calls : List Call) (rest : Tree) (back tree : ℕ → Tree) : Type 0 where
  pub last : tree (length calls) ≡ rest
  pub each : (i : ℕ) (call : Call) → slice_get calls i ≡ Some call → either by call [] (tree (i + 1)) (back i) ≡ tree i
