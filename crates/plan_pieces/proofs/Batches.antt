-- Calls of one kind.
use Rattle.std.proofs.Common.{◌≡◌, ℕ, ◌+◌, ◌*◌, List, [], ◌∷◌, ◌++◌, ◌≤◌, length, map, take, drop, reverse, Some, slice_get, refl, ◌∙◌, ap, arith}
use Rattle.std.proofs.lemmas.List.{reverse-append, take-append-drop}
use Rattle.definitions.specs.Calls.{Call, OpenAt, CloseAt, AwaitReady, Quit, Kill, AwaitGone, Usr1}
use Rattle.definitions.specs.Master.{fork_of}
use Rattle.definitions.specs.Run.{Tree}
use Rattle.definitions.specs.Plans.{forks_any, awaits_any, awaits_gone}
use Rattle.call_laws.specs.Pieces.{quits, kills, usr1s, closes}
use Rattle.plan_steps.specs.declared.batch.Errand.TheVariants as asked
use Rattle.plan_steps.specs.declared.batch.Batch.{Batch}
use Rattle.plan_steps.specs.declared.batch.Batch.TheVariants.{Workers, Forks, Opens, Closes}
use Rattle.rollback_plan.proofs.Lists.{drop_at, reverse-map}
use Rattle.plan_pieces.specs.Pieces.{anyway, anyway_steps, all_anyway, in_turn, made_calls, steps_in}

---- Trees

-- the same call for each of a list
each_is : {X : Type 0} (by : ℕ) (call : X → Call) (all : List X → Tree → Tree) → ((rest : Tree) → rest ≡ all [] rest) →
    ((x : X) (xs : List X) (rest : Tree) → anyway by (call x) (all xs rest) ≡ all (x ∷ xs) rest)
    → (xs : List X) (rest : Tree) → all_anyway by (map call xs) rest ≡ all xs rest
each_is by call all none more [] rest = none rest
each_is by call all none more (x ∷ xs) rest = ap (anyway by (call x)) (each_is by call all none more xs rest) ∙ more x xs rest

-- the same, from the last to the first
each_back_is : {X : Type 0} (by : ℕ) (call : X → Call) (all : List X → Tree → Tree) →
    ((rest : Tree) → rest ≡ all [] rest) →
    ((x : X) (xs : List X) (rest : Tree) → anyway by (call x) (all xs rest) ≡ all (x ∷ xs) rest)
    → (xs : List X) (rest : Tree) → all_anyway by (reverse (map call xs)) rest ≡ all (reverse xs) rest
each_back_is by call all none more xs rest = ap (λ calls. all_anyway by calls rest) (reverse-map call xs) ∙ each_is by call all none more (reverse xs) rest

pub in_turn_is : (by : ℕ) (b : Batch) (rest : Tree) → all_anyway by (made_calls b) rest ≡ in_turn by b rest
in_turn_is by (Workers asked.AwaitReady g numbers) rest = each_is by (AwaitReady g) (awaits_any by g) (λ t. refl) (λ k more t. refl) numbers.now rest
in_turn_is by (Workers asked.Quit g numbers) rest = each_back_is by (Quit g) (quits by g) (λ t. refl) (λ k more t. refl) numbers.now rest
in_turn_is by (Workers asked.Kill g numbers) rest = each_is by (Kill g) (kills by g) (λ t. refl) (λ k more t. refl) numbers.now rest
in_turn_is by (Workers asked.AwaitGone g numbers) rest = each_back_is by (AwaitGone g) (awaits_gone by g) (λ t. refl) (λ k more t. refl) numbers.now rest
in_turn_is by (Workers asked.Usr1 g numbers) rest = each_is by (Usr1 g) (usr1s by g) (λ t. refl) (λ k more t. refl) numbers.now rest
in_turn_is by (Forks crew numbers) rest = each_is by (fork_of crew.now) (forks_any by crew.now) (λ t. refl) (λ k more t. refl) numbers.now rest
in_turn_is by (Opens addresses) rest = refl
in_turn_is by (Closes addresses) rest = each_is by CloseAt (closes by) (λ t. refl) (λ x more t. refl) addresses.now rest

---- Steps

abbrev pub all_steps : List Call → ℕ
all_steps [] = 0
all_steps (call ∷ calls) = anyway_steps call + all_steps calls

steps-append : (calls more : List Call) → all_steps (calls ++ more) ≡ all_steps calls + all_steps more
steps-append [] more = omega arith
steps-append (call ∷ calls) more = omega (arith, steps-append calls more)

steps-reverse : (calls : List Call) → all_steps (reverse calls) ≡ all_steps calls
steps-reverse [] = refl
steps-reverse (call ∷ calls) = omega (arith, ap all_steps (reverse-append (call ∷ []) calls), steps-append (reverse calls) (call ∷ []), steps-reverse calls)

single : {X : Type 0} (call : X → Call) (xs : List X) → ((x : X) → anyway_steps (call x) ≡ 1) → all_steps (map call xs) ≡ length xs
single call [] h = refl
single call (x ∷ xs) h = omega (arith, h x, single call xs h)

double : {X : Type 0} (call : X → Call) (xs : List X) → ((x : X) → anyway_steps (call x) ≡ 2) → all_steps (map call xs) ≡ 2 * length xs
double call [] h = omega arith
double call (x ∷ xs) h = omega (arith, h x, double call xs h)

pub steps_are : (b : Batch) → all_steps (made_calls b) ≡ steps_in b
steps_are (Workers asked.AwaitReady g numbers) = double (AwaitReady g) numbers.now (λ k. refl)
steps_are (Workers asked.Quit g numbers) = steps-reverse (map (Quit g) numbers.now) ∙ single (Quit g) numbers.now (λ k. refl)
steps_are (Workers asked.Kill g numbers) = single (Kill g) numbers.now (λ k. refl)
steps_are (Workers asked.AwaitGone g numbers) = steps-reverse (map (AwaitGone g) numbers.now) ∙ double (AwaitGone g) numbers.now (λ k. refl)
steps_are (Workers asked.Usr1 g numbers) = single (Usr1 g) numbers.now (λ k. refl)
steps_are (Forks crew numbers) = single (fork_of crew.now) numbers.now (λ k. refl)
steps_are (Opens addresses) = single OpenAt addresses.now (λ x. refl)
steps_are (Closes addresses) = single CloseAt addresses.now (λ x. refl)

-- so many come after a call and with it
pub steps_with : (calls : List Call) (i : ℕ) (call : Call) → slice_get calls i ≡ Some call →
    all_steps (drop (i + 1) calls) + anyway_steps call ≤ all_steps calls
steps_with calls i call at =
    omega (arith, ap all_steps (take-append-drop i calls), steps-append (take i calls) (drop i calls), ap all_steps (drop_at calls i call at))
