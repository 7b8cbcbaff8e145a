-- Turns of a walk.
use Rattle.std.proofs.Common.{◌≡◌, ◌+◌, ◌<◌, ◌≤◌, ◌^◌, ℕ, zero, suc, drop, List, [], ◌∷◌, true, Option, None, Some, refl, sym, ◌∙◌, ap, subst, arith}
use Rattle.vocabulary.specs.declared.calls.Answer.{Answer}
use Rattle.vocabulary.specs.declared.plans.PidNote.{PidNote}
use Rattle.vocabulary.specs.declared.reports.Entry.{Entry}
use Rattle.std.specs.Prelude.{unwrap_or, slice_get}
use Rattle.definitions.specs.Plans.{Turn, New}
use Rattle.definitions.specs.Run.{Tree, Ends, Does, Lack}
use Rattle.call_laws.specs.Lengths.{height}
use Rattle.plan_walk.specs.Path.{Asks, IsOver}
use Rattle.rollback_plan.specs.Following.{follow}
use Rattle.plan_steps.specs.Woven.{answers}
use Rattle.rollback_plan.specs.declared.cursor.Cursor.{Cursor}
use Rattle.rollback_plan.specs.Places.{turn_of, without_first, end_of, IsEnd}
use Rattle.rollback_plan.specs.Cursors.{rest_under, left_after, IsTurn}
use Rattle.rollback_plan.proofs.CursorTrees.{earlier}
use Rattle.plan_walk.specs.Fit.{answers_next, height_next}
use Rattle.plan_walk.specs.Rests.{rest_in, IsTurnIn}
use Rattle.plan_walk.proofs.Edges.{answers_one, answers_after, lower_after, still_countable}

-- a turn is the first of itself
pub only_turn : (rest : Option Cursor) (turn : Turn) → IsTurnIn rest turn (turn ∷ [])
only_turn None turn = tt
only_turn (Some c) turn = λ _. refl

-- no call is asked for at an end
pub no_call : (t : Tree) (lacked : List Lack) (e : Entry) → IsEnd t → Asks (Some t) lacked e → ⊥
no_call (Ends end) lacked e h asks = asks
no_call (Does by order set branches) lacked e h asks = h

-- a tree is a rest
pub no_rest : {t : Tree} → Some t ≡ None → ⊥
no_rest e = cc

-- what has no end is not over
pub not_over : (t : Tree) → None ≡ end_of t → IsOver (Some t) → ⊥
not_over (Ends end) none over = cc
not_over (Does by order set branches) none over = over

-- where an answer leads, whatever the turns
abbrev pub Leads : Cursor → Turn → Answer → Option PidNote → Cursor → Type 0
Leads k turn a note rest = (turns : List Turn) → IsTurn k turn turns → follow (Some (rest_under k turns)) a ≡ Some (note, rest_under rest (left_after k turns))

-- the rest answers
pub rest_answers : (old : Option Cursor) (k rest : Cursor) (turn : Turn) (a : Answer) (note : Option PidNote) →
    old ≡ Some k → ((turns : List Turn) → answers_next (rest_in old turns) ≡ true) → Leads k turn a note rest →
    (turns : List Turn) → answers (rest_under rest turns) ≡ true
rest_answers old k rest turn a note is all leads turns =
    let from = earlier k.at turn turns in
    let on = answers_one (rest_in old from.0) (rest_under k from.0) (ap (λ o. rest_in o from.0) is) (all from.0) in
    subst (λ (ts : List Turn). answers (rest_under rest ts) ≡ true) from.2 (answers_after (rest_under k from.0) a (note, rest_under rest (left_after k from.0)) on (leads from.0 from.1))

-- and is lower
pub rest_lower : (k rest : Cursor) (turn : Turn) (a : Answer) (note : Option PidNote) → Leads k turn a note rest →
    (turns : List Turn) → IsTurn k turn turns →
    height (rest_under rest (left_after k turns)) + 1 ≤ height (rest_under k turns)
rest_lower k rest turn a note leads turns first = lower_after (rest_under k turns) a (note, rest_under rest (left_after k turns)) (leads turns first)

pub rest_countable : (made : ℕ) (old : Option Cursor) (k rest : Cursor) (turn : Turn) (a : Answer)
    (note : Option PidNote) → old ≡ Some k → ((turns : List Turn) → made + height_next (rest_in old turns) < 2 ^ 32) →
    Leads k turn a note rest → (turns : List Turn) → (made + 1) + height (rest_under rest turns) < 2 ^ 32
rest_countable made old k rest turn a note is all leads turns =
    let from = earlier k.at turn turns in
    let below : made + height (rest_under k from.0) < 2 ^ 32 = subst (λ (o : Option Cursor). made + height_next (rest_in o from.0) < 2 ^ 32) is (all from.0) in
    subst (λ (ts : List Turn). (made + 1) + height (rest_under rest ts) < 2 ^ 32) from.2
    (still_countable made (height (rest_under rest (left_after k from.0))) (height (rest_under k from.0)) below (rest_lower k rest turn a note leads from.0 from.1))

-- one turn more is used
pub without_drop : (n : ℕ) (turns : List Turn) → without_first (drop n turns) ≡ drop (n + 1) turns
without_drop zero [] = refl
without_drop zero (turn ∷ turns) = refl
without_drop (suc n) [] = ap (λ (k : ℕ). drop k []) (let e : suc (n + 1) ≡ suc n + 1 = omega arith in e)
without_drop (suc n) (turn ∷ turns) = without_drop n turns ∙ ap (λ (k : ℕ). drop k (turn ∷ turns)) (let e : suc (n + 1) ≡ suc n + 1 = omega arith in e)

-- the turn at a place is the first of those that are left there
pub turn_there : (turns : List Turn) (n : ℕ) → unwrap_or (slice_get turns n) New ≡ turn_of (drop n turns)
turn_there [] zero = refl
turn_there [] (suc n) = refl
turn_there (turn ∷ turns) zero = refl
turn_there (turn ∷ turns) (suc n) = turn_there turns n

-- the turn that is read is the first of those that are left
pub turn_read : (rest : Option Cursor) (turn : Turn) (turns : List Turn) → turn ≡ turn_of turns → IsTurnIn rest turn turns
turn_read None turn turns is = tt
turn_read (Some c) turn turns is = λ _. sym is
