-- An entry that is next at a turn.
use Rattle.std.proofs.Common.{◌≡◌, Bool, true, false, not, List, [], ◌∷◌, ◌++◌, Option, None, Some, refl, sym, ◌∙◌, ap, subst, is_none, if◌then◌else◌}
use Rattle.definitions.specs.Plans.{Turn, New}
use Rattle.definitions.specs.Run.{Entry}
use Rattle.plan_walk.specs.Path.{Trail, Asks, advance, rest_after}
use Rattle.rollback_plan.specs.Following.{follow}
use Rattle.definitions.specs.Claims.{names_any}
use Rattle.call_laws.specs.Pieces.{executing_at}
use Rattle.handover_text.specs.Reading.{handed_by}
use Rattle.rollback_plan.specs.declared.cursor.Cursor.{Cursor}
use Rattle.rollback_plan.specs.Places.{is_both, without_first}
use Rattle.plan_walk.specs.declared.walk.Walk.{Walk}
use Rattle.plan_walk.specs.Rests.{left_in, IsTurnIn}
use Rattle.plan_walk.specs.Walk.{trail_under, left_by, IsTurnOf}
use Rattle.plan_executor.specs.Naming.{listed}
use Rattle.certifier.specs.declared.replay.Replay.{Replay}
use Rattle.certifier.specs.Shown.{moment_shown, stepped_at}
use Rattle.certifier.specs.Turns.{UsesTurn}
use Rattle.certifier.specs.Places.{place_of, IsNext}
use Rattle.certifier.proofs.Asking.{edge-there, edge-leads}

---- A turn that is used, or not

-- what is left behind one turn tells whether both masters had a step
left-one : (rest : Option Cursor) → left_in rest (New ∷ []) ≡ [] → (turn one : Turn) (turns : List Turn) → IsTurnIn rest turn (one ∷ turns) → one ≡ turn
left-one None left turn one turns first = cc
left-one (Some c) left turn one turns first =
    elim (is_both c.at) as (λ b. (if b then without_first (New ∷ []) else New ∷ []) ≡ [] → (b ≡ true → one ≡ turn) → one ≡ turn) [
      | true ↦ λ none same. same refl
      | false ↦ λ none same. cc
    ] left first

left-all : (rest : Option Cursor) → left_in rest (New ∷ []) ≡ New ∷ [] → (turn : Turn) (turns : List Turn) → IsTurnIn rest turn turns
left-all None left turn turns = tt
left-all (Some c) left turn turns =
    λ both. let e : [] ≡ New ∷ [] = subst (λ b. (if b then without_first (New ∷ []) else New ∷ []) ≡ New ∷ []) both left in
    cc

pub uses-one : (w : Walk) (turn : Turn) (old new : List Turn) →
    ((turns : List Turn) → left_by w turns ≡ without_first turns) → new ≡ old ++ turn ∷ [] → UsesTurn w turn old new
uses-one w turn old new left is = record {
  taken = turn ∷ [];
  used = is;
  first = λ turns. itself w.rest turns;
  left = λ turns. left (turn ∷ turns);
  only = λ one turns first. (sym (left-one w.rest (left (New ∷ [])) turn one turns first), tt);
}
  where
    itself : (rest : Option Cursor) (turns : List Turn) → IsTurnIn rest turn (turn ∷ turns)
    itself None turns = tt
    itself (Some c) turns = λ _. refl

pub uses-none : (w : Walk) (turn : Turn) (old : List Turn) → ((turns : List Turn) → left_by w turns ≡ turns) → old ≡ old ++ [] → UsesTurn w turn old old
uses-none w turn old left is = record {
  taken = [];
  used = is;
  first = λ turns. left-all w.rest (left (New ∷ [])) turn turns;
  left = left;
  only = λ one turns first. tt;
}

---- An entry

-- At this turn the entry's call is due, and the walk then goes on.
pub record GoesOnBy (w after : Walk) (turn : Turn) (e : Entry) : Type 0 where
  pub asks : (turns : List Turn) → IsTurnOf w turn turns → Asks (trail_under w turns).rest (trail_under w turns).lacked e
  pub leads : (turns : List Turn) → IsTurnOf w turn turns → trail_under after (left_by w turns) ≡ advance (trail_under w turns) e

module _ (x : Replay) (e : Entry) (turn : Turn) (after : Walk) (lost : Bool) (goes : GoesOnBy x.walk after turn e)
    (is_lost : (turns : List Turn) → lost ≡ is_none (trail_under after turns).rest) where
  -- the edge is there where the walk is not lost
  lost-is : (turns : List Turn) → IsTurnOf x.walk turn turns → lost ≡ is_none (rest_after (follow (trail_under x.walk turns).rest e.answer))
  lost-is turns first = is_lost (left_by x.walk turns) ∙ ap (λ (t : Trail). is_none t.rest) (goes.leads turns first)

  pub next-at :
      (stepped_at (handed_by x.text.now) x.kernel.table (moment_shown (handed_by x.text.now) x.kernel.table e) e).answer ≡ e.answer →
      names_any (executing_at e.call (listed x.executing) (listed x.heir)) (moment_shown (handed_by x.text.now) x.kernel.table e).exits ≡ false →
      not lost ≡ true → (turns : List Turn) → IsTurnOf x.walk turn turns → IsNext (handed_by x.text.now) (listed x.heir) (place_of x turns) e
  next-at gives spares there turns first = record {
    asks = goes.asks turns first;
    edge = edge-there (follow (trail_under x.walk turns).rest e.answer) (ap not (sym (lost-is turns first)) ∙ there);
    gives = gives;
    spares = spares;
  }

  pub next-edge : (turns : List Turn) → IsTurnOf x.walk turn turns → IsNext (handed_by x.text.now) (listed x.heir) (place_of x turns) e → not lost ≡ true
  next-edge turns first next = ap not (lost-is turns first) ∙ edge-leads (follow (trail_under x.walk turns).rest e.answer) next.edge
