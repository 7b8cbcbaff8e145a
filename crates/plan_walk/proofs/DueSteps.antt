-- The call that is due is that of the next step.
use Rattle.std.proofs.Common.{◌≡◌, List, Some, sym, ap, ◌∙◌, subst}
use Rattle.vocabulary.specs.declared.calls.Call.{Call}
use Rattle.vocabulary.specs.declared.calls.Answer.{Answer}
use Rattle.definitions.specs.Plans.{Turn}
use Rattle.definitions.specs.Run.{Tree, Ends, Does, Lack, lacked_by, call_of}
use Rattle.plan_steps.specs.declared.step.Step.{Step}
use Rattle.rollback_plan.specs.declared.cursor.Cursor.{Cursor}
use Rattle.rollback_plan.specs.Bounds.{lacked_in}
use Rattle.rollback_plan.specs.Cursors.{rest_under, IsNextStep}
use Rattle.rollback_plan.specs.Places.{begins}
use Rattle.plan_walk.specs.declared.walk.Walk.{Walk}
use Rattle.plan_walk.specs.Path.{Asks}
use Rattle.plan_walk.specs.Rests.{rest_in, IsTurnIn}
use Rattle.plan_walk.specs.Walk.{IsDue}

asked : (tree : Tree) (s : Step) (lacked : List Lack) (call : Call) (answer : Answer) → begins tree s → call ≡ call_of s.order (lacked_by s.by lacked) → Asks (Some tree) lacked (record { by = s.by; call = call; answer = answer })
asked (Ends end) s lacked call answer h e = h
asked (Does by order set branches) s lacked call answer h e =
    (h.0, e ∙ ap (λ o. call_of o (lacked_by s.by lacked)) h.1 ∙ ap (λ b. call_of order (lacked_by b lacked)) h.0)

pub due_next : (w : Walk) (c : Cursor) (turn : Turn) (s : Step) (call : Call) → w.rest ≡ Some c → IsNextStep c turn s → call ≡ call_of s.order (lacked_by s.by (lacked_in w.bound)) → IsDue w turn s.by call
due_next w c turn s call rest next e turns is answer =
    subst (λ r. Asks (rest_in r turns) (lacked_in w.bound) (record { by = s.by; call = call; answer = answer })) (sym rest)
    (asked (rest_under c turns) s (lacked_in w.bound) call answer (next.first turns (subst (λ r. IsTurnIn r turn turns) rest is)) e)
