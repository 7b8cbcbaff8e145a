-- The calls of a run, one after another, and what is counted on the way.
use Rattle.std.proofs.Common.{◌≡◌, ◌++◌, [], List, Option, sym, ap, ◌∙◌}
use Rattle.plan_walk.specs.Path.{IsOver}
use Rattle.definitions.specs.Run.{Progress}
use Rattle.call_laws.specs.Pieces.{quiet}
use Rattle.plan_walk.specs.Course.{trail_on}
use Rattle.plan_walk.specs.declared.walk.Due.{Due}
use Rattle.explorer.specs.declared.events.Event.{Event}
use Rattle.explorer.specs.declared.position.Position.{Position}
use Rattle.explorer.specs.declared.tally.Tally.{Tally}
use Rattle.explorer.specs.Positions.{IsAt, IsLater, left, open_now, after_due}
use Rattle.explorer.proofs.Meeting.{left-over}

-- How events are counted one after another, each with its runs.
pub record IsCounting (add : List Event → Tally → Tally) : Type 0 where
  pub none : (tally : Tally) → add [] tally ≡ tally
  pub splits : (xs ys : List Event) (tally : Tally) → add (xs ++ ys) tally ≡ add ys (add xs tally)

module _ (start : Position) (last : Option Event) (add : List Event → Tally → Tally) (counting : IsCounting add) where
  -- The run has come here: with what is left for it to meet, as much is counted as from the start.
  abbrev pub Reaches : Position → Tally → Tally → Type 0
  Reaches run before tally = (p : Progress) → IsAt start p → (q : Progress) × IsAt run q × (add (left run q last) tally ≡ add (left start p last) before)

  -- a turn of the loop over the calls
  pub turned : (run after : Position) (due : Due) (before tally counted : Tally) → IsLater run due quiet after →
      ((p q : Progress) → IsAt start p → IsAt run q → counted ≡ add (open_now run due quiet last) tally) →
      Reaches run before tally → Reaches after before counted
  turned run after due before tally counted is here reaches p at =
      let q = reaches p at in
      let onto = after_due run quiet q.0 in
      let later = left after onto last in (
        onto,
        is.at q.0 q.1,
        ap (add later) (here p q.0 at q.1)
            ∙ sym (counting.splits (open_now run due quiet last) later tally)
            ∙ ap (λ (es : List Event). add es tally) (sym (is.left q.0 last q.1))
            ∙ q.2,
      )

  -- nothing is left behind the last call
  pub over : (run : Position) (before tally : Tally) → IsOver (trail_on run.course).rest → Reaches run before tally →
      (p : Progress) → IsAt start p → tally ≡ add (left start p last) before
  over run before tally ends reaches p at =
      let q = reaches p at in
      sym (counting.none tally) ∙ ap (λ (es : List Event). add es tally) (sym (left-over run q.0 last ends)) ∙ q.2
