-- Paths, one entry longer.
use Rattle.std.proofs.Common.{◌≡◌, ◌≤◌, List, [], ◌∷◌, ◌++◌, refl, arith, Option, Some, None}
use Rattle.definitions.specs.Run.{Tree, Ends, Does, Lack}
use Rattle.vocabulary.specs.declared.reports.Entry.{Entry}
use Rattle.plan_walk.specs.Path.{Trail, advance, trail_after, Asks, Follows}
use Rattle.plan_walk.specs.Fit.{height_next}

pub after-push : (t : Trail) (entries : List Entry) (e : Entry) → trail_after t (entries ++ e ∷ []) ≡ advance (trail_after t entries) e
after-push t [] e = refl
after-push t (x ∷ entries) e = after-push (advance t x) entries e

pub Follows-push : (t : Trail) (entries : List Entry) (e : Entry) → Follows t entries →
    Asks (trail_after t entries).rest (trail_after t entries).lacked e → Follows t (entries ++ e ∷ [])
Follows-push t [] e h asks = (asks, tt)
Follows-push t (x ∷ entries) e h asks = (h.0, Follows-push (advance t x) entries e h.1 asks)

-- where a call is asked for, a step is left
pub asks_height : (rest : Option Tree) (lacked : List Lack) (e : Entry) → Asks rest lacked e → 1 ≤ height_next rest
asks_height None lacked e h = absurd h
asks_height (Some (Ends end)) lacked e h = absurd h
asks_height (Some (Does by order set branches)) lacked e h = omega arith
