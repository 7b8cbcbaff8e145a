use Rattle.std.proofs.Common.{◌≤◌, ◌+◌, List, [], refl, sym, ◌∙◌, ap, subst}
use Rattle.definitions.specs.Plans.{Turn}
use Rattle.plan_walk.specs.Fit.{height_next}
use Rattle.plan_walk.specs.Walk.{trail_under}
use Rattle.plan_walk.proofs.TurnsUsed.{turn_read}
use Rattle.plan_walk.proofs.NewFirst.{none_left}
use Rattle.plan_walk.proofs.walk.Walk.after.Goals as goal

pub after_at-requires-clause-asks : goal.after_at-requires-clause-asks
after_at-requires-clause-asks c = record { turns = []; first = turn_read c.args.self.now.rest _ [] refl; asks = c.requires.asks }

pub returns-clause-trail : goal.returns-clause-trail
returns-clause-trail c =
    let rest = c.args.self.now.rest in
    ap (trail_under c.after_at.result) (sym (none_left rest)) ∙ c.after_at.ensures.trail [] (turn_read rest _ [] refl)

pub returns-clause-lower : goal.returns-clause-lower
returns-clause-lower c =
    let w = c.args.self.now in
    subst (λ (turns : List Turn). height_next (trail_under c.after_at.result turns).rest + 1 ≤ height_next (trail_under w []).rest) (none_left w.rest) (c.after_at.ensures.lower [] (turn_read w.rest _ [] refl))
