use Rattle.std.proofs.Common.{◌+◌, ◌≤◌, ◌∙◌, ap, sym, arith, true, false, length, drop}
use Rattle.std.proofs.lemmas.List.{drop_all}
use Rattle.std.proofs.lemmas.Option.{get_or_from_slice_get}
use Rattle.kernel_model.specs.Pattern.{moment_at, seen_moment}
use Rattle.definitions.specs.Claims.{refused_among}
use Rattle.plan_executor.specs.Naming.{listed}
use Rattle.plan_executor.proofs.Refused.{looked}
use Rattle.plan_executor.proofs.naming.refused_among.Goals as goal

pub returns-then-names_executing : goal.returns-then-names_executing
returns-then-names_executing c =
    sym (c.loop-place.invariant ∙ looked (listed c.loop-place.executing) (listed c.args.heir) (moment_at c.args.pattern.now) c.args.log.now.entries c.loop-place.place c.get-entry.result
    (seen_moment c.moment.result) true (omega (arith, c.loop-place-test.true, c.len-place-end.ensures.count)) (sym (get_or_from_slice_get c.args.log.now.entries c.loop-place.place c.get-entry.result c.get-entry.result c.get-entry.ensures)) c.moment.ensures (sym c.names_executing.ensures ∙ c.if-names_executing.true))

pub loop-place-preserved : goal.loop-place-preserved
loop-place-preserved c =
    let at = moment_at c.args.pattern.now in
    let place = c.loop-place.place in
    c.loop-place.invariant
    ∙ (looked (listed c.loop-place.executing) (listed c.args.heir) at c.args.log.now.entries place c.get-entry.result
    (seen_moment c.moment.result) false (omega (arith, c.loop-place-test.true, c.len-place-end.ensures.count)) (sym (get_or_from_slice_get c.args.log.now.entries c.loop-place.place c.get-entry.result c.get-entry.result c.get-entry.ensures)) c.moment.ensures (sym c.names_executing.ensures ∙ c.if-names_executing.false)
    ∙ ap (λ images. refused_among images (listed c.args.heir) at (place + 1) (drop (place + 1) c.args.log.now.entries)) (sym c.executing_after-executing.ensures))

pub returns : goal.returns
returns c =
    let entries = c.args.log.now.entries in
    let place = c.loop-place.place in
    let over : length entries ≤ place = omega (arith, c.len-place-end.ensures.count) in
    sym (c.loop-place.invariant ∙ ap (refused_among (listed c.loop-place.executing) (listed c.args.heir) (moment_at c.args.pattern.now) place) (drop_all place entries over))
