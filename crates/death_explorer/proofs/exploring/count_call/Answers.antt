use Rattle.std.proofs.Common.{sym, ap, ◌∙◌}
use Rattle.std.proofs.lemmas.Result.{on_ok_weaker}
use Rattle.definitions.specs.Claims.{is_leave_call}
use Rattle.plan_executor.specs.Naming.{listed}
use Rattle.death_explorer.specs.declared.counts.DeathCounts.{DeathCounts}
use Rattle.death_explorer.specs.Deaths.{deaths_at, counted_all}
use Rattle.death_explorer.proofs.Counting.{counted-leaving, counted-staying}
use Rattle.death_explorer.proofs.exploring.count_call.Goals as goal

pub returns-then-not-is_leave : goal.returns-then-not-is_leave
returns-then-not-is_leave c =
    let r = c.args.restart.now.state.now in
    let s = c.args.restart.now.settings.now in
    c.in_ok-count_image.ensures
    ∙ sym (counted-staying r s c.args.place.order c.args.place.number c.args.kernel.now.table (listed c.args.masters.executing) (listed c.args.masters.heir)
    (is_leave_call c.args.call.now) c.args.counts.now (sym c.is_leave.ensures ∙ c.if-not-is_leave.true))

pub returns : goal.returns
returns c =
    let r = c.args.restart.now.state.now in
    let s = c.args.restart.now.settings.now in
    let t = c.args.kernel.now.table in
    let here = deaths_at c.args.place.order c.args.place.number t (listed c.args.masters.heir) in
    on_ok_weaker c.count_image-2.result
    (λ e. e ∙ ap (λ (counts : DeathCounts). counted_all r s here counts) c.in_ok-count_image.ensures
    ∙ sym (counted-leaving r s c.args.place.order c.args.place.number t (listed c.args.masters.executing) (listed c.args.masters.heir)
    (is_leave_call c.args.call.now) c.args.counts.now (sym c.is_leave.ensures ∙ c.if-not-is_leave.false)))
    c.count_image-2.ensures
