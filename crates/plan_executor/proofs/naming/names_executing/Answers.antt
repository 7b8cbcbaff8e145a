use Rattle.std.proofs.Common.{◌≡◌, ◌||◌, true, false, sym, ◌∙◌}
use Rattle.std.specs.Prelude.{◌&&◌}
use Rattle.definitions.specs.Claims.{is_leave_call, names_any}
use Rattle.plan_executor.specs.Naming.{listed}
use Rattle.plan_executor.proofs.Refused.{names_any-at}
use Rattle.plan_executor.proofs.naming.names_executing.Goals as goal

pub returns-then-names_master : goal.returns-then-names_master
returns-then-names_master c =
    let es = c.args.exits.now in
    let leaves = is_leave_call c.args.call.now in
    let own : names_any (listed c.args.executing) es ≡ true = sym c.names_master.ensures ∙ c.if-names_master.true in
    c.if-names_master.true
    ∙ sym (names_any-at leaves (listed c.args.executing) (listed c.args.heir) es ∙ (λ i. own i || (leaves && names_any (listed c.args.heir) es)))

pub returns-then-is_leave : goal.returns-then-is_leave
returns-then-is_leave c =
    let es = c.args.exits.now in
    let leaves = is_leave_call c.args.call.now in
    let own : names_any (listed c.args.executing) es ≡ false = sym c.names_master.ensures ∙ c.if-names_master.false in
    let left : leaves ≡ true = sym c.is_leave.ensures ∙ c.if-is_leave.true in
    c.names_master-then-is_leave.ensures
    ∙ sym (names_any-at leaves (listed c.args.executing) (listed c.args.heir) es ∙ (λ i. own i || (left i && names_any (listed c.args.heir) es)))
