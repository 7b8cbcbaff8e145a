use Rattle.std.proofs.Common.{◌+◌, ◌*◌, length, ap, arith}
use Rattle.upgrade_planner.specs.declared.upgrade.Upgrade.{Upgrade}
use Rattle.upgrade_planner.proofs.Growing.{Grown, all_grown, grown, grown_on, refused_grown}
use Rattle.upgrade_planner.proofs.backing.add_ways_back.Goals as goal

pub returns-in_err-stopped-clause-grows : goal.returns-in_err-stopped-clause-grows
returns-in_err-stopped-clause-grows c =
    let u = c.args.upgrade.now in
    let same = ap (λ (x : Upgrade). x.rounds) c.upgrade.view_is in
    let first : Grown c.args.draft.now c.settle.new.self (1 + 4 * u.rounds) = record { keeps = c.in_ok-undone.ensures.keeps; count = omega (arith, c.in_ok-undone.ensures.count, same) } in
    let cleared = grown_on c.args.draft.now c.settle.new.self c.add_cleared.new.draft (1 + 4 * u.rounds) 1 first (grown c.settle.new.self c.add_cleared.new.draft c.in_ok-alone.alone 1 c.in_ok-alone.ensures.grows) in
    refused_grown c.args.draft.now c.add_cleared.new.draft c.call.new.self c.in_err-stopped.field-0.0 c.from_residual-in_err-stopped.result (1 + 4 * u.rounds + 1) 1 (4 * u.rounds + 3 * length u.old.numbers + 4) cleared
    (record { count = tt; keeps = c.in_err-stopped.ensures.keeps; too_large = c.in_err-stopped.ensures.too_large }) c.from_residual-in_err-stopped.ensures.1 (omega arith)

pub returns-in_err-restarted-clause-grows : goal.returns-in_err-restarted-clause-grows
returns-in_err-restarted-clause-grows c =
    let u = c.args.upgrade.now in
    let same = ap (λ (x : Upgrade). x.rounds) c.upgrade.view_is in
    let first : Grown c.args.draft.now c.settle.new.self (1 + 4 * u.rounds) = record { keeps = c.in_ok-undone.ensures.keeps; count = omega (arith, c.in_ok-undone.ensures.count, same) } in
    let cleared = grown_on c.args.draft.now c.settle.new.self c.add_cleared.new.draft (1 + 4 * u.rounds) 1 first (grown c.settle.new.self c.add_cleared.new.draft c.in_ok-alone.alone 1 c.in_ok-alone.ensures.grows) in
    let stopped = grown_on c.args.draft.now c.add_cleared.new.draft c.call.new.self (1 + 4 * u.rounds + 1) 1 cleared (record { keeps = c.in_ok-stopped.ensures.keeps; count = omega (arith, c.in_ok-stopped.ensures.count) }) in
    refused_grown c.args.draft.now c.call.new.self c.add_restart.new.draft c.in_err-restarted.field-0.0 c.from_residual-in_err-restarted.result (1 + 4 * u.rounds + 1 + 1) (3 * length u.old.numbers + 1) (4 * u.rounds + 3 * length u.old.numbers + 4) stopped
    c.in_err-restarted.ensures.grows c.from_residual-in_err-restarted.ensures.1 (omega arith)

pub returns-clause-grows : goal.returns-clause-grows
returns-clause-grows c =
    let u = c.args.upgrade.now in
    let same = ap (λ (x : Upgrade). x.rounds) c.upgrade.view_is in
    let first : Grown c.args.draft.now c.settle.new.self (1 + 4 * u.rounds) = record { keeps = c.in_ok-undone.ensures.keeps; count = omega (arith, c.in_ok-undone.ensures.count, same) } in
    let cleared = grown_on c.args.draft.now c.settle.new.self c.add_cleared.new.draft (1 + 4 * u.rounds) 1 first (grown c.settle.new.self c.add_cleared.new.draft c.in_ok-alone.alone 1 c.in_ok-alone.ensures.grows) in
    let stopped = grown_on c.args.draft.now c.add_cleared.new.draft c.call.new.self (1 + 4 * u.rounds + 1) 1 cleared (record { keeps = c.in_ok-stopped.ensures.keeps; count = omega (arith, c.in_ok-stopped.ensures.count) }) in
    all_grown c.args.draft.now c.add_restart.new.draft _ (1 + 4 * u.rounds + 1 + 1 + (3 * length u.old.numbers + 1)) (4 * u.rounds + 3 * length u.old.numbers + 4)
    (grown_on c.args.draft.now c.call.new.self c.add_restart.new.draft (1 + 4 * u.rounds + 1 + 1) (3 * length u.old.numbers + 1) stopped (grown c.call.new.self c.add_restart.new.draft c.in_ok-restarted.restarted (3 * length u.old.numbers + 1) c.in_ok-restarted.ensures.grows))
    (omega arith)
