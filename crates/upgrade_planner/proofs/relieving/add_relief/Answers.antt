use Rattle.std.proofs.Common.{ℕ, ◌+◌, ◌*◌, length, ap, ◌∙◌, arith}
use Rattle.std.proofs.lemmas.Result.{IfOk-weaker}
use Rattle.rollback_plan.proofs.DraftTrees.{keeps_on, made_kept}
use Rattle.upgrade_planner.proofs.Upgrades.{relief_is}
use Rattle.upgrade_planner.specs.declared.upgrade.Staff.{Staff}
use Rattle.upgrade_planner.proofs.Growing.{Grown, grown, grown_on, last_grown}
use Rattle.upgrade_planner.proofs.relieving.add_relief.Goals as goal

pub returns-clause-grows : goal.returns-clause-grows
returns-clause-grows c =
    let u = c.args.upgrade.now in
    let rounds : ℕ = u.rounds in
    let ready : ℕ = length u.old.numbers in
    let last = grown c.args.draft.now c.add_last.new.draft c.in_ok-last.last (4 * rounds + 3 * ready + 5) c.in_ok-last.ensures.grows in
    let waits : Grown c.add_last.new.draft c.add_each.new.draft (2 * ready) = record { keeps = c.in_ok-waiting.ensures.keeps; count = omega (arith, c.in_ok-waiting.ensures.count, ap length u.leave) } in
    let quits : Grown c.add_each.new.draft c.add_each-2.new.draft ready = record { keeps = c.in_ok-quitting.ensures.keeps; count = omega (arith, c.in_ok-quitting.ensures.count, ap length u.leave) } in
    let waited = grown_on c.args.draft.now c.add_last.new.draft c.add_each.new.draft (4 * rounds + 3 * ready + 5) (2 * ready) last waits in
    let quit = grown_on c.args.draft.now c.add_each.new.draft c.add_each-2.new.draft (4 * rounds + 3 * ready + 5 + 2 * ready) ready waited quits in
    last_grown c.args.draft.now c.add_each-2.new.draft c.add_question.new.draft c.add_question.result (4 * rounds + 3 * ready + 5 + 2 * ready + ready) 1 (4 * rounds + 6 * ready + 6) quit c.add_question.ensures.grows (omega arith)

pub returns-clause-made : goal.returns-clause-made
returns-clause-made c =
    let u = c.args.upgrade.now in
    let first = c.args.draft.now in
    let waited = keeps_on first c.add_last.new.draft c.add_each.new.draft c.in_ok-last.ensures.grows.keeps c.in_ok-waiting.ensures.keeps in
    let keeps = keeps_on first c.add_each.new.draft c.add_each-2.new.draft waited c.in_ok-quitting.ensures.keeps in
    let stopped = made_kept first c.add_each-2.new.draft c.args.stopped _ keeps c.requires.stopped in
    let generation = ap (λ (s : Staff). s.crew.generation) c.old.view_is in
    IfOk-weaker c.add_question.result _ _
    (λ place made. record {
      below = made.below;
      is =
          made.is
          ∙ relief_is u.attended u.old.crew.generation.image _ u.old.crew u.new.crew _ u.old.numbers _ u.rounds u.path u.workers _ _ _ _
          c.master-by.ensures generation u.leave c.in_ok-quitting.ensures.made.is c.in_ok-waiting.ensures.made.is
          c.in_ok-last.ensures.made.is stopped.is;
    })
    c.add_question.ensures.made
