use Rattle.std.proofs.Common.{◌≡◌, ◌-◌, ◌+◌, ℕ, drop, sym, subst, arith}
use Rattle.rollback_plan.specs.Drafts.{tree_at, IsMade}
use Rattle.rollback_plan.proofs.Lists.{drop_at}
use Rattle.plan_pieces.specs.Pieces.{anyway_steps, made_calls, steps_in}
use Rattle.plan_pieces.proofs.Added.{Added, added_more, refused}
use Rattle.plan_pieces.proofs.Batches.{steps_with, steps_are, in_turn_is}
use Rattle.plan_pieces.proofs.going_on.add_each.Goals as goal

pub returns-in_err-next-clause-too_large : goal.returns-in_err-next-clause-too_large
returns-in_err-next-clause-too_large c =
    let calls = made_calls c.args.calls.now in
    let i : ℕ = c.loop-i.i - 1 in
    let before : Added c.args.draft.now c.loop-i.draft c.args.by c.args.rest c.loop-i.next (drop (i + 1) calls) =
    subst (λ j. Added c.args.draft.now c.loop-i.draft c.args.by c.args.rest c.loop-i.next (drop j calls)) (let on : c.loop-i.i ≡ i + 1 = omega arith in on) c.loop-i.invariant in
    refused c.args.draft.now c.loop-i.draft c.add_anyway.new.draft c.args.by c.args.rest c.loop-i.next (drop (i + 1) calls) (anyway_steps c.made_at.result) (steps_in c.args.calls.now) c.in_err-next.field-0.0 c.from_residual.result
    before (omega (arith, steps_with calls i c.made_at.result c.made_at.ensures, steps_are c.args.calls.now)) c.in_err-next.ensures.grows c.from_residual.ensures.1

pub loop-i-preserved : goal.loop-i-preserved
loop-i-preserved c =
    let calls = made_calls c.args.calls.now in
    let i : ℕ = c.loop-i.i - 1 in
    let before : Added c.args.draft.now c.loop-i.draft c.args.by c.args.rest c.loop-i.next (drop (i + 1) calls) =
    subst (λ j. Added c.args.draft.now c.loop-i.draft c.args.by c.args.rest c.loop-i.next (drop j calls)) (let on : c.loop-i.i ≡ i + 1 = omega arith in on) c.loop-i.invariant in
    subst (Added c.args.draft.now c.add_anyway.new.draft c.args.by c.args.rest c.in_ok-next.next) (sym (drop_at calls i c.made_at.result c.made_at.ensures))
    (added_more c.args.draft.now c.loop-i.draft c.add_anyway.new.draft c.args.by c.args.rest c.loop-i.next c.in_ok-next.next c.made_at.result (drop (i + 1) calls) before
    c.in_ok-next.ensures.made c.in_ok-next.ensures.grows.count c.in_ok-next.ensures.grows.keeps)

pub returns-clause-made : goal.returns-clause-made
returns-clause-made c =
    let all = subst (λ j. Added c.args.draft.now c.loop-i.draft c.args.by c.args.rest c.loop-i.next (drop j (made_calls c.args.calls.now))) (let none : c.loop-i.i ≡ 0 = omega arith in none) c.loop-i.invariant in
    subst (IsMade c.loop-i.draft c.loop-i.next) (in_turn_is c.args.by c.args.calls.now (tree_at c.args.draft.now c.args.rest)) all.made

pub returns-clause-count : goal.returns-clause-count
returns-clause-count c =
    let all = subst (λ j. Added c.args.draft.now c.loop-i.draft c.args.by c.args.rest c.loop-i.next (drop j (made_calls c.args.calls.now))) (let none : c.loop-i.i ≡ 0 = omega arith in none) c.loop-i.invariant in
    omega (arith, all.count, steps_are c.args.calls.now)
