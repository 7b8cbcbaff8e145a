use Rattle.std.proofs.Common.{◌≡◌, ◌-◌, ◌+◌, ℕ, get_or, drop, sym, ◌∙◌, ap, subst, arith}
use Rattle.std.proofs.lemmas.List.{drop_more}
use Rattle.vocabulary.specs.declared.calls.Call.TheVariants.{AwaitReady, Kill}
use Rattle.definitions.specs.Plans.{does, then_edge, awaits}
use Rattle.call_laws.specs.Pieces.{await_edges}
use Rattle.rollback_plan.specs.Drafts.{IsMade, tree_at}
use Rattle.rollback_plan.proofs.DraftTrees.{keeps_on, at_kept}
use Rattle.plan_pieces.proofs.starting.add_awaits.Goals as goal

pub loop-i-preserved : goal.loop-i-preserved
loop-i-preserved c =
    let by = c.args.by in
    let g = c.args.generation in
    let ks = c.args.numbers.now in
    let i : ℕ = c.loop-i.i - 1 in
    let k : ℕ = get_or ks i 0 in
    let ok = tree_at c.args.draft.now c.args.rest in
    let bad = tree_at c.args.draft.now c.args.failed in
    let before = c.loop-i.invariant in
    let on : i + 1 ≡ c.loop-i.i = omega arith in
    let next = before.made.is ∙ ap (λ j. awaits by g (drop j ks) ok bad) (sym on) in
    let failed = at_kept c.args.draft.now c.loop-i.draft c.args.failed before.keeps c.requires.failed in
    let is = ap (λ t. does by (AwaitReady g k) (await_edges t (tree_at c.loop-i.draft c.args.failed) (does by (Kill g k) (then_edge (tree_at c.loop-i.draft c.args.failed))))) next
    ∙ (ap (λ t. does by (AwaitReady g k) (await_edges (awaits by g (drop (i + 1) ks) ok bad) t (does by (Kill g k) (then_edge t)))) failed ∙ sym (ap (λ xs. awaits by g xs ok bad) (drop_more ks i 0 (omega arith)))) in
    record {
      made = subst (IsMade c.add_await.new.draft c.in_ok-next.next) is c.in_ok-next.ensures.made;
      count = omega (arith, before.count, c.in_ok-next.ensures.grows.count);
      keeps = keeps_on c.args.draft.now c.loop-i.draft c.add_await.new.draft before.keeps c.in_ok-next.ensures.grows.keeps;
    }
