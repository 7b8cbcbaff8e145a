use Rattle.std.proofs.Common.{◌&&◌, nat_lt, Some, None, sym, ap, subst, ◌∙◌, arith}
use Rattle.std.specs.List.{list_any}
use Rattle.listener_set.specs.Numbers.{is_in, IsRising}
use Rattle.listener_set.proofs.Rising.{RisesFrom-with_number}
use Rattle.definitions.specs.Table.{is_worker}
use Rattle.call_laws.specs.Pieces.{is_ready}
use Rattle.kernel_rows.specs.Holds.{seen_holds}
use Rattle.kernel_rows.specs.Seen.{seen_rows, is_number}
use Rattle.kernel_table.proofs.Census.{one-more, none-more, census-is}
use Rattle.kernel_rows.proofs.Passing.{passed, passed-push, one-passed, all-passed}
use Rattle.kernel_table.proofs.store.ready_numbers.Goals as goal

pub loop-holder-preserved-then-nr-lt-WORKER_LIMIT : goal.loop-holder-preserved-then-nr-lt-WORKER_LIMIT
loop-holder-preserved-then-nr-lt-WORKER_LIMIT c = record {
  split = one-passed _ _ _ c.loop-holder.invariant.split c.in-Some.holder c.next.new.self c.in-Some.ensures.steps;
  rising = subst IsRising (sym c.add.ensures) (RisesFrom-with_number c.loop-holder.numbers c.in-Some-worker_number.nr 0 (omega arith) c.loop-holder.invariant.rising);
  same = λ addresses k.
      let h = c.in-Some.holder.now in
      let one = c.worker_number.ensures (seen_holds addresses h.holds) k in
      let before = c.loop-holder.invariant.same addresses k in
      let pushed = passed-push c.loop-holder.yielded c.in-Some.holder in
      ap (λ ns. is_in ns k) c.add.ensures ∙ one-more addresses c.args.caller c.args.generation k (passed c.loop-holder.yielded) h c.loop-holder.numbers before c.in-Some-worker_number.nr c.if-nr-lt-WORKER_LIMIT.true (one ∙ ap (λ o. is_number o k) c.in-Some-worker_number.is)
      ∙ ap (λ hs. list_any (is_worker is_ready c.args.caller c.args.generation k) (seen_rows addresses hs) && nat_lt k 1024) (sym pushed);
}

pub loop-holder-preserved-else-nr-lt-WORKER_LIMIT : goal.loop-holder-preserved-else-nr-lt-WORKER_LIMIT
loop-holder-preserved-else-nr-lt-WORKER_LIMIT c = record {
  split = one-passed _ _ _ c.loop-holder.invariant.split c.in-Some.holder c.next.new.self c.in-Some.ensures.steps;
  rising = c.loop-holder.invariant.rising;
  same = λ addresses k.
      let h = c.in-Some.holder.now in
      let one = c.worker_number.ensures (seen_holds addresses h.holds) k in
      let before = c.loop-holder.invariant.same addresses k in
      let pushed = passed-push c.loop-holder.yielded c.in-Some.holder in
      none-more addresses c.args.caller c.args.generation k (passed c.loop-holder.yielded) h c.loop-holder.numbers before (Some c.in-Some-worker_number.nr) (one ∙ ap (λ o. is_number o k) c.in-Some-worker_number.is) c.if-nr-lt-WORKER_LIMIT.false
      ∙ ap (λ hs. list_any (is_worker is_ready c.args.caller c.args.generation k) (seen_rows addresses hs) && nat_lt k 1024) (sym pushed);
}

pub loop-holder-preserved : goal.loop-holder-preserved
loop-holder-preserved c = record {
  split = one-passed _ _ _ c.loop-holder.invariant.split c.in-Some.holder c.next.new.self c.in-Some.ensures.steps;
  rising = c.loop-holder.invariant.rising;
  same = λ addresses k.
      let h = c.in-Some.holder.now in
      let one = c.worker_number.ensures (seen_holds addresses h.holds) k in
      let before = c.loop-holder.invariant.same addresses k in
      let pushed = passed-push c.loop-holder.yielded c.in-Some.holder in
      none-more addresses c.args.caller c.args.generation k (passed c.loop-holder.yielded) h c.loop-holder.numbers before None (one ∙ ap (λ o. is_number o k) c.in_default.is) tt
      ∙ ap (λ hs. list_any (is_worker is_ready c.args.caller c.args.generation k) (seen_rows addresses hs) && nat_lt k 1024) (sym pushed);
}

pub returns : goal.returns
returns c = λ addresses.
    let before = c.loop-holder.invariant in
    let all = all-passed _ _ _ before.split c.in-None.ensures.steps.0 in
    census-is c.args.caller c.args.generation (seen_rows addresses c.args.holders.now.items) c.loop-holder.numbers before.rising
    (λ k. before.same addresses k ∙ ap (λ xs. list_any (is_worker is_ready c.args.caller c.args.generation k) (seen_rows addresses xs) && nat_lt k 1024) all)
