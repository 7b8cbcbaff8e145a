use Rattle.std.proofs.Common.{Some, None, sym, ap, ◌∙◌, arith}
use Rattle.std.specs.List.{list_any}
use Rattle.definitions.specs.Table.{is_active, is_worker}
use Rattle.kernel_rows.specs.Holds.{seen_holds}
use Rattle.kernel_rows.specs.Seen.{seen_rows, is_number}
use Rattle.kernel_table.proofs.Free.{free-after}
use Rattle.kernel_rows.proofs.Passing.{passed, passed-push, one-passed, all-passed}
use Rattle.kernel_table.proofs.free_names.FreeNames.among.Goals as goal

pub loop-holder-preserved-in-Some-worker_number : goal.loop-holder-preserved-in-Some-worker_number
loop-holder-preserved-in-Some-worker_number c = record {
  split = one-passed _ _ _ c.loop-holder.invariant.split c.in-Some.holder c.next.new.self c.in-Some.ensures.steps;
  free = λ addresses k le.
      let h = c.in-Some.holder.now in
      ap (λ hs. list_any (is_worker is_active c.args.parent c.args.generation k) (seen_rows addresses hs)) (passed-push c.loop-holder.yielded c.in-Some.holder)
      ∙ free-after c.args.parent c.args.generation addresses (passed c.loop-holder.yielded) h c.loop-holder.first (c.loop-holder.invariant.free addresses) (Some c.in-Some-worker_number.nr) c.max-first.result
      (λ j. c.worker_number.ensures (seen_holds addresses h.holds) j ∙ ap (λ n. is_number n j) c.in-Some-worker_number.is)
      (omega (arith, c.max-first.ensures)) (omega (arith, c.max-first.ensures, c.from.ensures)) k le;
}

pub loop-holder-preserved : goal.loop-holder-preserved
loop-holder-preserved c = record {
  split = one-passed _ _ _ c.loop-holder.invariant.split c.in-Some.holder c.next.new.self c.in-Some.ensures.steps;
  free = λ addresses k le.
      let h = c.in-Some.holder.now in
      ap (λ hs. list_any (is_worker is_active c.args.parent c.args.generation k) (seen_rows addresses hs)) (passed-push c.loop-holder.yielded c.in-Some.holder)
      ∙ free-after c.args.parent c.args.generation addresses (passed c.loop-holder.yielded) h c.loop-holder.first (c.loop-holder.invariant.free addresses) None c.loop-holder.first
      (λ j. c.worker_number.ensures (seen_holds addresses h.holds) j ∙ ap (λ n. is_number n j) c.in_default.is) (omega arith) tt k le;
}

pub returns-clause-free : goal.returns-clause-free
returns-clause-free c = λ addresses k le.
    let all = all-passed _ _ _ c.loop-holder.invariant.split c.in-None.ensures.steps.0 in
    ap (λ hs. list_any (is_worker is_active c.args.parent c.args.generation k) (seen_rows addresses hs)) (sym all) ∙ c.loop-holder.invariant.free addresses k le
