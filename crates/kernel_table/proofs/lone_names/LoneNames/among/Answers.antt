use Rattle.std.proofs.Common.{ℕ, ap, subst, ◌∙◌}
use Rattle.listener_set.specs.Numbers.{is_in}
use Rattle.kernel_rows.specs.Holds.{seen_holds}
use Rattle.kernel_rows.specs.Seen.{seen_rows, is_number}
use Rattle.kernel_table.proofs.Doubled.{AreMet, met-one, at-most-one}
use Rattle.kernel_rows.proofs.Passing.{passed, passed-push, one-passed, all-passed}
use Rattle.kernel_table.proofs.lone_names.LoneNames.among.Goals as goal

pub loop-holder-preserved-then-nr-lt-WORKER_LIMIT : goal.loop-holder-preserved-then-nr-lt-WORKER_LIMIT
loop-holder-preserved-then-nr-lt-WORKER_LIMIT c = record {
  split = one-passed _ _ _ c.loop-holder.invariant.split c.in-Some.holder c.next.new.self c.in-Some.ensures.steps;
  met = λ addresses.
      let h = c.in-Some.holder.now in
      let one = λ (k : ℕ). c.worker_number.ensures (seen_holds addresses h.holds) k ∙ ap (λ n. is_number n k) c.in-Some-worker_number.is in
      let met = met-one c.args.parent c.args.generation addresses (passed c.loop-holder.yielded) h c.loop-holder.once c.loop-holder.doubled (c.loop-holder.invariant.met addresses) c.in-Some-worker_number.nr one in
      rw (passed-push c.loop-holder.yielded c.in-Some.holder, c.meet.ensures.once, c.meet.ensures.doubled) met;
}

pub returns-clause-lone : goal.returns-clause-lone
returns-clause-lone c = λ addresses k small off.
    let all = all-passed _ _ _ c.loop-holder.invariant.split c.in-None.ensures.steps.0 in
    let met = subst (λ hs. AreMet c.args.parent c.args.generation c.loop-holder.once c.loop-holder.doubled (seen_rows addresses hs)) all (c.loop-holder.invariant.met addresses) in
    at-most-one (is_in c.loop-holder.once k) _ (met k small off)
