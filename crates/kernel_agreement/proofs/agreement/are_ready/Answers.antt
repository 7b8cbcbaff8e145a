use Rattle.std.proofs.Common.{◌≡◌, ℕ, Bool, true, not, ◌&&◌, ◌||◌, nat_eq, ap, sym, ◌∙◌, arith}
use Rattle.std.specs.List.{list_any}
use Rattle.std.proofs.Math.Bool.{and-true}
use Rattle.std.proofs.lemmas.Bool.{false≢true, eqb-true, and_parts}
use Rattle.std.proofs.lemmas.Bool.Decides.{nat_tests}
use Rattle.listener_set.specs.Numbers.{is_in}
use Rattle.definitions.specs.Table.{is_worker}
use Rattle.call_laws.specs.Pieces.{is_ready}
use Rattle.kernel_rows.specs.Holds.{seen_holds}
use Rattle.kernel_rows.specs.Seen.{seen_rows}
use Rattle.kernel_agreement.proofs.Comparing.{found_first, found_next, none_missing, none_in, is_in-without}
use Rattle.kernel_agreement.proofs.agreement.are_ready.Goals as goal

seen_first : (whole here later gone : Bool) → whole ≡ ((here || later) || gone) → here ≡ true → whole ≡ true
seen_first whole here later gone found is = found ∙ ap (λ b. (b || later) || gone) is

pub returns-then-not-has_number : goal.returns-then-not-has_number
returns-then-not-has_number c = λ addresses.
    let loop = c.loop-holder in
    let h = c.in-Some.holder.now in
    let nr = c.in-Some-worker_number.nr in
    let test = is_worker is_ready c.args.pid c.args.generation nr in
    let itself : nat_eq nr nr ≡ true = grind (arith, nat_tests) in
    let is = c.in-Some-worker_number.ensures (seen_holds addresses h.holds) nr ∙ itself in
    let found = found_first test addresses c.args.holders.now.items loop.holder-iterator c.next.new.self h (is_in c.args.ready.now nr && not (is_in loop.missing nr)) c.in-Some.ensures.steps (loop.invariant.found addresses nr) in (
      (λ t. absurd (false≢true t)),
      (λ same. c.if-not-has_number.ensures.value ∙ sym (same nr) ∙ seen_first _ _ _ _ found is),
    )

pub loop-holder-preserved-in-Some-worker_number : goal.loop-holder-preserved-in-Some-worker_number
loop-holder-preserved-in-Some-worker_number c =
    let loop = c.loop-holder in
    let ready = c.args.ready.now in
    let nr = c.in-Some-worker_number.nr in
    let left : (k : ℕ) → is_in c.remove.new.self k ≡ (is_in loop.missing k && not (nat_eq nr k)) = λ k. ap (λ ns. is_in ns k) c.remove.ensures ∙ is_in-without loop.missing nr k in
    record {
      within = λ k e. loop.invariant.within k (and_parts (is_in loop.missing k) (not (nat_eq nr k)) (sym (left k) ∙ e)).0;
      found = λ addresses k.
          found_next _ _ _ (is_in ready k) (is_in loop.missing k) _ (nat_eq nr k) (found_first (is_worker is_ready c.args.pid c.args.generation k) addresses c.args.holders.now.items loop.holder-iterator c.next.new.self c.in-Some.holder.now (is_in c.args.ready.now k && not (is_in loop.missing k)) c.in-Some.ensures.steps (loop.invariant.found addresses k)) (c.in-Some-worker_number.ensures (seen_holds addresses c.in-Some.holder.now.holds) k) (left k)
          (λ e. ap (is_in ready) (sym (eqb-true nr k e)) ∙ sym c.if-not-has_number.ensures.value);
    }

pub loop-holder-preserved : goal.loop-holder-preserved
loop-holder-preserved c =
    let loop = c.loop-holder in
    record {
      within = loop.invariant.within;
      found = λ addresses k.
          let later = list_any (is_worker is_ready c.args.pid c.args.generation k) (seen_rows addresses c.next.new.self) in
          found_first (is_worker is_ready c.args.pid c.args.generation k) addresses c.args.holders.now.items loop.holder-iterator c.next.new.self c.in-Some.holder.now (is_in c.args.ready.now k && not (is_in loop.missing k)) c.in-Some.ensures.steps (loop.invariant.found addresses k)
          ∙ ap (λ b. (b || later) || (is_in c.args.ready.now k && not (is_in loop.missing k))) (c.in_default.ensures (seen_holds addresses c.in-Some.holder.now.holds) k);
    }

pub returns : goal.returns
returns c = λ addresses.
    let loop = c.loop-holder in
    let ready = c.args.ready.now in
    let found : (k : ℕ) → list_any (is_worker is_ready c.args.pid c.args.generation k) (seen_rows addresses c.args.holders.now.items) ≡ (is_in ready k && not (is_in loop.missing k)) = λ k.
    loop.invariant.found addresses k ∙ ap (λ hs. list_any (is_worker is_ready c.args.pid c.args.generation k) (seen_rows addresses hs) || (is_in ready k && not (is_in loop.missing k))) c.in-None.ensures.steps.0 in (
      (λ t k. found k ∙ ap (λ ns. is_in ready k && not (is_in ns k)) (c.is_empty.ensures.0 t) ∙ and-true (is_in ready k)),
      (λ same. c.is_empty.ensures.1 (none_in loop.missing (λ k. none_missing _ (is_in ready k) (is_in loop.missing k) (found k) (same k) (loop.invariant.within k)))),
    )
