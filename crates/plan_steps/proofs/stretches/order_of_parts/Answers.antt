use Rattle.std.proofs.Common.{◌≡◌, ◌++◌, ℕ, List, filter, ◌∙◌, ap, append_assoc}
use Rattle.plan_steps.specs.Stretches.{is_before}
use Rattle.plan_steps.proofs.Endings.{before_kept}
use Rattle.plan_steps.proofs.stretches.order_of_parts.Goals as goal

pub returns : goal.returns
returns c =
    let steps = c.args.steps.now in
    let before : List ℕ = filter (is_before steps) c.args.reached.now in
    let new = c.in_ok-new.new.items in
    let old = c.in_ok-old.old.items in
    let rest = c.in_ok-rest.rest.items in
    let one : c.extend_from_slice.new.self.items ≡ before ++ new =
    c.in_ok-extend_from_slice.ensures.items
    ∙ (ap (λ ks. ks ++ c.deref.result.now) (before_kept steps c.args.splits.now c.args.reached.now c.in_ok-order.order.items c.requires.splits c.in_ok-order.ensures) ∙ ap (λ ks. before ++ ks) c.deref.ensures.value) in
    let two : c.extend_from_slice-2.new.self.items ≡ (before ++ new) ++ old =
    c.in_ok-extend_from_slice-2.ensures.items ∙ (ap (λ ks. ks ++ c.deref-2.result.now) one ∙ ap (λ ks. (before ++ new) ++ ks) c.deref-2.ensures.value) in
    let three : c.extend_from_slice-3.new.self.items ≡ ((before ++ new) ++ old) ++ rest =
    c.in_ok-extend_from_slice-3.ensures.items ∙ (ap (λ ks. ks ++ c.deref-3.result.now) two ∙ ap (λ ks. ((before ++ new) ++ old) ++ ks) c.deref-3.ensures.value) in
    record {
      new = new;
      old = old;
      rest = rest;
      new_is = c.in_ok-new.ensures;
      old_is = c.in_ok-old.ensures;
      rest_is = c.in_ok-rest.ensures;
      is = three ∙ (append_assoc (before ++ new) old rest ∙ append_assoc before new (old ++ rest));
    }
