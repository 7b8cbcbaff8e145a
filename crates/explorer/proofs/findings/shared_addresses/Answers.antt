use Rattle.std.proofs.Common.{◌||◌, ◌+◌, ◌∷◌, Bool, true, false, List, drop, is_some, ap, sym, ◌∙◌, arith}
use Rattle.std.specs.FinMap.{find}
use Rattle.std.proofs.lemmas.List.{drop_all, drop_more}
use Rattle.listener_set.specs.AddressList.{has}
use Rattle.definitions.specs.Table.{Address}
use Rattle.kernel_service.specs.declared.service.Served.{Served}
use Rattle.kernel_service.specs.Services.{address_cmp}
use Rattle.explorer.proofs.Common.{kept, kept-found, kept-added, kept-over}
use Rattle.explorer.proofs.findings.shared_addresses.Goals as goal
use Rattle.explorer.proofs.findings.shared_addresses.Goals.{then-has+in_ok-push, else-has}

pub loop-entry-preserved : goal.loop-entry-preserved
loop-entry-preserved c = λ a.
    let es = c.args.entries.now in
    let i = c.loop-entry.entry-index in
    let x = c.entry-item.result in
    let wanted : Address → Bool = λ a. is_some (find address_cmp a c.args.wanted.now) in
    let rest = kept wanted (drop (i + 1) es) a in
    let kept' = ap (λ (ys : List Served). has c.loop-entry.shared.items a || kept wanted ys a) (sym (drop_more es i x c.loop-entry-test.true)) ∙ c.loop-entry.invariant a in
    let here = ap (λ (y : Served). has c.loop-entry.shared.items a || kept wanted (y ∷ drop (i + 1) es) a) c.entry-item.is ∙ kept' in
    elim c.if-has.branch [
      | then-has+in_ok-push w ↦
          ap (λ (ys : List Address). has ys a || rest) (ap (λ v. v.items) w.shared-is ∙ w.in_ok-push.ensures.items)
          ∙ kept-added wanted true c.loop-entry.shared.items x rest _ a (sym c.has.ensures ∙ w.if-has.true) here
      | else-has w ↦
          ap (λ (ys : List Address). has ys a || rest) (ap (λ v. v.items) w.shared-is)
          ∙ kept-added wanted false c.loop-entry.shared.items x rest _ a (sym c.has.ensures ∙ w.if-has.false) here
    ]

pub returns : goal.returns
returns c = λ a.
    let wanted : Address → Bool = λ a. is_some (find address_cmp a c.args.wanted.now) in
    let over = drop_all c.loop-entry.entry-index c.args.entries.now (omega (arith, c.loop-entry-test.false)) in
    kept-over (has c.loop-entry.shared.items a) (ap (λ (ys : List Served). kept wanted ys a) over) ∙ c.loop-entry.invariant a ∙ kept-found wanted c.args.entries.now a
