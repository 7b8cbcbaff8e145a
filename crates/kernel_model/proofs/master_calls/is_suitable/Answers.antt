use Rattle.std.proofs.Common.{sym, ap, ◌∙◌}
use Rattle.std.specs.Result.{result_ok}
use Rattle.definitions.specs.Calls.{Handover, suits}
use Rattle.kernel_rows.specs.Holds.{seen_holds}
use Rattle.kernel_model.proofs.Adopted.{suits-image}
use Rattle.kernel_model.proofs.master_calls.is_suitable.Goals as goal

pub returns-then-handover-image : goal.returns-then-handover-image
returns-then-handover-image c =
    let holds = seen_holds c.args.store.now.addresses.items c.args.caller.now.holds in
    let h = c.in-Ok.handover in
    let image = sym (ap (λ (x : Handover). x.generation.image) c.handover.view_is) ∙ c.if-handover-image.true in
    let listeners = c.as_slice.ensures.items ∙ ap (λ (x : Handover). x.listeners) c.handover.view_is in
    let is = rw (c.deref.ensures.value, listeners) at c.are_listeners.ensures in
    suits-image h c.args.image holds c.are_listeners.result image is ∙ ap (λ r. suits (result_ok r) c.args.image holds) (sym c.in-Ok.is ∙ c.read.ensures.exact)
