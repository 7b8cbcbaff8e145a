use Rattle.std.proofs.Common.{sym, ap, ◌∙◌, rules}
use Rattle.std.specs.Bool.{then_some}
use Rattle.kernel_rows.specs.Seen.{seen_holder}
use Rattle.kernel_rows.specs.Edits.{edited}
use Rattle.kernel_rows.proofs.Lists.{retained}
use Rattle.kernel_rows.proofs.holders.edit_all.Goals as goal

pub returns-clause-rows : goal.returns-clause-rows
returns-clause-rows c =
    let seen = seen_holder c.args.addresses.now in
    let become = edited c.args.addresses.now c.args.edit.now in
    retained _ seen become _
    (λ x b t y k.
    let met = k.called.met.0 in
    (ap (λ h. then_some b (seen h)) (sym k.leaves) ∙ met ∙ ap (λ h. become (seen h)) k.shows, search rules))
    _ _ c.retain_mut.ensures.filtered
