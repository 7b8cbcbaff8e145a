use Rattle.std.proofs.Common.{ap, ◌∙◌, map}
use Rattle.std.specs.Prelude.{slice_get}
use Rattle.kernel_model.specs.State.{State}
use Rattle.kernel_model.specs.Readers.{row_of}
use Rattle.kernel_model.proofs.Reading.{rows-again}
use Rattle.kernel_model.proofs.kernel.Kernel.row.Goals as goal

pub returns : goal.returns
returns c =
    let s = c.self.inside.store in
    c.row_at.ensures ∙ rows-again s.addresses.items s.holders.items c.args.i
    ∙ ap (λ (state : State). slice_get (map row_of state.table.rows) c.args.i) c.self.view_is
