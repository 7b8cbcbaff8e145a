use Rattle.std.proofs.Common.{sym, ap, ◌∙◌, map}
use Rattle.std.specs.Prelude.{slice_get}
use Rattle.kernel_model.specs.State.{State}
use Rattle.kernel_model.specs.Readers.{file_row}
use Rattle.kernel_model.proofs.Reading.{files-again}
use Rattle.kernel_model.proofs.kernel.Kernel.file.Goals as goal

pub returns : goal.returns
returns c =
    let s = c.self.inside.store in
    c.file_at.ensures ∙ ap (λ files. slice_get files c.args.i) (c.deref.ensures.value ∙ sym (files-again s.files.items))
    ∙ ap (λ (state : State). slice_get (map file_row state.table.files) c.args.i) c.self.view_is
