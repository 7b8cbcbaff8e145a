use Rattle.kernel_rows.proofs.Lone.{edited-one}
use Rattle.kernel_rows.proofs.holders.change_at.Goals as goal

pub returns : goal.returns
returns c =
    let d = c.index-slots-place.result in
    edited-one c.args.addresses.now c.args.name c.args.edit.now c.requires.edit c.args.slots.now c.args.place d c.edit.new.self c.edit.result c.requires.there.there
    (c.requires.there.active c.args.addresses.now d) c.requires.alone c.edit.ensures
