use Rattle.std.proofs.Common.{not, sym, ap, ◌∙◌}
use Rattle.kernel_table.specs.Seen.{seen}
use Rattle.kernel_table.proofs.Free.{unborne-among}
use Rattle.kernel_table.proofs.store.Store.is_borne.Goals as goal

pub returns-else-not-have : goal.returns-else-not-have
returns-else-not-have c =
    let s = c.args.self.now in
    ap not c.if-not-have.false ∙ sym (unborne-among s.free c.args.name (seen s).rows c.requires.free (c.have.ensures.0 c.if-not-have.false))
