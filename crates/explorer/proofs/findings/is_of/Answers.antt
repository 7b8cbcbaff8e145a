use Rattle.std.proofs.Common.{sym, ◌∙◌}
use Rattle.std.proofs.lemmas.Map.Text.{is_eq-slice_cmp}
use Rattle.explorer.proofs.findings.is_of.Goals as goal

pub returns : goal.returns
returns c = c.eq.ensures ∙ rw (c.bytes.ensures.text, c.bytes-2.ensures.text) (sym (is_eq-slice_cmp c.args.address.now c.args.entry.now.address))
