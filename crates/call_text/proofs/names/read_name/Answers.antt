use Rattle.std.proofs.Common.{subst, sym}
use Rattle.call_text.specs.Reads.{Reads}
use Rattle.call_text.specs.Ranges.{IsName}
use Rattle.call_text.specs.NameText.{name_text}
use Rattle.call_text.proofs.NameTexts.{Reads-name}
use Rattle.call_text.proofs.names.read_name.Goals as goal

pub returns-clause-reads : goal.returns-clause-reads
returns-clause-reads c = subst (Reads IsName name_text c.args.text.now) (sym c.read_any.ensures) (Reads-name c.args.text.now)
