use Rattle.std.proofs.Common.{subst, sym}
use Rattle.listener_set.specs.Numbers.{AreNumbers}
use Rattle.call_text.specs.Reads.{Reads}
use Rattle.call_text.specs.SetText.{set_text}
use Rattle.call_text.proofs.SetTexts.{Reads-set}
use Rattle.call_text.proofs.sets.read_set.Goals as goal

pub returns-clause-reads : goal.returns-clause-reads
returns-clause-reads c = subst (Reads (λ ns. AreNumbers 1024 ns) set_text c.args.text.now) (sym c.read_numbers.ensures) (Reads-set c.args.text.now)
