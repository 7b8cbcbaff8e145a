use Rattle.std.proofs.Common.{subst, sym}
use Rattle.std.specs.Prelude.{⊤}
use Rattle.vocabulary.specs.declared.calls.Fate.{Fate}
use Rattle.call_text.specs.Reads.{Reads}
use Rattle.call_text.specs.Words.{fate_text}
use Rattle.call_text.proofs.NameTexts.{Reads-fate}
use Rattle.call_text.proofs.names.read_fate.Goals as goal

pub returns-clause-reads : goal.returns-clause-reads
returns-clause-reads c = subst (Reads (λ (f : Fate). ⊤) fate_text c.args.text.now) (sym c.find_fate.ensures) (Reads-fate c.args.text.now)
