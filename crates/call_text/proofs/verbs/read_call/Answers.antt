use Rattle.std.proofs.Common.{ℕ, subst, sym}
use Rattle.vocabulary.specs.declared.calls.Call.{Call}
use Rattle.call_text.specs.Reads.{Reads}
use Rattle.call_text.specs.Ranges.{IsCallLine}
use Rattle.call_text.specs.CallText.{call_line}
use Rattle.call_text.proofs.CallTexts.{Reads-line}
use Rattle.call_text.proofs.verbs.read_call.Goals as goal

pub returns-clause-reads : goal.returns-clause-reads
returns-clause-reads c =
    subst (Reads IsCallLine (λ (line : ℕ × Call). call_line line.0 line.1) c.args.text.now) (sym c.read_line.ensures) (Reads-line c.args.text.now)
