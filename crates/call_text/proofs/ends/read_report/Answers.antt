use Rattle.std.proofs.Common.{subst, sym}
use Rattle.call_text.specs.Reads.{Reads}
use Rattle.call_text.specs.Ranges.{IsReport}
use Rattle.call_text.specs.ReportText.{report_text}
use Rattle.call_text.proofs.ReportTexts.{Reads-report}
use Rattle.call_text.proofs.ends.read_report.Goals as goal

pub returns-clause-reads : goal.returns-clause-reads
returns-clause-reads c =
    subst (Reads (IsReport c.args.ready.now) report_text c.args.text.now) (sym c.read_whole.ensures) (Reads-report c.args.ready.now c.args.text.now)
