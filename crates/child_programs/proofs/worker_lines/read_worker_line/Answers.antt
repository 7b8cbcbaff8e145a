use Rattle.std.proofs.Common.{subst, sym}
use Rattle.call_text.specs.Reads.{Reads}
use Rattle.child_programs.specs.WorkerLines.{IsWorkerLine, worker_line_text}
use Rattle.child_programs.proofs.WorkerLineTexts.{Reads-line}
use Rattle.child_programs.proofs.worker_lines.read_worker_line.Goals as goal

pub returns-clause-reads : goal.returns-clause-reads
returns-clause-reads c = subst (Reads IsWorkerLine worker_line_text c.args.text.now) (sym c.read_line.ensures) (Reads-line c.args.text.now)
