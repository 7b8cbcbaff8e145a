use Rattle.transcript.proofs.Transcripts.{blocks_only}
use Rattle.transcript.proofs.reading.read_transcripts.Goals as goal

pub returns-clause-only : goal.returns-clause-only
returns-clause-only c = blocks_only c.args.text.now
