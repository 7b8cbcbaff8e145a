use Rattle.std.proofs.Common.{sym, ◌∙◌, ap}
use Rattle.std.specs.Option.{option_flatten}
use Rattle.worker_table.proofs.PlaceLemmas.{beat_of-places}
use Rattle.worker_table.proofs.workers.WorkerTable.beat_of.Goals as goal

pub returns-clause-beat : goal.returns-clause-beat
returns-clause-beat c = c.flatten.ensures ∙ ap option_flatten (c.copied.ensures ∙ c.get.ensures.value) ∙ sym (beat_of-places c.self.inside.places c.args.self.now c.args.nr c.self.view_is)
