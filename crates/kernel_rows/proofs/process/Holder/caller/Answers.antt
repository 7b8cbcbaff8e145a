use Rattle.std.proofs.Common.{[], ◌∷◌, is_some, ap, sym, ◌∙◌}
use Rattle.std.proofs.lemmas.Bool.{false≢true}
use Rattle.definitions.specs.Table.{live_master}
use Rattle.kernel_rows.specs.Holds.{seen_holds}
use Rattle.kernel_rows.specs.Seen.{process_of}
use Rattle.kernel_rows.proofs.process.Holder.caller.Goals as goal

pub unreachable-requires : goal.unreachable-requires
unreachable-requires c = false≢true (ap (λ r. is_some (live_master c.args.with (process_of r (seen_holds [] c.args.self.now.holds) ∷ []))) (sym c.in-Worker.is) ∙ c.requires [])

pub unreachable-requires-in-Foreign : goal.unreachable-requires-in-Foreign
unreachable-requires-in-Foreign c = false≢true (ap (λ r. is_some (live_master c.args.with (process_of r (seen_holds [] c.args.self.now.holds) ∷ []))) (sym c.in-Foreign.is) ∙ c.requires [])
