use Rattle.std.proofs.Common.{inl}
use Rattle.master_on_kernel.proofs.rehearsal.shown_of.Goals as goal

pub returns-in-Ok : goal.returns-in-Ok
returns-in-Ok c = inl c.in-Ok.ensures.ok
