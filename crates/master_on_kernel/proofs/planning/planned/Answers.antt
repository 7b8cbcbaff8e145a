use Rattle.std.proofs.Common.{inl, refl}
use Rattle.master_on_kernel.proofs.planning.planned.Goals as goal

pub returns-in_ok-shown-in-Ok : goal.returns-in_ok-shown-in-Ok
returns-in_ok-shown-in-Ok c = inl (record { plan = c.in-Ok.plan; has_plan = c.in-Ok.ensures.has_plan; is_its = c.in-Ok.ensures.tree; text = c.in_ok-shown-in-Ok.ensures; status = refl })
