use Rattle.std.proofs.Common.{◌≡◌, [], ◌∷◌, drop}
use Rattle.kernel_model.specs.Pattern.{moment_at}
use Rattle.definitions.specs.Claims.{refused_among}
use Rattle.plan_executor.specs.Naming.{listed}
use Rattle.plan_executor.proofs.naming.refused_among.Given as goal

abbrev pub invariant-loop-place : goal.invariant-loop-place
invariant-loop-place l =
    refused_among (l.image ∷ []) (listed l.heir) (moment_at l.pattern) 0 l.log.entries ≡ refused_among (listed l.executing) (listed l.heir) (moment_at l.pattern) l.place (drop l.place l.log.entries)
