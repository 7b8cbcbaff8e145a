-- The words for refusals, as they are printed.
use Rattle.std.specs.Prelude.{ℕ, List, codes}
use Rattle.command_line.specs.declared.refusal.Refusal.{Refusal}
use Rattle.command_line.specs.declared.refusal.Refusal.TheVariants.{Usage, Memory}

abbrev pub refusal_code : Refusal → List ℕ
refusal_code Usage = codes "usage"
refusal_code Memory = codes "memory"
