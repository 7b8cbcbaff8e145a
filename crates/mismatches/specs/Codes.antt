-- The codes of mismatches, as they are printed.
use Rattle.std.specs.Prelude.{ℕ, List, ◌++◌, codes}
use Rattle.std.specs.Fmt.{decimal}
use Rattle.mismatches.specs.declared.Mismatch.{Mismatch}
use Rattle.mismatches.specs.declared.Mismatch.TheVariants.{Refused, Step, Short, Report, Memory}

abbrev pub mismatch_code : Mismatch → List ℕ
mismatch_code Refused = codes "Y4"
mismatch_code (Step n) = codes "Y1 " ++ decimal n
mismatch_code Short = codes "Y3"
mismatch_code Report = codes "Y2"
mismatch_code Memory = codes "memory"
