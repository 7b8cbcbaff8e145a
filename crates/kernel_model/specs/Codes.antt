-- The codes of the refusals, as they are printed.
use Rattle.std.specs.Prelude.{ℕ, List, codes}
use Rattle.kernel_model.specs.declared.boot.BootRefusal.{BootRefusal}
use Rattle.kernel_model.specs.declared.boot.BootRefusal.TheVariants as boot
use Rattle.kernel_model.specs.declared.refusal.ReserveRefusal.{ReserveRefusal}
use Rattle.kernel_model.specs.declared.refusal.ReserveRefusal.TheVariants as reserve
use Rattle.kernel_model.specs.declared.refusal.ForeignRefusal.{ForeignRefusal}
use Rattle.kernel_model.specs.declared.refusal.ForeignRefusal.TheVariants as foreign

abbrev pub boot_code : BootRefusal → List ℕ
boot_code boot.BadLimits = codes "B1"
boot_code boot.Memory = codes "memory"

abbrev pub reserve_code : ReserveRefusal → List ℕ
reserve_code reserve.NoNumbers = codes "B3"
reserve_code reserve.Memory = codes "memory"

abbrev pub foreign_code : ForeignRefusal → List ℕ
foreign_code foreign.Held = codes "B2"
foreign_code foreign.NoNumbers = codes "B3"
foreign_code foreign.Memory = codes "memory"
