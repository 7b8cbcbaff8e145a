-- What refusals of texts are printed as.
use Rattle.std.specs.Prelude.{ℕ, List, ◌∷◌, ◌++◌, codes}
use Rattle.std.specs.Fmt.{decimal}
use Rattle.lines_text.specs.declared.refusal.TextRefusal.{TextRefusal}
use Rattle.lines_text.specs.declared.refusal.TextRefusal.TheVariants.{Line, Order, Memory}

abbrev pub refusal_code : TextRefusal → List ℕ
refusal_code (Line number) = codes "X1"
refusal_code (Order number) = codes "X2"
refusal_code Memory = codes "memory"

-- the code, and the number of the line that it is about
abbrev pub refusal_text : TextRefusal → List ℕ
refusal_text (Line number) = refusal_code (Line number) ++ 32 ∷ decimal number
refusal_text (Order number) = refusal_code (Order number) ++ 32 ∷ decimal number
refusal_text Memory = refusal_code Memory
