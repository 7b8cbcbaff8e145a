-- What a refused target says.
use Rattle.std.specs.Prelude.{ℕ, ◌≡◌, List, ⊤}
use Rattle.word_runner.specs.declared.enactor.TargetRefusal.{TargetRefusal}
use Rattle.word_runner.specs.declared.enactor.TargetRefusal.TheVariants.{Memory, Coded}
use Rattle.word_runner.specs.declared.block.Body.{Body}
use Rattle.word_runner.specs.declared.block.Body.TheVariants.{Refused}

-- the code of a refusal says this; want of memory says nothing
abbrev pub HasCode : (List ℕ → Type 0) → TargetRefusal → Type 0
HasCode says Memory = ⊤
HasCode says (Coded code) = says code

-- a refusal with a code is told, and none other is
abbrev pub IsTold : TargetRefusal → Body → Type 0
IsTold Memory body = ⊥
IsTold (Coded code) body = body ≡ Refused code
