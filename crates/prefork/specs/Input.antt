-- What standard input has.
use Rattle.std.specs.Prelude.{◌≡◌, ℕ, List, Option, IfSome, Err}
use Rattle.pattern_text.specs.PatternsText.{patterns_of}
use Rattle.transcript.specs.Reading.{blocks_of}
use Rattle.faults.specs.Faults.{IsOfFile}
use Rattle.faults.specs.declared.fault.Fault.{Fault}
use Rattle.faults.specs.declared.fault.Fault.TheVariants.{Pattern, Transcript}

-- The patterns of an input can't be had: a text is refused, which is the input's where its bytes are known, or else the read failed.
abbrev pub IsOfPatterns : Option (List ℕ) → Fault → Type 0
IsOfPatterns input (Pattern refusal) = (text : List ℕ) × IfSome input (λ bytes. text ≡ bytes) × (patterns_of text ≡ Err refusal)
IsOfPatterns input fault = IsOfFile fault

-- The blocks of an input can't be had, in the same way.
abbrev pub IsOfBlocks : Option (List ℕ) → Fault → Type 0
IsOfBlocks input (Transcript refusal) = (text : List ℕ) × IfSome input (λ bytes. text ≡ bytes) × (blocks_of text ≡ Err refusal)
IsOfBlocks input fault = IsOfFile fault
