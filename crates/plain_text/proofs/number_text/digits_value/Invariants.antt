use Rattle.std.proofs.Common.{◌≡◌, drop}
use Rattle.plain_text.specs.NumberText.{number_after}
use Rattle.plain_text.proofs.number_text.digits_value.Given as goal

abbrev pub invariant-loop-byte : goal.invariant-loop-byte
invariant-loop-byte l = number_after l.number (drop l.byte-index l.text) ≡ number_after 0 l.text
