use Rattle.std.proofs.Common.{◌∙◌, sym, ap}
use Rattle.std.specs.Prelude.{option_and_then}
use Rattle.call_text.specs.CallReading.{all_descriptors}
use Rattle.call_text.proofs.ForkTexts.{set_made}
use Rattle.call_text.proofs.forks.read_descriptors.Goals as goal

pub returns : goal.returns
returns c = set_made c.in_ok-numbers.numbers c.of.result c.of.ensures.some c.of.ensures.none ∙ ap (option_and_then all_descriptors) (sym c.in_ok-numbers.was ∙ c.read_numbers.ensures)
