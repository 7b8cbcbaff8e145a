use Rattle.std.proofs.Common.{◌≡◌, ◌∙◌, ◌<◌, ◌^◌, ℕ, List, sym, ap, Option, Some, None, IfSome}
use Rattle.std.specs.Fmt.{decimal}
use Rattle.plain_text.specs.NumberText.{number64_of}
use Rattle.plain_text.proofs.NumberTextLemmas.{decimal-number64_of, number64_of-decimal}
use Rattle.plain_text.proofs.number_text.read_number64.Goals as goal

found : (text : List ℕ) (o : Option ℕ) → o ≡ number64_of text → IfSome o (λ n. (text ≡ decimal n) × (n < 2 ^ 64))
found text None e = tt
found text (Some n) e = decimal-number64_of text n (sym e)

pub returns-clause-found : goal.returns-clause-found
returns-clause-found c = found c.args.text.now _ c.digits_value.ensures

pub returns-clause-only : goal.returns-clause-only
returns-clause-only c n lt e = c.digits_value.ensures ∙ ap number64_of e ∙ number64_of-decimal n lt
