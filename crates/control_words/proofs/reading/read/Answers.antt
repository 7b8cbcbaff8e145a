use Rattle.std.proofs.Common.{◌≡◌, ◌∙◌, sym, ap, List, ℕ, Result, Ok, Err, IfOk}
use Rattle.control_words.specs.declared.words.Word.{Word}
use Rattle.control_words.specs.declared.refusal.WordRefusal.{WordRefusal}
use Rattle.control_words.specs.Words.{word_text, IsWord, reading}
use Rattle.control_words.proofs.Lines.{reading-written, written-reading}
use Rattle.control_words.proofs.reading.read.Goals as goal

found : (line : List ℕ) (answer : Result Word WordRefusal) → answer ≡ reading line → IfOk answer (λ word. (line ≡ word_text word) × IsWord word)
found line (Ok word) e = written-reading line word (sym e)
found line (Err refusal) e = tt

pub returns-clause-found : goal.returns-clause-found
returns-clause-found c = found c.args.line.now _ c.word_of.ensures

pub returns-clause-only : goal.returns-clause-only
returns-clause-only c word is written = c.word_of.ensures ∙ ap reading written ∙ reading-written word is
