-- Blocks one after another: their text, and their status.
use Rattle.std.proofs.Common.{◌≡◌, ℕ, List, [], ◌∷◌, ◌++◌, refl, sym, ap, ◌∙◌, append_assoc}
use Rattle.transcript.specs.Block.{block_text, transcript_text}
use Rattle.word_runner.specs.Status.{graver, status_of, status_after}
use Rattle.word_runner.specs.declared.block.Block.{Block}

pub text-append : (xs ys : List Block) → transcript_text (xs ++ ys) ≡ transcript_text xs ++ transcript_text ys
text-append [] ys = refl
text-append (b ∷ xs) ys = ap (λ t. block_text b ++ t) (text-append xs ys) ∙ sym (append_assoc (block_text b) (transcript_text xs) (transcript_text ys))

pub status-append : (n : ℕ) (xs ys : List Block) → status_after n (xs ++ ys) ≡ status_after (status_after n xs) ys
status-append n [] ys = refl
status-append n (b ∷ xs) ys = status-append (graver n (status_of b)) xs ys
