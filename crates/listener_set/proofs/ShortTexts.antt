-- A short text is its bytes with zeros behind them.
use Rattle.std.proofs.Common.{ℕ, ◌+◌, ◌-◌, ◌≤◌, List, ◌++◌, length, drop, replicate, refl, ap, ◌∙◌, arith}
use Rattle.std.proofs.lemmas.List.{length-append, length-drop, length-replicate, drop_at, drop-replicate}
use Rattle.listener_set.specs.Padded.{IsPadded}

pub padded : (text : List ℕ) → length text ≤ 107 → IsPadded 107 0 (text ++ drop (length text) (replicate 107 0)) (length text)
padded text fits = record {
  size = length-append text _ ∙ ap (λ k. length text + k) (length-drop (length text) (replicate 107 0) ∙ ap (λ k. k - length text) (length-replicate {A = ℕ} 107 0)) ∙ omega arith;
  fits = fits;
  blanks = drop_at text _ (length text) refl ∙ drop-replicate (length text) 107 0;
}
