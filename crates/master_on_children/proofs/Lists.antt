-- The front of a list of fixed size.
use Rattle.std.proofs.Common.{◌≡◌, ℕ, ◌+◌, ◌-◌, ◌≤◌, List, length, take, drop, sym, ap, ◌∙◌, arith}
use Rattle.std.proofs.lemmas.List.{drop-take, length-drop}
use Rattle.std.proofs.lemmas.List.Edits.{take-paste}
use Rattle.std.proofs.Math.Seq.{paste}

module _ {A : Type 0} where
  -- so many are taken out, and those behind them are moved to the front
  pub moved_front : (count filled : ℕ) (xs : List A) → count ≤ filled → filled ≤ length xs →
      take (filled - count) (paste xs 0 (drop count xs) (filled - count)) ≡ drop count (take filled xs)
  moved_front count filled xs within fits =
      let whole : count + (filled - count) ≡ filled = omega (arith, within) in
      let start : 0 + (filled - count) ≡ filled - count = omega arith in
      let behind : filled - count ≤ length (drop count xs) = omega (arith, fits, length-drop count xs) in
      ap (λ n. take n (paste xs 0 (drop count xs) (filled - count))) (sym start)
      ∙ take-paste xs 0 (drop count xs) (filled - count) (omega arith) behind
      ∙ sym (drop-take count (filled - count) xs)
      ∙ ap (λ n. drop count (take n xs)) whole
