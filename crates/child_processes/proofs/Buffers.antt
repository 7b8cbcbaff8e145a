-- The bytes at the front of a buffer of fixed size.
use Rattle.std.proofs.Common.{◌≡◌, ℕ, ◌+◌, ◌-◌, ◌≤◌, List, ◌++◌, length, take, drop, sym, ap, ◌∙◌, arith}
use Rattle.std.proofs.lemmas.List.{drop-take, length-drop, length-take-le, take-append-le}
use Rattle.std.proofs.lemmas.List.Edits.{take-paste}
use Rattle.std.proofs.Math.Seq.{paste, take-append-add}
use borrow.Rule.Slice.PartMut.{put_mid, post_of}

-- so many are taken out, and those behind them are moved to the front
pub moved_front : (count filled : ℕ) (bytes : List ℕ) → count ≤ filled → filled ≤ length bytes → take (filled - count) (paste bytes 0 (drop count bytes) (filled - count)) ≡ drop count (take filled bytes)
moved_front count filled bytes within fits =
    let whole : count + (filled - count) ≡ filled = omega (arith, within) in
    let start : 0 + (filled - count) ≡ filled - count = omega arith in
    let behind : filled - count ≤ length (drop count bytes) = omega (arith, fits, length-drop count bytes) in
    ap (λ n. take n (paste bytes 0 (drop count bytes) (filled - count))) (sym start)
    ∙ take-paste bytes 0 (drop count bytes) (filled - count) (omega arith) behind
    ∙ sym (drop-take count (filled - count) bytes)
    ∙ ap (λ n. drop count (take n bytes)) whole

-- so many are read behind them
pub read_behind : (filled k n : ℕ) (bytes read : List ℕ) → filled ≤ length bytes → n ≤ length read → take (filled + n) (put_mid filled k bytes read) ≡ take filled bytes ++ take n read
read_behind filled k n bytes read within fits =
    let size : length (take filled bytes) ≡ filled = length-take-le filled bytes within in
    ap (λ m. take (m + n) (put_mid filled k bytes read)) (sym size)
    ∙ take-append-add (take filled bytes) (read ++ post_of filled k bytes) n
    ∙ ap (λ t. take filled bytes ++ t) (take-append-le n read (post_of filled k bytes) fits)
