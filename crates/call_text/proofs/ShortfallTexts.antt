-- Shortfalls are read as they are written.
use Rattle.std.proofs.Common.{◌≡◌, ℕ, ◌-◌, ◌≤◌, ◌<◌, ◌^◌, ltb, true, false, List, [], ◌∷◌, ◌++◌, length, get_or, take}
use Rattle.std.proofs.Common.{drop, map, Some, None, refl, sym, ap, subst, ◌∙◌, arith, length-append, append_assoc}
use Rattle.std.proofs.Common.{append-nil}
use Rattle.std.specs.Prelude.{codes, option_and_then}
use Rattle.std.specs.Fmt.{decimal}
use Rattle.std.specs.List.{slice_split, join_with_byte, flat_map, sum}
use Rattle.std.specs.Char.{is_ascii_digit}
use Rattle.std.proofs.lemmas.Bool.Decides.{nat_tests}
use Rattle.std.proofs.lemmas.List.{take_all}
use Rattle.std.proofs.lemmas.List.Splits.{join_with_byte-slice_split}
use Rattle.listener_set.specs.Numbers.{AreBelow}
use Rattle.plain_text.specs.NumberText.{number_in}
use Rattle.plain_text.specs.Cuts.{cut}
use Rattle.plain_text.proofs.CutTexts.{lacks, lacks-append, cut_at, cut_none}
use Rattle.call_text.specs.Ranges.{AreShortfalls}
use Rattle.call_text.specs.Reading.{some_if}
use Rattle.call_text.specs.ReportText.{shortfalls_text}
use Rattle.call_text.specs.SetReading.{is_comma}
use Rattle.call_text.specs.ReportReading.{with_count, with_counts, counts_of, shortfalls_of}
use Rattle.call_text.proofs.Readers.{IsReader, then, chosen, number_reads}
use Rattle.call_text.proofs.PartTexts.{number_lacks}
use Rattle.call_text.proofs.SetTexts.{parts_none, parts_some}

-- ---- the first number, and the others
abbrev pub later_count : ℕ → List ℕ
later_count n = codes "," ++ decimal n

pub shortfalls_written : (n : ℕ) (ns : List ℕ) → shortfalls_text (n ∷ ns) ≡ decimal n ++ flat_map later_count ns
shortfalls_written n [] = sym (append-nil (decimal n))
shortfalls_written n (m ∷ ms) = ap (λ t. decimal n ++ 44 ∷ t) (shortfalls_written m ms)

pub shortfalls_parted : (ns : List ℕ) → 1 ≤ length ns → decimal (get_or ns 0 0) ++ flat_map later_count (take (length ns - 1) (drop 1 ns)) ≡ shortfalls_text ns
shortfalls_parted [] some = absurd (omega (arith, some))
shortfalls_parted (n ∷ ns) some = ap (λ ms. decimal n ++ flat_map later_count ms) (take_all (length (n ∷ ns) - 1) ns (omega arith)) ∙ sym (shortfalls_written n ns)

-- ---- a byte that the text has not
pub shortfalls_lack : (b : ℕ) → is_ascii_digit b ≡ false → lacks b (codes ",") ≡ true → (ns : List ℕ) →
    AreBelow (2 ^ 32) ns → lacks b (shortfalls_text ns) ≡ true
shortfalls_lack b off comma [] h = refl
shortfalls_lack b off comma (n ∷ []) h = number_lacks b n off h.0
shortfalls_lack b off comma (n ∷ m ∷ ms) h =
    lacks-append b (decimal n) (codes "," ++ shortfalls_text (m ∷ ms)) (number_lacks b n off h.0)
    (lacks-append b (codes ",") (shortfalls_text (m ∷ ms)) comma (shortfalls_lack b off comma (m ∷ ms) h.1))

-- ---- numbers that were read behind others
record AreCounts (texts : List (List ℕ)) (ns ms : List ℕ) : Type 0 where
  counts : List ℕ
  written : texts ≡ map decimal counts
  within : AreBelow (2 ^ 32) counts
  sum_up : ms ≡ ns ++ counts
  most : length ms ≤ 16

counts_read : (texts : List (List ℕ)) (ns ms : List ℕ) → length ns ≤ 16 → with_counts ns texts ≡ Some ms → AreCounts texts ns ms
counts_read [] ns ms fits e =
    let same : Some ns ≡ Some ms = e in
    let is : ns ≡ ms = cc in
    record { counts = []; written = refl; within = tt; sum_up = sym is ∙ sym (append-nil ns); most = subst (λ xs. length xs ≤ 16) is fits }
counts_read (text ∷ texts) ns ms fits e =
    let next = then (λ xs. with_counts xs texts) (with_count ns text) ms e in
    let n = then (λ n. some_if (ltb (length ns) 16) (ns ++ n ∷ [])) (number_in text) next.0 next.1 in
    let is = chosen (ltb (length ns) 16) (ns ++ n.0 ∷ []) next.0 n.2 in
    let got = number_reads.found text n.0 n.1 in
    let test : ltb (length ns) 16 ≡ true = is.0 in
    let room : length ns < 16 = grind (arith, nat_tests) in
    let more : length next.0 ≤ 16 = subst (λ xs. length xs ≤ 16) is.1 (omega (arith, length-append ns (n.0 ∷ []), room)) in
    let rest = counts_read texts next.0 ms more next.2 in
    record {
      counts = n.0 ∷ rest.counts;
      written = ap (λ t. t ∷ texts) got.1 ∙ ap (λ ts. decimal n.0 ∷ ts) rest.written;
      within = (got.0, rest.within);
      sum_up = rest.sum_up ∙ ap (λ xs. xs ++ rest.counts) (sym is.1) ∙ append_assoc ns (n.0 ∷ []) rest.counts;
      most = rest.most;
    }

-- ---- numbers that were written
counts_again : (ms ns : List ℕ) → length (ns ++ ms) ≤ 16 → AreBelow (2 ^ 32) ms → with_counts ns (map decimal ms) ≡ Some (ns ++ ms)
counts_again [] ns fits h = ap Some (sym (append-nil ns))
counts_again (m ∷ ms) ns fits h =
    let room : length ns < 16 = omega (arith, length-append ns (m ∷ ms), fits) in
    let test : ltb (length ns) 16 ≡ true = grind (arith, nat_tests) in
    let joined : (ns ++ m ∷ []) ++ ms ≡ ns ++ m ∷ ms = append_assoc ns (m ∷ []) ms in
    ap (λ o. option_and_then (λ xs. with_counts xs (map decimal ms)) (option_and_then (λ n. some_if (ltb (length ns) 16) (ns ++ n ∷ [])) o)) (number_reads.only m h.0)
    ∙ ap (λ b. option_and_then (λ xs. with_counts xs (map decimal ms)) (some_if b (ns ++ m ∷ []))) test
    ∙ counts_again ms (ns ++ m ∷ []) (subst (λ xs. length xs ≤ 16) (sym joined) fits) h.1
    ∙ ap Some joined

split_again : (n : ℕ) (ns : List ℕ) → AreBelow (2 ^ 32) (n ∷ ns) → slice_split is_comma (shortfalls_text (n ∷ ns)) ≡ map decimal (n ∷ ns)
split_again n [] h = parts_none (decimal n) (cut_none 44 (decimal n) (number_lacks 44 n refl h.0))
split_again n (m ∷ ms) h =
    parts_some (decimal n ++ 44 ∷ shortfalls_text (m ∷ ms)) (decimal n, shortfalls_text (m ∷ ms)) (cut_at 44 (decimal n) (shortfalls_text (m ∷ ms)) (number_lacks 44 n refl h.0))
    ∙ ap (λ ts. decimal n ∷ ts) (split_again m ms h.1)

-- ---- shortfalls
pub shortfalls_reads : IsReader AreShortfalls shortfalls_text shortfalls_of
shortfalls_reads = record { found = found; only = only }
  where
    found : (text ns : List ℕ) → shortfalls_of text ≡ Some ns → AreShortfalls ns × (text ≡ shortfalls_text ns)
    found text ns e =
        let ms = then (λ ms. some_if (ltb 0 (sum ms)) ms) (counts_of text) ns e in
        let is = chosen (ltb 0 (sum ms.0)) ms.0 ns ms.2 in
        let got = counts_read (slice_split is_comma text) [] ms.0 (omega arith) ms.1 in
        let test : ltb 0 (sum ms.0) ≡ true = is.0 in
        let some : 1 ≤ sum ms.0 = grind (arith, nat_tests) in
        let S : List ℕ → Type 0 = λ ns. AreShortfalls ns × (text ≡ shortfalls_text ns) in
        subst S is.1 (
          record { most = got.most; within = subst (AreBelow (2 ^ 32)) (sym got.sum_up) got.within; some = some },
          sym (join_with_byte-slice_split 44 text) ∙ ap (join_with_byte 44) (got.written ∙ ap (map decimal) (sym got.sum_up)),
        )

    only : (ns : List ℕ) → AreShortfalls ns → shortfalls_of (shortfalls_text ns) ≡ Some ns
    only [] h = absurd (let some : 1 ≤ 0 = h.some in omega (arith, some))
    only (n ∷ ns) h =
        let some : 1 ≤ sum (n ∷ ns) = h.some in
        let test : ltb 0 (sum (n ∷ ns)) ≡ true = grind (arith, nat_tests) in
        ap (λ ts. option_and_then (λ ms. some_if (ltb 0 (sum ms)) ms) (with_counts [] ts)) (split_again n ns h.within)
        ∙ ap (option_and_then (λ ms. some_if (ltb 0 (sum ms)) ms)) (counts_again (n ∷ ns) [] h.most h.within)
        ∙ ap (λ b. some_if b (n ∷ ns)) test

-- ---- a number in front
pub counts_stop : (ns text first rest : List ℕ) → Some (first, rest) ≡ cut 44 text → None ≡ with_count ns first →
    None ≡ with_counts ns (slice_split is_comma text)
counts_stop ns text first rest e none =
    ap (option_and_then (λ ms. with_counts ms (slice_split is_comma rest))) none
    ∙ ap (with_counts ns) (sym (parts_some text (first, rest) (sym e)))

pub counts_go : (ns ms text first rest : List ℕ) → Some (first, rest) ≡ cut 44 text → Some ms ≡ with_count ns first →
    with_counts ms (slice_split is_comma rest) ≡ with_counts ns (slice_split is_comma text)
counts_go ns ms text first rest e some =
    ap (option_and_then (λ ms. with_counts ms (slice_split is_comma rest))) some
    ∙ ap (with_counts ns) (sym (parts_some text (first, rest) (sym e)))
