-- Sets of numbers are read as they are written.
use Rattle.std.proofs.Common.{◌≡◌, ℕ, ◌+◌, ◌-◌, ◌≤◌, ◌<◌, ◌==◌, eqb, leb, ltb, Bool, true, false, cond, List, [], ◌∷◌}
use Rattle.std.proofs.Common.{◌++◌, length, Option, Some, None, refl, sym, ap, subst, ◌∙◌, arith, append_assoc}
use Rattle.std.proofs.Common.{append-nil}
use Rattle.std.specs.Prelude.{codes, bytes_eq, option_map, option_and_then}
use Rattle.std.specs.Fmt.{decimal}
use Rattle.std.specs.List.{slice_split, onto_first, join_with_byte}
use Rattle.std.proofs.lemmas.Bool.Decides.{nat_tests}
use Rattle.std.proofs.lemmas.List.Splits.{join_with_byte-slice_split, length-slice_split}
use Rattle.listener_set.specs.Numbers.{AreBelow, AreNumbers}
use Rattle.listener_set.specs.NumberWordsLemmas.{AreBelow-append}
use Rattle.call_text.specs.SetText.{run_text, runs_text, set_text}
use Rattle.call_text.specs.Reads.{Reads}
use Rattle.plain_text.specs.Cuts.{cut}
use Rattle.call_text.specs.Reading.{some_if, worker_number}
use Rattle.call_text.specs.declared.sets.SetReader.{SetReader}
use Rattle.call_text.specs.SetReading.{is_comma, several_of, run_from, run_in, begun, numbers_in, with_numbers, with_part, with_parts, set_of}
use Rattle.plain_text.proofs.CutTexts.{with_first, cut-cons, cut_found, cut_at, cut_none, lacks, lacks-append}
use Rattle.call_text.proofs.Readers.{IsReader, reads, mapped, then, chosen, same_bytes, worker_number_reads}
use Rattle.call_text.proofs.PartTexts.{number_lacks}
use Rattle.call_text.proofs.Runs.{up_from, AreRuns, members, run_texts, joined_runs, AreBelow-lower, with_run-above}
use Rattle.call_text.proofs.Runs.{AreBelow-up_from, AreNumbers-members, set_text-members, runs_of, runs_text-runs_of}
use Rattle.call_text.proofs.Runs.{AreRuns-runs_of, members-runs_of}

-- ---- parts at commas
abbrev pub AreParts : List ℕ → Option (List ℕ × List ℕ) → Type 0
AreParts text None = slice_split is_comma text ≡ text ∷ []
AreParts text (Some p) = slice_split is_comma text ≡ p.0 ∷ slice_split is_comma p.1

pub AreParts-cut : (text : List ℕ) → AreParts text (cut 44 text)
AreParts-cut [] = refl
AreParts-cut (c ∷ cs) = at (c == 44) refl (cut 44 cs) refl (AreParts-cut cs)
  where
    at : (b : Bool) → (c == 44) ≡ b → (o : Option (List ℕ × List ℕ)) → cut 44 cs ≡ o → AreParts cs (cut 44 cs) → AreParts (c ∷ cs) (cut 44 (c ∷ cs))
    at true e o k ih =
        subst (AreParts (c ∷ cs)) (sym (cut-cons 44 c cs ∙ ap (λ t. cond t (Some ([], cs)) (with_first c (cut 44 cs))) e)) (ap (λ t. cond t ([] ∷ slice_split is_comma cs) (onto_first c (slice_split is_comma cs))) e)
    at false e None k ih =
        let rest : slice_split is_comma cs ≡ cs ∷ [] = subst (AreParts cs) k ih in
        subst (AreParts (c ∷ cs)) (sym (cut-cons 44 c cs ∙ ap (λ t. cond t (Some ([], cs)) (with_first c (cut 44 cs))) e ∙ ap (with_first c) k))
        (ap (λ t. cond t ([] ∷ slice_split is_comma cs) (onto_first c (slice_split is_comma cs))) e ∙ ap (onto_first c) rest)
    at false e (Some p) k ih =
        let rest : slice_split is_comma cs ≡ p.0 ∷ slice_split is_comma p.1 = subst (AreParts cs) k ih in
        subst (AreParts (c ∷ cs)) (sym (cut-cons 44 c cs ∙ ap (λ t. cond t (Some ([], cs)) (with_first c (cut 44 cs))) e ∙ ap (with_first c) k))
        (ap (λ t. cond t ([] ∷ slice_split is_comma cs) (onto_first c (slice_split is_comma cs))) e ∙ ap (onto_first c) rest)

pub parts_none : (text : List ℕ) → cut 44 text ≡ None → slice_split is_comma text ≡ text ∷ []
parts_none text e = subst (AreParts text) e (AreParts-cut text)

pub parts_some : (text : List ℕ) (p : List ℕ × List ℕ) → cut 44 text ≡ Some p → slice_split is_comma text ≡ p.0 ∷ slice_split is_comma p.1
parts_some text p e = subst (AreParts text) e (AreParts-cut text)

-- ---- a run
abbrev IsRun : ℕ × ℕ → Type 0
IsRun r = (r.0 ≤ r.1) × (r.1 < 1024)

abbrev text_of_run : ℕ × ℕ → List ℕ
text_of_run r = run_text r.0 r.1

one_number : (n : ℕ) → run_text n n ≡ decimal n
one_number n = let same : eqb n n ≡ true = grind (arith, nat_tests) in ap (λ b. cond b (decimal n) (decimal n ++ 45 ∷ decimal n)) same

several : (f l : ℕ) → f < l → run_text f l ≡ decimal f ++ 45 ∷ decimal l
several f l lt = let other : eqb f l ≡ false = grind (arith, nat_tests) in ap (λ b. cond b (decimal f) (decimal f ++ 45 ∷ decimal l)) other

several_found : (first last : List ℕ) (r : ℕ × ℕ) → several_of first last ≡ Some r → IsRun r × (first ++ 45 ∷ last ≡ text_of_run r)
several_found first last r e =
    let f = then (λ f. option_and_then (λ l. some_if (ltb f l) (f, l)) (worker_number last)) (worker_number first) r e in
    let l = then (λ l. some_if (ltb f.0 l) (f.0, l)) (worker_number last) r f.2 in
    let is = chosen (ltb f.0 l.0) (f.0, l.0) r l.2 in
    let test : ltb f.0 l.0 ≡ true = is.0 in
    let lt : f.0 < l.0 = grind (arith, nat_tests) in
    let one = worker_number_reads.found first f.0 f.1 in
    let two = worker_number_reads.found last l.0 l.1 in
    let W : ℕ × ℕ → Type 0 = λ r. IsRun r × (first ++ 45 ∷ last ≡ text_of_run r) in
    subst W is.1 ((omega (arith, lt), two.0), ap (λ t. t ++ 45 ∷ last) one.1 ∙ ap (λ t. decimal f.0 ++ 45 ∷ t) two.1 ∙ sym (several f.0 l.0 lt))

run_found : (text : List ℕ) (r : ℕ × ℕ) → run_in text ≡ Some r → IsRun r × (text ≡ text_of_run r)
run_found text r e = at (cut 45 text) refl e
  where
    at : (o : Option (List ℕ × List ℕ)) → cut 45 text ≡ o → run_from text o ≡ Some r → IsRun r × (text ≡ text_of_run r)
    at None k e =
        let n = mapped (λ n. (n, n)) (worker_number text) r e in
        let got = worker_number_reads.found text n.0 n.1 in
        let W : ℕ × ℕ → Type 0 = λ r. IsRun r × (text ≡ text_of_run r) in
        subst W n.2 ((omega arith, got.0), got.1 ∙ sym (one_number n.0))
    at (Some p) k e =
        let got = several_found p.0 p.1 r e in
        (got.0, cut_found 45 text p k ∙ got.1)

dashless : (n : ℕ) → n < 1024 → lacks 45 (decimal n) ≡ true
dashless n lt = number_lacks 45 n refl (omega (arith, lt))

run_only : (r : ℕ × ℕ) → IsRun r → run_in (text_of_run r) ≡ Some r
run_only r h = at (eqb r.0 r.1) refl
  where
    at : (b : Bool) → eqb r.0 r.1 ≡ b → run_in (text_of_run r) ≡ Some r
    at true e =
        let in_order : r.0 ≤ r.1 = h.0 in
        let small : r.1 < 1024 = h.1 in
        let same : r.0 ≡ r.1 = grind (arith, nat_tests) in
        let lt : r.0 < 1024 = omega (arith, same, small) in
        ap run_in (ap (λ b. cond b (decimal r.0) (decimal r.0 ++ 45 ∷ decimal r.1)) e)
        ∙ ap (run_from (decimal r.0)) (cut_none 45 (decimal r.0) (dashless r.0 lt))
        ∙ ap (option_map (λ n. (n, n))) (worker_number_reads.only r.0 lt)
        ∙ ap (λ n. Some (r.0, n)) same
    at false e =
        let in_order : r.0 ≤ r.1 = h.0 in
        let small : r.1 < 1024 = h.1 in
        let lt : r.0 < r.1 = grind (arith, nat_tests) in
        let test : ltb r.0 r.1 ≡ true = grind (arith, nat_tests) in
        let low : r.0 < 1024 = omega (arith, lt, small) in
        ap run_in (ap (λ b. cond b (decimal r.0) (decimal r.0 ++ 45 ∷ decimal r.1)) e)
        ∙ ap (run_from (decimal r.0 ++ 45 ∷ decimal r.1)) (cut_at 45 (decimal r.0) (decimal r.1) (dashless r.0 low))
        ∙ ap (option_and_then (λ f. option_and_then (λ l. some_if (ltb f l) (f, l)) (worker_number (decimal r.1)))) (worker_number_reads.only r.0 low)
        ∙ ap (option_and_then (λ l. some_if (ltb r.0 l) (r.0, l))) (worker_number_reads.only r.1 small)
        ∙ ap (λ b. some_if b (r.0, r.1)) test

run_lacks : (r : ℕ × ℕ) → IsRun r → lacks 44 (text_of_run r) ≡ true
run_lacks r h = at (eqb r.0 r.1)
  where
    commaless : (n : ℕ) → n < 1024 → lacks 44 (decimal n) ≡ true
    commaless n lt = number_lacks 44 n refl (omega (arith, lt))

    at : (b : Bool) → lacks 44 (cond b (decimal r.0) (decimal r.0 ++ 45 ∷ decimal r.1)) ≡ true
    at true = commaless r.0 (let in_order : r.0 ≤ r.1 = h.0 in let small : r.1 < 1024 = h.1 in omega (arith, in_order, small))
    at false =
        lacks-append 44 (decimal r.0) (codes "-" ++ decimal r.1) (commaless r.0 (let in_order : r.0 ≤ r.1 = h.0 in let small : r.1 < 1024 = h.1 in omega (arith, in_order, small)))
        (lacks-append 44 (codes "-") (decimal r.1) refl (commaless r.1 h.1))

-- ---- the runs that were read
record AreRead (parts : List (List ℕ)) (s t : SetReader) : Type 0 where
  runs : List (ℕ × ℕ)
  written : parts ≡ run_texts runs
  in_order : AreRuns s.least runs
  sum_up : t.numbers ≡ s.numbers ++ members runs

runs_read : (parts : List (List ℕ)) (s t : SetReader) → AreBelow s.least s.numbers → with_parts s parts ≡ Some t → AreRead parts s t
runs_read [] s t below e =
    let same : Some s ≡ Some t = e in
    let is : s ≡ t = cc in
    record { runs = []; written = refl; in_order = tt; sum_up = ap (λ (x : SetReader). x.numbers) (sym is) ∙ sym (append-nil s.numbers) }
runs_read (part ∷ parts) s t below e =
    let next = then (λ u. with_parts u parts) (with_part s part) t e in
    let run = then (λ r. some_if (leb s.least r.0) (with_numbers s r)) (run_in part) next.0 next.1 in
    let fits = chosen (leb s.least run.0.0) (with_numbers s run.0) next.0 run.2 in
    let got = run_found part run.0 run.1 in
    let test : leb s.least run.0.0 ≡ true = fits.0 in
    let low : s.least ≤ run.0.0 = grind (arith, nat_tests) in
    let in_order : run.0.0 ≤ run.0.1 = got.0.0 in
    let lower : AreBelow run.0.0 s.numbers = AreBelow-lower s.least run.0.0 s.numbers low below in
    let added : next.0.numbers ≡ s.numbers ++ up_from run.0.0 (run.0.1 + 1 - run.0.0) =
    ap (λ (x : SetReader). x.numbers) (sym fits.1) ∙ with_run-above (run.0.1 + 1 - run.0.0) run.0.0 s.numbers lower in
    let least : next.0.least ≡ run.0.1 + 2 = ap (λ (x : SetReader). x.least) (sym fits.1) in
    let bound : AreBelow next.0.least next.0.numbers =
    subst (λ l. AreBelow l next.0.numbers) (sym least) (subst (AreBelow (run.0.1 + 2)) (sym added)
    (AreBelow-append (run.0.1 + 2) s.numbers (up_from run.0.0 (run.0.1 + 1 - run.0.0)) (AreBelow-lower run.0.0 (run.0.1 + 2) s.numbers (omega (arith, in_order)) lower)
    (AreBelow-up_from (run.0.1 + 1 - run.0.0) run.0.0 (run.0.1 + 2) (omega (arith, in_order))))) in
    let rest = runs_read parts next.0 t bound next.2 in
    record {
      runs = run.0 ∷ rest.runs;
      written = ap (λ p. p ∷ parts) got.1 ∙ ap (λ ps. text_of_run run.0 ∷ ps) rest.written;
      in_order = (low, in_order, got.0.1, subst (λ l. AreRuns l rest.runs) least rest.in_order);
      sum_up =
          rest.sum_up ∙ ap (λ xs. xs ++ members rest.runs) added
          ∙ append_assoc s.numbers (up_from run.0.0 (run.0.1 + 1 - run.0.0)) (members rest.runs);
    }

-- ---- runs that were written
runs_again : (rs : List (ℕ × ℕ)) (s : SetReader) → AreBelow s.least s.numbers → AreRuns s.least rs →
    option_map numbers_in (with_parts s (run_texts rs)) ≡ Some (s.numbers ++ members rs)
runs_again [] s below h = ap Some (sym (append-nil s.numbers))
runs_again (r ∷ rs) s below h =
    let low : s.least ≤ r.0 = h.0 in
    let in_order : r.0 ≤ r.1 = h.1 in
    let test : leb s.least r.0 ≡ true = grind (arith, nat_tests) in
    let lower : AreBelow r.0 s.numbers = AreBelow-lower s.least r.0 s.numbers low below in
    let u : SetReader = with_numbers s r in
    let added : u.numbers ≡ s.numbers ++ up_from r.0 (r.1 + 1 - r.0) = with_run-above (r.1 + 1 - r.0) r.0 s.numbers lower in
    let bound : AreBelow (r.1 + 2) u.numbers =
    subst (AreBelow (r.1 + 2)) (sym added)
    (AreBelow-append (r.1 + 2) s.numbers (up_from r.0 (r.1 + 1 - r.0)) (AreBelow-lower r.0 (r.1 + 2) s.numbers (omega (arith, in_order)) lower)
    (AreBelow-up_from (r.1 + 1 - r.0) r.0 (r.1 + 2) (omega (arith, in_order)))) in
    ap (λ o. option_map numbers_in (option_and_then (λ t. with_parts t (run_texts rs)) (option_and_then (λ r. some_if (leb s.least r.0) (with_numbers s r)) o))) (run_only r (h.1, h.2))
    ∙ ap (λ b. option_map numbers_in (option_and_then (λ t. with_parts t (run_texts rs)) (some_if b (with_numbers s r)))) test
    ∙ runs_again rs u bound h.3
    ∙ ap Some (ap (λ xs. xs ++ members rs) added ∙ append_assoc s.numbers (up_from r.0 (r.1 + 1 - r.0)) (members rs))

split_again : (r : ℕ × ℕ) (rs : List (ℕ × ℕ)) (least : ℕ) → AreRuns least (r ∷ rs) → slice_split is_comma (joined_runs (r ∷ rs)) ≡ run_texts (r ∷ rs)
split_again r [] least h = parts_none (text_of_run r) (cut_none 44 (text_of_run r) (run_lacks r (h.1, h.2)))
split_again r (q ∷ rs) least h =
    parts_some (text_of_run r ++ 44 ∷ joined_runs (q ∷ rs)) (text_of_run r, joined_runs (q ∷ rs)) (cut_at 44 (text_of_run r) (joined_runs (q ∷ rs)) (run_lacks r (h.1, h.2)))
    ∙ ap (λ ps. text_of_run r ∷ ps) (split_again q rs (r.1 + 2) h.3)

split_runs : (rs : List (ℕ × ℕ)) → (rs ≡ [] → ⊥) → AreRuns 0 rs → slice_split is_comma (joined_runs rs) ≡ run_texts rs
split_runs [] some h = absurd (some refl)
split_runs (r ∷ rs) some h = split_again r rs 0 h

some_runs : (ns : List ℕ) (f l : ℕ) → runs_of f l ns ≡ [] → ⊥
some_runs [] f l e = let nothing : List (ℕ × ℕ) = [] in let no : (f, l) ∷ [] ≡ nothing = e in cc
some_runs (n ∷ ns) f l e = at (n == l + 1) (some_runs ns f n) e
  where
    at : (b : Bool) → (runs_of f n ns ≡ [] → ⊥) → cond b (runs_of f n ns) ((f, l) ∷ runs_of n n ns) ≡ [] → ⊥
    at true ih e = ih e
    at false ih e = let nothing : List (ℕ × ℕ) = [] in let no : (f, l) ∷ runs_of n n ns ≡ nothing = e in cc

-- ---- sets
no_parts : (text : List ℕ) → slice_split is_comma text ≡ [] → ⊥
no_parts text e =
    let counted : length (slice_split is_comma text) ≡ 0 = ap length e in
    let some = length-slice_split is_comma text in
    omega (arith, counted, some)

set_found : (text ns : List ℕ) → set_of text ≡ Some ns → AreNumbers 1024 ns × (text ≡ set_text ns)
set_found text ns e = at (bytes_eq text (codes "none")) refl e
  where
    from_runs : (rs : List (ℕ × ℕ)) → slice_split is_comma text ≡ run_texts rs → AreRuns 0 rs → AreNumbers 1024 (members rs) × (text ≡ set_text (members rs))
    from_runs [] parts h = absurd (no_parts text parts)
    from_runs (r ∷ rs) parts h =
        (AreNumbers-members (r ∷ rs) h, sym (join_with_byte-slice_split 44 text) ∙ ap (join_with_byte 44) parts ∙ sym (set_text-members r rs 0 h))

    at : (b : Bool) → bytes_eq text (codes "none") ≡ b →
        cond b (Some []) (option_map numbers_in (with_parts begun (slice_split is_comma text))) ≡ Some ns →
        AreNumbers 1024 ns × (text ≡ set_text ns)
    at true k e =
        let nothing : List ℕ = [] in
        let same : Some nothing ≡ Some ns = e in
        let is : nothing ≡ ns = cc in
        let V : List ℕ → Type 0 = λ ns. AreNumbers 1024 ns × (text ≡ set_text ns) in
        subst V is (record { rising = tt; below = tt }, same_bytes text (codes "none") k)
    at false k e =
        let t = mapped numbers_in (with_parts begun (slice_split is_comma text)) ns e in
        let got = runs_read (slice_split is_comma text) begun t.0 tt t.1 in
        let V : List ℕ → Type 0 = λ ns. AreNumbers 1024 ns × (text ≡ set_text ns) in
        subst V (sym got.sum_up ∙ t.2) (from_runs got.runs got.written got.in_order)

set_only : (ns : List ℕ) → AreNumbers 1024 ns → set_of (set_text ns) ≡ Some ns
set_only [] h = refl
set_only (n ∷ ns) h = at (bytes_eq (runs_text n n ns) (codes "none")) refl
  where
    again : option_map numbers_in (with_parts begun (slice_split is_comma (runs_text n n ns))) ≡ Some (n ∷ ns)
    again =
        let small : n < 1024 = h.below.0 in
        let runs : AreRuns 0 (runs_of n n ns) = AreRuns-runs_of ns n n 0 (omega arith) (omega arith) small h.rising.1 h.below.1 in
        let count : n + 1 - n ≡ 1 = omega arith in
        let same : members (runs_of n n ns) ≡ n ∷ ns = members-runs_of ns n n (omega arith) h.rising.1 ∙ ap (λ k. up_from n k ++ ns) count in
        ap (λ t. option_map numbers_in (with_parts begun (slice_split is_comma t))) (runs_text-runs_of ns n n)
        ∙ ap (λ ps. option_map numbers_in (with_parts begun ps)) (split_runs (runs_of n n ns) (λ none. some_runs ns n n none) runs)
        ∙ runs_again (runs_of n n ns) begun tt runs
        ∙ ap Some same

    at : (b : Bool) → bytes_eq (runs_text n n ns) (codes "none") ≡ b → set_of (runs_text n n ns) ≡ Some (n ∷ ns)
    at true k =
        let word : runs_text n n ns ≡ codes "none" = same_bytes (runs_text n n ns) (codes "none") k in
        let nothing : Option (List ℕ) = None in
        let no : nothing ≡ Some (n ∷ ns) = sym (ap (λ t. option_map numbers_in (with_parts begun (slice_split is_comma t))) word) ∙ again in
        absurd cc
    at false k = ap (λ b. cond b (Some []) (option_map numbers_in (with_parts begun (slice_split is_comma (runs_text n n ns))))) k ∙ again

pub set_reads : IsReader (λ ns. AreNumbers 1024 ns) set_text set_of
set_reads = record { found = set_found; only = set_only }

pub Reads-set : (text : List ℕ) → Reads (λ ns. AreNumbers 1024 ns) set_text text (set_of text)
Reads-set text = reads (λ ns. AreNumbers 1024 ns) set_text set_of set_reads text

-- ---- a part in front
pub parts_stop : (s : SetReader) (text run rest : List ℕ) → Some (run, rest) ≡ cut 44 text → None ≡ with_part s run →
    None ≡ option_map numbers_in (with_parts s (slice_split is_comma text))
parts_stop s text run rest e none =
    ap (λ o. option_map numbers_in (option_and_then (λ t. with_parts t (slice_split is_comma rest)) o)) none
    ∙ ap (λ ps. option_map numbers_in (with_parts s ps)) (sym (parts_some text (run, rest) (sym e)))

pub parts_go : (s t : SetReader) (text run rest : List ℕ) → Some (run, rest) ≡ cut 44 text → Some t ≡ with_part s run →
    option_map numbers_in (with_parts t (slice_split is_comma rest))
    ≡ option_map numbers_in (with_parts s (slice_split is_comma text))
parts_go s t text run rest e some =
    ap (λ o. option_map numbers_in (option_and_then (λ t. with_parts t (slice_split is_comma rest)) o)) some
    ∙ ap (λ ps. option_map numbers_in (with_parts s ps)) (sym (parts_some text (run, rest) (sym e)))
