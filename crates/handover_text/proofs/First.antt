-- No handover begins with a faulty line.
use Rattle.std.proofs.Common.{◌≡◌, ℕ, zero, suc, ◌+◌, Bool, true, false, cond, Ok, Err, List, [], ◌∷◌, ◌++◌, take, refl, ap, subst, ◌∙◌, arith, append_assoc}
use Rattle.std.specs.List.{flat_map, slice_split, onto_first, AllByRecursion}
use Rattle.std.proofs.lemmas.Bool.{not-true}
use Rattle.std.proofs.lemmas.List.Splits.{slice_split_at}
use Rattle.std.proofs.lemmas.List.Sums.{AllPass-from_list_all}
use Rattle.vocabulary.specs.declared.handover.HandoverRefusal.{HandoverRefusal}
use Rattle.vocabulary.specs.declared.handover.HandoverRefusal.TheVariants as refusal
use Rattle.definitions.specs.Calls.{Handover}
use Rattle.handover_text.specs.Spelling.{line_of}
use Rattle.handover_text.specs.Reading.{Reached, AtVersion, Read, nothing_read, read_line, then_read, read_pieces, reading}
use Rattle.handover_text.specs.Faults.{BeginsNone, lines_to}
use Rattle.handover_text.proofs.SoFar.{is_newline}
use Rattle.handover_text.proofs.Begun.{IfFault, NamesLine, Named, names-it, line-names, rest-names}
use Rattle.handover_text.proofs.Cuts.{IsKept, reading_kept}
use Rattle.handover_text.proofs.Taken.{IsLine, is_inside, reading-spelling}

---- The pieces of a text are lines

onto-line : (c : ℕ) → is_newline c ≡ false → (pieces : List (List ℕ)) → AllByRecursion IsLine pieces → AllByRecursion IsLine (onto_first c pieces)
onto-line c e [] all = (rw e refl, tt)
onto-line c e (piece ∷ pieces) all = (rw e all.0, all.1)

pieces-lines : (text : List ℕ) → AllByRecursion IsLine (slice_split is_newline text)
pieces-lines [] = (refl, tt)
pieces-lines (c ∷ cs) = at (is_newline c) refl (pieces-lines cs)
  where
    at : (b : Bool) → is_newline c ≡ b → AllByRecursion IsLine (slice_split is_newline cs) →
        AllByRecursion IsLine (cond b ([] ∷ slice_split is_newline cs) (onto_first c (slice_split is_newline cs)))
    at true e all = (refl, all)
    at false e all = onto-line c e (slice_split is_newline cs) all

take-lines : (k : ℕ) (pieces : List (List ℕ)) → AllByRecursion IsLine pieces → AllByRecursion IsLine (take k pieces)
take-lines zero pieces all = tt
take-lines (suc k) [] all = tt
take-lines (suc k) (piece ∷ pieces) all = (all.0, take-lines k pieces all.1)

-- lines are split where they end
lines-split : (lines : List (List ℕ)) → AllByRecursion IsLine lines → slice_split is_newline (flat_map line_of lines) ≡ lines ++ [] ∷ []
lines-split [] all = refl
lines-split (line ∷ lines) all =
    ap (slice_split is_newline) (append_assoc line (10 ∷ []) (flat_map line_of lines))
    ∙ slice_split_at is_newline line 10 (flat_map line_of lines) (λ k d lt. not-true _ (AllPass-from_list_all is_inside line all.0 k d lt)) refl
    ∙ ap (λ pieces. line ∷ pieces) (lines-split lines all.1)

---- The lines up to a faulty one are refused as the text is

line-more : (n : ℕ) (place : Reached) (h : Handover) (line : List ℕ) (lines : List (List ℕ)) →
    read_pieces n place h (line ∷ (lines ++ [] ∷ []))
    ≡ then_read (read_line n place h line) (λ place' h'. read_pieces (n + 1) place' h' (lines ++ [] ∷ []))
line-more n place h line [] = refl
line-more n place h line (next ∷ lines) = refl

-- so many pieces, the last of which is the faulty line, are refused alike
record UpTo (n m : ℕ) (place : Reached) (h : Handover) (pieces : List (List ℕ)) (e : HandoverRefusal) : Type 0 where
  lines : ℕ
  counted : m + 1 ≡ n + lines
  refused : read_pieces n place h (take lines pieces ++ [] ∷ []) ≡ Err e

pieces-to : (n : ℕ) (place : Reached) (h : Handover) (pieces : List (List ℕ)) (e : HandoverRefusal) (m : ℕ) →
    read_pieces n place h pieces ≡ Err e → Named e m → UpTo n m place h pieces e
pieces-to n place h [] e m is named = absurd (rest-names place h [] e m is named)
pieces-to n place h (rest ∷ []) e m is named = absurd (rest-names place h rest e m is named)
pieces-to n place h (line ∷ next ∷ more) e m is named =
    at (read_line n place h line) refl (line-names n place h line) is (λ place' h'. pieces-to (n + 1) place' h' (next ∷ more) e m)
  where
    at : (r : Read) → read_line n place h line ≡ r → IfFault n r →
        then_read r (λ place' h'. read_pieces (n + 1) place' h' (next ∷ more)) ≡ Err e →
        ((place' : Reached) (h' : Handover) → read_pieces (n + 1) place' h' (next ∷ more) ≡ Err e → Named e m →
        UpTo (n + 1) m place' h' (next ∷ more) e) → UpTo n m place h (line ∷ next ∷ more) e
    at (Err why) read names is' later =
        let same : why ≡ e = cc in
        record {
          lines = 1;
          counted = ap (λ k. k + 1) (names-it n m e (subst (NamesLine n) same names) named);
          refused = ap (λ r. then_read r (λ place' h'. read_pieces (n + 1) place' h' ([] ∷ []))) read ∙ is';
        }
    at (Ok state) read names is' later =
        let up = later state.0 state.1 is' named in
        record {
          lines = suc up.lines;
          counted = up.counted ∙ omega arith;
          refused = line-more n place h line (take up.lines (next ∷ more)) ∙ ap (λ r. then_read r (λ place' h'. read_pieces (n + 1) place' h' (take up.lines (next ∷ more) ++ [] ∷ []))) read ∙ up.refused;
        }

lines-refused : (text : List ℕ) (e : HandoverRefusal) (m : ℕ) → reading text ≡ Err e → Named e m → reading (lines_to m text) ≡ Err e
lines-refused text e m is named =
    let up = pieces-to 1 AtVersion nothing_read (slice_split is_newline text) e m is named in
    let all = take-lines up.lines (slice_split is_newline text) (pieces-lines text) in
    let counted : up.lines ≡ m = omega (arith, up.counted) in
    subst (λ k. reading (flat_map line_of (take k (slice_split is_newline text))) ≡ Err e) counted
    (ap (read_pieces 1 AtVersion nothing_read) (lines-split (take up.lines (slice_split is_newline text)) all) ∙ up.refused)

-- no handover begins with the lines up to and including a faulty one
pub none-begins : (text : List ℕ) (e : HandoverRefusal) (m : ℕ) → reading text ≡ Err e → Named e m → BeginsNone (lines_to m text)
none-begins text e m is named b =
    let kept = subst (λ r. IsKept r (reading (lines_to m text ++ b.more))) (lines-refused text e m is named) (reading_kept (lines_to m text) b.more) in
    let whole : reading (lines_to m text ++ b.more) ≡ Ok b.told = ap reading b.goes_on ∙ reading-spelling b.version b.told b.is b.tells in
    at e named kept whole
  where
    at : (e : HandoverRefusal) → Named e m → IsKept (Err e) (reading (lines_to m text ++ b.more)) → reading (lines_to m text ++ b.more) ≡ Ok b.told → ⊥
    at refusal.Version named kept whole = named
    at (refusal.Line n) named kept whole = cc
    at (refusal.OutOfOrder n) named kept whole = cc
    at refusal.Cut named kept whole = named
    at refusal.Trailing named kept whole = named
