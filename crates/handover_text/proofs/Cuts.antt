-- The beginning of a handover's text is a cut.
use Rattle.std.proofs.Common.{◌≡◌, ℕ, ◌+◌, Bool, true, false, cond, Result, Ok, Err, List, [], ◌∷◌, ◌++◌, length, refl, sym, ap, subst, ◌∙◌, arith}
use Rattle.std.specs.Prelude.{⊤}
use Rattle.std.specs.List.{slice_split, onto_first, count_by}
use Rattle.std.proofs.lemmas.Result.{IfOk-at_ok}
use Rattle.std.proofs.lemmas.List.Splits.{length-slice_split}
use Rattle.vocabulary.specs.declared.handover.HandoverRefusal.{HandoverRefusal}
use Rattle.vocabulary.specs.declared.handover.HandoverRefusal.TheVariants as refusal
use Rattle.definitions.specs.Calls.{Handover}
use Rattle.handover_text.specs.Spelling.{HandoverVersion, spelled}
use Rattle.handover_text.specs.Reading.{Reached, AtVersion, AtOldPid, AtGeneration, AtFirstListener, AtListeners}
use Rattle.handover_text.specs.Reading.{AtWants, AtGroup, AtPidFile, AtEnd, Over, Read, nothing_read, read_line}
use Rattle.handover_text.specs.Reading.{then_read, read_rest, read_pieces, reading}
use Rattle.handover_text.specs.Ranges.{IsHandover, IsTold}
use Rattle.handover_text.proofs.SoFar.{is_newline, reading_in_range}
use Rattle.handover_text.proofs.Spelled.{spelling-reading}
use Rattle.handover_text.proofs.Taken.{reading-spelling, spellings_apart}

---- The pieces of a text and of what it begins

-- the last piece goes on
abbrev run_on : List (List ℕ) → List (List ℕ) → List (List ℕ)
run_on [] zs = zs
run_on (x ∷ []) [] = x ∷ []
run_on (x ∷ []) (z ∷ zs) = (x ++ z) ∷ zs
run_on (x ∷ y ∷ more) zs = x ∷ run_on (y ∷ more) zs

split_cases : (P : List (List ℕ) → Type 0) (text : List ℕ) →
    ((piece : List ℕ) (pieces : List (List ℕ)) → slice_split is_newline text ≡ piece ∷ pieces → P (piece ∷ pieces)) →
    P (slice_split is_newline text)
split_cases P text some = at (slice_split is_newline text) refl (length-slice_split is_newline text)
  where
    at : (pieces : List (List ℕ)) → slice_split is_newline text ≡ pieces → length pieces ≡ count_by is_newline text + 1 → P pieces
    at [] e n = absurd (omega (arith, n))
    at (piece ∷ pieces) e n = some piece pieces e

onto_run_on : (c : ℕ) (x : List ℕ) (xs zs : List (List ℕ)) → onto_first c (run_on (x ∷ xs) zs) ≡ run_on (onto_first c (x ∷ xs)) zs
onto_run_on c x [] [] = refl
onto_run_on c x [] (z ∷ zs) = refl
onto_run_on c x (y ∷ ys) zs = refl

pieces_run_on : (a b : List ℕ) → slice_split is_newline (a ++ b) ≡ run_on (slice_split is_newline a) (slice_split is_newline b)
pieces_run_on [] b = split_cases (λ zs. zs ≡ run_on ([] ∷ []) zs) b (λ piece pieces e. refl)
pieces_run_on (c ∷ cs) b =
    let rest = pieces_run_on cs b in
    split_cases (λ xs. slice_split is_newline (cs ++ b) ≡ run_on xs (slice_split is_newline b) → cond (is_newline c) ([] ∷ slice_split is_newline (cs ++ b)) (onto_first c (slice_split is_newline (cs ++ b))) ≡ run_on (cond (is_newline c) ([] ∷ xs) (onto_first c xs)) (slice_split is_newline b)) cs
    (λ x xs e same. at (is_newline c) x xs same)
    rest
  where
    at : (newline : Bool) (x : List ℕ) (xs : List (List ℕ)) →
        slice_split is_newline (cs ++ b) ≡ run_on (x ∷ xs) (slice_split is_newline b) →
        cond newline ([] ∷ slice_split is_newline (cs ++ b)) (onto_first c (slice_split is_newline (cs ++ b)))
        ≡ run_on (cond newline ([] ∷ x ∷ xs) (onto_first c (x ∷ xs))) (slice_split is_newline b)
    at true x xs same = ap (λ ys. [] ∷ ys) same
    at false x xs same = ap (onto_first c) same ∙ onto_run_on c x xs (slice_split is_newline b)

---- Refusals that stay

-- where a text is refused for another cause than a cut, so is one that it begins
abbrev pub IsKept : Result Handover HandoverRefusal → Result Handover HandoverRefusal → Type 0
IsKept (Ok told) r = ⊤
IsKept (Err refusal.Version) r = r ≡ Err refusal.Version
IsKept (Err (refusal.Line n)) r = r ≡ Err (refusal.Line n)
IsKept (Err (refusal.OutOfOrder n)) r = r ≡ Err (refusal.OutOfOrder n)
IsKept (Err refusal.Cut) r = ⊤
IsKept (Err refusal.Trailing) r = r ≡ Err refusal.Trailing

kept_itself : (e : HandoverRefusal) → IsKept (Err e) (Err e)
kept_itself refusal.Version = refl
kept_itself (refusal.Line n) = refl
kept_itself (refusal.OutOfOrder n) = refl
kept_itself refusal.Cut = tt
kept_itself refusal.Trailing = refl

rest_kept : (n : ℕ) (place : Reached) (h : Handover) (rest : List ℕ) (zs : List (List ℕ)) →
    IsKept (read_rest place h rest) (read_pieces n place h (run_on (rest ∷ []) zs))
rest_kept n AtVersion h rest zs = tt
rest_kept n (AtOldPid version) h rest zs = tt
rest_kept n (AtGeneration version) h rest zs = tt
rest_kept n (AtFirstListener version) h rest zs = tt
rest_kept n (AtListeners version) h rest zs = tt
rest_kept n AtWants h rest zs = tt
rest_kept n (AtGroup g) h rest zs = tt
rest_kept n AtPidFile h rest zs = tt
rest_kept n (AtEnd version) h rest zs = tt
rest_kept n (Over version) h [] zs = tt
rest_kept n (Over version) h (c ∷ cs) [] = refl
rest_kept n (Over version) h (c ∷ cs) (z ∷ []) = refl
rest_kept n (Over version) h (c ∷ cs) (z ∷ y ∷ zs) = refl

line_joined : (n : ℕ) (place : Reached) (h : Handover) (line next : List ℕ) (more zs : List (List ℕ)) →
    read_pieces n place h (line ∷ run_on (next ∷ more) zs)
    ≡ then_read (read_line n place h line) (λ place' h'. read_pieces (n + 1) place' h' (run_on (next ∷ more) zs))
line_joined n place h line next [] [] = refl
line_joined n place h line next [] (z ∷ zs) = refl
line_joined n place h line next (y ∷ more) zs = refl

pieces_kept : (n : ℕ) (place : Reached) (h : Handover) (rest : List ℕ) (pieces zs : List (List ℕ)) →
    IsKept (read_pieces n place h (rest ∷ pieces)) (read_pieces n place h (run_on (rest ∷ pieces) zs))
pieces_kept n place h rest [] zs = rest_kept n place h rest zs
pieces_kept n place h line (next ∷ more) zs =
    subst (IsKept (read_pieces n place h (line ∷ next ∷ more))) (sym (line_joined n place h line next more zs))
    (at (read_line n place h line) (λ place' h'. pieces_kept (n + 1) place' h' next more zs))
  where
    at : (r : Read) → ((place' : Reached) (h' : Handover) →
        IsKept (read_pieces (n + 1) place' h' (next ∷ more))
        (read_pieces (n + 1) place' h' (run_on (next ∷ more) zs))) →
        IsKept (then_read r (λ place' h'. read_pieces (n + 1) place' h' (next ∷ more)))
        (then_read r (λ place' h'. read_pieces (n + 1) place' h' (run_on (next ∷ more) zs)))
    at (Err e) later = kept_itself e
    at (Ok state) later = later state.0 state.1

pub reading_kept : (a b : List ℕ) → IsKept (reading a) (reading (a ++ b))
reading_kept a b =
    subst (λ pieces. IsKept (reading a) (read_pieces 1 AtVersion nothing_read pieces)) (sym (pieces_run_on a b))
    (split_cases (λ xs. IsKept (read_pieces 1 AtVersion nothing_read xs) (read_pieces 1 AtVersion nothing_read (run_on xs (slice_split is_newline b)))) a
    (λ x xs e. pieces_kept 1 AtVersion nothing_read x xs (slice_split is_newline b)))

-- A text that ends before its end is a cut.
pub cut_short : (version : HandoverVersion) (told : Handover) (start : List ℕ) (byte : ℕ) (more : List ℕ) →
    IsHandover told → IsTold version told → start ++ byte ∷ more ≡ spelled version told →
    reading start ≡ Err refusal.Cut
cut_short version told start byte more h tells e =
    at (reading start) refl (subst (IsKept (reading start)) (ap reading e ∙ reading-spelling version told h tells) (reading_kept start (byte ∷ more)))
  where
    at : (r : Result Handover HandoverRefusal) → reading start ≡ r → IsKept r (Ok told) → r ≡ Err refusal.Cut
    at (Ok other) is kept =
        let in_range = IfOk-at_ok IsHandover is (reading_in_range start) in
        let stands = spelling-reading start other is in
        let none = (spellings_apart stands.version other version told (byte ∷ more) in_range stands.tells h tells (ap (λ t. t ++ byte ∷ more) stands.spelled ∙ e)).0 in
        absurd (omega (arith, ap length none))
    at (Err refusal.Version) is kept = cc
    at (Err (refusal.Line n)) is kept = cc
    at (Err (refusal.OutOfOrder n)) is kept = cc
    at (Err refusal.Cut) is kept = refl
    at (Err refusal.Trailing) is kept = cc
