-- Files, one of which is written or goes.
use Rattle.std.proofs.Common.{◌≡◌, ℕ, zero, suc, ◌<◌, Bool, true, false, cond, not, is_some, List, [], ◌∷◌, ◌++◌, map}
use Rattle.std.proofs.Common.{filter, length, get_or, set, take, drop, Some, None, refl, ap, ◌∙◌, arith}
use Rattle.std.specs.Prelude.{bytes_eq, position}
use Rattle.std.specs.List.{position_or_len}
use Rattle.std.proofs.lemmas.List.{drop_all, take_all, append-nil}
use Rattle.std.proofs.lemmas.List.Quantifiers.{position-Some}
use Rattle.std.proofs.lemmas.List.Sums.{fails_before_first}
use Rattle.definitions.specs.Table.{FilePath, File, owner_at}
use Rattle.call_laws.specs.Pieces.{owner_if}
use Rattle.definitions.specs.Calls.{with_file, without_file}
use Rattle.kernel_table.specs.declared.file_row.FileRow.{FileRow}
use Rattle.kernel_table.specs.Seen.{seen_file}
use Rattle.kernel_table.specs.Files.{rewritten}
use Rattle.kernel_rows.proofs.First.{past}

-- where the file is there it is written in its place
pub written-there : (path : FilePath) (owner : ℕ) (files : List File) → is_some (owner_at path files) ≡ true →
    rewritten path owner files ≡ with_file path owner files
written-there path owner [] there = cc
written-there path owner (f ∷ files) there = at (bytes_eq f.path path) there (written-there path owner files)
  where
    new : File
    new = record { path = path; owner = owner }

    at : (b : Bool) → is_some (owner_if b f.owner (owner_at path files)) ≡ true →
        (is_some (owner_at path files) ≡ true → rewritten path owner files ≡ with_file path owner files) →
        cond b (new ∷ files) (f ∷ rewritten path owner files) ≡ cond b (new ∷ files) (f ∷ with_file path owner files)
    at true there ih = refl
    at false there ih = ap (λ fs. f ∷ fs) (ih there)

-- else a file more stands at the end
pub written-new : (path : FilePath) (owner : ℕ) (files : List File) → is_some (owner_at path files) ≡ false →
    rewritten path owner files ++ (record { path = path; owner = owner }) ∷ [] ≡ with_file path owner files
written-new path owner [] none = refl
written-new path owner (f ∷ files) none = at (bytes_eq f.path path) none (written-new path owner files)
  where
    new : File
    new = record { path = path; owner = owner }

    at : (b : Bool) → is_some (owner_if b f.owner (owner_at path files)) ≡ false →
        (is_some (owner_at path files) ≡ false → rewritten path owner files ++ new ∷ [] ≡ with_file path owner files) →
        cond b (new ∷ files) (f ∷ rewritten path owner files) ++ new
        ∷ [] ≡ cond b (new ∷ files) (f ∷ with_file path owner files)
    at true none ih = cc
    at false none ih = ap (λ fs. f ∷ fs) (ih none)

-- ---- the rows that stand for the files
module _ (path : FilePath) (owner : ℕ) where
  rewritten-at : (xs : List FileRow) (i : ℕ) (d y : FileRow) → i < length xs →
      ((k : ℕ) → k < i → bytes_eq (get_or xs k d).path path ≡ false) → bytes_eq (get_or xs i d).path path ≡ true →
      seen_file y ≡ (let f : File = record { path = path; owner = owner } in f)
      → (is_some (owner_at path (map seen_file xs)) ≡ true) × (map seen_file (set xs i y) ≡ rewritten path owner (map seen_file xs))
  rewritten-at [] i d y lt before here e = absurd (omega arith)
  rewritten-at (x ∷ xs) zero d y lt before here e = (rw here refl, rw here (ap (λ f. f ∷ map seen_file xs) e))
  rewritten-at (x ∷ xs) (suc i) d y lt before here e =
      let passed = before zero (omega arith) in
      let rest = rewritten-at xs i d y (omega arith) (λ k less. before (suc k) (omega arith)) here e in
      (rw passed rest.0, rw passed (ap (λ fs. seen_file x ∷ fs) rest.1))

  unwritten : (xs : List FileRow) (d : FileRow) → ((k : ℕ) → k < length xs → bytes_eq (get_or xs k d).path path ≡ false)
      → (is_some (owner_at path (map seen_file xs)) ≡ false) × (map seen_file xs ≡ rewritten path owner (map seen_file xs))
  unwritten [] d none = (refl, refl)
  unwritten (x ∷ xs) d none =
      let passed = none zero (omega arith) in
      let rest = unwritten xs d (λ k less. none (suc k) (omega arith)) in
      (rw passed rest.0, rw passed (ap (λ fs. seen_file x ∷ fs) rest.1))

  -- the first file at the path is written
  pub rewritten-Some : (xs : List FileRow) (i : ℕ) (d y : FileRow) →
      position (λ (f : FileRow). bytes_eq f.path path) xs ≡ Some i →
      seen_file y ≡ (let f : File = record { path = path; owner = owner } in f)
      → (is_some (owner_at path (map seen_file xs)) ≡ true) × (map seen_file (set xs i y) ≡ rewritten path owner (map seen_file xs))
  rewritten-Some xs i d y at e = let found = position-Some (λ (f : FileRow). bytes_eq f.path path) xs i d at in rewritten-at xs i d y found.0 found.2 found.1 e

  pub rewritten-None : (xs : List FileRow) (d : FileRow) → position (λ (f : FileRow). bytes_eq f.path path) xs ≡ None
      → (is_some (owner_at path (map seen_file xs)) ≡ false) × (map seen_file xs ≡ rewritten path owner (map seen_file xs))
  rewritten-None xs d none =
      let all = past (position_or_len (λ (f : FileRow). bytes_eq f.path path) xs) (length xs) none in
      unwritten xs d (λ k less. fails_before_first (λ (f : FileRow). bytes_eq f.path path) xs k d (omega arith))

-- what is left of the rows is what is left of the files
pub without-rows : (path : FilePath) (xs : List FileRow) →
    map seen_file (filter (λ (f : FileRow). not (bytes_eq f.path path)) xs) ≡ without_file path (map seen_file xs)
without-rows path [] = refl
without-rows path (x ∷ xs) = at (not (bytes_eq x.path path)) (without-rows path xs)
  where
    at : (b : Bool) → map seen_file (filter (λ (f : FileRow). not (bytes_eq f.path path)) xs)
        ≡ without_file path (map seen_file xs) →
        map seen_file (cond b (x ∷ filter (λ (f : FileRow). not (bytes_eq f.path path)) xs)
        (filter (λ (f : FileRow). not (bytes_eq f.path path)) xs))
        ≡ cond b (seen_file x ∷ without_file path (map seen_file xs)) (without_file path (map seen_file xs))
    at true ih = ap (λ fs. seen_file x ∷ fs) ih
    at false ih = ih

-- a slice that went back into its vector
pub refilled : (xs ys : List FileRow) (n : ℕ) → n ≡ length ys → length xs ≡ length ys → take n (xs ++ drop (length xs) ys) ≡ xs
refilled xs ys n count same =
    ap (λ zs. take n (xs ++ zs)) (drop_all (length xs) ys (omega arith)) ∙ ap (take n) (append-nil xs) ∙ take_all n xs (omega arith)
