-- Who owns a file after another was written, moved or removed.
use Rattle.std.proofs.Common.{◌≡◌, ℕ, ◌+◌, Bool, true, false, not, List, [], ◌∷◌, ◌++◌, Some, None, length, refl, sym, ap, subst, arith}
use Rattle.std.specs.Prelude.{bytes_eq, codes, if◌then◌else◌}
use Rattle.definitions.specs.Table.{FilePath, File, owner_at}
use Rattle.call_laws.specs.Pieces.{owner_if}
use Rattle.definitions.specs.Calls.{with_file, without_file}
use Rattle.vocabulary.specs.declared.plans.PidNote.{PidNote}
use Rattle.vocabulary.specs.declared.plans.PidNote.TheVariants.{InPlace, AtOldbin, OldbinLeft, Left, NoFile}
use Rattle.definitions.specs.Master.{FilesAre, oldbin}
use Rattle.table_laws.proofs.Addresses.{same-address, address-refl}

-- what is written is there
pub written-file : (path : FilePath) (o : ℕ) (files : List File) → owner_at path (with_file path o files) ≡ Some o
written-file path o [] = rw (address-refl path) refl
written-file path o (f ∷ files) = go (bytes_eq f.path path) refl (written-file path o files)
  where
    go :
        (b : Bool) → bytes_eq f.path path ≡ b → owner_at path (with_file path o files) ≡ Some o →
        owner_at path (if b then record { path = path; owner = o } ∷ files else f ∷ with_file path o files) ≡ Some o
    go true e ih = rw (address-refl path) refl
    go false e ih = rw e ih

-- and every other file is as it was
pub other-written :
    (path other : FilePath) (o : ℕ) (files : List File) → bytes_eq path other ≡ false →
    owner_at other (with_file path o files) ≡ owner_at other files
other-written path other o [] off = rw off refl
other-written path other o (f ∷ files) off = go (bytes_eq f.path path) refl (other-written path other o files off)
  where
    go :
        (b : Bool) → bytes_eq f.path path ≡ b → owner_at other (with_file path o files) ≡ owner_at other files →
        owner_at other (if b then record { path = path; owner = o } ∷ files else f ∷ with_file path o files) ≡ owner_if
        (bytes_eq f.path other) f.owner (owner_at other files)
    go true e ih =
        let off' : bytes_eq f.path other ≡ false = subst (λ z. bytes_eq z other ≡ false)
        (sym (same-address f.path path e)) off in rw (off, off') refl
    go false e ih = ap (owner_if (bytes_eq f.path other) f.owner) ih

pub gone-file : (path : FilePath) (files : List File) → owner_at path (without_file path files) ≡ None
gone-file path [] = refl
gone-file path (f ∷ files) = go (bytes_eq f.path path) refl (gone-file path files)
  where
    go :
        (b : Bool) → bytes_eq f.path path ≡ b → owner_at path (without_file path files) ≡ None →
        owner_at path (if not b then f ∷ without_file path files else without_file path files) ≡ None
    go true e ih = ih
    go false e ih = rw e ih

pub other-removed : (path other : FilePath) (files : List File) → bytes_eq path other ≡ false → owner_at other (without_file path files) ≡ owner_at other files
other-removed path other [] off = refl
other-removed path other (f ∷ files) off = go (bytes_eq f.path path) refl (other-removed path other files off)
  where
    go :
        (b : Bool) → bytes_eq f.path path ≡ b → owner_at other (without_file path files) ≡ owner_at other files →
        owner_at other (if not b then f ∷ without_file path files else without_file path files) ≡ owner_if
        (bytes_eq f.path other) f.owner (owner_at other files)
    go true e ih = let off' : bytes_eq f.path other ≡ false = subst (λ z. bytes_eq z other ≡ false) (sym (same-address f.path path e)) off in rw off' ih
    go false e ih = ap (owner_if (bytes_eq f.path other) f.owner) ih

-- a path with the suffix is another
longer : (a b : List ℕ) → length (a ++ b) ≡ length a + length b
longer [] b = omega arith
longer (x ∷ a) b = omega (arith, longer a b)

differs : (a b : FilePath) (c : Bool) → bytes_eq a b ≡ c → (a ≡ b → ⊥) → bytes_eq a b ≡ false
differs a b true e ne = absurd (ne (same-address a b e))
differs a b false e ne = e

pub oldbin-other : (path : FilePath) → bytes_eq (oldbin path) path ≡ false
oldbin-other path = differs (oldbin path) path (bytes_eq (oldbin path) path) refl (λ e. absurd (omega (arith, longer path (codes ".oldbin"), ap length e)))

pub other-oldbin : (path : FilePath) → bytes_eq path (oldbin path) ≡ false
other-oldbin path = differs path (oldbin path) (bytes_eq path (oldbin path)) refl (λ e. absurd (omega (arith, longer path (codes ".oldbin"), ap length e)))

-- Where no path is known, no file is.
pub no-path : (note : PidNote) (pid pid' : ℕ) (files files' : List File) → FilesAre note None pid files → FilesAre note None pid' files'
no-path InPlace pid pid' files files' are = are
no-path AtOldbin pid pid' files files' are = are
no-path OldbinLeft pid pid' files files' are = are
no-path Left pid pid' files files' are = are
no-path NoFile pid pid' files files' are = are
