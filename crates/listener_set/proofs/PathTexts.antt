-- A path with a suffix is a path.
use Rattle.std.proofs.Common.{◌≡◌, ℕ, ◌≤◌, true, List, [], ◌∷◌, ◌++◌, length, Option, Some, None, refl, arith}
use Rattle.std.specs.Prelude.{codes, slice_get}
use Rattle.std.specs.Char.{is_ascii_graphic}
use Rattle.std.proofs.lemmas.List.{length-append}
use Rattle.std.proofs.lemmas.List.Elements.{All-append}
use Rattle.std.proofs.lemmas.List.Sums.{AllPass-from_list_all}
use Rattle.listener_set.specs.PathText.{IsFilePath}

slash-append : (xs ys : List ℕ) → slice_get xs 0 ≡ Some 47 → slice_get (xs ++ ys) 0 ≡ Some 47
slash-append [] ys h = let nothing : Option ℕ = None in let none : nothing ≡ Some 47 = h in cc
slash-append (x ∷ xs) ys h = h

pub oldbin_path : (path text : List ℕ) → IsFilePath path → length path ≤ 100 → text ≡ path ++ codes ".oldbin" → IsFilePath text
oldbin_path path text h short e = rw e (record {
  slash = slash-append path (codes ".oldbin") h.slash;
  graphic = All-append (λ c. is_ascii_graphic c ≡ true) path (codes ".oldbin") h.graphic (AllPass-from_list_all is_ascii_graphic (codes ".oldbin") refl);
  fits = omega (arith, length-append path (codes ".oldbin"));
})
