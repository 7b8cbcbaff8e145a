-- Paths of files as texts.
use Rattle.std.specs.Prelude.{ℕ, ◌≡◌, ◌≤◌, ◌==◌, nat_le, Bool, false, ◌&&◌, List, [], ◌∷◌, length, slice_get, Some, Result, Ok, Err, if◌then◌else◌}
use Rattle.std.specs.List.{AllPass, list_all}
use Rattle.std.specs.Char.{is_ascii_graphic}
use Rattle.listener_set.specs.declared.file_path.BadFile.{BadFile}

abbrev pub begins_with_slash : List ℕ → Bool
begins_with_slash [] = false
begins_with_slash (c ∷ cs) = c == 47

-- a slash and more, at most 100 graphic bytes in all
abbrev pub is_path : List ℕ → Bool
is_path text = nat_le (length text) 100 && begins_with_slash text && list_all is_ascii_graphic text

-- what reading a text gives
abbrev pub path_reading : List ℕ → Result (List ℕ) BadFile
path_reading text = if is_path text then Ok text else Err (record {})

-- what each path keeps, with a suffix or without
pub record IsFilePath (text : List ℕ) : Type 0 where
  pub slash : slice_get text 0 ≡ Some 47
  pub graphic : AllPass is_ascii_graphic text
  pub fits : length text ≤ 107
