-- What is kept of a text.
use Rattle.std.specs.Prelude.{ℕ, List, take, Option, Some, None}

-- all of it, or so many bytes at its front
abbrev pub kept : Option ℕ → List ℕ → List ℕ
kept None text = text
kept (Some most) text = take most text
