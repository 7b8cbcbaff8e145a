-- The fates of calls.
use Rattle.std.specs.Prelude.{List, [], ◌∷◌}
use Rattle.vocabulary.specs.declared.calls.Fate.{Fate}
use Rattle.vocabulary.specs.declared.calls.Fate.TheVariants as fate

-- each of them, once
abbrev pub all_fates : List Fate
all_fates = fate.InUse ∷ fate.TooMany ∷ fate.Denied ∷ fate.NoMemory ∷ fate.Again ∷ fate.Late ∷ fate.NoImage ∷ fate.Refused ∷ fate.IoFault ∷ fate.Back ∷ []
