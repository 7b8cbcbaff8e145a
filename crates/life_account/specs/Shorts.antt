-- Words that ended with missing workers.
use Rattle.std.specs.Prelude.{ℕ, zero, suc, List, [], ◌∷◌, ◌++◌, map, Option, Some, None}
use Rattle.life_account.specs.declared.shorts.ShortWord.{ShortWord}

abbrev pub healed_at : Option ℕ → ℕ → Option ℕ
healed_at None word = Some word
healed_at (Some first) word = Some first

abbrev pub healed_by : ℕ → ShortWord → ShortWord
healed_by word one = record one { healed = healed_at one.healed word }

-- After a word that left so many workers missing: it is one of them; or none is missing, and it healed each that was not healed.
abbrev pub shorts_after : ℕ → ℕ → List ShortWord → List ShortWord
shorts_after word zero shorts = map (healed_by word) shorts
shorts_after word (suc missing) shorts = shorts ++ record { word = word; missing = suc missing; healed = None } ∷ []
