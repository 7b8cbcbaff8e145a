-- Slots with a gap.
use Rattle.std.specs.Prelude.{ℕ, ◌≤◌, List, ◌++◌, take, drop}
use Rattle.kernel_rows.specs.declared.holders.Gap.{Gap}

-- the items before and behind the gap
abbrev pub outside : {X : Type 0} → Gap → List X → List X
outside gap xs = take gap.start xs ++ drop gap.end xs

-- the gap is one of so many slots
abbrev pub IsGap : Gap → ℕ → Type 0
IsGap gap slots = (gap.start ≤ gap.end) × (gap.end ≤ slots)
