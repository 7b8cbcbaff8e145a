-- How posts and shortfalls are kept.
use Rattle.std.specs.Prelude.{ℕ, ◌≤◌, List, [], length}
use Rattle.worker_groups.specs.declared.groups.Group.{Group}
use Rattle.worker_groups.specs.Groups.{AreGroups}
use Rattle.listener_set.specs.Padded.{IsPadded}

-- the descriptors of each group stand in front, and none behind them
pub record ArePosted (gs : List Group) (items : List (List ℕ)) : Type 0 where
  pub groups : AreGroups gs
  pub padded : IsPadded 16 [] items (length gs)

-- the counts stand in front, at least one, and zeros behind them
pub record AreCounts (counts : List ℕ) (len : ℕ) : Type 0 where
  pub padded : IsPadded 16 0 counts len
  pub some : 1 ≤ len
