use Rattle.std.proofs.Common.{◌≡◌, ◌++◌, map, take, drop, vec_len}
use Rattle.life_account.specs.Tables.{looked}
use Rattle.life_account.proofs.opened.look.Given as goal

abbrev pub invariant-loop-at : goal.invariant-loop-at
invariant-loop-at l =
    (l.kept.items ≡ map (looked l.place l.kernel.table) (take l.at l.fn.kept.items) ++ drop l.at l.fn.kept.items)
    × (vec_len l.kept ≡ vec_len l.fn.kept)
