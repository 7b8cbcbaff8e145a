use Rattle.std.proofs.Common.{◌≡◌, ◌++◌, map, take, drop, vec_len}
use Rattle.life_account.specs.Shorts.{healed_by}
use Rattle.life_account.proofs.shorts.heal_all.Given as goal

abbrev pub invariant-loop-at : goal.invariant-loop-at
invariant-loop-at l =
    (l.shorts.items ≡ map (healed_by l.word) (take l.at l.fn.shorts.items) ++ drop l.at l.fn.shorts.items)
    × (vec_len l.shorts ≡ vec_len l.fn.shorts)
