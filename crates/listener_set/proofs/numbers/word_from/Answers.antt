use Rattle.std.proofs.Common.{◌-◌, arith}
use Rattle.std.proofs.lemmas.Nat.Bits.{bit_at-lt, bit_at_and, bit_at_mask_inside, bit_at_mask_below, ones_shl}
use Rattle.listener_set.proofs.numbers.word_from.Goals as goal

pub returns-else-bound-first-clause-kept : goal.returns-else-bound-first-clause-kept
returns-else-bound-first-clause-kept c i lt from =
    let d = c.args.bound - c.args.first in
    rw (ones_shl 64 d (omega arith), bit_at_and, bit_at_mask_inside d 64 i (omega arith) lt) (omega (arith, bit_at-lt c.args.word i))

pub returns-else-bound-first-clause-cut : goal.returns-else-bound-first-clause-cut
returns-else-bound-first-clause-cut c i before =
    let d = c.args.bound - c.args.first in
    rw (ones_shl 64 d (omega arith), bit_at_and, bit_at_mask_below d 64 i (omega arith)) (omega arith)
