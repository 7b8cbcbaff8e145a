use Rattle.std.proofs.Common.{arith}
use Rattle.kernel_table.proofs.Free.{free-forked}
use Rattle.kernel_table.proofs.free_names.FreeNames.without.Goals as goal

pub returns-clause-free : goal.returns-clause-free
returns-clause-free c = λ addresses before n hs known more.
    let name = c.args.name in
    free-forked c.args.self before _ n name.parent name.generation name.nr c.max.result hs known more (omega (arith, c.max.ensures)) (omega (arith, c.max.ensures, c.from.ensures))
