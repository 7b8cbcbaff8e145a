use Rattle.std.proofs.Common.{refl, rules}
use Rattle.kernel_table.proofs.Free.{AreFree-pushed}
use Rattle.kernel_table.proofs.store.Store.add_master.Goals as goal

pub returns-clause-grows : goal.returns-clause-grows
returns-clause-grows c =
    let s = c.args.self.now in
    let addresses = s.addresses.items in
    let pushed = c.push.ensures.items in
    record { sizes = search rules; names = λ known. record { free = AreFree-pushed s.free addresses addresses s.holders.items _ _ pushed (λ k. refl) known.free; lone = tt } }
