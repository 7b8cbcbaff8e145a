use Rattle.std.proofs.Common.{List, ap, ◌∙◌, rules}
use Rattle.kernel_rows.specs.declared.process.Holder.{Holder}
use Rattle.kernel_rows.specs.Holds.{seen_holds}
use Rattle.kernel_rows.specs.Seen.{seen_holder, seen_rows}
use Rattle.kernel_table.specs.Seen.{seen}
use Rattle.kernel_rows.proofs.Lists.{map-push}
use Rattle.kernel_table.proofs.store.Store.add_worker.Goals as goal

pub returns-clause-grows : goal.returns-clause-grows
returns-clause-grows c =
    let s = c.args.self.now in
    let addresses = s.addresses.items in
    let pushed = c.push.ensures.items in
    let more = ap (λ (hs : List Holder). seen_rows addresses hs) pushed ∙ map-push (seen_holder addresses) s.holders.items _ in
    record { sizes = search rules; names = λ known. record { free = c.without-self.ensures.free addresses (seen s).rows s.next_process (seen_holds addresses c.args.holds) known.free more; lone = tt } }
