use Rattle.std.proofs.Common.{◌++◌, ap, sym, ◌∙◌, rules}
use Rattle.kernel_rows.specs.Seen.{seen_holder, caller_row}
use Rattle.kernel_rows.proofs.Passing.{passed, one-passed, row-among}
use Rattle.kernel_table.proofs.store.Store.live_master.Goals as goal

pub loop-holder-preserved : goal.loop-holder-preserved
loop-holder-preserved c = record {
  split = one-passed _ _ _ c.loop-holder.invariant.split c.in-Some.holder c.next.new.self c.in-Some.ensures.steps;
  first = search rules;
}

pub returns-in-Some-live_master-clause-row : goal.returns-in-Some-live_master-clause-row
returns-in-Some-live_master-clause-row c =
    let s = c.args.self.now in
    let addresses = s.addresses.items in
    let row = caller_row addresses c.in-Some-live_master.caller in
    let here = c.in-Some-live_master.ensures.row addresses in
    let whole = ap (λ hs. passed c.loop-holder.yielded ++ hs) (sym c.in-Some.ensures.steps) ∙ c.loop-holder.invariant.split in
    row-among (seen_holder addresses) (passed c.loop-holder.yielded) c.next.new.self s.holders.items c.in-Some.holder.now row whole here
