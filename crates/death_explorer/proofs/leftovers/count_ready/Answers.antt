use Rattle.std.proofs.Common.{sym, ◌∙◌, rules, tests}
use Rattle.std.proofs.lemmas.Iterator.Consumers.{YieldsList-from_first, YieldsList-from_filter, count_from_yields_List}
use Rattle.std.proofs.lemmas.List.Sums.{length-filter}
use Rattle.kernel_rows.specs.declared.process.Holder.{Holder}
use Rattle.kernel_rows.specs.Seen.{seen_holder}
use Rattle.kernel_rows.proofs.Passing.{count-seen}
use Rattle.death_explorer.specs.Leftovers.{is_ready_at}
use Rattle.death_explorer.proofs.leftovers.count_ready.Goals as goal

pub returns : goal.returns
returns c =
    let addresses = c.args.addresses.now in
    let ready = λ (h : Holder). is_ready_at c.args.address.now (seen_holder addresses h) in
    let items = c.args.holders.now.items in
    let all = YieldsList-from_first (λ x. x.now) (λ s. s) items (c.filter.ensures.source ∙ c.iter.ensures) in
    count_from_yields_List _ c.count.result c.count.ensures.ran (YieldsList-from_filter _ ready all c.filter.ensures.closure (λ x b q k. search (rules, tests)))
    ∙ length-filter ready items ∙ sym (count-seen (is_ready_at c.args.address.now) addresses items)
