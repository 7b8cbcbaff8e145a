use Rattle.std.proofs.Common.{◌∙◌}
use Rattle.call_text.proofs.ShortfallTexts.{counts_stop, counts_go}
use Rattle.call_text.proofs.shortfalls.+with_counts.Goals as goal

pub returns-in_err-shortfalls-in-Some : goal.returns-in_err-shortfalls-in-Some
returns-in_err-shortfalls-in-Some t c =
    c.from_residual-in_err-shortfalls-in-Some.ensures
    ∙ counts_stop c.args.shortfalls c.args.text.now c.in-Some.count.now c.in-Some.rest.now c.in-Some.ensures c.in_err-shortfalls-in-Some.ensures

pub returns-in_ok-shortfalls-in-Some : goal.returns-in_ok-shortfalls-in-Some
returns-in_ok-shortfalls-in-Some t c =
    let go = counts_go c.args.shortfalls c.in_ok-shortfalls-in-Some.shortfalls c.args.text.now c.in-Some.count.now c.in-Some.rest.now c.in-Some.ensures c.in_ok-shortfalls-in-Some.ensures in
    cc
