use Rattle.std.proofs.Common.{[], ◌∙◌}
use Rattle.call_text.proofs.ShortfallTexts.{counts_stop, counts_go}
use Rattle.call_text.proofs.shortfalls.read_counts.Goals as goal

pub returns-in_err-shortfalls-in-Some : goal.returns-in_err-shortfalls-in-Some
returns-in_err-shortfalls-in-Some c =
    c.from_residual-in_err-shortfalls-in-Some.ensures
    ∙ counts_stop [] c.args.text.now c.in-Some.first.now c.in-Some.rest.now c.in-Some.ensures c.in_err-shortfalls-in-Some.ensures

pub returns-in_ok-shortfalls-in-Some : goal.returns-in_ok-shortfalls-in-Some
returns-in_ok-shortfalls-in-Some c =
    let go = counts_go [] c.in_ok-shortfalls-in-Some.shortfalls c.args.text.now c.in-Some.first.now c.in-Some.rest.now c.in-Some.ensures c.in_ok-shortfalls-in-Some.ensures in
    cc
