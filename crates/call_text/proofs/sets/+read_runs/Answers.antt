use Rattle.std.proofs.Common.{◌∙◌}
use Rattle.call_text.proofs.SetTexts.{parts_stop, parts_go}
use Rattle.call_text.proofs.sets.+read_runs.Goals as goal

pub returns-in_err-reader-in-Some : goal.returns-in_err-reader-in-Some
returns-in_err-reader-in-Some t c =
    c.from_residual-in_err-reader-in-Some.ensures
    ∙ parts_stop c.args.reader c.args.text.now c.in-Some.run'.now c.in-Some.rest.now c.in-Some.ensures c.in_err-reader-in-Some.ensures

pub returns-in_ok-reader-in-Some : goal.returns-in_ok-reader-in-Some
returns-in_ok-reader-in-Some t c =
    let go = parts_go c.args.reader c.in_ok-reader-in-Some.reader c.args.text.now c.in-Some.run'.now c.in-Some.rest.now c.in-Some.ensures c.in_ok-reader-in-Some.ensures in
    cc
