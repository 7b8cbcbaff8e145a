use Rattle.std.proofs.Common.{◌≡◌, OnOk, ap, subst, ◌∙◌}
use Rattle.vocabulary.specs.declared.reports.Report.{Report}
use Rattle.plan_walk.specs.Course.{turns_of}
use Rattle.explorer.specs.declared.tally.Tally.{Tally}
use Rattle.explorer.specs.Tallies.{counted}
use Rattle.explorer.specs.Explored.{report_under}
use Rattle.std.proofs.lemmas.Result.{on_ok_weaker}
use Rattle.explorer.proofs.Searching.{reported}
use Rattle.explorer.proofs.counting.count_run.Goals as goal

pub returns-clause-counted : goal.returns-clause-counted
returns-clause-counted g c = λ p at.
    let run = c.args.run in
    subst (λ (x : Tally). OnOk c.count_report.result (c.count_report.new.found.tally ≡ x))
    (ap (λ (r : Report). counted run.tried r.outcome c.finish.new.found.tally) (c.in_ok-report.ensures.report p at)
    ∙ ap (λ (x : Tally). counted run.tried (report_under run.state.now run.target.now (turns_of run.course) run.first.now.table run.tried).outcome x) c.finish.ensures.found)
    c.count_report.ensures.counted

-- the report of a run is counted, and nothing else found
pub returns-clause-searched : goal.returns-clause-searched
returns-clause-searched g c = λ p at.
    on_ok_weaker c.count_report.result (λ _. reported c.args.run p _ c.args.found.now c.finish.new.found c.count_report.new.found (c.in_ok-report.ensures.searched p at) c.count_report.ensures.same) c.count_report.ensures.counted
