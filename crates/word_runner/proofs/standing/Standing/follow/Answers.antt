use Rattle.std.proofs.Common.{◌∙◌, ap}
use Rattle.listener_set.specs.Numbers.{is_in}
use Rattle.word_runner.specs.Started.{started}
use Rattle.word_runner.proofs.Starting.{IsLike, followed-like}
use Rattle.word_runner.proofs.standing.Standing.follow.Goals as goal

pub returns-clause-workers : goal.returns-clause-workers
returns-clause-workers g c =
    let old = c.args.self.now.workers in
    let after = c.args.after in
    let entries = c.args.log.now.entries in
    let like : IsLike c.started-started.result (started after entries) = λ k lt. c.started-started.ensures k lt ∙ ap (λ a. is_in (started a entries) k) c.as_ref.ensures.value in
    c.follow.ensures ∙ followed-like old c.args.report.now.ready c.started-started.result (started after entries) c.lowest.ensures.numbers.below like
