use Rattle.std.proofs.Common.{option_copied}
use Rattle.plan_executor.proofs.Truth.{done-true}
use Rattle.plan_executor.proofs.WordLives.{words-live}
use Rattle.plan_executor.proofs.words.run_words.Goals as goal

pub returns-clause-agrees : goal.returns-clause-agrees
returns-clause-agrees c =
    let h = c.run_words.ensures.done in
    done-true c.args.sections.now (option_copied c.args.settings) c.args.words.now c.args.standing.now h.0
    c.run_words.new.standing h.2

pub returns-clause-life : goal.returns-clause-life
returns-clause-life c r range e s =
    let h = c.run_words.ensures.done in
    (h.0, h.1, words-live c.args.sections.now (option_copied c.args.settings) c.args.words.now c.args.standing.now c.run_words.new.standing h.0 r range e s h.2)
