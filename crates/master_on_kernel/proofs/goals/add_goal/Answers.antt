use Rattle.std.proofs.Common.{List, [], ◌∷◌, ◌++◌, ◌∙◌, ap}
use Rattle.vocabulary.specs.Settings.{Settings}
use Rattle.master_on_kernel.proofs.GoalsRead.{goals-more}
use Rattle.master_on_kernel.proofs.goals.add_goal.Goals as goal

pub returns : goal.returns
returns g c goals =
    goals-more c.args.first c.args.goals.now.items c.push_reserved.new.self.items c.in_ok-settings.settings goals c.in_ok-settings.ensures.ok
    (c.push_reserved.ensures.items ∙ ap (λ (xs : List Settings). xs ++ c.in_ok-settings.settings ∷ []) c.reserve.ensures.items)
