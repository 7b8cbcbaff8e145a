use Rattle.std.proofs.Common.{rules, tests}
use Rattle.std.proofs.lemmas.Fn.{filter_same}
use Rattle.lives.specs.Lives.{is_open}
use Rattle.life_account.specs.declared.opened.OpenAddress.{OpenAddress}
use Rattle.life_account.proofs.opened.close.Goals as goal

pub returns : goal.returns
returns c =
    filter_same _ (λ (one : OpenAddress). is_open one.address one.socket c.args.kernel.now.table) _ (λ x b q k. (search (rules, tests), search (rules, tests))) _ _ c.retain.ensures.filtered
