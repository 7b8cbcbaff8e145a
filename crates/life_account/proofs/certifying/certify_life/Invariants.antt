use Rattle.std.proofs.Common.{◌≡◌, take, length}
use Rattle.certifier.specs.Blocks.{goals_after}
use Rattle.life_account.specs.Account.{first_account, seen_life}
use Rattle.life_account.specs.Lived.{AreLived}
use Rattle.life_account.proofs.certifying.certify_life.Given as goal

abbrev pub invariant-loop-place : goal.invariant-loop-place
invariant-loop-place l =
    let old = l.fn.standing in
    record {
      lived : AreLived l.goals 1 (take l.place l.blocks) old (first_account old.record old.world.table) l.it.sections.items l.standing (seen_life l.it.life);
      count : length l.it.sections.items ≡ l.place;
      left : l.left ≡ goals_after (take l.place l.blocks) l.goals;
    }
