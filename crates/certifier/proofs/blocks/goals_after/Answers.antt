use Rattle.std.proofs.Common.{◌≡◌, ◌+◌, List, [], ◌∷◌, ◌++◌, take, sym, ◌∙◌, ap}
use Rattle.std.proofs.lemmas.List.{take_more}
use Rattle.word_runner.specs.declared.block.Block.{Block}
use Rattle.certifier.specs.Blocks.{goals_after, goals_then}
use Rattle.certifier.proofs.BlockRuns.{after-more}
use Rattle.certifier.proofs.blocks.goals_after.Goals as goal

pub loop-block-preserved : goal.loop-block-preserved
loop-block-preserved c =
    let goals = c.args.goals.now in
    let blocks = c.args.blocks.now in
    let place = c.loop-block.block-index in
    let b = c.block-item.result in
    let longer : take (place + 1) blocks ≡ take place blocks ++ b ∷ [] = take_more blocks place b c.loop-block-test.true ∙ ap (λ x. take place blocks ++ x ∷ []) (sym c.block-item.is) in
    c.goals_then-left.ensures
    ∙ (ap (goals_then b) c.loop-block.invariant
    ∙ (sym (after-more goals (take place blocks) b)
    ∙ ap (λ (bs : List Block). goals_after bs goals) (sym longer)))
