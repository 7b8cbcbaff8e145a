use Rattle.std.proofs.Common.{◌≡◌, ◌+◌, ◌⊎◌, List, [], ◌∷◌, ◌++◌, take, length, length-append, inl, inr, Option, sym, ◌∙◌, ap, subst, arith}
use Rattle.std.proofs.lemmas.List.{take_more, length-take-le}
use Rattle.vocabulary.specs.Settings.{Settings}
use Rattle.kernel_pattern.specs.declared.section.Section.{Section}
use Rattle.word_runner.specs.declared.block.Block.{Block}
use Rattle.certifier.specs.Blocks.{goal_of, goals_after, goals_then, IsFault}
use Rattle.certifier.proofs.BlockRuns.{after-more, stops-there}
use Rattle.life_account.specs.Account.{first_account, seen_life}
use Rattle.life_account.specs.Lived.{AreLived, IsLived}
use Rattle.life_account.proofs.Living.{lived-more, lived-taken, one-block}
use Rattle.life_account.proofs.certifying.certify_life.Goals as goal

pub returns-in-Err-clause-err : goal.returns-in-Err-clause-err
returns-in-Err-clause-err c =
    let goals = c.args.goals.now in
    let old = c.args.standing.now in
    let middle = c.loop-place.standing in
    let blocks = c.args.blocks.now in
    let place = c.loop-place.place in
    let b = c.index-blocks-place.result in
    let why = c.in-Err.why in
    let longer : take (place + 1) blocks ≡ take place blocks ++ b ∷ [] = take_more blocks place b c.loop-place-test.true ∙ ap (λ x. take place blocks ++ x ∷ []) (sym c.index-blocks-place.is) in
    let taken = lived-taken goals 1 (take place blocks) old (first_account old.record old.world.table) c.loop-place.it.sections.items middle (seen_life c.loop-place.it.life) c.loop-place.invariant.lived in
    elim c.in-Err.ensures.err [
      | inl memory ↦ inl memory
      | inr fault ↦
          inr (stops-there goals blocks old place b c.loop-place.it.sections.items middle why c.loop-place-test.true longer taken
          (inr (subst (λ (goal : Option Settings). IsFault goal b middle why) (ap goal_of c.loop-place.invariant.left) fault)))
    ]

pub loop-place-preserved : goal.loop-place-preserved
loop-place-preserved c =
    let goals = c.args.goals.now in
    let old = c.args.standing.now in
    let middle = c.loop-place.standing in
    let new = c.add_block.new.standing in
    let blocks = c.args.blocks.now in
    let place = c.loop-place.place in
    let b = c.index-blocks-place.result in
    let first = first_account old.record old.world.table in
    let sections = c.loop-place.it.sections.items in
    let account = seen_life c.loop-place.it.life in
    let after = seen_life c.add_block.new.it.life in
    let longer : take (place + 1) blocks ≡ take place blocks ++ b ∷ [] = take_more blocks place b c.loop-place-test.true ∙ ap (λ x. take place blocks ++ x ∷ []) (sym c.index-blocks-place.is) in
    let found = c.in_default-add_block.ensures.ok in
    let section : Section = found.0 in
    let items : c.add_block.new.it.sections.items ≡ sections ++ section ∷ [] = found.1 in
    let count : length sections ≡ place = c.loop-place.invariant.count in
    let long = length-take-le place blocks (omega (arith, c.loop-place-test.true)) in
    let at : length sections + 1 ≡ 1 + length (take place blocks) = omega (arith, count, long) in
    let is = subst (λ (goal : Option Settings). IsLived (length sections + 1) goal b middle account section new after) (ap goal_of c.loop-place.invariant.left) found.2 in
    let more = lived-more goals 1 (length sections + 1) (take place blocks) old first sections middle account b section new after c.loop-place.invariant.lived at is in
    let pushed = length-append sections (section ∷ []) in
    let counted = ap (λ (ss : List Section). length ss) items in
    record {
      lived =
          subst (λ (bs : List Block). AreLived goals 1 bs old first c.add_block.new.it.sections.items new after) (sym longer)
          (subst (λ (ss : List Section). AreLived goals 1 (take place blocks ++ b ∷ []) old first ss new after) (sym items) more);
      count = omega (arith, counted, pushed, count);
      left =
          c.goals_after-left.ensures
          ∙ ap (λ (bs : List Block). goals_after bs c.loop-place.left.now) (one-block blocks place b c.loop-place-test.true c.index-blocks-place.is)
          ∙ ap (goals_then b) c.loop-place.invariant.left
          ∙ sym (after-more goals (take place blocks) b)
          ∙ ap (λ (bs : List Block). goals_after bs goals) (sym longer);
    }
