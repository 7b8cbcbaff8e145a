use Rattle.std.proofs.Common.{◌≡◌, ◌+◌, ◌⊎◌, Option, List, [], ◌∷◌, ◌++◌, take, inl, refl, sym, ◌∙◌, ap, subst, IfErr, option_copied}
use Rattle.std.proofs.lemmas.List.{take_more}
use Rattle.std.proofs.lemmas.Result.{err_from_is_err_and}
use Rattle.word_runner.specs.declared.block.Block.{Block}
use Rattle.vocabulary.specs.Settings.{Settings}
use Rattle.certifier.specs.Blocks.{goal_of, goals_then, goals_after, AreTaken, IsFault, IsTaken, StopsAtBlock, LeadsUpTo}
use Rattle.certifier.specs.declared.blocks.BlockMismatch.{BlockMismatch}
use Rattle.mismatches.specs.declared.Mismatch.TheVariants.{Memory}
use Rattle.certifier.proofs.BlockRuns.{taken-more, after-more, fault-by, stops-there, leads-there}
use Rattle.certifier.proofs.blocks.certify_blocks.Goals as goal

pub loop-place-preserved : goal.loop-place-preserved
loop-place-preserved c =
    let goals = c.args.goals.now in
    let old = c.args.standing.now in
    let middle = c.loop-place.standing in
    let new = c.certify_block.new.standing in
    let blocks = c.args.blocks.now in
    let place = c.loop-place.place in
    let b = c.index-blocks-place.result in
    let longer : take (place + 1) blocks ≡ take place blocks ++ b ∷ [] = take_more blocks place b c.loop-place-test.true ∙ ap (λ x. take place blocks ++ x ∷ []) (sym c.index-blocks-place.is) in
    let goal_is = c.goal_of.ensures ∙ ap goal_of c.loop-place.invariant.1 in
    let taken = subst (λ (goal : Option Settings). IsTaken goal b middle c.in-Ok.section new) goal_is c.in-Ok.ensures.ok in (
      subst (λ (bs : List Block). AreTaken goals bs old c.push_reserved.new.self.items new) (sym longer)
          (subst (λ ps. AreTaken goals (take place blocks ++ b ∷ []) old ps new) (sym (c.push_reserved.ensures.items ∙ ap (λ ps. ps ++ c.in-Ok.section ∷ []) c.make_room.ensures.items))
          (taken-more goals (take place blocks) old c.loop-place.sections.items middle b c.in-Ok.section new c.loop-place.invariant.0 taken)),
      c.goals_then-left.ensures
          ∙ (ap (goals_then b) c.loop-place.invariant.1
          ∙ (sym (after-more goals (take place blocks) b)
          ∙ ap (λ (bs : List Block). goals_after bs goals) (sym longer))),
    )

pub returns-in_err-make_room-clause-err : goal.returns-in_err-make_room-clause-err
returns-in_err-make_room-clause-err c =
    let goals = c.args.goals.now in
    let old = c.args.standing.now in
    let middle = c.loop-place.standing in
    let blocks = c.args.blocks.now in
    let place = c.loop-place.place in
    let b = c.index-blocks-place.result in
    let longer : take (place + 1) blocks ≡ take place blocks ++ b ∷ [] = take_more blocks place b c.loop-place-test.true ∙ ap (λ x. take place blocks ++ x ∷ []) (sym c.index-blocks-place.is) in
    let p = err_from_is_err_and c.from_residual.result c.from_residual.ensures.1 in
    let same : p.0 ≡ c.in_err-make_room.field-0.0 = cc in
    subst (λ x. IfErr x (λ (e : BlockMismatch). StopsAtBlock goals blocks old e.number e.why)) (sym p.1)
    (subst (λ (e : BlockMismatch). StopsAtBlock goals blocks old e.number e.why) (sym (same ∙ c.in_err-make_room.ensures.err))
    (stops-there goals blocks old place b c.loop-place.sections.items middle Memory c.loop-place-test.true longer c.loop-place.invariant.0 (inl refl)))

pub returns-in_err-make_room-clause-stands : goal.returns-in_err-make_room-clause-stands
returns-in_err-make_room-clause-stands c =
    let goals = c.args.goals.now in
    let old = c.args.standing.now in
    let middle = c.loop-place.standing in
    let blocks = c.args.blocks.now in
    let p = err_from_is_err_and c.from_residual.result c.from_residual.ensures.1 in
    let same : p.0 ≡ c.in_err-make_room.field-0.0 = cc in
    subst (λ x. IfErr x (λ (e : BlockMismatch). LeadsUpTo goals blocks old e.number middle)) (sym p.1)
    (subst (λ (e : BlockMismatch). LeadsUpTo goals blocks old e.number middle) (sym (same ∙ c.in_err-make_room.ensures.err))
    (leads-there goals blocks old c.loop-place.place c.loop-place.sections.items middle middle c.loop-place.invariant.0 refl))

pub returns-in-Err-clause-err : goal.returns-in-Err-clause-err
returns-in-Err-clause-err c =
    let goals = c.args.goals.now in
    let old = c.args.standing.now in
    let middle = c.loop-place.standing in
    let blocks = c.args.blocks.now in
    let place = c.loop-place.place in
    let b = c.index-blocks-place.result in
    let longer : take (place + 1) blocks ≡ take place blocks ++ b ∷ [] = take_more blocks place b c.loop-place-test.true ∙ ap (λ x. take place blocks ++ x ∷ []) (sym c.index-blocks-place.is) in
    stops-there goals blocks old place b c.loop-place.sections.items middle c.in-Err.why c.loop-place-test.true longer c.loop-place.invariant.0
    (subst (λ (goal : Option Settings). (c.in-Err.why ≡ Memory) ⊎ IsFault goal b middle c.in-Err.why) (c.goal_of.ensures ∙ ap goal_of c.loop-place.invariant.1)
    (fault-by (option_copied c.goal_of.result) b middle c.in-Err.why c.in-Err.ensures.exact))

pub returns-in-Err-clause-stands : goal.returns-in-Err-clause-stands
returns-in-Err-clause-stands c =
    let goals = c.args.goals.now in
    let old = c.args.standing.now in
    let middle = c.loop-place.standing in
    let new = c.certify_block.new.standing in
    leads-there goals c.args.blocks.now old c.loop-place.place c.loop-place.sections.items middle new c.loop-place.invariant.0 c.in-Err.ensures.err
