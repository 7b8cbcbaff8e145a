use Rattle.std.proofs.Common.{◌<◌, ◌∷◌, ◌++◌, List, [], take, length, sym, ap, ◌∙◌, arith}
use Rattle.std.proofs.lemmas.List.{take_more}
use Rattle.std.proofs.lemmas.Option.{get_or_from_slice_get}
use Rattle.definitions.specs.Plans.{Turn}
use Rattle.death_explorer.proofs.exploring.quiet_section.Goals as goal

pub loop-place-preserved : goal.loop-place-preserved
loop-place-preserved c =
    let turns = c.args.turns.now in
    let n = c.loop-place.place in
    let turn = c.in-Some.turn in
    let inside : n < length turns = omega (arith, c.loop-place-test.true, c.len-place-end.ensures) in
    let at = get_or_from_slice_get turns n turn turn (sym c.get.ensures ∙ c.in-Some.is) in
    c.in_ok-add.ensures.ok ∙ ap (λ (xs : List Turn). xs ++ turn ∷ []) c.loop-place.invariant
    ∙ sym (take_more turns n turn inside ∙ ap (λ x. take n turns ++ x ∷ []) at)
