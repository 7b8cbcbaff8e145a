-- A turn of New at the end changes nothing.
use Rattle.std.proofs.Common.{◌≡◌, List, [], ◌∷◌, ◌++◌, refl, ap, ◌∙◌}
use Rattle.definitions.specs.Run.{Tree, Branches, Ends, Does, Nothing, Branch, End}
use Rattle.definitions.specs.Plans.{Turn, New, Old, beside, beside_all, weave, weave_all}
use Rattle.theorems.specs.Apart.{LastNewIsNone}

abbrev Same : (List Turn → Tree → Tree) → Type 0
Same goes = (later : List Turn) (still : Tree) → goes (later ++ New ∷ []) still ≡ goes later still

mutual
  beside-last : (goes : List Turn → Tree → Tree) → Same goes → (turns : List Turn) (old : Tree) → beside goes (turns ++ New ∷ []) old ≡ beside goes turns old
  beside-last goes same turns (Ends end) = same turns (Ends end)
  beside-last goes same [] (Does by order set bs) = refl
  beside-last goes same (New ∷ turns) (Does by order set bs) = same turns (Does by order set bs)
  beside-last goes same (Old ∷ turns) (Does by order set bs) = ap (Does by order set) (beside-all-last goes same turns bs)

  beside-all-last :
      (goes : List Turn → Tree → Tree) → Same goes → (turns : List Turn) (bs : Branches) →
      beside_all goes (turns ++ New ∷ []) bs ≡ beside_all goes turns bs
  beside-all-last goes same turns Nothing = refl
  beside-all-last goes same turns (Branch replies said rest more) =
      ap (λ t. Branch replies said t (beside_all goes (turns ++ New ∷ []) more)) (beside-last goes same turns rest) ∙ ap
      (Branch replies said (beside goes turns rest)) (beside-all-last goes same turns more)

mutual
  pub weave-last : LastNewIsNone
  weave-last join (Ends end) turns old = refl
  weave-last join (Does by order set bs) turns old =
      beside-last (λ later still. Does by order set (weave_all join bs later still))
      (λ later still. ap (Does by order set) (weave-all-last join bs later still)) turns old

  weave-all-last :
      (join : End → Tree) (bs : Branches) (turns : List Turn) (old : Tree) →
      weave_all join bs (turns ++ New ∷ []) old ≡ weave_all join bs turns old
  weave-all-last join Nothing turns old = refl
  weave-all-last join (Branch replies said rest more) turns old =
      ap (λ t. Branch replies said t (weave_all join more (turns ++ New ∷ []) old)) (weave-last join rest turns old) ∙
      ap (Branch replies said (weave join rest turns old)) (weave-all-last join more turns old)
