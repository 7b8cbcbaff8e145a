-- Blocks that are explained one after another, and the first that is not.
use Rattle.std.proofs.Common.{◌≡◌, ◌⊎◌, inl, inr, ℕ, ◌+◌, ◌-◌, ◌<◌, List, [], ◌∷◌, ◌++◌, length, take, drop, Err}
use Rattle.std.proofs.Common.{Option, refl, sym, ◌∙◌, ap, subst, arith, append_assoc}
use Rattle.std.specs.Prelude.{◌↔◌}
use Rattle.std.specs.Result.{IsErrOf}
use Rattle.std.proofs.lemmas.List.{take-append-drop, length-take-le}
use Rattle.vocabulary.specs.Settings.{Settings}
use Rattle.kernel_model.specs.State.{State}
use Rattle.word_runner.specs.declared.block.Block.{Block}
use Rattle.word_runner.specs.declared.standing.Standing.{Standing}
use Rattle.kernel_pattern.specs.declared.section.Section.{Section}
use Rattle.mismatches.specs.declared.Mismatch.{Mismatch}
use Rattle.mismatches.specs.declared.Mismatch.TheVariants as mismatch
use Rattle.certifier.specs.Blocks.{goal_of, goals_then, goals_after, IsTaken, IsFault, AreTaken, StopsAtBlock, LeadsUpTo}

pub taken-more : (goals : List Settings) (bs : List Block) (old : Standing State) (ps : List Section)
    (middle : Standing State) (b : Block) (p : Section) (new : Standing State) →
    AreTaken goals bs old ps middle → IsTaken (goal_of (goals_after bs goals)) b middle p new → AreTaken goals (bs ++ b ∷ []) old (ps ++ p ∷ []) new
taken-more goals [] old [] middle b p new are is = (new, subst (λ (s : Standing State). IsTaken (goal_of goals) b s p new) are is, refl)
taken-more goals [] old (q ∷ ps) middle b p new are is = absurd are
taken-more goals (c ∷ bs) old [] middle b p new are is = absurd are
taken-more goals (c ∷ bs) old (q ∷ ps) middle b p new are is = (are.0, are.1, taken-more (goals_then c goals) bs are.0 ps middle b p new are.2 is)

-- what is left after one block more
pub after-more : (goals : List Settings) (bs : List Block) (b : Block) → goals_after (bs ++ b ∷ []) goals ≡ goals_then b (goals_after bs goals)
after-more goals [] b = refl
after-more goals (c ∷ bs) b = after-more (goals_then c goals) bs b

-- a refused block is wrong, or memory was wanted
pub fault-by : {T : Type 0} (settings : Option Settings) (b : Block) (s : Standing State) (why : Mismatch) →
    ((w : Mismatch) → IsErrOf {T = T} (Err why) mismatch.Memory ⊎
    (IsErrOf {T = T} (Err why) w ↔ IsFault settings b s w)) → (why ≡ mismatch.Memory) ⊎ IsFault settings b s why
fault-by settings b s why exact = elim (exact why) [
  | inl memory ↦ inl (cc)
  | inr iff ↦ inr (iff.0 refl)
]

-- the block at a place is the first that is wrong
pub stops-there : (goals : List Settings) (blocks : List Block) (old : Standing State) (place : ℕ) (b : Block)
    (ps : List Section) (there : Standing State) (why : Mismatch) → place < length blocks →
    take (place + 1) blocks ≡ take place blocks ++ b ∷ [] →
    AreTaken goals (take place blocks) old ps there → (why ≡ mismatch.Memory) ⊎ IsFault (goal_of (goals_after (take place blocks) goals)) b there why →
    StopsAtBlock goals blocks old (place + 1) why
stops-there goals blocks old place b ps there why lt longer are wrong = record {
  front = take place blocks;
  block = b;
  behind = drop (place + 1) blocks;
  parts = sym (take-append-drop (place + 1) blocks) ∙ ap (λ bs. bs ++ drop (place + 1) blocks) longer ∙ append_assoc (take place blocks) (b ∷ []) (drop (place + 1) blocks);
  number = ap (λ n. n + 1) (sym (length-take-le place blocks (omega (arith, lt))));
  sections = ps;
  there = there;
  taken = are;
  fault = wrong;
}

pub leads-there : (goals : List Settings) (blocks : List Block) (old : Standing State) (place : ℕ) (ps : List Section) (there new : Standing State) →
    AreTaken goals (take place blocks) old ps there → new ≡ there → LeadsUpTo goals blocks old (place + 1) new
leads-there goals blocks old place ps there new are same =
    let n : place + 1 - 1 ≡ place = omega (arith) in
    (ps, subst (λ (bs : List Block). AreTaken goals bs old ps new) (ap (λ m. take m blocks) (sym n)) (subst (AreTaken goals (take place blocks) old ps) (sym same) are))
