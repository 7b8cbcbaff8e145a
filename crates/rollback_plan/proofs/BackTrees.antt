-- Ways back are built.
use Rattle.std.proofs.Common.{◌≡◌, ℕ, ◌+◌, ◌<◌, List, [], ◌∷◌, ◌++◌, length, refl, sym, ◌∙◌, ap, subst, arith}
use Rattle.std.proofs.Common.{length-append, get_or, map, take, reverse, Some, slice_get, inl, inr}
use Rattle.std.proofs.lemmas.List.{take-map, reverse-append}
use Rattle.std.proofs.lemmas.Bool.{cases_order}
use Rattle.std.proofs.lemmas.Option.{slice_get_read, slice_get_within}
use Rattle.listener_set.specs.declared.generation.Generation.{Generation}
use Rattle.definitions.specs.Table.{Address}
use Rattle.vocabulary.specs.declared.calls.Call.TheVariants.{Quit, CloseAt}
use Rattle.definitions.specs.Calls.{Call}
use Rattle.definitions.specs.Run.{Tree}
use Rattle.definitions.specs.Plans.{tells, does, then_edge}
use Rattle.call_laws.specs.Pieces.{quits, closes}
use Rattle.rollback_plan.specs.declared.draft.Draft.{Draft}
use Rattle.plan_steps.specs.declared.step.Place.{Place}
use Rattle.rollback_plan.specs.Drafts.{IsMade, Keeps}
use Rattle.rollback_plan.specs.Back.{told_back, quits_back, closes_back, AreMade}
use Rattle.rollback_plan.proofs.Lists.{take_at, reverse-map}
use Rattle.plan_steps.proofs.Trees.{slice_get-append, slice_get-seam}
use Rattle.rollback_plan.proofs.DraftTrees.{made_kept}

-- one call more
pub told_more : (by : ℕ) (calls : List Call) (rest : Tree) (i : ℕ) (call : Call) → slice_get calls i ≡ Some call →
    does by call (then_edge (told_back by calls rest i)) ≡ told_back by calls rest (i + 1)
told_more by calls rest i call at =
    sym (ap (λ xs. tells by (reverse xs) rest) (take_at calls i call at) ∙ ap (λ xs. tells by xs rest) (reverse-append (take i calls) (call ∷ [])))

quits_told : (by : ℕ) (g : Generation) (ks : List ℕ) (rest : Tree) → tells by (map (Quit g) ks) rest ≡ quits by g ks rest
quits_told by g [] rest = refl
quits_told by g (k ∷ ks) rest = ap (λ t. does by (Quit g k) (then_edge t)) (quits_told by g ks rest)

closes_told : (by : ℕ) (xs : List Address) (rest : Tree) → tells by (map CloseAt xs) rest ≡ closes by xs rest
closes_told by [] rest = refl
closes_told by (x ∷ xs) rest = ap (λ t. does by (CloseAt x) (then_edge t)) (closes_told by xs rest)

first_calls : {X : Type 0} (call : X → Call) (xs : List X) (i : ℕ) → reverse (take i (map call xs)) ≡ map call (reverse (take i xs))
first_calls call xs i = ap reverse (take-map call i xs) ∙ reverse-map call (take i xs)

-- one place more
pub made_more : (old new : Draft) (places after : List Place) (next : Place) (n : ℕ) (tree : ℕ → Tree) → Keeps old new →
    AreMade old places n tree → after ≡ places ++ next ∷ [] → IsMade new next (tree (n + 1)) →
    AreMade new after (n + 1) tree
made_more old new places after next n tree keeps all e made =
    record {
      count = omega (arith, ap length e, length-append places (next ∷ []), all.count);
      made = λ i place at.
          let there : slice_get (places ++ next ∷ []) i ≡ Some place = ap (λ ps. slice_get ps i) (sym e) ∙ at in
          let low : i < length (places ++ next ∷ []) = slice_get_within (places ++ next ∷ []) i place there in
          elim (cases_order i (n + 1)) [
            | inl same ↦ last i place same there
            | inr off ↦ elim off [
              | inl below ↦ made_kept old new place (tree i) keeps (all.made i place (sym (slice_get-append places (next ∷ []) i (omega (arith, all.count))) ∙ there))
              | inr above ↦ absurd (omega (arith, all.count, length-append places (next ∷ [])))
            ]
          ];
    }
  where
    last : (i : ℕ) (place : Place) → i ≡ n + 1 → slice_get (places ++ next ∷ []) i ≡ Some place → IsMade new place (tree i)
    last i place same there =
        let seam : Some next ≡ Some place = sym (slice_get-seam places next []) ∙ (ap (slice_get (places ++ next ∷ [])) (let k : length places ≡ i = omega (arith, all.count) in k) ∙ there) in
        let is : next ≡ place = cc in
        subst (λ (p : Place). IsMade new p (tree i)) is (subst (λ (k : ℕ). IsMade new next (tree k)) (sym same) made)

pub all_kept : (old new : Draft) (places : List Place) (n : ℕ) (tree : ℕ → Tree) → Keeps old new → AreMade old places n tree → AreMade new places n tree
all_kept old new places n tree keeps all =
    record {
      count = all.count;
      made = λ i place at. made_kept old new place (tree i) keeps (all.made i place at);
    }

-- the way that undoes all
pub way_there : (d : Draft) (places : List Place) (n : ℕ) (tree : ℕ → Tree) (place : Place) → AreMade d places n tree →
    place ≡ get_or places n place → IsMade d place (tree n)
way_there d places n tree place all is = all.made n place (slice_get_read places (length places) n place refl (omega (arith, all.count)) is)

-- the ways of closes, and of quits
pub closes_made : (by : ℕ) (d : Draft) (places : List Place) (xs : List Address) (rest tree : Tree) → rest ≡ tree →
    AreMade d places (length xs) (told_back by (map CloseAt xs) rest) →
    AreMade d places (length xs) (closes_back by xs tree)
closes_made by d places xs rest tree same all =
    record {
      count = all.count;
      made = λ i place at. subst (IsMade d place) (ap (λ calls. tells by calls rest) (first_calls CloseAt xs i) ∙ (closes_told by (reverse (take i xs)) rest ∙ ap (closes by (reverse (take i xs))) same)) (all.made i place at);
    }

pub quits_made : (by : ℕ) (g : Generation) (d : Draft) (places : List Place) (ks : List ℕ) (rest tree : Tree) →
    rest ≡ tree → AreMade d places (length ks) (told_back by (map (Quit g) ks) rest) →
    AreMade d places (length ks) (quits_back by g ks tree)
quits_made by g d places ks rest tree same all =
    record {
      count = all.count;
      made = λ i place at. subst (IsMade d place) (ap (λ calls. tells by calls rest) (first_calls (Quit g) ks i) ∙ (quits_told by g (reverse (take i ks)) rest ∙ ap (quits by g (reverse (take i ks))) same)) (all.made i place at);
    }
