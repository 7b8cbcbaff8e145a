-- Places of a draft.
use Rattle.std.proofs.Common.{◌≡◌, ℕ, zero, suc, ◌<◌, true, List, [], ◌∷◌, length, refl, subst, arith, Some, slice_get, nat_lt}
use Rattle.std.proofs.lemmas.Bool.{and_parts, and_from, ltb-true, lt-ltb}
use Rattle.definitions.specs.Run.{Tree}
use Rattle.rollback_plan.specs.declared.draft.Draft.{Draft}
use Rattle.plan_steps.specs.declared.step.Place.{Place}
use Rattle.rollback_plan.specs.Drafts.{trees_of, Keeps, are_places}
use Rattle.rollback_plan.specs.Back.{AreMade}
use Rattle.rollback_plan.proofs.DraftTrees.{longer}

pub places_kept : (old new : Draft) (places : List Place) → Keeps old new → are_places old places ≡ true → are_places new places ≡ true
places_kept old new [] keeps h = refl
places_kept old new (p ∷ places) keeps h =
    let parts = and_parts (nat_lt p.0 (length (trees_of old))) (are_places old places) h in
    and_from (nat_lt p.0 (length (trees_of new))) (are_places new places) (lt-ltb p.0 (length (trees_of new)) (omega (arith, longer old new keeps, ltb-true p.0 (length (trees_of old)) parts.0))) (places_kept old new places keeps parts.1)

pub place_at : (d : Draft) (places : List Place) (i : ℕ) (place : Place) → are_places d places ≡ true →
    slice_get places i ≡ Some place → place.0 < length (trees_of d)
place_at d [] i place h at = cc
place_at d (p ∷ places) zero place h at =
    let is : p ≡ place = cc in
    subst (λ (q : Place). q.0 < length (trees_of d)) is (ltb-true p.0 (length (trees_of d)) (and_parts (nat_lt p.0 (length (trees_of d))) (are_places d places) h).0)
place_at d (p ∷ places) (suc i) place h at = place_at d places i place (and_parts (nat_lt p.0 (length (trees_of d))) (are_places d places) h).1 at

pub made_places : (d : Draft) (places : List Place) (n : ℕ) (tree : ℕ → Tree) → AreMade d places n tree → are_places d places ≡ true
made_places d places n tree all = each places (λ i place at. (all.made i place at).below)
  where
    each : (ps : List Place) → ((i : ℕ) (place : Place) → slice_get ps i ≡ Some place → place.0 < length (trees_of d)) → are_places d ps ≡ true
    each [] h = refl
    each (p ∷ ps) h = and_from (nat_lt p.0 (length (trees_of d))) (are_places d ps) (lt-ltb p.0 (length (trees_of d)) (h 0 p refl)) (each ps (λ i place at. h (suc i) place at))
