-- The walk over the steps of a draft.
use Rattle.std.proofs.Common.{◌≡◌, ℕ, List, [], ◌∷◌, ◌++◌, reverse, refl, sym, ◌∙◌, ap, append_assoc}
use Rattle.std.proofs.lemmas.List.{reverse-append, append-nil}
use Rattle.plan_steps.specs.declared.step.Next.{Next}
use Rattle.plan_steps.specs.declared.step.Place.{Place}
use Rattle.plan_steps.specs.declared.step.Next.TheVariants.{To, Over, Both}
use Rattle.plan_steps.specs.declared.step.PlanEdge.{PlanEdge}
use Rattle.plan_steps.specs.Numbering.{place_behind, places_behind}

-- ---- the places behind edges

place_behind-append : (next : Next) (ps qs : List ℕ) → place_behind next (ps ++ qs) ≡ place_behind next ps ++ qs
place_behind-append (Over end) ps qs = refl
place_behind-append (Both new old) ps qs = refl
place_behind-append (To place) ps qs = refl

pub places_behind-append : (es fs : List PlanEdge) → places_behind (es ++ fs) ≡ places_behind es ++ places_behind fs
places_behind-append [] fs = refl
places_behind-append (e ∷ es) fs = ap (place_behind e.next) (places_behind-append es fs) ∙ place_behind-append e.next (places_behind es) (places_behind fs)

reverse-place_behind : (next : Next) (ps : List ℕ) → reverse (place_behind next ps) ≡ reverse ps ++ place_behind next []
reverse-place_behind (Over end) ps = sym (append-nil (reverse ps))
reverse-place_behind (Both new old) ps = sym (append-nil (reverse ps))
reverse-place_behind (To place) ps = reverse-append (place.0 ∷ []) ps

pub places_behind-reverse : (edges : List PlanEdge) → places_behind (reverse edges) ≡ reverse (places_behind edges)
places_behind-reverse [] = refl
places_behind-reverse (e ∷ edges) =
    ap places_behind (reverse-append (e ∷ []) edges)
    ∙ (places_behind-append (reverse edges) (e ∷ [])
    ∙ (ap (λ ps. ps ++ place_behind e.next []) (places_behind-reverse edges) ∙ sym (reverse-place_behind e.next (places_behind edges))))

-- nothing is behind what leads to no place
pub behind_none : (next : Next) → ((x : Place) → next ≡ To x → ⊥) → place_behind next [] ≡ []
behind_none (Over end) off = refl
behind_none (Both new old) off = refl
behind_none (To place) off = absurd (off place refl)

-- one edge more
pub behind_more : (old waiting : List ℕ) (es : List PlanEdge) (e : PlanEdge) (next : Next) → e.next ≡ next →
    waiting ≡ old ++ places_behind es → waiting ++ place_behind next [] ≡ old ++ places_behind (es ++ e ∷ [])
behind_more old waiting es e next is before =
    ap (λ ws. ws ++ place_behind next []) before
    ∙ (append_assoc old (places_behind es) (place_behind next [])
    ∙ ap (λ ps. old ++ ps) (ap (λ n. places_behind es ++ place_behind n []) (sym is) ∙ sym (places_behind-append es (e ∷ []))))
