-- Holds and listeners compared one by one.
use Rattle.std.proofs.Common.{◌≡◌, ℕ, ◌+◌, ◌<◌, List, ◌∷◌, map, length, get_or, drop, sym, ap, ◌∙◌}
use Rattle.std.proofs.lemmas.List.{drop_more}
use Rattle.definitions.specs.Table.{Address}
use Rattle.vocabulary.specs.declared.table.Listener.{Listener}
use Rattle.call_laws.specs.Pieces.{listener_of}
use Rattle.kernel_rows.specs.Holds.{seen_hold, seen_holds}

pub drop-item : {X : Type 0} (xs : List X) (i : ℕ) (x : X) → i < length xs → x ≡ get_or xs i x → drop i xs ≡ x ∷ drop (i + 1) xs
drop-item xs i x lt is = drop_more xs i x lt ∙ ap (λ y. y ∷ drop (i + 1) xs) (sym is)

module _ (addresses : List Address) (listeners : List Listener) (pairs rest : List (ℕ × ℕ)) (p : ℕ × ℕ) (i : ℕ)
    (l : Listener) (turn : pairs ≡ p ∷ rest) (lt : i < length listeners) (item : l ≡ get_or listeners i l) where
  -- the next pair is the next listener, and the others are the others
  pub next_listeners : map listener_of (seen_holds addresses pairs) ≡ drop i listeners →
      (listener_of (seen_hold addresses p) ≡ l) × (map listener_of (seen_holds addresses rest) ≡ drop (i + 1) listeners)
  next_listeners e =
      let all : listener_of (seen_hold addresses p) ∷ map listener_of (seen_holds addresses rest) ≡ l ∷ drop (i + 1) listeners =
      ap (λ ps. map listener_of (seen_holds addresses ps)) (sym turn) ∙ e ∙ drop-item listeners i l lt item in
      (cc, cc)

  pub all_listeners : listener_of (seen_hold addresses p) ≡ l →
      map listener_of (seen_holds addresses rest) ≡ drop (i + 1) listeners →
      map listener_of (seen_holds addresses pairs) ≡ drop i listeners
  all_listeners first others =
      ap (λ ps. map listener_of (seen_holds addresses ps)) turn
      ∙ (λ j. first j ∷ others j)
      ∙ sym (drop-item listeners i l lt item)
