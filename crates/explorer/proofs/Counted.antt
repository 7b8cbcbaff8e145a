-- Runs, counted one after another.
use Rattle.std.proofs.Common.{◌≡◌, ◌<◌, ◌+◌, ℕ, Bool, List, [], ◌∷◌, ◌++◌, map, length, drop, get_or, refl, ap, sym, ◌∙◌}
use Rattle.std.proofs.lemmas.List.{drop_more, append_assoc}
use Rattle.vocabulary.specs.declared.targets.Target.{Target}
use Rattle.definitions.specs.Table.{Table}
use Rattle.definitions.specs.Master.{Record}
use Rattle.definitions.specs.Plans.{Turn}
use Rattle.explorer.specs.declared.events.Event.{Event}
use Rattle.explorer.specs.declared.events.Mishap.{Mishap}
use Rattle.explorer.specs.declared.events.Tried.{Tried}
use Rattle.explorer.specs.declared.events.Tried.TheVariants.{Two}
use Rattle.explorer.specs.declared.tally.Tally.{Tally}
use Rattle.explorer.specs.Tallies.{counted}
use Rattle.explorer.specs.Events.{event_at}
use Rattle.explorer.specs.Explored.{report_under, with_runs, with_pairs, each_with_pairs}
use Rattle.explorer.proofs.Turning.{IsCounting}

module _ (r : Record) (to : Target) (turns : List Turn) (t : Table) where
  pub with_runs-append : (xs ys : List Tried) (tally : Tally) →
      with_runs r to turns t (xs ++ ys) tally ≡ with_runs r to turns t ys (with_runs r to turns t xs tally)
  with_runs-append [] ys tally = refl
  with_runs-append (x ∷ xs) ys tally = with_runs-append xs ys (counted x (report_under r to turns t x).outcome tally)

  pub with_runs-map : (f : Event → Tried) (xs ys : List Event) (tally : Tally) →
      with_runs r to turns t (map f (xs ++ ys)) tally
      ≡ with_runs r to turns t (map f ys) (with_runs r to turns t (map f xs) tally)
  with_runs-map f [] ys tally = refl
  with_runs-map f (x ∷ xs) ys tally = with_runs-map f xs ys (counted (f x) (report_under r to turns t (f x)).outcome tally)

  pub each-append : (pairs : Bool) (xs ys : List Event) →
      each_with_pairs r to turns t pairs (xs ++ ys)
      ≡ each_with_pairs r to turns t pairs xs ++ each_with_pairs r to turns t pairs ys
  each-append pairs [] ys = refl
  each-append pairs (x ∷ xs) ys =
      ap (λ zs. with_pairs r to turns t pairs x ++ zs) (each-append pairs xs ys)
      ∙ sym (append_assoc (with_pairs r to turns t pairs x) (each_with_pairs r to turns t pairs xs) (each_with_pairs r to turns t pairs ys))

  with_runs-each : (pairs : Bool) (xs ys : List Event) (tally : Tally) →
      with_runs r to turns t (each_with_pairs r to turns t pairs (xs ++ ys)) tally
      ≡ with_runs r to turns t (each_with_pairs r to turns t pairs ys)
      (with_runs r to turns t (each_with_pairs r to turns t pairs xs) tally)
  with_runs-each pairs xs ys tally =
      ap (λ zs. with_runs r to turns t zs tally) (each-append pairs xs ys) ∙ with_runs-append (each_with_pairs r to turns t pairs xs) (each_with_pairs r to turns t pairs ys) tally

  -- a turn of the loop over what can go wrong second
  pub pairs-turn : (f : Event → Tried) (n : ℕ) (ms : List Mishap) (i : ℕ) (d : Mishap) (tally after : Tally) →
      i < length ms → after ≡ with_runs r to turns t (f (event_at n (get_or ms i d)) ∷ []) tally →
      with_runs r to turns t (map f (map (event_at n) (drop (i + 1) ms))) after ≡ with_runs r to turns t (map f (map (event_at n) (drop i ms))) tally
  pairs-turn f n ms i d tally after within is =
      ap (with_runs r to turns t (map f (map (event_at n) (drop (i + 1) ms)))) is
      ∙ sym (ap (λ xs. with_runs r to turns t (map f (map (event_at n) xs)) tally) (drop_more ms i d within))

  -- a turn of the loop over what can go wrong first
  pub firsts-turn : (pairs : Bool) (n : ℕ) (ms : List Mishap) (i : ℕ) (d : Mishap) (tally after : Tally) →
      i < length ms → after ≡ with_runs r to turns t
      (with_pairs r to turns t pairs (event_at n (get_or ms i d))) tally →
      with_runs r to turns t (each_with_pairs r to turns t pairs (map (event_at n) (drop (i + 1) ms))) after
      ≡ with_runs r to turns t (each_with_pairs r to turns t pairs (map (event_at n) (drop i ms))) tally
  firsts-turn pairs n ms i d tally after within is =
      ap (with_runs r to turns t (each_with_pairs r to turns t pairs (map (event_at n) (drop (i + 1) ms)))) is
      ∙ sym (with_runs-append (with_pairs r to turns t pairs (event_at n (get_or ms i d))) (each_with_pairs r to turns t pairs (map (event_at n) (drop (i + 1) ms))) tally)
      ∙ sym (ap (λ xs. with_runs r to turns t (each_with_pairs r to turns t pairs (map (event_at n) xs)) tally) (drop_more ms i d within))

  -- events, each counted as the second one of a pair
  abbrev pub with-second : Event → List Event → Tally → Tally
  with-second first es tally = with_runs r to turns t (map (Two first) es) tally

  pub seconds-counting : (first : Event) → IsCounting (with-second first)
  seconds-counting first = record { none = λ tally. refl; splits = with_runs-map (Two first) }

  -- events, each counted as the first one
  abbrev pub with-first : Bool → List Event → Tally → Tally
  with-first pairs es tally = with_runs r to turns t (each_with_pairs r to turns t pairs es) tally

  pub firsts-counting : (pairs : Bool) → IsCounting (with-first pairs)
  firsts-counting pairs = record { none = λ tally. refl; splits = with_runs-each pairs }
