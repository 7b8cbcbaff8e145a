-- Calls that are tried until one fails are forks, or opens.
use Rattle.std.proofs.Common.{◌≡◌, ℕ, ◌+◌, List, [], ◌∷◌, length, map, take, drop, reverse, Option, Some, None}
use Rattle.std.proofs.Common.{slice_get, option_map, refl, sym, ◌∙◌, ap, arith}
use Rattle.std.proofs.lemmas.List.{take_all, drop_all, length-map, reverse-append}
use Rattle.std.proofs.lemmas.Option.{slice_get-map}
use Rattle.definitions.specs.Table.{Address}
use Rattle.definitions.specs.Calls.{Call, OpenAt}
use Rattle.definitions.specs.Master.{Crew, fork_of}
use Rattle.definitions.specs.Run.{Tree}
use Rattle.definitions.specs.Plans.{either, forks, opens}
use Rattle.rollback_plan.proofs.Lists.{take_at, drop_at}
use Rattle.plan_pieces.specs.Pieces.{IsAttempted}

module _ {X : Type 0} (by : ℕ) (call : X → Call) (tree : List X → List X → Tree) (bad : List X → Tree)
    (more : (x : X) (xs done : List X) → either by (call x) [] (tree xs (x ∷ done)) (bad done) ≡ tree (x ∷ xs) done)
    (xs : List X) where
  -- one call more
  one : (i : ℕ) (c : Call) (o : Option X) → slice_get xs i ≡ o → option_map call o ≡ Some c →
      either by c [] (tree (drop (i + 1) xs) (reverse (take (i + 1) xs))) (bad (reverse (take i xs)))
      ≡ tree (drop i xs) (reverse (take i xs))
  one i c None at is = cc
  one i c (Some x) at is =
      let same : call x ≡ c = cc in
      let done : reverse (take (i + 1) xs) ≡ x ∷ reverse (take i xs) = ap reverse (take_at xs i x at) ∙ reverse-append (take i xs) (x ∷ []) in
      ap (λ d. either by d [] (tree (drop (i + 1) xs) (reverse (take (i + 1) xs))) (bad (reverse (take i xs)))) (sym same)
      ∙ (ap (λ ys. either by (call x) [] (tree (drop (i + 1) xs) ys) (bad (reverse (take i xs)))) done
      ∙ (more x (drop (i + 1) xs) (reverse (take i xs)) ∙ ap (λ ys. tree ys (reverse (take i xs))) (sym (drop_at xs i x at))))

  attempted : (rest : Tree) → tree [] (reverse xs) ≡ rest →
      IsAttempted by (map call xs) rest (λ i. bad (reverse (take i xs))) (λ i. tree (drop i xs) (reverse (take i xs)))
  attempted rest e =
      record {
        last =
            ap (λ n. tree (drop n xs) (reverse (take n xs))) (length-map xs call)
            ∙ (ap (λ ys. tree ys (reverse (take (length xs) xs))) (drop_all (length xs) xs (omega arith)) ∙ (ap (λ ys. tree [] (reverse ys)) (take_all (length xs) xs (omega arith)) ∙ e));
        each = λ i c at. one i c (slice_get xs i) refl (sym (slice_get-map call xs i) ∙ at);
      }

pub forks_attempted : (by : ℕ) (crew : Crew) (ks : List ℕ) (rest : Tree) (ok bad : List ℕ → Tree) → ok (reverse ks) ≡ rest
    → IsAttempted by (map (fork_of crew) ks) rest (λ i. bad (reverse (take i ks))) (λ i. forks by crew (drop i ks) (reverse (take i ks)) ok bad)
forks_attempted by crew ks rest ok bad e = attempted by (fork_of crew) (λ more done. forks by crew more done ok bad) bad (λ k more done. refl) ks rest e

pub opens_attempted : (by : ℕ) (xs : List Address) (rest : Tree) (ok bad : List Address → Tree) → ok (reverse xs) ≡ rest
    → IsAttempted by (map OpenAt xs) rest (λ i. bad (reverse (take i xs))) (λ i. opens by (drop i xs) (reverse (take i xs)) ok bad)
opens_attempted by xs rest ok bad e = attempted by OpenAt (λ more done. opens by more done ok bad) bad (λ x more done. refl) xs rest e
