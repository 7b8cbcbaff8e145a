-- The addresses and the descriptors of groups, one after another.
use Rattle.std.proofs.Common.{◌≡◌, ℕ, zero, suc, ◌+◌, ◌<◌, ◌≤◌, ◌||◌, List, [], ◌∷◌, ◌++◌, map, length, take, drop, get_or, set, refl, sym, ap, ◌∙◌, arith}
use Rattle.std.specs.Prelude.{bytes_eq}
use Rattle.std.proofs.lemmas.List.{take_more, take_more_set, take_all, drop_more}
use Rattle.worker_groups.specs.declared.groups.Group.{Group}
use Rattle.listener_set.specs.AddressList.{has}
use Rattle.vocabulary.specs.declared.table.Listener.{Listener}
use Rattle.definitions.specs.Table.{Address}
use Rattle.definitions.specs.After.{listens_on, descriptors_at, descriptors_by, posts_of}
use Rattle.definitions.specs.Master.{addresses_of_group, Posts}

-- what is listened on is an address of a listener
pub listens-has : (ls : List Listener) (a : Address) → listens_on ls a ≡ has (map (λ (l : Listener). l.address) ls) a
listens-has [] a = refl
listens-has (l ∷ ls) a = ap (λ b. bytes_eq l.address a || b) (listens-has ls a)

---- The addresses of a group

module _ (gs : List Group) (i : ℕ) (none : Group) (within : i < length gs) where
  pub own-addresses : (rest : List Address) → addresses_of_group (drop i gs) rest 0 ≡ take (get_or gs i none).addresses rest
  own-addresses rest = ap (λ hs. addresses_of_group hs rest 0) (drop_more gs i none within)

  pub later-addresses : (rest : List Address) (k : ℕ) →
      addresses_of_group (drop i gs) rest (suc k)
      ≡ addresses_of_group (drop (i + 1) gs) (drop (get_or gs i none).addresses rest) k
  later-addresses rest k = ap (λ hs. addresses_of_group hs rest (suc k)) (drop_more gs i none within)

---- The descriptors of groups

by-place : (gs : List Group) (addresses : List Address) (ls : List Listener) (i : ℕ) → i < length gs →
    get_or (descriptors_by gs addresses ls) i [] ≡ descriptors_at ls (addresses_of_group gs addresses i)
by-place [] addresses ls i within = absurd (let none : i < 0 = within in omega arith)
by-place (g ∷ gs) addresses ls zero within = refl
by-place (g ∷ gs) addresses ls (suc i) within = by-place gs (drop g.addresses addresses) ls i (omega (arith, within))

length-by : (gs : List Group) (addresses : List Address) (ls : List Listener) → length (descriptors_by gs addresses ls) ≡ length gs
length-by [] addresses ls = refl
length-by (g ∷ gs) addresses ls = ap suc (length-by gs (drop g.addresses addresses) ls)

module _ (gs : List Group) (addresses : List Address) (ls : List Listener) where
  -- one group more has its descriptors
  pub posted-more : (ds : List (List ℕ)) (i : ℕ) (own : List ℕ) → i < length gs → length ds ≡ length gs →
      take i ds ≡ take i (descriptors_by gs addresses ls) → own ≡ descriptors_at ls (addresses_of_group gs addresses i)
      → take (i + 1) (set ds i own) ≡ take (i + 1) (descriptors_by gs addresses ls)
  posted-more ds i own within long so is =
      let all : List (List ℕ) = descriptors_by gs addresses ls in
      take_more_set ds i own (omega (arith, within, long))
      ∙ ap (λ xs. xs ++ own ∷ []) so
      ∙ ap (λ x. take i all ++ x ∷ []) (is ∙ sym (by-place gs addresses ls i within))
      ∙ sym (take_more all i [] (omega (arith, within, length-by gs addresses ls)))

  -- and then all have
  pub posted-all : (p : Posts) (i : ℕ) → p.groups ≡ gs → length p.descriptors ≡ length gs →
      take i p.descriptors ≡ take i (descriptors_by gs addresses ls) → length gs ≤ i → p ≡ posts_of gs addresses ls
  posted-all p i groups long so past =
      let all : List (List ℕ) = descriptors_by gs addresses ls in
      let each : p.descriptors ≡ all = sym (take_all i p.descriptors (omega (arith, long, past))) ∙ so ∙ take_all i all (omega (arith, length-by gs addresses ls, past)) in
      (λ j. record { groups = groups j; descriptors = each j })
