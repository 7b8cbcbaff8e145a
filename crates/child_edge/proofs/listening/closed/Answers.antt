use Rattle.std.proofs.Common.{◌≡◌, ℕ, Bool, true, false, not, ◌&&◌, ◌||◌, List, [], ◌∷◌, map, refl, ap, ◌∙◌, cond}
use Rattle.std.specs.Prelude.{bytes_eq, filter}
use Rattle.std.specs.Cmp.Lexicographic.{nat_list_eq_equiv}
use Rattle.std.proofs.Math.Bool.{or-true, and-true}
use Rattle.std.proofs.lemmas.Slice.Eq.{bytes_eq-Decides}
use Rattle.std.proofs.lemmas.Map.Views.{any-filter_same}
use Rattle.listener_set.specs.AddressList.{has}
use Rattle.vocabulary.specs.declared.table.Listener.{Listener}
use Rattle.child_edge.specs.Table.{closed}
use Rattle.child_edge.proofs.listening.closed.Goals as goal

abbrev addresses : List Listener → List (List ℕ)
addresses ls = map (λ (l : Listener). l.address) ls

-- each address of the listeners is in the list
abbrev AreIn : List (List ℕ) → List Listener → Type 0
AreIn all [] = Unit {0}
AreIn all (l ∷ ls) = (has all l.address ≡ true) × AreIn all ls

more-in : (y : List ℕ) (all : List (List ℕ)) (ls : List Listener) → AreIn all ls → AreIn (y ∷ all) ls
more-in y all [] h = tt
more-in y all (l ∷ ls) h = (ap (λ b. bytes_eq y l.address || b) h.0 ∙ or-true (bytes_eq y l.address), more-in y all ls h.1)

all-in : (ls : List Listener) → AreIn (addresses ls) ls
all-in [] = tt
all-in (l ∷ ls) = (ap (λ b. b || has (addresses ls) l.address) ((bytes_eq-Decides l.address l.address).1 refl), more-in l.address (addresses ls) ls (all-in ls))

-- whether an address is another one
abbrev is_other : List ℕ → List ℕ → Bool
is_other a b = not (has (a ∷ []) b)

turned : (x y : List ℕ) → bytes_eq x y ≡ bytes_eq y x
turned x y = nat_list_eq_equiv.symm x y

other-is : (a x : List ℕ) → is_other a x ≡ not (bytes_eq x a)
other-is a x = ap not (or-false (bytes_eq a x) ∙ turned a x)
  where
    or-false : (b : Bool) → (b || false) ≡ b
    or-false true = refl
    or-false false = refl

found-other : (a x : List ℕ) (all : List (List ℕ)) → has all x ≡ true → has (filter (is_other a) all) x ≡ not (bytes_eq x a)
found-other a x all h =
    any-filter_same (λ y. bytes_eq y x) (is_other a) (is_other a x) (λ k e. ap (is_other a) ((bytes_eq-Decides k x).0 e)) all
    ∙ (ap (λ b. is_other a x && b) h ∙ (and-true (is_other a x) ∙ other-is a x))

kept-others : (a : List ℕ) (all : List (List ℕ)) (ls : List Listener) → AreIn all ls →
    filter (λ (l : Listener). has (filter (is_other a) all) l.address) ls ≡ closed a ls
kept-others a all [] h = refl
kept-others a all (l ∷ ls) h =
    let rest = kept-others a all ls h.1 in
    ap (λ b. cond b (l ∷ filter (λ (x : Listener). has (filter (is_other a) all) x.address) ls) (filter (λ (x : Listener). has (filter (is_other a) all) x.address) ls)) (found-other a l.address all h.0)
    ∙ ap (λ more. cond (not (bytes_eq l.address a)) (l ∷ more) more) rest

pub returns : goal.returns
returns c =
    let a = c.args.address.now in
    let ls = c.args.listeners.now in
    let others : c.only_in-others.result ≡ filter (is_other a) (addresses ls) = rw (c.only_in-others.ensures, c.addresses.ensures, c.single-one.ensures) refl in
    rw (c.kept.ensures, others) (kept-others a (addresses ls) ls (all-in ls))
