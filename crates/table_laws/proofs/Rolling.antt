-- Who stays and who quits at a step.
use Rattle.std.proofs.Common.{◌≡◌, ℕ, ◌+◌, ◌≤◌, Bool, true, false, cond, not, List, [], ◌∷◌, ◌++◌, length, refl, ap, subst, arith}
use Rattle.std.specs.Prelude.{filter, ◌&&◌, ◌||◌, ◌==◌, count_by, if◌then◌else◌, bytes_eq}
use Rattle.std.proofs.lemmas.Bool.Decides.{nat_tests}
use Rattle.std.proofs.lemmas.List.Sums.{length-filter}
use Rattle.listener_set.specs.Numbers.{is_in, lacks}
use Rattle.listener_set.specs.AddressList.{has}
use Rattle.vocabulary.specs.Settings.{Settings}
use Rattle.definitions.specs.Table.{Address}
use Rattle.definitions.specs.Master.{Record, addresses_of, layout_in, group_of}
use Rattle.definitions.specs.Plans.{without, staying, every, is_enough}
use Rattle.table_laws.proofs.Counts.{Distinct, filter-distinct}
use Rattle.table_laws.proofs.Sets.{Within, in-filter-of, in-filter-on, filter-both, shorter}
use Rattle.table_laws.proofs.Small.{not-is}
use Rattle.table_laws.proofs.Addresses.{same-address}
use Rattle.call_laws.proofs.Choices.{and-left, and-right}

-- Those that stay are among those that were left, each once, and enough where those were.
pub record Stays (fits : List ℕ → Bool) (left stay : List ℕ) : Type 0 where
  pub distinct : Distinct stay
  pub within : Within stay left
  pub enough : fits left ≡ true → fits stay ≡ true

pub stays : (enough : List ℕ → Bool) (left ks : List ℕ) → Distinct left → Stays enough left (staying enough left ks)
stays enough left [] d = record { distinct = d; within = λ k e. e; enough = λ e. e }
stays enough left (k ∷ ks) d =
    go (enough (without k left)) refl (stays enough (without k left) ks (filter-distinct (λ j. not (j == k)) left d)) (stays enough left ks d)
  where
    go :
        (b : Bool) → enough (without k left) ≡ b → Stays enough (without k left) (staying enough (without k left) ks) →
        Stays enough left (staying enough left ks) → Stays enough left (if b then staying enough (without k left) ks else staying enough left ks)
    go true e s t =
        record {
          distinct = s.distinct;
          within = λ j on. (in-filter-of (λ i. not (i == k)) left j (s.within j on)).0;
          enough = λ was. s.enough e;
        }
    go false e s t = t

-- The others quit: each of both stands in one of the lists, and together they are as many.
pub record Parted (left stay quit : List ℕ) : Type 0 where
  pub distinct : Distinct quit
  pub within : Within quit left
  pub apart : (k : ℕ) → is_in quit k ≡ true → is_in stay k ≡ false
  pub either : (k : ℕ) → is_in left k ≡ true → is_in quit k ≡ false → is_in stay k ≡ true
  pub sum : length stay + length quit ≡ length left

pub parted : (left stay : List ℕ) → Distinct left → Distinct stay → Within stay left → Parted left stay (lacks left stay)
parted left stay d ds w =
    let quits = lacks left stay in
    let test = λ (k : ℕ). not (is_in stay k) in
    let both = filter-both (is_in stay) left in
    let more = shorter stay (filter (is_in stay) left) ds (λ k e. in-filter-on (is_in stay) left k (w k e) e) in
    let less =
    shorter (filter (is_in stay) left) stay (filter-distinct (is_in stay) left d)
    (λ k e. (in-filter-of (is_in stay) left k e).1) in
    record {
      distinct = filter-distinct test left d;
      within = λ k e. (in-filter-of test left k e).0;
      apart = λ k e. not-is (is_in stay k) (in-filter-of test left k e).1;
      either = λ k e off. on k (is_in stay k) refl e off;
      sum = omega (arith, both, more, less);
    }
  where
    on : (k : ℕ) (b : Bool) → is_in stay k ≡ b → is_in left k ≡ true → is_in (lacks left stay) k ≡ false → b ≡ true
    on k true e l off = refl
    on k false e l off =
        let in_it = in-filter-on (λ j. not (is_in stay j)) left k l (ap not e) in
        absurd (cc)

---- Enough

every-all : (test : Address → Bool) (l : List Address) → ((a : Address) → test a ≡ true) → every test l ≡ true
every-all test [] h = refl
every-all test (a ∷ l) h = go (test a) (every test l) (h a) (every-all test l h)
  where
    go : (x y : Bool) → x ≡ true → y ≡ true → (x && y) ≡ true
    go true true e f = refl
    go true false e f = cc
    go false y e f = cc

both : (x y : Bool) → x ≡ true → y ≡ true → (x && y) ≡ true
both true true e f = refl
both true false e f = cc
both false y e f = cc

pub every-more : (test more : Address → Bool) (l : List Address) → ((a : Address) → test a ≡ true → more a ≡ true) → every test l ≡ true → every more l ≡ true
every-more test more [] h e = refl
every-more test more (a ∷ l) h e =
    both (more a) (every more l) (h a (and-left (test a) _ e)) (every-more test more l h (and-right (test a) _ e))

pub every-at : (test : Address → Bool) (l : List Address) → every test l ≡ true → (a : Address) → has l a ≡ true → test a ≡ true
every-at test [] e a on = absurd (cc)
every-at test (b ∷ l) e a on = go (bytes_eq b a) refl on (every-at test l (and-right (test b) _ e) a)
  where
    go : (x : Bool) → bytes_eq b a ≡ x → (x || has l a) ≡ true → (has l a ≡ true → test a ≡ true) → test a ≡ true
    go true same on rest = subst (λ c. test c ≡ true) (same-address b a same) (and-left (test b) _ e)
    go false same on rest = rest on

filter-more : (p : ℕ → Bool) (xs ys : List ℕ) → length (filter p ys) ≤ length (filter p (xs ++ ys))
filter-more p [] ys = omega arith
filter-more p (x ∷ xs) ys = go (p x) (filter-more p xs ys)
  where
    go : (b : Bool) → length (filter p ys) ≤ length (filter p (xs ++ ys)) → length (filter p ys) ≤ length (cond b (x ∷ filter p (xs ++ ys)) (filter p (xs ++ ys)))
    go true h = omega arith
    go false h = omega arith

count-more : (p : ℕ → Bool) (xs ys : List ℕ) → count_by p ys ≤ count_by p (xs ++ ys)
count-more p xs ys = omega (arith, filter-more p xs ys, length-filter p ys, length-filter p (xs ++ ys))

-- At first all are left, and with more new ones they are still enough.
pub enough-first : (r : Record) (s : Settings) → is_enough r s [] r.ready ≡ true
enough-first r s = every-all _ (addresses_of r) (λ a. grind (arith, nat_tests))

pub enough-more : (r : Record) (s : Settings) (more started left : List ℕ) → is_enough r s started left ≡ true → is_enough r s (more ++ started) left ≡ true
enough-more r s more started left e =
    every-more _ _ (addresses_of r)
    (λ a on. let m = count-more (λ k. (layout_in s.groups s.listeners).listens (group_of s.groups k) a) more started in grind (arith, nat_tests, on)) e
