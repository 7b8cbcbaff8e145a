-- The address that has the fewest Ready workers.
use Rattle.std.proofs.Common.{◌≡◌, ◌≤◌, ◌<◌, ℕ, ◌-◌, ◌^◌, Bool, count_by, true, false, min, unwrap_or, List, [], ◌∷◌}
use Rattle.std.proofs.Common.{Option, Some, None, refl, ap, subst, arith}
use Rattle.std.specs.Prelude.{if◌then◌else◌, nat_lt, Contains}
use Rattle.std.specs.Option.{option_map}
use Rattle.std.specs.List.{list_any, sum_by, AllByRecursion}
use Rattle.std.specs.FinMap.{find}
use Rattle.std.proofs.lemmas.Bool.Decides.{nat_tests}
use Rattle.std.proofs.lemmas.List.Elements.{All-contains_itself, recursion_from_All}
use Rattle.definitions.specs.Table.{Address, Generation, Table, has_address, IsSame, service}
use Rattle.call_laws.specs.Pieces.{is_live_with, is_serving_as}
use Rattle.kernel_service.specs.Services.{Counts, Services, address_cmp, count_at, at, AreCounts, IsService}
use Rattle.kernel_service.proofs.OrderedKeys.{All-find}
use Rattle.explorer.specs.Readiness.{is_ready_at, ready_at, listed_at, fewer, fewest_from, HaveAtLeast}
use Rattle.explorer.proofs.Totals.{total}

---- The listed service of a table

counted : (t : Table) (a : Address) (o : Option Counts) (offered : Bool) → ((cs : Counts) → o ≡ Some cs → AreCounts cs) →
    option_map count_at o ≡ (if offered then Some (λ g. count_by (is_serving_as a g) t.rows) else None) →
    min (sum_by (λ c. c.1) (unwrap_or o [])) (2 ^ 32 - 1) ≡ (if offered then min (count_by (is_ready_at a) t.rows) (2 ^ 32 - 1) else 0)
counted t a None true sound is = let none : ⊥ = cc in absurd none
counted t a None false sound is = refl
counted t a (Some cs) false sound is = let none : ⊥ = cc in absurd none
counted t a (Some cs) true sound is =
    ap (λ n. min n (2 ^ 32 - 1)) (total a cs t.rows (sound cs refl).ascending (λ g. ap (λ (o : Option (Generation → ℕ)). unwrap_or o (λ _. 0) g) is))

-- What is listed at an address are the Ready workers that it has.
pub listed-ready : (t : Table) (s : Services) → IsService s → IsSame (at s) (service t) → (a : Address) → listed_at s a ≡ ready_at t a
listed-ready t s sound same a =
    counted t a (find address_cmp a s) (list_any (is_live_with (has_address a)) t.rows) (λ cs found. All-find address_cmp AreCounts a cs s sound.counts found) (same a)

---- The fewest

module _ (s : Services) where
  abbrev IsBelow : ℕ → List Address → Type 0
  IsBelow n addresses = AllByRecursion (λ a. n ≤ listed_at s a) addresses

  fewer-below : (best : Address × ℕ) (a : Address) (n : ℕ) → ((fewer (Some best) a n).1 ≤ best.1) × ((fewer (Some best) a n).1 ≤ n)
  fewer-below best a n = here (nat_lt n best.1) refl
    where
      here : (b : Bool) → nat_lt n best.1 ≡ b → ((if b then (a, n) else best).1 ≤ best.1) × ((if b then (a, n) else best).1 ≤ n)
      here true e = (grind (arith, nat_tests), omega arith)
      here false e = (omega arith, grind (arith, nat_tests))

  -- None of the addresses has fewer.
  below : (best found : Address × ℕ) (addresses : List Address) → fewest_from s (Some best) addresses ≡ Some found →
      (found.1 ≤ best.1) × IsBelow found.1 addresses
  below best found [] is = (let same : best ≡ found = cc in subst (λ (x : Address × ℕ). x.1 ≤ best.1) same (omega arith), tt)
  below best found (a ∷ addresses) is =
      let next = fewer (Some best) a (listed_at s a) in
      let step = fewer-below best a (listed_at s a) in
      let rest = below next found addresses is in
      (omega (arith, rest.0, step.0), (omega (arith, rest.0, step.1), rest.1))

  pub fewest-below : (found : Address × ℕ) (addresses : List Address) → fewest_from s None addresses ≡ Some found → IsBelow found.1 addresses
  fewest-below found [] is = let none : ⊥ = cc in absurd none
  fewest-below found (a ∷ addresses) is = below (a, listed_at s a) found addresses is

  -- It is one of the addresses, with what is listed at it.
  one-of : (P : Address × ℕ → Type 0) (best found : Address × ℕ) (addresses : List Address) → P best →
      AllByRecursion (λ a. P (a, listed_at s a)) addresses → fewest_from s (Some best) addresses ≡ Some found → P found
  one-of P best found [] here all is = let same : best ≡ found = cc in subst P same here
  one-of P best found (a ∷ addresses) here all is = one-of P (fewer (Some best) a (listed_at s a)) found addresses (next (nat_lt (listed_at s a) best.1) here all.0) all.1 is
    where
      next : (b : Bool) → P best → P (a, listed_at s a) → P (if b then (a, listed_at s a) else best)
      next true old new = new
      next false old new = old

  pub fewest-one : (P : Address × ℕ → Type 0) (found : Address × ℕ) (addresses : List Address) →
      AllByRecursion (λ a. P (a, listed_at s a)) addresses → fewest_from s None addresses ≡ Some found → P found
  fewest-one P found [] all is = let none : ⊥ = cc in absurd none
  fewest-one P found (a ∷ addresses) all is = one-of P (a, listed_at s a) found addresses all.0 all.1 is

some-left : (s : Services) (best : Address × ℕ) (addresses : List Address) → fewest_from s (Some best) addresses ≡ None → ⊥
some-left s best [] is = cc
some-left s best (a ∷ addresses) is = some-left s (fewer (Some best) a (listed_at s a)) addresses is

pub fewest-none : (s : Services) (addresses : List Address) → fewest_from s None addresses ≡ None → addresses ≡ []
fewest-none s [] is = refl
fewest-none s (a ∷ addresses) is = absurd (some-left s (a, listed_at s a) addresses is)

---- In a table

pub fewer-needed : (t : Table) (low least : ℕ) (addresses : List Address) → least ≤ low → HaveAtLeast addresses t low → HaveAtLeast addresses t least
fewer-needed t low least [] le has = tt
fewer-needed t low least (a ∷ addresses) le has = (omega (arith, le, has.0), fewer-needed t low least addresses le has.1)

pub not-fewer : (low bound : ℕ) → nat_lt low bound ≡ false → bound ≤ low
not-fewer low bound is = grind (arith, nat_tests)

pub is-fewer : (low bound : ℕ) → nat_lt low bound ≡ true → low < bound
is-fewer low bound is = grind (arith, nat_tests)

elements : (addresses : List Address) → AllByRecursion (Contains addresses) addresses
elements addresses = recursion_from_All (Contains addresses) addresses (All-contains_itself addresses)

-- What was found at one of the addresses.
pub record IsFewestAt (t : Table) (addresses : List Address) (found : Address × ℕ) : Type 0 where
  pub all : HaveAtLeast addresses t found.1
  pub one : Contains addresses found.0
  pub ready : found.1 ≡ ready_at t found.0

module _ (t : Table) (s : Services) (sound : IsService s) (same : IsSame (at s) (service t)) where
  in-table : (n : ℕ) (addresses : List Address) → IsBelow s n addresses → HaveAtLeast addresses t n
  in-table n [] below = tt
  in-table n (a ∷ addresses) below = (subst (λ m. n ≤ m) (listed-ready t s sound same a) below.0, in-table n addresses below.1)

  pub fewest-at : (found : Address × ℕ) (addresses : List Address) → fewest_from s None addresses ≡ Some found → IsFewestAt t addresses found
  fewest-at found addresses is = record {
    all = in-table found.1 addresses (fewest-below s found addresses is);
    one = (fewest-one s (λ x. Contains addresses x.0 × (x.1 ≡ ready_at t x.0)) found addresses (every addresses (elements addresses)) is).0;
    ready = (fewest-one s (λ x. Contains addresses x.0 × (x.1 ≡ ready_at t x.0)) found addresses (every addresses (elements addresses)) is).1;
  }
    where
      every : (more : List Address) → AllByRecursion (Contains addresses) more →
          AllByRecursion (λ a. Contains addresses a × (listed_at s a ≡ ready_at t a)) more
      every [] all = tt
      every (a ∷ more) all = ((all.0, listed-ready t s sound same a), every more all.1)
