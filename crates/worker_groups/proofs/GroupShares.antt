-- Sums of groups, and whose share a number falls into.
use Rattle.std.proofs.Common.{◌≡◌, ◌≢◌, ℕ, zero, suc, ◌+◌, ◌-◌, ◌<◌, ◌≤◌, ◌==◌, nat_lt, Bool, true, false, List, [], ◌∷◌, ◌++◌, Some, None, length, get_or, set, map, take, drop, refl, ap, ◌∙◌, arith}
use Rattle.std.specs.Prelude.{if◌then◌else◌}
use Rattle.std.proofs.lemmas.Bool.{lt-ltb, le-ltb, ltb-false}
use Rattle.std.proofs.lemmas.Bool.Decides.{nat_tests}
use Rattle.std.proofs.lemmas.List.{take_more, take_more_set, length-append}
use Rattle.std.proofs.lemmas.List.Sums.{sum_by_push, sum_by-take-le}
use Rattle.std.specs.List.{sum_by, AllByRecursion}
use Rattle.worker_groups.specs.declared.groups.Share.{Share}
use Rattle.worker_groups.specs.declared.groups.Share.TheVariants.{Addresses, Workers}
use Rattle.worker_groups.specs.declared.groups.GroupRefusal.TheVariants.{TooMany, NoAddress, TooManyAddresses, TooManyWorkers}
use Rattle.worker_groups.specs.Groups.{Group, size_in, part_of, addresses_in, workers_in, AreGroups, AreKept, group_refused}
use Rattle.listener_set.specs.PaddedLemmas.{length-padded}
use Rattle.listener_set.proofs.PaddedLists.{set-padded}

-- ---- sums

pub sum-next : (f : Group → ℕ) (gs : List Group) (i : ℕ) (d : Group) → i < length gs → sum_by f (take (i + 1) gs) ≡ sum_by f (take i gs) + f (get_or gs i d)
sum-next f gs i d within = ap (sum_by f) (take_more gs i d within) ∙ sum_by_push f (take i gs) (get_or gs i d)

pub sum-most : (share : Share) (gs : List Group) → AreGroups gs → sum_by (size_in share) gs ≤ 1024
sum-most Addresses gs h = omega (arith, h.addresses)
sum-most Workers gs h = h.workers

-- one group more passes no limit
pub sum-fits : (share : Share) (gs : List Group) (i : ℕ) (d : Group) → AreGroups gs → i < length gs → sum_by (size_in share) (take i gs) + size_in share (get_or gs i d) ≤ 1024
sum-fits share gs i d h within = omega (arith, sum-next (size_in share) gs i d within, sum_by-take-le (size_in share) gs (i + 1), sum-most share gs h)

-- ---- parts

-- a number that is below the first part's size falls into it, where there is another part
pub part-first : (size next : ℕ) (sizes : List ℕ) (n : ℕ) → n < size → part_of (size ∷ next ∷ sizes) n ≡ 0
part-first size next sizes n low = rw (lt-ltb n size low) refl

pub part-later : (size next : ℕ) (sizes : List ℕ) (n : ℕ) → size ≤ n → part_of (size ∷ next ∷ sizes) n ≡ part_of (next ∷ sizes) (n - size) + 1
part-later size next sizes n high = rw (le-ltb n size high) refl

-- what is left from a place on that is not the last one
pub part-here : (f : Group → ℕ) (gs : List Group) (i : ℕ) (d : Group) (n : ℕ) → i + 1 < length gs → n < f (get_or gs i d) → part_of (map f (drop i gs)) n ≡ 0
part-here f [] i d n within low = absurd (omega arith)
part-here f (g ∷ []) i d n within low = absurd (omega arith)
part-here f (g ∷ h ∷ gs) zero d n within low = part-first (f g) (f h) (map f gs) n low
part-here f (g ∷ h ∷ gs) (suc i) d n within low = part-here f (h ∷ gs) i d n (omega (arith, within)) low

pub part-past : (f : Group → ℕ) (gs : List Group) (i : ℕ) (d : Group) (n : ℕ) → i + 1 < length gs → f (get_or gs i d) ≤ n → part_of (map f (drop i gs)) n ≡ part_of (map f (drop (suc i) gs)) (n - f (get_or gs i d)) + 1
part-past f [] i d n within high = absurd (omega arith)
part-past f (g ∷ []) i d n within high = absurd (omega arith)
part-past f (g ∷ h ∷ gs) zero d n within high = part-later (f g) (f h) (map f gs) n high
part-past f (g ∷ h ∷ gs) (suc i) d n within high = part-past f (h ∷ gs) i d n (omega (arith, within)) high

-- the last part takes what is left
pub part-last : (f : Group → ℕ) (gs : List Group) (i n : ℕ) → length gs ≤ i + 1 → part_of (map f (drop i gs)) n ≡ 0
part-last f [] zero n past = refl
part-last f [] (suc i) n past = refl
part-last f (g ∷ []) zero n past = refl
part-last f (g ∷ h ∷ gs) zero n past = absurd (omega arith)
part-last f (g ∷ gs) (suc i) n past = part-last f gs i n (omega (arith, past))

-- ---- one group more

pub record Fits (gs : List Group) (g : Group) : Type 0 where
  pub few : length gs ≢ 16
  pub listens : 1 ≤ g.addresses
  pub addresses : addresses_in gs + g.addresses ≤ 64
  pub workers : workers_in gs + g.workers ≤ 1024

not-equal : (n k : ℕ) → (n == k) ≡ false → n ≢ k
not-equal n k e = grind (arith, nat_tests)

pub fits-where : (gs : List Group) (g : Group) → group_refused gs g ≡ None → Fits gs g
fits-where gs g = go (length gs == 16) refl (g.addresses == 0) refl (nat_lt 64 (addresses_in gs + g.addresses)) refl (nat_lt 1024 (workers_in gs + g.workers)) refl
  where
    go : (a : Bool) → (length gs == 16) ≡ a → (b : Bool) → (g.addresses == 0) ≡ b → (c : Bool) → nat_lt 64 (addresses_in gs + g.addresses) ≡ c → (d : Bool) → nat_lt 1024 (workers_in gs + g.workers) ≡ d
        → (if a then Some TooMany else if b then Some NoAddress else if c then Some TooManyAddresses else if d then Some TooManyWorkers else None) ≡ None → Fits gs g
    go true ea b eb c ec d ed e = absurd (cc e)
    go false ea true eb c ec d ed e = absurd (cc e)
    go false ea false eb true ec d ed e = absurd (cc e)
    go false ea false eb false ec true ed e = absurd (cc e)
    go false ea false eb false ec false ed e = record {
      few = not-equal (length gs) 16 ea;
      listens = omega (arith, not-equal g.addresses 0 eb);
      addresses = ltb-false 64 (addresses_in gs + g.addresses) ec;
      workers = ltb-false 1024 (workers_in gs + g.workers) ed;
    }

-- where it keeps the rules, none of them refuses it
pub none-where : (gs : List Group) (g : Group) → Fits gs g → group_refused gs g ≡ None
none-where gs g fits =
    let few : (length gs == 16) ≡ false = grind (arith, nat_tests, fits.few) in
    let some : (g.addresses == 0) ≡ false = grind (arith, nat_tests, fits.listens) in
    rw (few, some, le-ltb 64 (addresses_in gs + g.addresses) fits.addresses, le-ltb 1024 (workers_in gs + g.workers) fits.workers) refl

listens-more : (gs : List Group) (g : Group) → AllByRecursion (λ (x : Group). 1 ≤ x.addresses) gs → 1 ≤ g.addresses → AllByRecursion (λ (x : Group). 1 ≤ x.addresses) (gs ++ g ∷ [])
listens-more [] g all here = (here, tt)
listens-more (x ∷ gs) g all here = (all.0, listens-more gs g all.1 here)

pub groups-more : (gs : List Group) (g : Group) → AreGroups gs → Fits gs g → AreGroups (gs ++ g ∷ [])
groups-more gs g h fits = record {
  some = omega (arith, length-append gs (g ∷ []));
  most = omega (arith, length-append gs (g ∷ []), h.most, fits.few);
  listening = listens-more gs g h.listening fits.listens;
  addresses = omega (arith, sum_by_push (λ (x : Group). x.addresses) gs g, fits.addresses);
  workers = omega (arith, sum_by_push (λ (x : Group). x.workers) gs g, fits.workers);
}

pub groups-kept : (items : List Group) (len : ℕ) (g : Group) → AreKept items len → group_refused (take len items) g ≡ None → AreKept (set items len g) (len + 1)
groups-kept items len g h ok =
    let fits = fits-where (take len items) g ok in
    let room : len < 16 = omega (arith, length-padded h.padded, h.padded.fits, fits.few) in
    record {
      padded = set-padded g h.padded room;
      groups = rw (take_more_set items len g (omega (arith, h.padded.size))) (groups-more (take len items) g h.groups fits);
    }
