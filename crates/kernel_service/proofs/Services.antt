-- Services and their counts.
use Rattle.std.proofs.Common.{◌≡◌, ℕ, ◌≤◌, Bool, true, false, cond, ltb, Option, Some, None, unwrap_or, IfSome, bytes_eq, refl, ap, ◌∙◌, inl, inr, arith}
use Rattle.std.specs.Option.{option_map}
use Rattle.std.specs.FinMap.Entries.{find-put}
use Rattle.std.proofs.lemmas.Cmp.{nat_list_eq_equiv}
use Rattle.std.proofs.lemmas.Map.Text.{is_eq-slice_cmp}
use Rattle.std.proofs.lemmas.Slice.Eq.{bytes_eq-Decides}
use Rattle.std.specs.Ordering.{is_eq}
use Rattle.std.specs.Cmp.{IsTotalOrder}
use Rattle.std.proofs.lemmas.Bool.{cases_lt}
use Rattle.std.proofs.lemmas.Bool.Decides.{nat_tests}
use Rattle.std.proofs.lemmas.Cmp.{nat_cmp_total, nat_list_cmp_total, on_total, then_total}
use Rattle.std.specs.FinMap.{find, put}
use Rattle.definitions.specs.Table.{Address, Generation, same_generation}
use Rattle.kernel_service.specs.Services.{address_cmp, generation_cmp, Counts, Services, count_at, at, with_count, AreCounts, IsService}
use Rattle.kernel_service.proofs.OrderedKeys.{sorted-put, All-put, All-find}

pub unwrap-position : (p n : ℕ) → p ≤ n → unwrap_or (cond (ltb p n) (Some p) None) n ≡ p
unwrap-position p n le = elim (cases_lt p n) [
  | inl less ↦ (let yes : ltb p n ≡ true = grind (arith, nat_tests) in rw yes refl)
  | inr over ↦ (let past : ltb p n ≡ false = grind (arith, nat_tests) in rw past (omega arith))
]

pub address_total : IsTotalOrder address_cmp
address_total = nat_list_cmp_total

pub generation_total : IsTotalOrder generation_cmp
generation_total = then_total (on_total (λ (g : Generation). g.image) nat_cmp_total) (on_total (λ (g : Generation). g.config) nat_cmp_total)

pub tied-same : (g h : Generation) → is_eq (generation_cmp g h) ≡ same_generation h g
tied-same g h = grind (arith, nat_tests)

pub counts-put : (g : Generation) (n : ℕ) (counts : Counts) → AreCounts counts → 1 ≤ n → AreCounts (put generation_cmp g n counts)
counts-put g n counts h le = record {
  ascending = sorted-put generation_cmp generation_total g n counts h.ascending;
  positive = All-put generation_cmp (λ m. 1 ≤ m) g n counts h.positive le;
}

pub counts-with : (count : Option (Generation × ℕ)) (counts : Counts) → AreCounts counts → IfSome count (λ c. 1 ≤ c.1) → AreCounts (with_count count counts)
counts-with None counts h le = h
counts-with (Some c) counts h le = counts-put c.0 c.1 counts h le

pub service-put : (a : Address) (counts : Counts) (s : Services) → IsService s → AreCounts counts → IsService (put address_cmp a counts s)
service-put a counts s h new = record {
  ascending = sorted-put address_cmp address_total a counts s h.ascending;
  counts = All-put address_cmp AreCounts a counts s h.counts new;
}

pub counts-found : (a : Address) (counts : Counts) (s : Services) → IsService s → find address_cmp a s ≡ Some counts → AreCounts counts
counts-found a counts s h found = All-find address_cmp AreCounts a counts s h.counts found

---- What a service says

pub same-generation : (g h : Generation) → same_generation g h ≡ true → g ≡ h
same-generation g h e =
    let images : g.image ≡ h.image = grind (arith, nat_tests) in
    let configs : g.config ≡ h.config = grind (arith, nat_tests) in
    λ i. record { image = images i; config = configs i }

-- the count of a generation after another is set
pub count-put : (g q : Generation) (n : ℕ) (counts : Counts) →
    count_at (put generation_cmp g n counts) q ≡ cond (is_eq (generation_cmp q g)) n (count_at counts q)
count-put g q n counts = ap (λ o. unwrap_or o 0) (find-put generation_cmp generation_total q g n counts) ∙ at (is_eq (generation_cmp q g))
  where
    at : (b : Bool) → unwrap_or (cond b (Some n) (find generation_cmp q counts)) 0 ≡ cond b n (count_at counts q)
    at true = refl
    at false = refl

pub same-address : (x a : Address) → bytes_eq x a ≡ true → x ≡ a
same-address x a e = (bytes_eq-Decides x a).0 e

-- what an address has after the counts of another are set
pub at-put : (x a : Address) (counts : Counts) (s : Services) → at (put address_cmp x counts s) a ≡ cond (bytes_eq x a) (Some (count_at counts)) (at s a)
at-put x a counts s =
    ap (λ o. option_map count_at o) (find-put address_cmp address_total a x counts s)
    ∙ ap (λ b. option_map count_at (cond b (Some counts) (find address_cmp a s))) (is_eq-slice_cmp a x ∙ nat_list_eq_equiv.symm a x)
    ∙ split (bytes_eq x a)
  where
    split : (b : Bool) → option_map count_at (cond b (Some counts) (find address_cmp a s)) ≡ cond b (Some (count_at counts)) (at s a)
    split true = refl
    split false = refl
