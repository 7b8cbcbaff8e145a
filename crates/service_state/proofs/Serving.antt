-- The service that is made address by address is the one that is wanted.
use Rattle.std.proofs.Common.{◌≡◌, ℕ, ◌+◌, ◌<◌, ◌≤◌, zero, suc, ◌||◌, Bool, true, false, cond, Option, Some, None}
use Rattle.std.proofs.Common.{unwrap_or, List, [], length, get_or, take, bytes_eq, refl, sym, ap, ◌∙◌, arith}
use Rattle.std.specs.Prelude.{if◌then◌else◌}
use Rattle.std.specs.Ordering.{is_eq}
use Rattle.std.specs.Option.{option_map}
use Rattle.std.specs.List.{list_any, count_by}
use Rattle.std.specs.FinMap.{find}
use Rattle.std.proofs.Math.Bool.{or-true, or-false}
use Rattle.std.proofs.lemmas.Bool.Decides.{nat_tests}
use Rattle.std.proofs.lemmas.Option.{none-some, same_Some}
use Rattle.std.proofs.lemmas.List.Folds.{list_any_more}
use Rattle.std.proofs.lemmas.List.Sums.{sum_by_push}
use Rattle.std.proofs.lemmas.Slice.Eq.{bytes_eq-Decides}
use Rattle.listener_set.specs.Numbers.{numbers_below}
use Rattle.definitions.specs.Table.{Address, Generation, same_generation, serving}
use Rattle.kernel_service.specs.Services.{Counts, Services, address_cmp, generation_cmp, count_at, at, with_count, with_key}
use Rattle.kernel_service.proofs.Services.{count-put, at-put}
use Rattle.service_state.specs.Wanted.{kept_count}

-- no more numbers are counted than there are
pub counted-below : (test : ℕ → Bool) (n : ℕ) → count_by test (numbers_below n) ≤ n
counted-below test zero = omega arith
counted-below test (suc n) = more (test n) (counted-below test n) (sum_by_push (λ k. cond (test k) 1 0) (numbers_below n) n)
  where
    more : (b : Bool) → count_by test (numbers_below n) ≤ n →
        count_by test (numbers_below (suc n)) ≡ count_by test (numbers_below n) + cond b 1 0 →
        count_by test (numbers_below (suc n)) ≤ suc n
    more true most is = omega (arith, is, most)
    more false most is = omega (arith, is, most)

same-either : (h g : Generation) → is_eq (generation_cmp h g) ≡ same_generation h g
same-either h g = grind (arith, nat_tests)

abbrev amount : ℕ → Bool → ℕ
amount n b = if b then n else 0

module _ (g : Generation) where
  -- what a service has at an address where so many are counted, by whether that is one of its own
  abbrev At : ℕ → Bool → Option (Generation → ℕ)
  At n b = if b then Some (λ h. if same_generation h g then n else 0) else None

  -- other generations have nobody
  nobody-else : (n : ℕ) (o : Option Counts) (b : Bool) (h : Generation) → option_map count_at o ≡ At n b →
      amount n (same_generation h g) ≡ 0 → count_at (unwrap_or o []) h ≡ 0
  nobody-else n None b h is none = refl
  nobody-else n (Some counts) false h is none = absurd (none-some (count_at counts) (sym is))
  nobody-else n (Some counts) true h is none = ap (λ (f : Generation → ℕ). f h) (same_Some (count_at counts) (λ k. if same_generation k g then n else 0) is) ∙ none

  one-count : (n : ℕ) (o : Option Counts) (b : Bool) (h : Generation) → option_map count_at o ≡ At n b →
      count_at (with_count (kept_count g n) (unwrap_or o [])) h ≡ (if same_generation h g then n else 0)
  one-count zero o b h is = nobody-else zero o b h is (both (same_generation h g)) ∙ sym (both (same_generation h g))
    where
      both : (c : Bool) → amount zero c ≡ zero
      both true = refl
      both false = refl
  one-count (suc n) o b h is =
      count-put g h (suc n) (unwrap_or o []) ∙ ap (λ c. cond c (suc n) (count_at (unwrap_or o []) h)) (same-either h g) ∙ go (same_generation h g) refl
    where
      go : (c : Bool) → same_generation h g ≡ c → cond c (suc n) (count_at (unwrap_or o []) h) ≡ (if c then suc n else 0)
      go true e = refl
      go false e = nobody-else (suc n) o b h is (ap (λ x. if x then suc n else 0) e)

  -- The service of the first addresses.
  abbrev pub IsServingTo : (Address → ℕ) → List Address → ℕ → Services → Type 0
  IsServingTo count addresses i s = (a : Address) → at s a ≡ serving (take i addresses) g count a

  pub serving-more : (count : Address → ℕ) (addresses : List Address) (i : ℕ) (x : Address) → i < length addresses →
      x ≡ get_or addresses i x → (s : Services) → IsServingTo count addresses i s
      → IsServingTo count addresses (i + 1) (with_key x (kept_count g (count x)) s)
  serving-more count addresses i x lt there s before a =
      at-put x a counts s ∙ (split (bytes_eq x a) refl ∙ ap (At (count a)) (sym any-more))
    where
      counts : Counts
      counts = with_count (kept_count g (count x)) (unwrap_or (find address_cmp x s) [])

      any-more : list_any (λ b. bytes_eq b a) (take (i + 1) addresses) ≡ (list_any (λ b. bytes_eq b a) (take i addresses) || bytes_eq x a)
      any-more = list_any_more (λ b. bytes_eq b a) addresses i x lt ∙ ap (λ y. list_any (λ b. bytes_eq b a) (take i addresses) || bytes_eq y a) (sym there)

      split : (e : Bool) → bytes_eq x a ≡ e → cond e (Some (count_at counts)) (at s a) ≡ At (count a) (list_any (λ b. bytes_eq b a) (take i addresses) || e)
      split true same =
          (λ j. Some (λ h. one-count (count x) (find address_cmp x s) (list_any (λ b. bytes_eq b x) (take i addresses)) h (before x) j))
          ∙ ap (λ b. At (count b) true) ((bytes_eq-Decides x a).0 same)
          ∙ ap (At (count a)) (sym (or-true (list_any (λ b. bytes_eq b a) (take i addresses))))
      split false other = before a ∙ ap (At (count a)) (sym (or-false (list_any (λ b. bytes_eq b a) (take i addresses))))
