-- The addresses with their counts, as a search found one of them or none.
use Rattle.std.proofs.Common.{◌≡◌, ℕ, ◌<◌, true, false, Some, None, List, length, get_or, set, map, sym, ap, ◌∙◌}
use Rattle.std.specs.Ordering.{is_le, is_eq}
use Rattle.std.specs.List.{position_or_len}
use Rattle.std.specs.FinMap.{find, put}
use Rattle.std.proofs.Math.Seq.{map-set_same}
use Rattle.std.proofs.lemmas.List.{get_or_default}
use Rattle.definitions.specs.Table.{Address}
use Rattle.kernel_service.specs.declared.service.Served.{Served}
use Rattle.kernel_service.specs.Services.{Counts, address_cmp, IsService}
use Rattle.kernel_service.specs.Served.{seen_count, seen_served}
use Rattle.kernel_service.proofs.OrderedKeys.{put-there, find-listed, find-absent, absent-from}
use Rattle.kernel_service.proofs.Services.{address_total}

module _ (es : List Served) (k : ℕ) (e new : Served) (there : e ≡ get_or es k e) (same : new.address ≡ e.address) where
  -- where the counts stay, all stays
  pub served-kept : map seen_count new.counts.items ≡ map seen_count e.counts.items → map seen_served (set es k new) ≡ map seen_served es
  served-kept counts =
      let kept : seen_served new ≡ seen_served e = cc in
      map-set_same seen_served es k new e (kept ∙ ap seen_served there)

-- The place of an address, where the search stopped.
abbrev IsPlace : List Served → Address → ℕ → Type 0
IsPlace es a k = k ≡ position_or_len (λ y. is_le (address_cmp a y.address)) es

module _ (es searched : List Served) (k : ℕ) (a : Address) (found : IsPlace searched a k) (same : searched ≡ es) where
  at_place : IsPlace es a k
  at_place = found ∙ ap (λ (ys : List Served). position_or_len (λ y. is_le (address_cmp a y.address)) ys) same

  -- the entry at the place has the address: the counts are the ones found, and others replace them
  module _ (e read : Served) (within : k < length es) (there : e ≡ get_or es k e) (read_there : read ≡ get_or es k read)
      (is : is_eq (address_cmp a read.address) ≡ true) where
    tied : is_eq (address_cmp a e.address) ≡ true
    tied =
        let one : read ≡ e = read_there ∙ get_or_default es k read e within ∙ sym there in
        ap (λ (d : Served). is_eq (address_cmp a d.address)) (sym one) ∙ is

    pub served-found : find address_cmp a (map seen_served es) ≡ Some (map seen_count e.counts.items)
    served-found = find-listed address_cmp seen_served a es k at_place e within there tied

    pub served-put : (new : Served) (counts : Counts) → new.address ≡ e.address →
        map seen_count new.counts.items ≡ counts →
        map seen_served (set es k new) ≡ put address_cmp a counts (map seen_served es)
    served-put new counts address given =
        let put_is : seen_served new ≡ (e.address, counts) = cc in
        put-there address_cmp seen_served a es k at_place e within there tied counts new put_is

  -- no entry, or one with another address
  pub served-absent : IsService (map seen_served es) →
      (k < length es → (read : Served) × (read ≡ get_or es k read) × (is_eq (address_cmp a read.address) ≡ false)) →
      find address_cmp a (map seen_served es) ≡ None
  served-absent service other =
      find-absent address_cmp a address_total (map seen_served es) service.ascending
      (absent-from address_cmp seen_served a es k at_place (λ d lt. let o = other lt in ap (λ (e : Served). is_eq (address_cmp a e.address)) (get_or_default es k d o.0 lt ∙ sym o.1) ∙ o.2))
