-- Lists of listeners, as the calls change them.
use Rattle.std.proofs.Common.{◌≡◌, ℕ, zero, suc, ◌+◌, ◌<◌, ◌≤◌, Bool, true, false, ◌||◌, not, cond, nat_eq, nat_lt}
use Rattle.std.proofs.Common.{Option, Some, None, List, [], ◌∷◌, ◌++◌, length, map, filter, take, drop, get_or}
use Rattle.std.proofs.Common.{replicate, refl, sym, ap, subst, ◌∙◌, inl, inr, arith}
use Rattle.std.specs.Prelude.{codes, bytes_eq, Contains}
use Rattle.std.proofs.lemmas.Bool.{both_ways, and_parts, or_parts, or_from, ltb-true, cases_Bool, cond_both, cond-true}
use Rattle.std.proofs.lemmas.Bool.{cond-false, false_from_ne_true, lt-ltb, le-ltb}
use Rattle.std.proofs.lemmas.Bool.Decides.{eqb_tells}
use Rattle.std.proofs.lemmas.Cmp.{nat_list_eq_equiv}
use Rattle.std.specs.Cmp.Lexicographic.{same_text}
use Rattle.std.proofs.lemmas.List.{length-take, length-take-le, get_or-take, take_more, at_drop_more, map-append, append-nil}
use Rattle.std.proofs.lemmas.List.Elements.{filter_more}
use Rattle.std.proofs.lemmas.List.Folds.{list_any_at, Any-from_list_any}
use Rattle.std.proofs.lemmas.List.Sums.{length-filter, count_by-le-length}
use Rattle.listener_set.proofs.PaddedLists.{none-padded}
use Rattle.listener_set.specs.AddressList.{blank, has, AreDistinct}
use Rattle.listener_set.specs.Descriptors.{IsDescriptor}
use Rattle.listener_set.specs.Numbers.{with_number, AreBelow}
use Rattle.listener_set.proofs.Rising.{with_number-above}
use Rattle.vocabulary.specs.declared.table.Listener.{Listener}
use Rattle.vocabulary.specs.Settings.{listeners_from}
use Rattle.definitions.specs.After.{listens_on, listener_at, opened_from, added, with_added, all_opened}
use Rattle.master_listeners.specs.Listeners.{AreKept, AreListed, AreListedFrom, blank_listener, is_above}

pub blanks_kept : (a : List ℕ) → a ≡ codes "0.0.0.0:8080" → AreKept (replicate 64 (record { descriptor = 3; address = a })) 0
unfolding blank_listener blank
blanks_kept a e = rw e (record { padded = none-padded 64 blank_listener; listed = tt })

---- Fewer listeners

listens_on-take : (n : ℕ) (a : List ℕ) (ls : List Listener) → listens_on ls a ≡ false → listens_on (take n ls) a ≡ false
listens_on-take zero a ls h = refl
listens_on-take (suc n) a [] h = refl
listens_on-take (suc n) a (l ∷ ls) h =
    let parts = or_parts (bytes_eq l.address a) (listens_on ls a) h in
    or_from (bytes_eq l.address a) (listens_on (take n ls) a) parts.0 (listens_on-take n a ls parts.1)

pub AreListedFrom-take : (fd n : ℕ) (ls : List Listener) → AreListedFrom fd ls → AreListedFrom fd (take n ls)
AreListedFrom-take fd zero ls h = tt
AreListedFrom-take fd (suc n) [] h = tt
AreListedFrom-take fd (suc n) (l ∷ ls) h = (h.0, h.1, listens_on-take n l.address ls h.2, AreListedFrom-take (l.descriptor + 1) n ls h.3)

AreListedFrom-lower : (fd bound : ℕ) (ls : List Listener) → fd ≤ bound → AreListedFrom bound ls → AreListedFrom fd ls
AreListedFrom-lower fd bound [] le h = tt
AreListedFrom-lower fd bound (l ∷ ls) le h = (omega (arith, h.0), h.1, h.2, h.3)

module _ (p : Listener → Bool) where
  listens_on-filter : (a : List ℕ) (ls : List Listener) → listens_on ls a ≡ false → listens_on (filter p ls) a ≡ false
  listens_on-filter a [] h = refl
  listens_on-filter a (l ∷ ls) h =
      let parts = or_parts (bytes_eq l.address a) (listens_on ls a) h in
      let rest = listens_on-filter a ls parts.1 in
      cond_both (p l) (l ∷ filter p ls) (filter p ls) (λ ms. listens_on ms a ≡ false)
      (λ yes. or_from (bytes_eq l.address a) (listens_on (filter p ls) a) parts.0 rest)
      (λ no. rest)

  pub AreListedFrom-filter : (fd : ℕ) (ls : List Listener) → AreListedFrom fd ls → AreListedFrom fd (filter p ls)
  AreListedFrom-filter fd [] h = tt
  AreListedFrom-filter fd (l ∷ ls) h =
      let rest = AreListedFrom-filter (l.descriptor + 1) ls h.3 in
      cond_both (p l) (l ∷ filter p ls) (filter p ls) (AreListedFrom fd)
      (λ yes. (h.0, h.1, listens_on-filter l.address ls h.2, rest))
      (λ no. AreListedFrom-lower fd (l.descriptor + 1) (filter p ls) (omega (arith, h.0)) rest)

  pub filter-room : (ls : List Listener) (i : ℕ) → i < length ls → length ls ≤ 64 → length (filter p (take i ls)) < 64
  filter-room ls i lt most = omega (arith, length-filter p (take i ls), count_by-le-length p (take i ls), length-take i ls)

-- each listener has a descriptor that a process can have
pub descriptor_within : (fd : ℕ) (ls : List Listener) (i : ℕ) (l : Listener) → 3 ≤ fd → AreListedFrom fd ls →
    i < length ls → l ≡ get_or ls i l → IsDescriptor l.descriptor
descriptor_within fd [] i l low h lt e = absurd (let none : i < 0 = lt in omega arith)
descriptor_within fd (m ∷ ms) zero l low h lt e = rw e (omega (arith, low, h.0), h.1)
descriptor_within fd (m ∷ ms) (suc i) l low h lt e = descriptor_within (m.descriptor + 1) ms i l (omega (arith, low, h.0)) h.3 (omega (arith, lt)) e

---- One more listener

module _ (a : List ℕ) where
  other : (b : List ℕ) → bytes_eq b a ≡ false → bytes_eq a b ≡ false
  other b h = nat_list_eq_equiv.symm a b ∙ h

  listens_on-opened_from : (fd : ℕ) (b : List ℕ) (ls : List Listener) → bytes_eq a b ≡ false → listens_on ls b ≡ false →
      listens_on (opened_from fd a ls) b ≡ false
  listens_on-opened_from fd b [] ne h = or_from (bytes_eq a b) false ne refl
  listens_on-opened_from fd b (l ∷ ls) ne h =
      let parts = or_parts (bytes_eq l.address b) (listens_on ls b) h in
      cond_both (nat_eq l.descriptor fd) (l ∷ opened_from (fd + 1) a ls) (listener_at fd a ∷ l ∷ ls) (λ ms. listens_on ms b ≡ false)
      (λ yes. or_from (bytes_eq l.address b) (listens_on (opened_from (fd + 1) a ls) b) parts.0 (listens_on-opened_from (fd + 1) b ls ne parts.1))
      (λ no. or_from (bytes_eq a b) (listens_on (l ∷ ls) b) ne h)

  pub AreListedFrom-opened_from : (fd : ℕ) (ls : List Listener) → listens_on ls a ≡ false → fd + length ls < 67 →
      AreListedFrom fd ls → AreListedFrom fd (opened_from fd a ls)
  AreListedFrom-opened_from fd [] new room h = (omega arith, omega (arith, room), refl, tt)
  AreListedFrom-opened_from fd (l ∷ ls) new room h =
      let parts = or_parts (bytes_eq l.address a) (listens_on ls a) new in
      elim (eqb_tells l.descriptor fd) [
        | inl e ↦ rw e.0 (
          h.0,
          h.1,
          listens_on-opened_from (fd + 1) l.address ls (other l.address parts.0) h.2,
          rw (e.1) (AreListedFrom-opened_from (fd + 1) ls parts.1 (omega (arith, room)) (rw e.1 at h.3)),
        )
        | inr e ↦ rw e.0 (omega arith, omega (arith, room), new, (omega (arith, h.0, e.1), h.1, h.2, h.3))
      ]

---- A listener behind the others

listens_on-append : (a : List ℕ) (ls : List Listener) (l : Listener) → listens_on ls a ≡ false →
    bytes_eq l.address a ≡ false → listens_on (ls ++ l ∷ []) a ≡ false
listens_on-append a [] l h ne = or_from (bytes_eq l.address a) false ne refl
listens_on-append a (m ∷ ms) l h ne =
    let parts = or_parts (bytes_eq m.address a) (listens_on ms a) h in
    or_from (bytes_eq m.address a) (listens_on (ms ++ l ∷ []) a) parts.0 (listens_on-append a ms l parts.1 ne)

pub AreListedFrom-push : (fd : ℕ) (ls : List Listener) (l : Listener) → AreListedFrom fd ls →
    is_above l.descriptor ls ≡ true → fd ≤ l.descriptor → l.descriptor < 67 → listens_on ls l.address ≡ false →
    AreListedFrom fd (ls ++ l ∷ [])
AreListedFrom-push fd [] l h above least most new = (least, most, refl, tt)
AreListedFrom-push fd (m ∷ ms) l h above least most new =
    let test = and_parts (nat_lt m.descriptor l.descriptor) (is_above l.descriptor ms) above in
    let lt : m.descriptor < l.descriptor = ltb-true m.descriptor l.descriptor test.0 in
    let parts = or_parts (bytes_eq m.address l.address) (listens_on ms l.address) new in (
      h.0,
      h.1,
      listens_on-append m.address ms l h.2 (nat_list_eq_equiv.symm l.address m.address ∙ parts.0),
      AreListedFrom-push (m.descriptor + 1) ms l h.3 test.1 (omega arith) most parts.1,
    )

pub length-listed_below : (fd bound : ℕ) (ls : List Listener) → AreListedFrom fd ls → is_above bound ls ≡ true → fd ≤ bound → fd + length ls ≤ bound
length-listed_below fd bound [] h above least = omega arith
length-listed_below fd bound (m ∷ ms) h above least =
    let test = and_parts (nat_lt m.descriptor bound) (is_above bound ms) above in
    let lt : m.descriptor < bound = ltb-true m.descriptor bound test.0 in
    let rest = length-listed_below (m.descriptor + 1) bound ms h.3 test.1 (omega arith) in
    omega (arith, rest, h.0)

pub length-listed : (fd : ℕ) (ls : List Listener) → AreListedFrom fd ls → fd ≤ 67 → fd + length ls ≤ 67
length-listed fd [] h least = omega arith
length-listed fd (m ∷ ms) h least =
    let rest = length-listed (m.descriptor + 1) ms h.3 (omega (arith, h.1)) in
    omega (arith, rest, h.0)

---- Addresses in order

listens_on-listeners_from : (fd : ℕ) (a : List ℕ) (bs : List (List ℕ)) → listens_on (listeners_from fd bs) a ≡ has bs a
listens_on-listeners_from fd a [] = refl
listens_on-listeners_from fd a (b ∷ bs) = ap (λ t. bytes_eq b a || t) (listens_on-listeners_from (fd + 1) a bs)

AreDistinct-tail : (a : List ℕ) (bs : List (List ℕ)) → AreDistinct (a ∷ bs) → AreDistinct bs
AreDistinct-tail a bs h = λ i j d lt within. h (suc i) (suc j) d (omega (arith, lt)) (omega (arith, within))

AreDistinct-head : (a : List ℕ) (bs : List (List ℕ)) → AreDistinct (a ∷ bs) → has bs a ≡ false
AreDistinct-head a bs h =
    false_from_ne_true (has bs a) (λ yes.
    let any = Any-from_list_any (λ y. bytes_eq y a) bs yes in
    h 0 (suc any.0) any.1 (omega arith) (omega (arith, any.2)) (sym (ap (λ b. b) any.3 ∙ same_text any.1 a (sym any.4))))

pub AreListedFrom-listeners_from : (fd : ℕ) (bs : List (List ℕ)) → AreDistinct bs → fd + length bs ≤ 67 → AreListedFrom fd (listeners_from fd bs)
AreListedFrom-listeners_from fd [] distinct room = tt
AreListedFrom-listeners_from fd (b ∷ bs) distinct room = (
  omega arith,
  omega (arith, room),
  listens_on-listeners_from (fd + 1) b bs ∙ AreDistinct-head b bs distinct,
  AreListedFrom-listeners_from (fd + 1) bs (AreDistinct-tail b bs distinct) (omega (arith, room)),
)

pub AreDistinct-take : (n : ℕ) (bs : List (List ℕ)) → AreDistinct bs → AreDistinct (take n bs)
AreDistinct-take n bs h = λ i j d lt within.
    let below : j < n = omega (arith, within, length-take n bs) in
    let inside : j < length bs = omega (arith, within, length-take n bs) in
    rw (get_or-take n bs i d (omega (arith, lt, below)), get_or-take n bs j d below) (h i j d lt inside)

pub listeners_from-push : (fd : ℕ) (bs : List (List ℕ)) (a : List ℕ) →
    listeners_from fd (bs ++ a ∷ []) ≡ listeners_from fd bs ++ listener_at (fd + length bs) a ∷ []
listeners_from-push fd [] a = ap (λ n. listener_at n a ∷ []) (omega arith)
listeners_from-push fd (b ∷ bs) a =
    ap (λ ls. listener_at fd b ∷ ls) (listeners_from-push (fd + 1) bs a ∙ ap (λ n. listeners_from (fd + 1) bs ++ listener_at n a ∷ []) (omega arith))

---- Addresses of listeners

-- an address is not among those before it
pub absent_before : (fd : ℕ) (ls : List Listener) (i : ℕ) (d : Listener) → AreListedFrom fd ls → i < length ls →
    Contains (map (λ (l : Listener). l.address) (take i ls)) (get_or ls i d).address → ⊥
absent_before fd [] i d h lt there = absurd (let none : i < 0 = lt in omega arith)
absent_before fd (l ∷ ls) zero d h lt there = absurd (let none : there.0 < 0 = there.1 in omega arith)
absent_before fd (l ∷ ls) (suc i) d h lt there =
    at there.0 there.1 there.2 (absent_before (l.descriptor + 1) ls i d h.3 (omega (arith, lt)))
  where
    at : (k : ℕ) → k < suc (length (map (λ (m : Listener). m.address) (take i ls))) →
        get_or (l.address ∷ map (λ (m : Listener). m.address) (take i ls)) k (get_or ls i d).address
        ≡ (get_or ls i d).address →
        (Contains (map (λ (m : Listener). m.address) (take i ls)) (get_or ls i d).address → ⊥) → ⊥
    at zero lt' e rest =
        both_ways (listens_on ls l.address) h.2 (list_any_at (λ (m : Listener). bytes_eq m.address l.address) ls i d (omega (arith, lt)) (ap (λ a. bytes_eq a l.address) (sym e) ∙ nat_list_eq_equiv.refl l.address))
    at (suc k) lt' e rest = rest (k, omega (arith, lt'), e)

---- Steps of the loops

pub length-listeners_from : (fd : ℕ) (bs : List (List ℕ)) → length (listeners_from fd bs) ≡ length bs
length-listeners_from fd [] = refl
length-listeners_from fd (b ∷ bs) = ap suc (length-listeners_from (fd + 1) bs)

module _ (bs : List (List ℕ)) (i : ℕ) (a : List ℕ) (within : i < length bs) (is : a ≡ get_or bs i a) where
  pub length-listeners_from_take : length (listeners_from 3 (take i bs)) ≡ i
  length-listeners_from_take = length-listeners_from 3 (take i bs) ∙ length-take-le i bs (omega (arith, within))

  pub listeners_from_more : listeners_from 3 (take i bs) ++ listener_at (3 + i) a ∷ [] ≡ listeners_from 3 (take (i + 1) bs)
  listeners_from_more =
      ap (λ n. listeners_from 3 (take i bs) ++ listener_at (3 + n) a ∷ []) (sym (length-take-le i bs (omega (arith, within))))
      ∙ sym (listeners_from-push 3 (take i bs) a)
      ∙ ap (λ b. listeners_from 3 (take i bs ++ b ∷ [])) is
      ∙ ap (listeners_from 3) (sym (take_more bs i a within))

pub filter_more_kept : (p : Listener → Bool) (ls : List Listener) (i : ℕ) (l : Listener) → i < length ls →
    l ≡ get_or ls i l → p l ≡ true → filter p (take i ls) ++ l ∷ [] ≡ filter p (take (i + 1) ls)
filter_more_kept p ls i l within is passes =
    sym (filter_more p ls i l within
    ∙ ap (λ m. filter p (take i ls) ++ cond (p m) (m ∷ []) []) (sym is)
    ∙ ap (λ b. filter p (take i ls) ++ cond b (l ∷ []) []) passes)

-- those of the first ones that pass a test, and the next one, which passes too
pub listed_more : (p : Listener → Bool) (ls kept : List Listener) (i : ℕ) (l : Listener) → kept ≡ filter p (take i ls) →
    i < length ls → l ≡ get_or ls i l → p l ≡ true → AreListed ls → AreListed (kept ++ l ∷ [])
listed_more p ls kept i l are within is passes listed =
    subst AreListed (sym (ap (λ ks. ks ++ l ∷ []) are ∙ filter_more_kept p ls i l within is passes))
    (AreListedFrom-filter p 3 (take (i + 1) ls) (AreListedFrom-take 3 (i + 1) ls listed))

---- Descriptors of listeners

descriptor-rises : (fd : ℕ) (ls : List Listener) (i : ℕ) (d : Listener) → AreListedFrom fd ls → i < length ls → fd ≤ (get_or ls i d).descriptor
descriptor-rises fd [] i d h lt = absurd (let none : i < 0 = lt in omega arith)
descriptor-rises fd (l ∷ ls) zero d h lt = h.0
descriptor-rises fd (l ∷ ls) (suc i) d h lt = omega (arith, h.0, descriptor-rises (l.descriptor + 1) ls i d h.3 (omega (arith, lt)))

module _ (p : Listener → Bool) where
  -- the descriptors of listeners before another are below its own
  descriptors-before : (fd : ℕ) (ls : List Listener) (i : ℕ) (d : Listener) → AreListedFrom fd ls → i < length ls →
      AreBelow (get_or ls i d).descriptor (map (λ (l : Listener). l.descriptor) (filter p (take i ls)))
  descriptors-before fd ls zero d h lt = tt
  descriptors-before fd [] (suc i) d h lt = tt
  descriptors-before fd (l ∷ ls) (suc i) d h lt =
      let rest = descriptors-before (l.descriptor + 1) ls i d h.3 (omega (arith, lt)) in
      let above = descriptor-rises (l.descriptor + 1) ls i d h.3 (omega (arith, lt)) in
      cond_both (p l) (l ∷ filter p (take i ls)) (filter p (take i ls)) (λ ms. AreBelow (get_or ls i d).descriptor (map (λ (m : Listener). m.descriptor) ms))
      (λ yes. (omega (arith, above), rest))
      (λ no. rest)

  module _ (ls : List Listener) (i : ℕ) (l : Listener) (within : i < length ls) (is : l ≡ get_or ls i l) where
    pub descriptors-kept : AreListed ls → p l ≡ true →
        with_number (map (λ (m : Listener). m.descriptor) (filter p (take i ls))) l.descriptor
        ≡ map (λ (m : Listener). m.descriptor) (filter p (take (i + 1) ls))
    descriptors-kept listed passes =
        with_number-above (map (λ (m : Listener). m.descriptor) (filter p (take i ls))) l.descriptor
        (subst (λ (m : Listener). AreBelow m.descriptor
        (map (λ (k : Listener). k.descriptor) (filter p (take i ls)))) (sym is)
        (descriptors-before 3 ls i l listed within))
        ∙ sym (map-append (λ (m : Listener). m.descriptor) (filter p (take i ls)) (l ∷ []))
        ∙ ap (map (λ (m : Listener). m.descriptor)) (filter_more_kept p ls i l within is passes)

    pub filter_more_left : p l ≡ false → filter p (take i ls) ≡ filter p (take (i + 1) ls)
    filter_more_left fails =
        sym (filter_more p ls i l within
        ∙ ap (λ m. filter p (take i ls) ++ cond (p m) (m ∷ []) []) (sym is)
        ∙ ap (λ b. filter p (take i ls) ++ cond b (l ∷ []) []) fails
        ∙ append-nil (filter p (take i ls)))

---- Opening the addresses that are new

-- each address that is not listened on, in order
abbrev pub opened_each : List (List ℕ) → List Listener → Option (List Listener)
opened_each [] ls = Some ls
opened_each (a ∷ more) ls = cond (listens_on ls a) (opened_each more ls) (cond (nat_lt (length ls) 64) (opened_each more (opened_from 3 a ls)) None)

listens_on-opened_from_other : (fd : ℕ) (a b : List ℕ) (ls : List Listener) → bytes_eq a b ≡ false → listens_on (opened_from fd a ls) b ≡ listens_on ls b
listens_on-opened_from_other fd a b [] ne = ap (λ t. t || false) ne
listens_on-opened_from_other fd a b (l ∷ ls) ne =
    cond_both (nat_eq l.descriptor fd) (l ∷ opened_from (fd + 1) a ls) (listener_at fd a ∷ l ∷ ls) (λ ms. listens_on ms b ≡ listens_on (l ∷ ls) b)
    (λ same. ap (λ t. bytes_eq l.address b || t) (listens_on-opened_from_other (fd + 1) a b ls ne))
    (λ other. ap (λ t. t || listens_on (l ∷ ls) b) ne)

added-opened_from : (a : List ℕ) (ls : List Listener) (bs : List (List ℕ)) → has bs a ≡ false → added bs (opened_from 3 a ls) ≡ added bs ls
added-opened_from a ls [] h = refl
added-opened_from a ls (b ∷ bs) h =
    let parts = or_parts (bytes_eq b a) (has bs a) h in
    let ne : bytes_eq a b ≡ false = nat_list_eq_equiv.symm a b ∙ parts.0 in
    ap (λ t. cond (not t) (b ∷ added bs (opened_from 3 a ls)) (added bs (opened_from 3 a ls))) (listens_on-opened_from_other 3 a b ls ne)
    ∙ ap (λ xs. cond (not (listens_on ls b)) (b ∷ xs) xs) (added-opened_from a ls bs parts.1)

pub opened_each-is : (bs : List (List ℕ)) (ls : List Listener) → AreDistinct bs → opened_each bs ls ≡ with_added bs ls
opened_each-is [] ls distinct = refl
opened_each-is (a ∷ bs) ls distinct =
    elim (cases_Bool (listens_on ls a)) [
      | inl e ↦ rw e (opened_each-is bs ls (AreDistinct-tail a bs distinct))
      | inr e ↦ rw e (ap (λ o. cond (nat_lt (length ls) 64) o None) (
          opened_each-is bs (opened_from 3 a ls) (AreDistinct-tail a bs distinct)
          ∙ ap (λ more. all_opened more (opened_from 3 a ls)) (added-opened_from a ls bs (AreDistinct-head a bs distinct))))
    ]

module _ (bs : List (List ℕ)) (ls : List Listener) (i : ℕ) (a : List ℕ) (within : i < length bs) (is : a ≡ get_or bs i a) where
  opened_each_more : opened_each (drop i bs) ls ≡ opened_each (a ∷ drop (i + 1) bs) ls
  opened_each_more =
      at_drop_more (λ xs. opened_each xs ls) bs i a within
      ∙ ap (λ b. opened_each (b ∷ drop (i + 1) bs) ls) (sym is)

  pub skipped_one : listens_on ls a ≡ true → opened_each (drop (i + 1) bs) ls ≡ opened_each (drop i bs) ls
  skipped_one e = sym (opened_each_more ∙ cond-true (listens_on ls a) _ _ e)

  pub opened_one : listens_on ls a ≡ false → length ls < 64 → opened_each (drop (i + 1) bs) (opened_from 3 a ls) ≡ opened_each (drop i bs) ls
  opened_one e lt = sym (opened_each_more ∙ cond-false (listens_on ls a) _ _ e ∙ cond-true (nat_lt (length ls) 64) _ _ (lt-ltb (length ls) 64 lt))

  pub none_left : listens_on ls a ≡ false → length ls ≡ 64 → opened_each (drop i bs) ls ≡ None
  none_left e full = opened_each_more ∙ cond-false (listens_on ls a) _ _ e ∙ cond-false (nat_lt (length ls) 64) _ _ (le-ltb (length ls) 64 (omega arith))
