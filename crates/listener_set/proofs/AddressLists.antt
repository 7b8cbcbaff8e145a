-- Lists of distinct addresses, as the calls change them.
use Rattle.std.proofs.Common.{◌≡◌, ◌≢◌, ℕ, ◌+◌, ◌≤◌, ◌<◌, suc, zero, cond, filter, Bool, true, false, ◌||◌, List, [], ◌∷◌, length, get_or, set, take, replicate, refl, sym, ◌∙◌, arith, IsTrue}
use Rattle.std.specs.Prelude.{◌↔◌, Contains, bytes_eq, codes}
use Rattle.std.specs.List.{list_any}
use Rattle.std.specs.Cmp.Lexicographic.{nat_list_eq_equiv, same_text}
use Rattle.std.proofs.lemmas.Map.Views.{list_any-from_Contains, Contains-from_any}
use Rattle.std.proofs.lemmas.List.{take_more_set, get_or-take, get_or_default, length-take}
use Rattle.std.proofs.lemmas.List.Sums.{length-filter, count_by-le-length}
use Rattle.std.proofs.lemmas.List.Quantifiers.{all_pairs_push}
use Rattle.listener_set.proofs.PaddedLists.{none-padded, set-padded}
use Rattle.listener_set.specs.AddressList.{AreKept, AreDistinct, has, blank}

turned : (x : List ℕ) (xs : List (List ℕ)) → has xs x ≡ list_any (bytes_eq x) xs
turned x [] = refl
turned x (y ∷ ys) = λ i. nat_list_eq_equiv.symm y x i || turned x ys i

-- the test for an address says whether the list has it
pub has_this_address : (xs : List (List ℕ)) (x : List ℕ) (r : Bool) → r ≡ has xs x → IsTrue r ↔ Contains xs x
has_this_address xs x r e = (
  λ yes. Contains-from_any (λ a b h. same_text a b (sym h)) x xs (sym (e ∙ turned x xs) ∙ yes),
  λ in_it. e ∙ turned x xs ∙ list_any-from_Contains nat_list_eq_equiv x xs in_it,
)

pub blanks_kept : (b : List ℕ) → b ≡ codes "0.0.0.0:8080" → AreKept (replicate 64 b) 0
unfolding blank
blanks_kept b e = rw e (record { padded = none-padded 64 blank; distinct = λ i j d lt h. absurd (let z : j < 0 = h in omega arith) })

pub pushed_kept : (items : List (List ℕ)) (len : ℕ) (x : List ℕ) → AreKept items len → len < 64 → (Contains (take len items) x → ⊥) → AreKept (set items len x) (len + 1)
pushed_kept items len x h lt absent = record {
  padded = set-padded x h.padded lt;
  distinct = rw (take_more_set items len x (omega (arith, h.padded.size))) (all_pairs_push (λ y z. y ≢ z) (take len items) x h.distinct (λ k d kk e. absent (k, kk, get_or_default (take len items) k x d kk ∙ e)));
}

-- ---- filters
later : (y x : List ℕ) (ys : List (List ℕ)) → Contains ys x → Contains (y ∷ ys) x
later y x ys h = (suc h.0, omega (arith, h.1), h.2)

pub in_filter : (p : List ℕ → Bool) (x : List ℕ) (xs : List (List ℕ)) → Contains (filter p xs) x → Contains xs x
in_filter p x [] h = h
in_filter p x (y ∷ ys) h = at (p y) h (in_filter p x ys)
  where
    front : (k : ℕ) → k < length (y ∷ filter p ys) → get_or (y ∷ filter p ys) k x ≡ x → (Contains (filter p ys) x → Contains ys x) → Contains (y ∷ ys) x
    front zero lt e rest = (zero, omega arith, e)
    front (suc k) lt e rest = later y x ys (rest (k, (let inside : suc k < length (y ∷ filter p ys) = lt in omega arith), e))

    at : (b : Bool) → Contains (cond b (y ∷ filter p ys) (filter p ys)) x → (Contains (filter p ys) x → Contains ys x) → Contains (y ∷ ys) x
    at true h rest = front h.0 h.1 h.2 rest
    at false h rest = later y x ys (rest h)

-- an address is not among those before it
pub not_before : (xs : List (List ℕ)) (i : ℕ) (x : List ℕ) → AreDistinct xs → i < length xs → x ≡ get_or xs i x → Contains (take i xs) x → ⊥
not_before xs i x distinct lt is h =
    let below : h.0 < i = (let inside = h.1 in omega (arith, inside, length-take i xs)) in
    distinct h.0 i x below lt (sym (get_or-take i xs h.0 x below) ∙ h.2 ∙ is)

pub filter-room : (p : List ℕ → Bool) (xs : List (List ℕ)) (i : ℕ) → i < length xs → length xs ≤ 64 → length (filter p (take i xs)) < 64
filter-room p xs i lt most = omega (arith, length-filter p (take i xs), count_by-le-length p (take i xs), length-take i xs)
