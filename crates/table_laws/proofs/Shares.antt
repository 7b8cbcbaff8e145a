-- What the workers of groups hold, and what groups lack together.
use Rattle.std.proofs.Common.{◌≡◌, ◌≢◌, ℕ, zero, suc, ◌+◌, ◌-◌, ◌<◌, ◌≤◌, Bool, true, false, cond, not, List, [], ◌∷◌}
use Rattle.std.proofs.Common.{◌++◌, length, Option, Some, None, refl, sym, ap, ◌∙◌, arith, nat_lt}
use Rattle.std.specs.Prelude.{filter, map, sum, count_by, get_or, ◌&&◌, ◌||◌, ◌==◌, if◌then◌else◌, bytes_eq}
use Rattle.std.specs.List.{sum_by}
use Rattle.std.proofs.lemmas.List.{length-map, get_or-map, get_or_append_left, get_or_push}
use Rattle.std.proofs.lemmas.List.Sums.{length-filter, sum_by_push, sum-map}
use Rattle.std.proofs.lemmas.Bool.Decides.{nat_tests}
use Rattle.listener_set.specs.AddressList.{has}
use Rattle.listener_set.specs.Numbers.{numbers_below, is_in}
use Rattle.worker_groups.specs.declared.groups.Group.{Group}
use Rattle.worker_groups.specs.Groups.{part_of, group_of}
use Rattle.vocabulary.specs.declared.table.Listener.{Listener}
use Rattle.worker_groups.specs.Crews.{Posts, fds_of, shortfalls_of}
use Rattle.definitions.specs.Table.{Address, Hold, has_address}
use Rattle.call_laws.specs.Pieces.{is_at, lacks_address, listener_of, share}
use Rattle.definitions.specs.Calls.{shared}
use Rattle.definitions.specs.Master.{Layout, listeners_under, fds_in, short_at}
use Rattle.table_laws.proofs.Rows.{one, count-weigh}
use Rattle.table_laws.proofs.Counts.{filter-all, filter-swap}
use Rattle.table_laws.proofs.Sets.{below-length}
use Rattle.table_laws.proofs.Views.{eqb-is}

---- What a worker holds

-- the addresses of some holds, as listeners
pub held-listeners : (a : Address) (hs : List Hold) → has_address a hs ≡ has (map (λ (l : Listener). l.address) (map listener_of hs)) a
held-listeners a [] = refl
held-listeners a (h ∷ hs) = ap (λ b. bytes_eq h.address a || b) (held-listeners a hs)

-- What is held under some descriptors is what listens there.
pub held-under :
    (fds : Option (List ℕ)) (holds : List Hold) (a : Address) → has_address a (shared fds holds) ≡ has
    (map (λ (l : Listener). l.address) (listeners_under fds (map listener_of holds))) a
held-under None holds a = held-listeners a holds
held-under (Some fds) holds a = under holds
  where
    under :
        (hs : List Hold) → has_address a (filter (λ h. is_in fds h.fd) hs) ≡ has
        (map (λ (l : Listener). l.address) (filter (λ (l : Listener). is_in fds l.descriptor) (map listener_of hs))) a
    under [] = refl
    under (h ∷ hs) = go (is_in fds h.fd) (under hs)
      where
        go :
            (b : Bool) → has_address a (filter (λ h. is_in fds h.fd) hs) ≡ has
            (map (λ (l : Listener). l.address) (filter (λ (l : Listener). is_in fds l.descriptor) (map listener_of hs)))
            a → has_address a (cond b (h ∷ filter (λ h. is_in fds h.fd) hs) (filter (λ h. is_in fds h.fd) hs)) ≡ has
            (map (λ (l : Listener). l.address) (cond b (listener_of h ∷ filter (λ (l : Listener). is_in fds l.descriptor) (map listener_of hs)) (filter (λ (l : Listener). is_in fds l.descriptor) (map listener_of hs))))
            a
        go true ih = ap (λ b. bytes_eq h.address a || b) ih
        go false ih = ih

-- where the groups of some posts listen
abbrev pub layout_at : Posts → List Listener → Layout
layout_at posts ls = record {
  groups = posts.groups;
  listens = λ place a. has (map (λ (l : Listener). l.address) (listeners_under (fds_in posts place) ls)) a;
}

-- A worker holds an address where its group listens, as the master's holds lay it out.
pub share-by-holds :
    (posts : Posts) (k : ℕ) (holds : List Hold) (a : Address) →
    has_address a (share posts k holds) ≡ (layout_at posts (map listener_of holds)).listens (group_of posts.groups k) a
share-by-holds posts k holds a = held-under (fds_of posts k) holds a

-- An address that a master and its workers give up is none that they hold.
pub share-lacks : (posts : Posts) (k : ℕ) (a : Address) (hs : List Hold) → lacks_address a (share posts k hs) ≡ share posts k (lacks_address a hs)
share-lacks posts k a hs = at (fds_of posts k)
  where
    at : (fds : Option (List ℕ)) → lacks_address a (shared fds hs) ≡ shared fds (lacks_address a hs)
    at None = refl
    at (Some fds) = filter-swap (λ h. not (is_at a h)) (λ h. is_in fds h.fd) hs

---- Groups

part-below : (sizes : List ℕ) (n : ℕ) → 1 ≤ length sizes → part_of sizes n < length sizes
part-below [] n some = absurd (omega arith)
part-below (size ∷ []) n some = omega arith
part-below (size ∷ next ∷ sizes) n some = go (nat_lt n size) (part-below (next ∷ sizes) (n - size) (omega arith))
  where
    go :
        (b : Bool) → part_of (next ∷ sizes) (n - size) < length (next ∷ sizes) →
        (if b then 0 else part_of (next ∷ sizes) (n - size) + 1) < suc (length (next ∷ sizes))
    go true lt = omega arith
    go false lt = omega arith

-- each number has a group
pub group-below : (gs : List Group) (k : ℕ) → 1 ≤ length gs → group_of gs k < length gs
group-below gs k some =
    let same = length-map gs (λ (g : Group). g.workers) in
    omega (arith, same, part-below (map (λ (g : Group). g.workers) gs) k (omega (arith, same)))

count-cons : (p : ℕ → Bool) (k : ℕ) (ks : List ℕ) → count_by p (k ∷ ks) ≡ one (p k) + count_by p ks
count-cons p k ks = count-weigh p (k ∷ ks) ∙ ap (λ n. one (p k) + n) (sym (count-weigh p ks))

-- those at places below a number, one place after another
module _ (P : ℕ → Bool) (f : ℕ → ℕ) where
  abbrev at_place : List ℕ → ℕ → ℕ
  at_place ls place = if P place then count_by (λ k. f k == place) ls else 0

  abbrev is_below : ℕ → ℕ → Bool
  is_below n k = nat_lt (f k) n && P (f k)

  none-below : (ls : List ℕ) → count_by (is_below 0) ls ≡ 0
  none-below [] = refl
  none-below (k ∷ ks) =
      let off : nat_lt (f k) 0 ≡ false = grind (arith, nat_tests) in
      let here : one (is_below 0 k) ≡ 0 = rw off refl in
      omega (arith, count-cons (is_below 0) k ks, here, none-below ks)

  one-place : (n : ℕ) (ls : List ℕ) → count_by (is_below n) ls + at_place ls n ≡ count_by (is_below (suc n)) ls
  one-place n [] = go (P n)
    where
      go : (b : Bool) → 0 + (if b then 0 else 0) ≡ 0
      go true = refl
      go false = refl
  one-place n (k ∷ ks) = omega (arith, count-cons (is_below n) k ks, count-cons (is_below (suc n)) k ks, here (f k == n) refl, one-place n ks)
    where
      both : (b : Bool) (c d : ℕ) → c ≡ 1 + d → 0 + (if b then c else 0) ≡ one b + (if b then d else 0)
      both true c d e = omega (arith, e)
      both false c d e = refl

      more : count_by (λ j. f j == n) (k ∷ ks) ≡ one (f k == n) + count_by (λ j. f j == n) ks
      more = count-cons (λ j. f j == n) k ks

      here : (b : Bool) → (f k == n) ≡ b → one (is_below n k) + at_place (k ∷ ks) n ≡ one (is_below (suc n) k) + at_place ks n
      here true is =
          let same : f k ≡ n = eqb-is (f k) n is in
          let no : nat_lt (f k) n ≡ false = grind (arith, nat_tests) in
          let yes : nat_lt (f k) (suc n) ≡ true = grind (arith, nat_tests) in
          ap (λ b. one (b && P (f k)) + at_place (k ∷ ks) n) no
          ∙ both (P n) (count_by (λ j. f j == n) (k ∷ ks)) (count_by (λ j. f j == n) ks) (more ∙ ap (λ b. one b + count_by (λ j. f j == n) ks) is)
          ∙ ap (λ z. one (P z) + at_place ks n) (sym same)
          ∙ ap (λ b. one (b && P (f k)) + at_place ks n) (sym yes)
      here false is =
          let ne : f k ≢ n = grind (arith, nat_tests) in
          let same : nat_lt (f k) n ≡ nat_lt (f k) (suc n) = grind (arith, nat_tests) in
          ap (λ b. one (b && P (f k)) + at_place (k ∷ ks) n) same
          ∙ ap (λ c. one (is_below (suc n) k) + (if P n then c else 0)) (omega (arith, more, ap one is))

  all-below : (n : ℕ) (ls : List ℕ) → ((k : ℕ) → f k < n) → count_by (is_below n) ls ≡ count_by (λ k. P (f k)) ls
  all-below n [] lt = refl
  all-below n (k ∷ ks) lt =
      let less = lt k in
      let on : nat_lt (f k) n ≡ true = grind (arith, nat_tests) in
      let here : one (is_below n k) ≡ one (P (f k)) = rw on refl in
      omega (arith, count-cons (is_below n) k ks, count-cons (λ j. P (f j)) k ks, here, all-below n ks lt)

  pub places : (n : ℕ) (ls : List ℕ) → sum_by (at_place ls) (numbers_below n) ≡ count_by (is_below n) ls
  places zero ls = sym (none-below ls)
  places (suc n) ls = omega (arith, sum_by_push (at_place ls) (numbers_below n) n, places n ls, one-place n ls)

  pub all-places : (n : ℕ) (ls : List ℕ) → ((k : ℕ) → f k < n) → sum_by (at_place ls) (numbers_below n) ≡ count_by (λ k. P (f k)) ls
  all-places n ls lt = places n ls ∙ all-below n ls lt

---- Shortfalls

-- one for each group
pub shortfalls-length : (gs : List Group) (lacking : List ℕ) → length (shortfalls_of gs lacking) ≡ length gs
shortfalls-length gs lacking = length-map (numbers_below (length gs)) (λ place. count_by (λ k. group_of gs k == place) lacking) ∙ below-length (length gs)

-- All groups together lack all that are lacking.
pub shortfalls-sum : (gs : List Group) (lacking : List ℕ) → 1 ≤ length gs → sum (shortfalls_of gs lacking) ≡ length lacking
shortfalls-sum gs lacking some =
    sum-map (λ place. count_by (λ k. group_of gs k == place) lacking) (numbers_below (length gs))
    ∙ all-places (λ place. true) (group_of gs) (length gs) lacking (λ k. group-below gs k some)
    ∙ sym (length-filter (λ k. true) lacking)
    ∙ ap length (filter-all lacking)

below-at : (n i : ℕ) → i < n → get_or (numbers_below n) i 0 ≡ i
below-at zero i lt = absurd (omega arith)
below-at (suc n) i lt = go (nat_lt i n) refl (λ less. below-at n i less)
  where
    go : (b : Bool) → nat_lt i n ≡ b → (i < n → get_or (numbers_below n) i 0 ≡ i) → get_or (numbers_below n ++ n ∷ []) i 0 ≡ i
    go true e ih =
        let less : i < n = grind (arith, nat_tests) in
        get_or_append_left (numbers_below n) (n ∷ []) 0 i (omega (arith, below-length n, less)) ∙ ih less
    go false e ih =
        let same : n ≡ i = (let ge : n ≤ i = grind (arith, nat_tests) in omega arith) in
        get_or_push (numbers_below n) n 0 i (below-length n ∙ same) ∙ same

-- An address lacks those whose group listens there.
pub shortfalls-at :
    (layout : Layout) (lacking : List ℕ) (a : Address) → 1 ≤ length layout.groups → short_at layout
    (shortfalls_of layout.groups lacking) a ≡ count_by (λ k. layout.listens (group_of layout.groups k) a) lacking
shortfalls-at layout lacking a some =
    ap (λ n. sum_by short_by (numbers_below n)) (shortfalls-length gs lacking)
    ∙ up-to (length gs) (omega arith)
    ∙ all-places (λ place. layout.listens place a) (group_of gs) (length gs) lacking (λ k. group-below gs k some)
  where
    gs : List Group
    gs = layout.groups

    count_of : ℕ → ℕ
    count_of place = count_by (λ k. group_of gs k == place) lacking

    short_by : ℕ → ℕ
    short_by place = if layout.listens place a then get_or (shortfalls_of gs lacking) place 0 else 0

    is : (place : ℕ) → place < length gs → get_or (shortfalls_of gs lacking) place 0 ≡ count_of place
    is place lt =
        get_or-map count_of (numbers_below (length gs)) place 0 0 (omega (arith, lt, below-length (length gs))) ∙ ap
        count_of (below-at (length gs) place lt)

    up-to :
        (n : ℕ) → n ≤ length gs → sum_by short_by (numbers_below n) ≡ sum_by
        (at_place (λ place. layout.listens place a) (group_of gs) lacking) (numbers_below n)
    up-to zero le = refl
    up-to (suc n) le =
        let here : short_by n ≡ at_place (λ place. layout.listens place a) (group_of gs) lacking n =
        ap (λ c. if layout.listens n a then c else 0) (is n (omega arith)) in
        omega
        (arith, sum_by_push short_by (numbers_below n) n, sum_by_push (at_place (λ place. layout.listens place a) (group_of gs) lacking) (numbers_below n) n, here, up-to n (omega arith))
