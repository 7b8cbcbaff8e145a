-- How a start comes about.
use Rattle.std.proofs.Common.{◌≡◌, ℕ, suc, zero, ◌+◌, ◌-◌, ◌<◌, ◌≤◌, Bool, true, false, cond, ◌&&◌, ◌||◌, nat_eq}
use Rattle.std.proofs.Common.{nat_lt, Option, Result, Ok, Err, List, [], ◌∷◌, ◌++◌, map, length, take, get_or, count_by}
use Rattle.std.proofs.Common.{refl, sym, ap, subst, ◌∙◌, arith, add-one}
use Rattle.std.specs.Prelude.{IfOk, IsErr}
use Rattle.std.specs.List.{AllByRecursion, list_any}
use Rattle.std.proofs.lemmas.Bool.{false≢true}
use Rattle.std.proofs.lemmas.Bool.Decides.{nat_tests}
use Rattle.std.proofs.lemmas.List.{length_push, length-map, take_more, take_all, length-take-le}
use Rattle.std.proofs.lemmas.List.Sums.{sum_by-cons}
use Rattle.std.proofs.lemmas.List.Folds.{list_any-append}
use Rattle.listener_set.specs.Numbers.{numbers_below, is_in}
use Rattle.listener_set.specs.Descriptors as pairs
use Rattle.vocabulary.specs.declared.table.Limits.{Limits}
use Rattle.definitions.specs.Table.{Address, FilePath, Generation, same_generation, Hold, Process, Master, is_active}
use Rattle.definitions.specs.Table.{is_worker, IsQuiet, HasParent, IsAscending}
use Rattle.worker_groups.specs.Crews.{first_posts}
use Rattle.definitions.specs.Master.{Posts, Group, fds_of}
use Rattle.call_laws.specs.Start.{first_generation, holds_from, first_worker, first_rows, first_files, booted}
use Rattle.definitions.specs.Calls.{is_image}
use Rattle.kernel_rows.specs.Holds.{address_of, seen_hold, seen_holds}
use Rattle.kernel_table.specs.declared.store.Store.{Store}
use Rattle.kernel_rows.specs.Seen.{seen_rows}
use Rattle.kernel_table.specs.Seen.{seen_file, seen}
use Rattle.kernel_table.specs.Room.{HasSockets, IsKept, IsSound}
use Rattle.kernel_table.specs.Names.{KnowsNames}
use Rattle.kernel_model.specs.Boot.{first_pairs}
use Rattle.kernel_rows.proofs.Lists.{list_any-map, map-push}
use Rattle.kernel_model.proofs.CallSteps.{all-append, ascending-append, count-append, and-both, within-shared}

-- ---- the first descriptors
pub first_pairs-none : first_pairs 0 ≡ []
unfolding first_pairs
first_pairs-none = refl

pub first_pairs-more : (n : ℕ) → first_pairs (n + 1) ≡ first_pairs n ++ (3 + n, n + 1) ∷ []
unfolding first_pairs
first_pairs-more n = ap first_pairs (add-one n)

length-first : (n : ℕ) → length (first_pairs n) ≡ n
unfolding first_pairs
length-first zero = refl
length-first (suc n) = length_push (first_pairs n) (3 + n, n + 1) ∙ (let e = length-first n in omega arith)

taken-first : (n k : ℕ) → k < n → list_any (λ (p : ℕ × ℕ). nat_eq p.0 (3 + k)) (first_pairs n) ≡ true
unfolding first_pairs
taken-first zero k lt = absurd (omega arith)
taken-first (suc n) k lt = list_any-append (λ (p : ℕ × ℕ). nat_eq p.0 (3 + k)) (first_pairs n) ((3 + n, n + 1) ∷ []) ∙ at (nat_lt k n) refl (taken-first n k)
  where
    or-true : (a b : Bool) → a ≡ true → (a || b) ≡ true
    or-true true b e = refl
    or-true false b e = absurd (false≢true e)

    or-last : (a b : Bool) → b ≡ true → (a || (b || false)) ≡ true
    or-last true b e = refl
    or-last false b e = ap (λ c. c || false) e

    at : (b : Bool) → nat_lt k n ≡ b → (k < n → list_any (λ (p : ℕ × ℕ). nat_eq p.0 (3 + k)) (first_pairs n) ≡ true) →
        (list_any (λ (p : ℕ × ℕ). nat_eq p.0 (3 + k)) (first_pairs n) || (nat_eq (3 + n) (3 + k) || false)) ≡ true
    at true e ih = or-true _ (nat_eq (3 + n) (3 + k) || false) (ih (grind (arith, nat_tests)))
    at false e ih = or-last (list_any (λ (p : ℕ × ℕ). nat_eq p.0 (3 + k)) (first_pairs n)) (nat_eq (3 + n) (3 + k)) (grind (arith, nat_tests))

free-run : (used : List ℕ) (m fd : ℕ) → ((k : ℕ) → k < m → is_in used (fd + k) ≡ true) → pairs.unused_from m fd used ≡ fd + m
free-run used zero fd taken = omega arith
free-run used (suc m) fd taken =
    let here : is_in used fd ≡ true = subst (λ d. is_in used d ≡ true) (let e : fd + 0 ≡ fd = omega arith in e) (taken 0 (omega arith)) in
    rw here (free-run used m (fd + 1) (λ k lt. subst (λ d. is_in used d ≡ true) (let e : fd + suc k ≡ fd + 1 + k = omega arith in e) (taken (suc k) (omega arith))) ∙ omega arith)

lowest-first : (n : ℕ) → pairs.lowest_unused (pairs.descriptors_of (first_pairs n)) ≡ 3 + n
lowest-first n =
    let used = pairs.descriptors_of (first_pairs n) in
    let count : length used ≡ n = length-map (first_pairs n) (λ (p : ℕ × ℕ). p.0) ∙ length-first n in
    rw count (free-run used n 3 (λ k lt. list_any-map (λ d. nat_eq d (3 + k)) (λ (p : ℕ × ℕ). p.0) (first_pairs n) ∙ taken-first n k lt))

below-first : (n : ℕ) → AllByRecursion (λ (p : ℕ × ℕ). p.0 < 3 + n) (first_pairs n)
unfolding first_pairs
below-first zero = tt
below-first (suc n) = snoc (first_pairs n) (below-first n)
  where
    snoc : (ps : List (ℕ × ℕ)) → AllByRecursion (λ (p : ℕ × ℕ). p.0 < 3 + n) ps → AllByRecursion (λ (p : ℕ × ℕ). p.0 < 3 + suc n) (ps ++ (3 + n, n + 1) ∷ [])
    snoc [] h = (omega arith, tt)
    snoc (p ∷ ps) h = (omega (arith, h.0), snoc ps h.1)

put-last : (ps : List (ℕ × ℕ)) (fd s : ℕ) → AllByRecursion (λ (p : ℕ × ℕ). p.0 < fd) ps → pairs.put_pair ps fd s ≡ ps ++ (fd, s) ∷ []
put-last [] fd s h = refl
put-last (p ∷ ps) fd s h =
    let less = h.0 in
    let no : nat_lt fd p.0 ≡ false = grind (arith, nat_tests) in
    rw no (ap (λ qs. p ∷ qs) (put-last ps fd s h.1))

-- one descriptor more
pub first_pairs-put : {E : Type 0} (r : Result ℕ E) (old new : List (ℕ × ℕ)) (n : ℕ) → n < 64 → old ≡ first_pairs n →
    IfOk r (λ fd. fd ≡ pairs.lowest_unused (pairs.descriptors_of old)) →
    IfOk r (λ fd. new ≡ pairs.put_pair old fd (n + 1)) → (IsErr r → length old ≡ 64) → new ≡ first_pairs (n + 1)
first_pairs-put (Ok fd) old new n lt is lowest after full =
    let low : fd ≡ 3 + n = lowest ∙ ap (λ ps. pairs.lowest_unused (pairs.descriptors_of ps)) is ∙ lowest-first n in
    after ∙ rw (is, low) (put-last (first_pairs n) (3 + n) (n + 1) (below-first n) ∙ sym (first_pairs-more n))
first_pairs-put (Err e) old new n lt is lowest after full =
    let many : length old ≡ 64 = full refl in
    let count : length old ≡ n = ap length is ∙ length-first n in
    absurd (omega arith)

-- ---- the first holds
holds_from-push : (fd s : ℕ) (xs : List Address) (a : Address) →
    holds_from fd s (xs ++ a ∷ [])
    ≡ holds_from fd s xs ++ (record { fd = fd + length xs; socket = s + length xs; address = a }) ∷ []
holds_from-push fd s [] a =
    let d : fd ≡ fd + 0 = omega arith in
    let n : s ≡ s + 0 = omega arith in
    (λ i. (record { fd = d i; socket = n i; address = a }) ∷ [])
holds_from-push fd s (x ∷ xs) a =
    let d : fd + 1 + length xs ≡ fd + suc (length xs) = omega arith in
    let n : s + 1 + length xs ≡ s + suc (length xs) = omega arith in
    let last : record { fd = fd + 1 + length xs; socket = s + 1 + length xs; address = a } ≡ (let h : Hold = record { fd = fd + suc (length xs); socket = s + suc (length xs); address = a } in h) = λ i. record { fd = d i; socket = n i; address = a } in
    ap (λ hs. (record { fd = fd; socket = s; address = x }) ∷ hs) (holds_from-push (fd + 1) (s + 1) xs a ∙ ap (λ (h : Hold). holds_from (fd + 1) (s + 1) xs ++ h ∷ []) last)

seen-first : (addresses : List Address) (n : ℕ) → n ≤ length addresses → seen_holds addresses (first_pairs n) ≡ holds_from 3 1 (take n addresses)
seen-first addresses zero le = ap (seen_holds addresses) first_pairs-none
seen-first addresses (suc n) le =
    let all : suc n ≡ n + 1 = omega arith in
    let count : length (take n addresses) ≡ n = length-take-le n addresses (omega arith) in
    let at : n + 1 - 1 ≡ n = omega arith in
    let a = get_or addresses n [] in
    let fd : 3 + n ≡ 3 + length (take n addresses) = omega arith in
    let socket : n + 1 ≡ 1 + length (take n addresses) = omega arith in
    let address : address_of addresses (n + 1) ≡ a = ap (λ i. get_or addresses i []) at in
    let hold : Hold = record { fd = 3 + length (take n addresses); socket = 1 + length (take n addresses); address = a } in
    let last : seen_hold addresses (3 + n, n + 1) ≡ hold = λ i. record { fd = fd i; socket = socket i; address = address i } in
    rw all
    (ap (seen_holds addresses) (first_pairs-more n) ∙ map-push (seen_hold addresses) (first_pairs n) (3 + n, n + 1)
    ∙ ap (λ hs. hs ++ seen_hold addresses (3 + n, n + 1) ∷ []) (seen-first addresses n (omega arith))
    ∙ ap (λ (h : Hold). holds_from 3 1 (take n addresses) ++ h ∷ []) last
    ∙ sym (holds_from-push 3 1 (take n addresses) a)
    ∙ sym (ap (holds_from 3 1) (take_more addresses n [] (omega arith))))

-- the sockets of the first addresses
pub first-holds : (addresses : List Address) (n : ℕ) → n ≡ length addresses → seen_holds addresses (first_pairs n) ≡ holds_from 3 1 addresses
first-holds addresses n e = seen-first addresses n (omega (arith, e)) ∙ ap (holds_from 3 1) (take_all n addresses (omega (arith, e)))

-- ---- the first rows
pub first_rows-more : (posts : Posts) (holds : List Hold) (n : ℕ) → first_rows posts holds (n + 1) ≡ first_rows posts holds n ++ first_worker posts holds n ∷ []
first_rows-more posts holds n =
    ap (λ k. Master 100 1 1 true holds ∷ map (first_worker posts holds) (numbers_below k)) (add-one n)
    ∙ ap (λ rows. Master 100 1 1 true holds ∷ rows) (map-push (first_worker posts holds) (numbers_below n) n)

module _ (posts : Posts) (holds : List Hold) where
  all-workers : (P : Process → Type 0) (limit n : ℕ) → n ≤ limit →
      ((k : ℕ) → k < limit → P (first_worker posts holds k)) →
      AllByRecursion P (map (first_worker posts holds) (numbers_below n))
  all-workers P limit zero le h = tt
  all-workers P limit (suc n) le h =
      subst (AllByRecursion P) (sym (map-push (first_worker posts holds) (numbers_below n) n))
      (all-append P (map (first_worker posts holds) (numbers_below n)) (first_worker posts holds n) (all-workers P limit n (omega arith) h) (h n (omega arith)))

  ascending-workers : (n : ℕ) → IsAscending 101 (map (first_worker posts holds) (numbers_below n)) (101 + n)
  ascending-workers zero = omega arith
  ascending-workers (suc n) =
      let next : 101 + n + 1 ≡ 101 + suc n = omega arith in
      subst (λ rows. IsAscending 101 rows (101 + suc n)) (sym (map-push (first_worker posts holds) (numbers_below n) n))
      (subst (IsAscending 101 (map (first_worker posts holds) (numbers_below n) ++ first_worker posts holds n ∷ [])) next (ascending-append (map (first_worker posts holds) (numbers_below n)) 101 (101 + n) (first_worker posts holds n) refl (ascending-workers n)))

  module _ (q : ℕ) (g : Generation) (k : ℕ) where
    number-of : (n : ℕ) → is_worker is_active q g k (first_worker posts holds n) ≡ true → n ≡ k
    number-of n e =
        let rest = and-both (nat_eq 100 q) (same_generation first_generation g && nat_eq n k) e in
        let last = and-both (same_generation first_generation g) (nat_eq n k) rest.1 in
        let is = last.1 in
        grind (arith, nat_tests)

    count-workers : (n : ℕ) →
        (n ≤ k → count_by (is_worker is_active q g k) (map (first_worker posts holds) (numbers_below n)) ≡ 0) ×
        (count_by (is_worker is_active q g k) (map (first_worker posts holds) (numbers_below n)) ≤ 1)
    count-workers zero = (λ le. refl, omega arith)
    count-workers (suc n) =
        let more = ap (count_by (is_worker is_active q g k)) (map-push (first_worker posts holds) (numbers_below n) n) ∙ count-append (is_worker is_active q g k) (map (first_worker posts holds) (numbers_below n)) (first_worker posts holds n) in
        at (is_worker is_active q g k (first_worker posts holds n)) (number-of n) (count-workers n) more
      where
        at : (b : Bool) → (b ≡ true → n ≡ k)
            → (n ≤ k → count_by (is_worker is_active q g k) (map (first_worker posts holds) (numbers_below n)) ≡ 0) ×
            (count_by (is_worker is_active q g k) (map (first_worker posts holds) (numbers_below n)) ≤ 1)
            → count_by (is_worker is_active q g k) (map (first_worker posts holds) (numbers_below (suc n)))
            ≡ count_by (is_worker is_active q g k) (map (first_worker posts holds) (numbers_below n)) + cond b 1 0
            → (suc n ≤ k → count_by (is_worker is_active q g k) (map (first_worker posts holds) (numbers_below (suc n)))
            ≡ 0) ×
            (count_by (is_worker is_active q g k) (map (first_worker posts holds) (numbers_below (suc n))) ≤ 1)
        at true same ih more = let e = same refl in let none = ih.0 (omega arith) in (λ le. absurd (omega arith), omega arith)
        at false same ih more = (λ le. (let none = ih.0 (omega arith) in omega arith), (let most = ih.1 in omega arith))

-- no worker is a master
count-masters : (posts : Posts) (holds : List Hold) (i n : ℕ) → count_by (is_image i) (map (first_worker posts holds) (numbers_below n)) ≡ 0
count-masters posts holds i zero = refl
count-masters posts holds i (suc n) =
    let more = ap (count_by (is_image i)) (map-push (first_worker posts holds) (numbers_below n) n) ∙ count-append (is_image i) (map (first_worker posts holds) (numbers_below n)) (first_worker posts holds n) in
    let rest = count-masters posts holds i n in
    omega arith

one-at-most : (b : Bool) {m n : ℕ} → m ≡ cond b 1 0 + n → n ≡ 0 → m ≤ 1
one-at-most true e z = omega (arith, e, z)
one-at-most false e z = omega (arith, e, z)

within-from : (next fd s : ℕ) (xs : List Address) → 1 ≤ s → s + length xs ≤ next →
    AllByRecursion (λ (h : Hold). (1 ≤ h.socket) × (h.socket < next)) (holds_from fd s xs)
within-from next fd s [] least le = tt
within-from next fd s (x ∷ xs) least le = ((least, omega arith), within-from next (fd + 1) (s + 1) xs (omega arith) (omega arith))

-- a start keeps what every table keeps
pub IsKept-booted : (listeners : List Address) (groups : List Group) (n : ℕ) (pid_file : Option FilePath)
    (limits : Limits) → limits.descriptors ≤ 64 → IsKept (booted listeners groups n pid_file limits)
IsKept-booted listeners groups n pid_file limits most =
    let posts = first_posts groups in
    let holds = holds_from 3 1 listeners in
    let rows = first_rows posts holds n in
    let sockets = within-from (length listeners + 1) 3 1 listeners (omega arith) (omega arith) in
    record {
      masters = λ i.
          let first = sum_by-cons (λ (p : Process). cond (is_image i p) 1 0) (Master 100 1 1 true holds) (map (first_worker posts holds) (numbers_below n)) in
          let rest = count-masters posts holds i n in
          one-at-most (is_image i (Master 100 1 1 true holds)) first rest;
      formed = record {
        once = λ q g k.
            let test = is_worker is_active q g k in
            let first = sum_by-cons (λ (p : Process). cond (test p) 1 0) (Master 100 1 1 true holds) (map (first_worker posts holds) (numbers_below n)) in
            let rest = (count-workers posts holds q g k n).1 in
            omega (arith, first, rest);
        quiet = (tt, all-workers posts holds IsQuiet n n (omega arith) (λ k lt. tt));
        parents = (tt, all-workers posts holds (HasParent rows) n n (omega arith) (λ k lt. refl));
        ascending = (omega arith, ascending-workers posts holds n);
      };
      sockets = (sockets, all-workers posts holds (HasSockets (length listeners + 1)) n n (omega arith) (λ k lt. within-shared (fds_of posts k) (length listeners + 1) holds sockets));
      first = omega arith;
      descriptors = most;
    }

module _ (s : Store) (listeners : List Address) (groups : List Group) (n : ℕ) (pid_file : Option FilePath)
    (limits : Limits) (first : List (ℕ × ℕ)) (same : s.addresses.items ≡ listeners)
    (holds : first ≡ first_pairs (length listeners))
    (rows : (addresses : List Address) →
    seen_rows addresses s.holders.items ≡ first_rows (first_posts groups) (seen_holds addresses first) n)
    (files : map seen_file s.files.items ≡ first_files pid_file) (next : s.next_process ≡ 101 + n)
    (limit : s.limits ≡ limits) where
  -- the store of a start
  pub seen-booted : seen s ≡ booted listeners groups n pid_file limits
  seen-booted =
      let held : seen_holds listeners first ≡ holds_from 3 1 listeners = ap (seen_holds listeners) holds ∙ first-holds listeners (length listeners) refl in
      let all = ap (λ addresses. seen_rows addresses s.holders.items) same ∙ rows listeners ∙ ap (λ hs. first_rows (first_posts groups) hs n) held in
      let count = ap (λ xs. length xs + 1) same in
      (λ i. record { rows = all i; files = files i; next_process = next i; next_socket = count i; limits = limit i })

  pub sound-booted : length s.holders.items ≤ s.holders.capacity → n ≤ 1024 → limits.descriptors ≤ 64 → length listeners ≤ 64 → KnowsNames s → IsSound 0 s
  sound-booted room few most short names = record {
    room = record {
      memory = record { holders = omega (arith, room); addresses = omega (arith, s.addresses.ok.1); files = omega (arith, s.files.ok.1) };
      process_numbers = omega (arith, next);
      socket_numbers = (let count = ap length same in omega arith);
    };
    kept = subst IsKept (sym seen-booted) (IsKept-booted listeners groups n pid_file limits most);
    names = names;
  }
