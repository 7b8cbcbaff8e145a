-- Who serves an address.
use Rattle.std.proofs.Common.{◌≡◌, ℕ, zero, suc, ◌+◌, ◌-◌, ◌<◌, ◌≤◌, Bool, true, false, cond, ◌&&◌, ◌||◌, Option, Some}
use Rattle.std.proofs.Common.{None, is_some, count_by, bytes_eq, List, [], ◌∷◌, length, get_or, take, refl, sym, ap}
use Rattle.std.proofs.Common.{subst, ◌∙◌, inl, inr, ◌⊎◌, ⊎_elim, arith}
use Rattle.std.specs.Option.{option_map}
use Rattle.std.specs.List.{list_any, AllByRecursion}
use Rattle.std.specs.FinMap.{find, put}
use Rattle.std.proofs.Math.Bool.{or-true, or-false}
use Rattle.std.proofs.lemmas.Bool.{false≢true}
use Rattle.std.proofs.lemmas.Bool.Decides.{nat_tests}
use Rattle.std.proofs.lemmas.List.Folds.{list_any_more}
use Rattle.std.proofs.lemmas.List.Sums.{sum_by-cons, count_by-le-length}
use Rattle.definitions.specs.Table.{Address, Generation, Hold, Process, Master, Worker, Foreign, same_generation}
use Rattle.definitions.specs.Table.{has_address, number_of, Table, service, IsSame, IsAscending}
use Rattle.call_laws.specs.Pieces.{is_live_with, is_serving_as}
use Rattle.kernel_rows.specs.declared.process.Holder.{Holder}
use Rattle.kernel_rows.specs.declared.process.Row.{Row}
use Rattle.kernel_rows.specs.declared.process.Row.TheVariants as row
use Rattle.kernel_rows.specs.Holds.{address_of, seen_holds}
use Rattle.kernel_table.specs.Room.{HasSockets}
use Rattle.kernel_rows.specs.Seen.{process_of, seen_rows, seen_holder}
use Rattle.kernel_service.specs.Services.{Counts, Services, address_cmp, generation_cmp, count_at, at}
use Rattle.kernel_service.proofs.Services.{tied-same, same-generation, count-put, same-address, at-put}

---- Counts

pub same-itself : (g : Generation) → same_generation g g ≡ true
same-itself g = grind (arith, nat_tests)

-- one worker more in a generation
pub count-one : (g q : Generation) (counts : Counts) →
    count_at (put generation_cmp g (count_at counts g + 1) counts) q
    ≡ cond (same_generation g q) (count_at counts q + 1) (count_at counts q)
count-one g q counts = count-put g q (count_at counts g + 1) counts ∙ ap (λ b. cond b (count_at counts g + 1) (count_at counts q)) (tied-same q g) ∙ at (same_generation g q) refl
  where
    at : (b : Bool) → same_generation g q ≡ b → cond b (count_at counts g + 1) (count_at counts q) ≡ cond b (count_at counts q + 1) (count_at counts q)
    at true e = ap (λ h. count_at counts h + 1) (same-generation g q e)
    at false e = refl

module _ (a : Address) (addresses : List Address) (holders : List Holder) where
  -- The workers that are counted, and those that are still to come, are all.
  abbrev pub AreCounted : List Holder → Counts → Type 0
  AreCounted left counts =
      (g : Generation) → count_at counts g + count_by (is_serving_as a g) (seen_rows addresses left)
      ≡ count_by (is_serving_as a g) (seen_rows addresses holders)

  module _ (left rest : List Holder) (h : Holder) (turn : left ≡ h ∷ rest) where
    rows-more : (g : Generation) →
        count_by (is_serving_as a g) (seen_rows addresses left)
        ≡ cond (is_serving_as a g (seen_holder addresses h)) 1 0 + count_by (is_serving_as a g)
        (seen_rows addresses rest)
    rows-more g =
        ap (λ (hs : List Holder). count_by (is_serving_as a g) (seen_rows addresses hs)) turn
        ∙ sum_by-cons (λ (p : Process). cond (is_serving_as a g p) 1 0) (seen_holder addresses h) (seen_rows addresses rest)

    pub counted-more : (old new : Counts) →
        ((g : Generation) → count_at new g
        ≡ cond (is_serving_as a g (seen_holder addresses h)) (count_at old g + 1) (count_at old g)) →
        AreCounted left old → AreCounted rest new
    counted-more old new step counted g = at (is_serving_as a g (seen_holder addresses h)) (rows-more g) (step g) (counted g)
      where
        at : (b : Bool) → count_by (is_serving_as a g) (seen_rows addresses left)
            ≡ cond b 1 0 + count_by (is_serving_as a g) (seen_rows addresses rest) →
            count_at new g ≡ cond b (count_at old g + 1) (count_at old g) →
            count_at old g + count_by (is_serving_as a g) (seen_rows addresses left)
            ≡ count_by (is_serving_as a g) (seen_rows addresses holders) →
            count_at new g + count_by (is_serving_as a g) (seen_rows addresses rest)
            ≡ count_by (is_serving_as a g) (seen_rows addresses holders)
        at true p q r = omega arith
        at false p q r = omega arith

    -- one more was not counted yet
    pub counted-below : (counts : Counts) (g : Generation) → is_serving_as a g (seen_holder addresses h) ≡ true →
        AreCounted left counts → count_at counts g + 1 ≤ count_by (is_serving_as a g) (seen_rows addresses holders)
    counted-below counts g serves counted =
        let more = rw serves at (rows-more g) in
        let sum = counted g in
        omega arith

at-most-one : (b : Bool) → cond b 1 0 ≤ 1
at-most-one true = omega arith
at-most-one false = omega arith

-- A live master is no worker.
pub serving-below : (test : List Hold → Bool) (a : Address) (g : Generation) (rows : List Process) →
    list_any (is_live_with test) rows ≡ true → count_by (is_serving_as a g) rows + 1 ≤ length rows
serving-below test a g [] any = absurd (false≢true any)
serving-below test a g (Master n q i live hs ∷ rows) any =
    omega (arith, sum_by-cons (λ (p : Process). cond (is_serving_as a g p) 1 0) (Master n q i live hs) rows, count_by-le-length (is_serving_as a g) rows)
serving-below test a g (Worker n q h k s hs ∷ rows) any =
    let rest = serving-below test a g rows any in
    let one = at-most-one (is_serving_as a g (Worker n q h k s hs)) in
    omega (arith, sum_by-cons (λ (p : Process). cond (is_serving_as a g p) 1 0) (Worker n q h k s hs) rows)
serving-below test a g (Foreign n hs ∷ rows) any =
    let rest = serving-below test a g rows any in
    omega (arith, sum_by-cons (λ (p : Process). cond (is_serving_as a g p) 1 0) (Foreign n hs) rows)

---- Keys

-- What a service gives at an address, where the address is a key if it stands before (L) or here (e), and a live master holds it (O).
module _ {A : Type 0} (f : A) (o : Option A) where
  pub key-kept : (L O e : Bool) → o ≡ cond (L && O) (Some f) None → (e ≡ true → (O ≡ false) ⊎ (is_some o ≡ true)) → o ≡ cond ((L || e) && O) (Some f) None
  key-kept true O e before here = before
  key-kept false O false before here = before
  key-kept false O true before here = ⊎_elim (λ absent. rw absent before) (λ held. absurd (false≢true (ap is_some (sym before) ∙ held))) (here refl)

  pub key-added : (o' : Option A) (L O e : Bool) → o ≡ cond (L && O) (Some f) None →
      (e ≡ true → (O ≡ true) × (o' ≡ Some f)) → (e ≡ false → o' ≡ o) → o' ≡ cond ((L || e) && O) (Some f) None
  key-added o' L O true before here there = let yes = here refl in yes.1 ∙ rw (yes.0, or-true) refl
  key-added o' L O false before here there = there refl ∙ rw or-false before

is_some-map : {A B : Type 0} (f : A → B) (o : Option A) → is_some (option_map f o) ≡ is_some o
is_some-map f None = refl
is_some-map f (Some x) = refl

module _ (rows : List Process) (addresses : List Address) where
  -- The service of the first addresses.
  abbrev pub IsServiceOf : ℕ → Services → Type 0
  IsServiceOf i s =
      (a : Address) → at s a ≡ cond
      (list_any (λ b. bytes_eq b a) (take i addresses) && list_any (is_live_with (has_address a)) rows)
      (Some (λ g. count_by (is_serving_as a g) rows)) None

  module _ (i : ℕ) (x : Address) (lt : i < length addresses) (there : x ≡ get_or addresses i x) (s : Services) (before : IsServiceOf i s) where
    any-more : (a : Address) → list_any (λ b. bytes_eq b a) (take (i + 1) addresses) ≡ (list_any (λ b. bytes_eq b a) (take i addresses) || bytes_eq x a)
    any-more a = list_any_more (λ b. bytes_eq b a) addresses i x lt ∙ ap (λ y. list_any (λ b. bytes_eq b a) (take i addresses) || bytes_eq y a) (sym there)

    -- an address that nobody offers, or that is a key
    pub service-kept : (list_any (is_live_with (has_address x)) rows ≡ false) ⊎ (is_some (find address_cmp x s) ≡ true) → IsServiceOf (i + 1) s
    service-kept here a =
        let held : (list_any (is_live_with (has_address x)) rows ≡ false) ⊎ (is_some (at s x) ≡ true) = ⊎_elim (λ p. inl p) (λ p. inr (is_some-map count_at (find address_cmp x s) ∙ p)) here in
        rw (any-more a) (key-kept (λ g. count_by (is_serving_as a g) rows) (at s a)
        (list_any (λ b. bytes_eq b a) (take i addresses)) (list_any (is_live_with (has_address a)) rows)
        (bytes_eq x a) (before a)
        (λ e. subst (λ b. (list_any (is_live_with (has_address b)) rows ≡ false) ⊎ (is_some (at s b) ≡ true)) (same-address x a e) held))

    -- a new key
    pub service-added : (counts : Counts) → list_any (is_live_with (has_address x)) rows ≡ true →
        ((g : Generation) → count_at counts g ≡ count_by (is_serving_as x g) rows) →
        IsServiceOf (i + 1) (put address_cmp x counts s)
    service-added counts offered counted a =
        rw (any-more a) (key-added (λ g. count_by (is_serving_as a g) rows) (at s a) (at (put address_cmp x counts s) a)
        (list_any (λ b. bytes_eq b a) (take i addresses)) (list_any (is_live_with (has_address a)) rows)
        (bytes_eq x a) (before a) here there-not)
      where
        here : bytes_eq x a ≡ true → (list_any (is_live_with (has_address a)) rows ≡ true) ×
            (at (put address_cmp x counts s) a ≡ Some (λ g. count_by (is_serving_as a g) rows))
        here e =
            let same = same-address x a e in
            let each : (g : Generation) → count_at counts g ≡ count_by (is_serving_as a g) rows = λ g. counted g ∙
            ap (λ b. count_by (is_serving_as b g) rows) same in
            let all : count_at counts ≡ (λ g. count_by (is_serving_as a g) rows) = λ j g. each g j in
            (subst (λ b. list_any (is_live_with (has_address b)) rows ≡ true) same offered, at-put x a counts s ∙ ap (λ b. cond b (Some (count_at counts)) (at s a)) e ∙ ap Some all)

        there-not : bytes_eq x a ≡ false → at (put address_cmp x counts s) a ≡ at s a
        there-not e = at-put x a counts s ∙ ap (λ b. cond b (Some (count_at counts)) (at s a)) e

---- Every address that is held is one of the sockets'

-- the sockets are those of the addresses
abbrev Lies : List Address → List Hold → Type 0
Lies addresses hs = AllByRecursion (λ (h : Hold). (1 ≤ h.socket) × (h.socket < length addresses + 1)) hs

any-at : {X : Type 0} (p : X → Bool) (xs : List X) (k : ℕ) (d : X) → k < length xs → p (get_or xs k d) ≡ true → list_any p xs ≡ true
any-at p [] k d lt e = absurd (omega arith)
any-at p (x ∷ xs) zero d lt e = rw e refl
any-at p (x ∷ xs) (suc k) d lt e = rw (any-at p xs k d (omega arith) e, or-true) refl

one_is_true : (b c : Bool) → (b || c) ≡ true → (b ≡ true) ⊎ (c ≡ true)
one_is_true true c e = inl refl
one_is_true false c e = inr e

module _ (addresses : List Address) (a : Address) where
  held-from_holds : (pairs : List (ℕ × ℕ)) → Lies addresses (seen_holds addresses pairs) →
      has_address a (seen_holds addresses pairs) ≡ true → list_any (λ b. bytes_eq b a) addresses ≡ true
  held-from_holds [] lies any = absurd (false≢true any)
  held-from_holds (p ∷ ps) lies any =
      ⊎_elim (λ here. any-at (λ b. bytes_eq b a) addresses (p.1 - 1) [] (let l = lies.0 in omega arith) here) (λ rest. held-from_holds ps lies.1 rest)
      (one_is_true (bytes_eq (address_of addresses p.1) a) (has_address a (seen_holds addresses ps)) any)

  live-holds : (row : Row) (hs : List Hold) → is_live_with (has_address a) (process_of row hs) ≡ true → has_address a hs ≡ true
  live-holds (row.Master n q i true) hs e = e
  live-holds (row.Master n q i false) hs e = absurd (false≢true e)
  live-holds (row.Worker n q g k s) hs e = absurd (false≢true e)
  live-holds (row.Foreign n) hs e = absurd (false≢true e)

  row-lies : (row : Row) (hs : List Hold) → HasSockets (length addresses + 1) (process_of row hs) → Lies addresses hs
  row-lies (row.Master n q i live) hs h = h
  row-lies (row.Worker n q g k s) hs h = h
  row-lies (row.Foreign n) hs h = h

  pub held-from_live : (holders : List Holder) →
      AllByRecursion (HasSockets (length addresses + 1)) (seen_rows addresses holders) →
      list_any (is_live_with (has_address a)) (seen_rows addresses holders) ≡ true →
      list_any (λ b. bytes_eq b a) addresses ≡ true
  held-from_live [] lies any = absurd (false≢true any)
  held-from_live (h ∷ hs) lies any =
      let holds = seen_holds addresses h.holds in
      ⊎_elim (λ here. held-from_holds h.holds (row-lies h.row holds lies.0) (live-holds h.row holds here)) (λ rest. held-from_live hs lies.1 rest)
      (one_is_true (is_live_with (has_address a) (seen_holder addresses h)) (list_any (is_live_with (has_address a)) (seen_rows addresses hs)) any)

-- as many rows as numbers
pub length-ascending : (rows : List Process) (least next : ℕ) → IsAscending least rows next → least + length rows ≤ next
length-ascending [] least next h = omega arith
length-ascending (p ∷ rows) least next h =
    let rest = length-ascending rows (number_of p + 1) next h.1 in
    let low = h.0 in
    omega arith

key-all : {A : Type 0} (f : A) (o : Option A) (L O : Bool) → (O ≡ true → L ≡ true) → o ≡ cond (L && O) (Some f) None → o ≡ cond O (Some f) None
key-all f o true O all e = e
key-all f o false false all e = e
key-all f o false true all e = absurd (false≢true (all refl))

-- The service of all addresses.
abbrev pub IsWhole : List Address → List Holder → Services → Type 0
IsWhole addresses holders s =
    (a : Address) → at s a ≡ cond
    (list_any (λ b. bytes_eq b a) addresses && list_any (is_live_with (has_address a)) (seen_rows addresses holders))
    (Some (λ g. count_by (is_serving_as a g) (seen_rows addresses holders))) None

-- It is that of the rows.
pub service-whole : (t : Table) (addresses : List Address) (holders : List Holder) (s : Services) →
    t.rows ≡ seen_rows addresses holders →
    AllByRecursion (HasSockets (length addresses + 1)) (seen_rows addresses holders)
    → IsWhole addresses holders s → IsSame (at s) (service t)
service-whole t addresses holders s rows lies each a =
    rw rows (key-all (λ g. count_by (is_serving_as a g) (seen_rows addresses holders)) (at s a)
    (list_any (λ b. bytes_eq b a) addresses) (list_any (is_live_with (has_address a)) (seen_rows addresses holders))
    (held-from_live addresses a holders lies) (each a))
