-- No run comes twice.
use Rattle.std.proofs.Common.{◌≡◌, ◌≢◌, ◌≤◌, ◌<◌, ◌+◌, inl, inr, ℕ, zero, suc, Bool, true, false, cond, List, [], ◌∷◌}
use Rattle.std.proofs.Common.{◌++◌, map, Option, Some, None, refl, ap, sym, ◌∙◌, subst, arith}
use Rattle.std.specs.Prelude.{◌==◌, ◌&&◌, nat_lt, IfSome, ⊤}
use Rattle.std.specs.List.{All, AllPairs, AllByRecursion, filter, filter_map, cons_option}
use Rattle.std.proofs.lemmas.Bool.{ltb-true, ltb-false, eqb-true, eqb-false, cond_both}
use Rattle.std.proofs.lemmas.List.Kept.{AllPairs-cons}
use Rattle.listener_set.specs.Numbers.{RisesFrom, is_in}
use Rattle.vocabulary.specs.declared.names.Name.{Name}
use Rattle.vocabulary.specs.declared.names.Name.TheVariants as name
use Rattle.vocabulary.specs.declared.calls.Fate.TheVariants as fate
use Rattle.vocabulary.specs.declared.targets.Target.{Target}
use Rattle.definitions.specs.Table.{Process, Master, Worker, Foreign, Table, number_of, is_active, IsFormed}
use Rattle.definitions.specs.Table.{IsAscending}
use Rattle.definitions.specs.Master.{Record, handover_for}
use Rattle.definitions.specs.Plans.{Turn}
use Rattle.definitions.specs.Calls.{after_exits, Call, Fate, step_with, Handed}
use Rattle.definitions.specs.Run.{Entry, Pattern}
use Rattle.definitions.specs.Claims.{run_of, heirs_of}
use Rattle.kernel_model.specs.Readers.{row_of}
use Rattle.explorer.specs.declared.events.Mishap.{Mishap}
use Rattle.explorer.specs.declared.events.Mishap.TheVariants.{Exit, Fail}
use Rattle.explorer.specs.declared.events.Event.{Event}
use Rattle.explorer.specs.declared.events.Tried.{Tried}
use Rattle.explorer.specs.declared.events.Tried.TheVariants.{Nothing, One, Two}
use Rattle.vocabulary.specs.Fates.{all_fates}
use Rattle.explorer.specs.Events.{pattern_of, events_in, takes_effect, exit_of, mishaps_at, beside, open_at, waiting, event_at, met}
use Rattle.explorer.specs.Explored.{events_after, with_pairs, each_with_pairs, all_tried, IsBeside, IsBehind, IsInOrder, most_events, AreOnce}
use Rattle.explorer.proofs.Numbers.{Rises, rises-exits, rises-step}

---- Lists whose items differ

-- each from all behind it
abbrev Differ : {X : Type 0} → List X → Type 0
Differ [] = ⊤
Differ (x ∷ xs) = AllByRecursion (λ y. x ≢ y) xs × Differ xs

everywhere : {X : Type 0} (P : X → Type 0) → ((x : X) → P x) → (xs : List X) → AllByRecursion P xs
everywhere P h [] = tt
everywhere P h (x ∷ xs) = (h x, everywhere P h xs)

weaken : {X : Type 0} (P Q : X → Type 0) → ((x : X) → P x → Q x) → (xs : List X) → AllByRecursion P xs → AllByRecursion Q xs
weaken P Q up [] h = tt
weaken P Q up (x ∷ xs) h = (up x h.0, weaken P Q up xs h.1)

all-map : {X Y : Type 0} (P : Y → Type 0) (f : X → Y) (xs : List X) → AllByRecursion (λ x. P (f x)) xs → AllByRecursion P (map f xs)
all-map P f [] h = tt
all-map P f (x ∷ xs) h = (h.0, all-map P f xs h.1)

all-append : {X : Type 0} (P : X → Type 0) (xs ys : List X) → AllByRecursion P xs → AllByRecursion P ys → AllByRecursion P (xs ++ ys)
all-append P [] ys h g = g
all-append P (x ∷ xs) ys h g = (h.0, all-append P xs ys h.1 g)

all-filter : {X : Type 0} (P : X → Type 0) (test : X → Bool) (xs : List X) → AllByRecursion P xs → AllByRecursion P (filter test xs)
all-filter P test [] h = tt
all-filter P test (x ∷ xs) h =
    let rest = all-filter P test xs h.1 in
    cond_both (test x) (x ∷ filter test xs) (filter test xs) (AllByRecursion P) (λ is. (h.0, rest)) (λ is. rest)

differ-map : {X Y : Type 0} (f : X → Y) → ((x y : X) → f x ≡ f y → x ≡ y) → (xs : List X) → Differ xs → Differ (map f xs)
differ-map f back [] h = tt
differ-map f back (x ∷ xs) h =
    (all-map (λ y. f x ≢ y) f xs (weaken (λ y. x ≢ y) (λ y. f x ≢ f y) (λ y not same. not (back x y same)) xs h.0), differ-map f back xs h.1)

differ-append : {X : Type 0} (xs ys : List X) → Differ xs → Differ ys → AllByRecursion (λ x. AllByRecursion (λ y. x ≢ y) ys) xs → Differ (xs ++ ys)
differ-append [] ys h g apart = g
differ-append (x ∷ xs) ys h g apart = (all-append (λ y. x ≢ y) xs ys h.0 apart.0, differ-append xs ys h.1 g apart.1)

differ-filter : {X : Type 0} (test : X → Bool) (xs : List X) → Differ xs → Differ (filter test xs)
differ-filter test [] h = tt
differ-filter test (x ∷ xs) h =
    let rest = differ-filter test xs h.1 in
    cond_both (test x) (x ∷ filter test xs) (filter test xs) Differ (λ is. (all-filter (λ y. x ≢ y) test xs h.0, rest)) (λ is. rest)

above : {X : Type 0} (f : X → ℕ) (a b : ℕ) (xs : List X) → a ≤ b → RisesFrom b (map f xs) → AllByRecursion (λ x. a ≤ f x) xs
above f a b [] le h = tt
above f a b (x ∷ xs) le h = (omega (arith, le, h.0), above f a (f x + 1) xs (omega (arith, le, h.0)) h.1)

-- whose numbers rise
differ-rising : {X : Type 0} (f : X → ℕ) (a : ℕ) (xs : List X) → RisesFrom a (map f xs) → Differ xs
differ-rising f a [] h = tt
differ-rising f a (x ∷ xs) h =
    (weaken (λ y. f x + 1 ≤ f y) (λ y. x ≢ y) (λ y lt same. omega (arith, lt, ap f same)) xs (above f (f x + 1) (f x + 1) xs (omega arith) h.1), differ-rising f (f x + 1) xs h.1)

all-at : {X : Type 0} (P : X → Type 0) (xs : List X) → AllByRecursion P xs → All P xs
all-at P [] h k d lt = absurd (omega (arith, lt))
all-at P (x ∷ xs) h zero d lt = h.0
all-at P (x ∷ xs) h (suc k) d lt = all-at P xs h.1 k d (omega (arith, lt))

all-pairs : {X : Type 0} (xs : List X) → Differ xs → AllPairs (λ x y. x ≢ y) xs
all-pairs [] h = λ i j d lt within. absurd (omega (arith, within))
all-pairs (x ∷ xs) h = AllPairs-cons (λ x y. x ≢ y) x xs (all-at (λ y. x ≢ y) xs h.0) (all-pairs xs h.1)

---- What can go wrong at a call

abbrev place : Fate → ℕ
place fate.InUse = 0
place fate.TooMany = 1
place fate.Denied = 2
place fate.NoMemory = 3
place fate.Again = 4
place fate.Late = 5
place fate.NoImage = 6
place fate.Refused = 7
place fate.IoFault = 8
place fate.Back = 9

fates-differ : Differ all_fates
fates-differ = differ-rising place 0 all_fates (omega arith, (omega arith, (omega arith, (omega arith, (omega arith, (omega arith, (omega arith, (omega arith, (omega arith, (omega arith, tt))))))))))

abbrev process_in : Mishap → ℕ
process_in (Exit n q) = q
process_in (Fail f) = 0

-- the exit of a process with a higher number
abbrev IsExitAbove : ℕ → Mishap → Type 0
IsExitAbove least (Exit n q) = least < q
IsExitAbove least (Fail f) = ⊥

abbrev IsExitOf : ℕ → ℕ → Mishap → Type 0
IsExitOf least p m = IsExitAbove least m × (process_in m ≡ p)

module _ (heirs : List ℕ) (least : ℕ) where
  when : (a b c : Bool) (m : Mishap) (P : Mishap → Type 0) → (c ≡ true → P m) → IfSome (cond (a && b && c) (Some m) None) P
  when true true true m P h = h refl
  when true true false m P h = tt
  when true false c m P h = tt
  when false b c m P h = tt

  exit-is : (p : Process) → IfSome (exit_of heirs least (row_of p)) (IsExitOf least (number_of p))
  exit-is (Worker n q g k s hs) =
      when (is_active s) (nat_lt k 1024) (nat_lt least n) (Exit (name.Worker g k) n) (IsExitOf least n) (λ is. (ltb-true least n is, refl))
  exit-is (Master n q i live hs) =
      when live (is_in heirs i) (nat_lt least n) (Exit (name.Master i) n) (IsExitOf least n) (λ is. (ltb-true least n is, refl))
  exit-is (Foreign n hs) = tt

  abbrev exits : List Process → List Mishap
  exits rows = filter_map (exit_of heirs least) (map row_of rows)

  are-exits : (rows : List Process) → AllByRecursion (IsExitAbove least) (exits rows)
  are-exits [] = tt
  are-exits (p ∷ rows) = at (exit_of heirs least (row_of p)) (exit-is p) (are-exits rows)
    where
      at : (o : Option Mishap) → IfSome o (IsExitOf least (number_of p)) →
          AllByRecursion (IsExitAbove least) (exits rows) →
          AllByRecursion (IsExitAbove least) (cons_option o (exits rows))
      at None is rest = rest
      at (Some m) is rest = (is.0, rest)

  lower : (a b : ℕ) (ns : List ℕ) → a ≤ b → RisesFrom b ns → RisesFrom a ns
  lower a b [] le h = tt
  lower a b (n ∷ ns) le h = (omega (arith, le, h.0), h.1)

  exits-rise : (rows : List Process) (a next : ℕ) → IsAscending a rows next → RisesFrom a (map process_in (exits rows))
  exits-rise [] a next h = tt
  exits-rise (p ∷ rows) a next h = at (exit_of heirs least (row_of p)) (exit-is p) (exits-rise rows (number_of p + 1) next h.1)
    where
      at : (o : Option Mishap) → IfSome o (IsExitOf least (number_of p)) →
          RisesFrom (number_of p + 1) (map process_in (exits rows)) →
          RisesFrom a (map process_in (cons_option o (exits rows)))
      at None is rest = lower a (number_of p + 1) (map process_in (exits rows)) (omega (arith, h.0)) rest
      at (Some m) is rest = (omega (arith, h.0, is.1), subst (λ n. RisesFrom (n + 1) (map process_in (exits rows))) (sym is.1) rest)

module _ (handed : Handed) (by : ℕ) (call : Call) (heirs : List ℕ) (t : Table) where
  abbrev fails : List Fate
  fails = filter (takes_effect handed by call t) all_fates

  no-fail : (least : ℕ) (m : Mishap) → IsExitAbove least m → AllByRecursion (λ y. m ≢ y) (map Fail fails)
  no-fail least (Exit n q) is = all-map (λ y. Exit n q ≢ y) Fail fails (everywhere (λ f. Exit n q ≢ Fail f) (λ f same. cc) fails)
  no-fail least (Fail f) is = absurd is

  mishaps-differ : (least : ℕ) → Rises t → Differ (mishaps_at handed by call heirs least t)
  mishaps-differ least h =
      let gone = exits heirs least t.rows in
      differ-append gone (map Fail fails) (differ-rising process_in 0 gone (exits-rise heirs least t.rows 0 t.next_process h))
      (differ-map Fail (λ x y same. cc) fails (differ-filter (takes_effect handed by call t) all_fates fates-differ))
      (weaken (IsExitAbove least) (λ m. AllByRecursion (λ y. m ≢ y) (map Fail fails)) (no-fail least) gone (are-exits heirs least t.rows))

  beside-differ : (m : Mishap) → Rises t → Differ (beside handed by call heirs m t)
  beside-differ (Exit n q) h = mishaps-differ q h
  beside-differ (Fail f) h = tt

  open-differ : (last : Option Event) (n : ℕ) → Rises t → Differ (open_at handed by call heirs last n t)
  open-differ None n h = mishaps-differ 0 h
  open-differ (Some e) n h =
      cond_both (nat_lt n e.number) [] (cond (n == e.number) (beside handed by call heirs e.mishap t) (mishaps_at handed by call heirs 0 t)) Differ (λ is. tt)
      (λ is. cond_both (n == e.number) (beside handed by call heirs e.mishap t) (mishaps_at handed by call heirs 0 t) Differ (λ at. beside-differ e.mishap h) (λ off. mishaps-differ 0 h))

  above-exit : (n : Name) (q : ℕ) (m : Mishap) → IsExitAbove q m → IsBeside (Exit n q) m
  above-exit n q (Exit k p) is = is
  above-exit n q (Fail f) is = absurd is

  are-beside : (m : Mishap) → AllByRecursion (IsBeside m) (beside handed by call heirs m t)
  are-beside (Exit n q) =
      all-append (IsBeside (Exit n q)) (exits heirs q t.rows) (map Fail fails)
      (weaken (IsExitAbove q) (IsBeside (Exit n q)) (above-exit n q) (exits heirs q t.rows) (are-exits heirs q t.rows))
      (all-map (IsBeside (Exit n q)) Fail fails (everywhere (λ f. IsBeside (Exit n q) (Fail f)) (λ f. tt) fails))
  are-beside (Fail f) = tt

  open-behind : (e : Event) (n : ℕ) → AllByRecursion (λ m. IsBehind e (event_at n m)) (open_at handed by call heirs (Some e) n t)
  open-behind e n =
      let P : Mishap → Type 0 = λ m. IsBehind e (event_at n m) in
      cond_both (nat_lt n e.number) [] (cond (n == e.number) (beside handed by call heirs e.mishap t) (mishaps_at handed by call heirs 0 t)) (AllByRecursion P) (λ is. tt)
      (λ from. cond_both (n == e.number) (beside handed by call heirs e.mishap t) (mishaps_at handed by call heirs 0 t) (AllByRecursion P)
      (λ at. weaken (IsBeside e.mishap) P (λ m is. inr (sym (eqb-true n e.number at), is)) (beside handed by call heirs e.mishap t) (are-beside e.mishap))
      (λ off. everywhere P (λ m. inl (omega (arith, ltb-false n e.number from, eqb-false n e.number off))) (mishaps_at handed by call heirs 0 t)))

---- What a run meets

abbrev IsLater : ℕ → Event → Type 0
IsLater n e = n < e.number

met-differ : (handed : Handed) (last : Option Event) (q : Pattern) (heirs : List ℕ) (n : ℕ) (t : Table) (entries : List Entry) → Rises t →
    Differ (met handed last q heirs n t entries) × AllByRecursion (IsLater n) (met handed last q heirs n t entries)
met-differ handed last q heirs n t [] h = (tt, tt)
met-differ handed last q heirs n t (e ∷ es) h =
    let moment = q (n + 1) in
    let middle = after_exits moment.exits t in
    let rises = rises-exits moment.exits t h in
    let waits = waiting e.call heirs in
    let here = open_at handed e.by e.call waits last (n + 1) middle in
    let next : Table = (step_with handed e.by e.call moment.fate middle).table in
    let behind = met handed last q waits (n + 1) next es in
    let rest = met-differ handed last q waits (n + 1) next es (rises-step handed e.by e.call moment.fate middle rises) in
    let apart : (m : Mishap) → AllByRecursion (λ y. event_at (n + 1) m ≢ y) behind =
    λ m. weaken (IsLater (n + 1)) (λ y. event_at (n + 1) m ≢ y) (λ y lt same. omega (arith, lt, ap (λ (x : Event). x.number) same)) behind rest.1 in (
      differ-append (map (event_at (n + 1)) here) behind (differ-map (event_at (n + 1)) (λ x y same. ap (λ (v : Event). v.mishap) same) here (open-differ handed e.by e.call waits middle last (n + 1) rises)) rest.0
          (all-map (λ x. AllByRecursion (λ y. x ≢ y) behind) (event_at (n + 1)) here (everywhere (λ m. AllByRecursion (λ y. event_at (n + 1) m ≢ y) behind) apart here)),
      all-append (IsLater n) (map (event_at (n + 1)) here) behind (all-map (IsLater n) (event_at (n + 1)) here (everywhere (λ m. IsLater n (event_at (n + 1) m)) (λ m. omega arith) here))
          (weaken (IsLater (n + 1)) (IsLater n) (λ y lt. omega (arith, lt)) behind rest.1),
    )

met-behind : (handed : Handed) (first : Event) (q : Pattern) (heirs : List ℕ) (n : ℕ) (t : Table)
    (entries : List Entry) → AllByRecursion (IsBehind first) (met handed (Some first) q heirs n t entries)
met-behind handed first q heirs n t [] = tt
met-behind handed first q heirs n t (e ∷ es) =
    let moment = q (n + 1) in
    let middle = after_exits moment.exits t in
    let waits = waiting e.call heirs in
    let here = open_at handed e.by e.call waits (Some first) (n + 1) middle in
    let next : Table = (step_with handed e.by e.call moment.fate middle).table in
    let behind = met handed (Some first) q waits (n + 1) next es in
    all-append (IsBehind first) (map (event_at (n + 1)) here) behind (all-map (IsBehind first) (event_at (n + 1)) here (open-behind handed e.by e.call waits middle first (n + 1)))
    (met-behind handed first q waits (n + 1) next es)

---- All runs of a target

abbrev first_of : Tried → Option Event
first_of Nothing = None
first_of (One e) = Some e
first_of (Two e f) = Some e

module _ (r : Record) (target : Target) (turns : List Turn) (t : Table) (pairs : Bool) where
  abbrev second : Event → List Event
  second e = events_after r target turns t (One e)

  with-all : (P : Tried → Type 0) (e : Event) → P (One e) → AllByRecursion (λ f. P (Two e f)) (second e) →
      AllByRecursion P (with_pairs r target turns t pairs e)
  with-all P e one two = (one, cond_both pairs (map (Two e) (second e)) [] (AllByRecursion P) (λ is. all-map P (Two e) (second e) two) (λ is. tt))

  each-all : (P : Tried → Type 0) → ((e : Event) → AllByRecursion P (with_pairs r target turns t pairs e)) →
      (es : List Event) → AllByRecursion P (each_with_pairs r target turns t pairs es)
  each-all P h [] = tt
  each-all P h (e ∷ es) = all-append P (with_pairs r target turns t pairs e) (each_with_pairs r target turns t pairs es) (h e) (each-all P h es)

  begins : (e : Event) → AllByRecursion (λ x. first_of x ≡ Some e) (with_pairs r target turns t pairs e)
  begins e = with-all (λ x. first_of x ≡ Some e) e refl (everywhere (λ f. first_of (Two e f) ≡ Some e) (λ f. refl) (second e))

  begins-else : (e : Event) (es : List Event) → AllByRecursion (λ d. e ≢ d) es →
      AllByRecursion (λ x. first_of x ≢ Some e) (each_with_pairs r target turns t pairs es)
  begins-else e [] h = tt
  begins-else e (d ∷ ds) h =
      all-append (λ x. first_of x ≢ Some e) (with_pairs r target turns t pairs d) (each_with_pairs r target turns t pairs ds)
      (weaken (λ x. first_of x ≡ Some d) (λ x. first_of x ≢ Some e) (λ x is same. h.0 (same-event (sym same ∙ is))) (with_pairs r target turns t pairs d) (begins d)) (begins-else e ds h.1)
    where
      same-event : {a b : Event} → Some a ≡ Some b → a ≡ b
      same-event same = cc

  module _ (rises : Rises t) where
    with-differ : (e : Event) → Differ (with_pairs r target turns t pairs e)
    with-differ e =
        let es = second e in
        cond_both pairs (map (Two e) es) [] (λ xs. AllByRecursion (λ y. One e ≢ y) xs × Differ xs)
        (λ is. (
          all-map (λ y. One e ≢ y) (Two e) es (everywhere (λ f. One e ≢ Two e f) (λ f same. cc) es),
          differ-map (Two e) (λ x y same. cc) es
              (met-differ (handover_for r target) (Some e) (pattern_of (One e)) (heirs_of r target) 0 t
              (run_of r target turns (pattern_of (One e)) t).entries rises).0,
        ))
        (λ is. (tt, tt))

    each-differ : (es : List Event) → Differ es → Differ (each_with_pairs r target turns t pairs es)
    each-differ [] h = tt
    each-differ (e ∷ es) h =
        let rest = each_with_pairs r target turns t pairs es in
        let else : AllByRecursion (λ y. first_of y ≢ Some e) rest = begins-else e es h.0 in
        differ-append (with_pairs r target turns t pairs e) rest (with-differ e) (each-differ es h.1)
        (weaken (λ x. first_of x ≡ Some e) (λ x. AllByRecursion (λ y. x ≢ y) rest)
        (λ x is. weaken (λ y. first_of y ≢ Some e) (λ y. x ≢ y) (λ y not same. not (sym (ap first_of same) ∙ is)) rest else) (with_pairs r target turns t pairs e) (begins e))

    all-differ : Differ (all_tried r target turns t pairs)
    all-differ =
        let first = met-differ (handover_for r target) None (pattern_of Nothing) (heirs_of r target) 0 t (run_of r target turns (pattern_of Nothing) t).entries rises in (
          each-all (λ y. Nothing ≢ y) (λ e. with-all (λ y. Nothing ≢ y) e (λ same. cc) (everywhere (λ f. Nothing ≢ Two e f) (λ f same. cc) (second e))) (events_after r target turns t Nothing),
          each-differ (events_after r target turns t Nothing) first.0,
        )

  ordered : (e : Event) → AllByRecursion IsInOrder (with_pairs r target turns t pairs e)
  ordered e = with-all IsInOrder e tt (met-behind (handover_for r target) e (pattern_of (One e)) (heirs_of r target) 0 t (run_of r target turns (pattern_of (One e)) t).entries)

few : (r : Record) (target : Target) (turns : List Turn) (t : Table) (pairs : Bool) (e : Event) →
    AllByRecursion (λ x. events_in x ≤ most_events pairs) (with_pairs r target turns t pairs e)
few r target turns t true e =
    with-all r target turns t true (λ x. events_in x ≤ 2) e (omega arith) (everywhere (λ f. events_in (Two e f) ≤ 2) (λ f. omega arith) (second r target turns t true e))
few r target turns t false e = (omega arith, tt)

pub all-once : (r : Record) (target : Target) (turns : List Turn) (t : Table) (pairs : Bool) → IsFormed t →
    AreOnce (most_events pairs) (all_tried r target turns t pairs)
all-once r target turns t pairs formed =
    let es = events_after r target turns t Nothing in
    record {
      distinct = all-pairs (all_tried r target turns t pairs) (all-differ r target turns t pairs formed.ascending);
      in_order = (tt, each-all r target turns t pairs IsInOrder (ordered r target turns t pairs) es);
      few = (omega arith, each-all r target turns t pairs (λ x. events_in x ≤ most_events pairs) (few r target turns t pairs) es);
    }
