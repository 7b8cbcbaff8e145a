-- Patterns by the moments that are not quiet.
use Rattle.std.proofs.Common.{◌≡◌, ℕ, zero, suc, ◌+◌, ◌<◌, ◌≤◌, ◌||◌, true, false, cond, not, nat_eq, nat_le, ltb, List}
use Rattle.std.proofs.Common.{[], ◌∷◌, map, length, get_or, set, refl, sym, ap, ◌∙◌, inl, inr, arith}
use Rattle.std.specs.List.{list_any, position_or_len, insert}
use Rattle.std.specs.List.Sorted.{IsNonDecreasingBy, IsPartitionPoint}
use Rattle.std.proofs.Math.ListN.{get_or-map}
use Rattle.std.proofs.lemmas.List.Sums.{position_or_len_is}
use Rattle.std.proofs.lemmas.Bool.{cases_lt, cases_eq}
use Rattle.std.proofs.lemmas.List.{length-map, map-set, map-append, take-map, drop-map, get_or_default}
use Rattle.std.proofs.lemmas.Bool.Decides.{nat_tests}
use Rattle.definitions.specs.Run.{Moment}
use Rattle.call_laws.specs.Pieces.{quiet}
use Rattle.kernel_pattern.specs.declared.pattern.PatternEvent.{PatternEvent}
use Rattle.kernel_pattern.specs.Pattern.{moment_at, AreNamesWithin, IsEvent, RiseFrom, IsPattern, is_masters, names_master}
use Rattle.kernel_pattern.specs.Events.{seen_event, IsListed, IsUnlisted}

-- the place of the first moment with that number or a higher one
abbrev pub place : ℕ → List (ℕ × Moment) → ℕ
place n es = position_or_len (λ e. nat_le n e.0) es

-- no moment before the first number is listed
quiet-below : (es : List (ℕ × Moment)) (b m : ℕ) → RiseFrom b es → m < b → moment_at es m ≡ quiet
quiet-below [] b m h lt = refl
quiet-below (e ∷ es) b m h lt =
    let over : b ≤ e.0 = h.0 in
    let other : nat_eq e.0 m ≡ false = grind (arith, nat_tests) in
    rw other (quiet-below es (e.0 + 1) m h.3 (omega arith))

pub number-above : (es : List (ℕ × Moment)) (b k : ℕ) (d : ℕ × Moment) → RiseFrom b es → k < length es → b ≤ (get_or es k d).0
number-above [] b k d h lt = absurd (omega arith)
number-above (e ∷ es) b zero d h lt = h.0
number-above (e ∷ es) b (suc k) d h lt =
    let over : b ≤ e.0 = h.0 in
    let rest : e.0 + 1 ≤ (get_or es k d).0 = number-above es (e.0 + 1) k d h.3 (omega arith) in
    omega arith

nat_eq-turned : (m n : ℕ) → nat_eq m n ≡ nat_eq n m
nat_eq-turned m n = grind (arith, nat_tests)

---- The moment at a place, and another in its stead

pub moment-at_place : (es : List (ℕ × Moment)) (b k n : ℕ) (d : ℕ × Moment) → RiseFrom b es → k < length es →
    (get_or es k d).0 ≡ n → moment_at es n ≡ (get_or es k d).1
moment-at_place [] b k n d h lt is = absurd (omega arith)
moment-at_place (e ∷ es) b zero n d h lt is = let same : nat_eq e.0 n ≡ true = grind (arith, nat_tests) in rw same refl
moment-at_place (e ∷ es) b (suc k) n d h lt is =
    let above : e.0 + 1 ≤ (get_or es k d).0 = number-above es (e.0 + 1) k d h.3 (omega arith) in
    let other : nat_eq e.0 n ≡ false = grind (arith, nat_tests) in
    rw other (moment-at_place es (e.0 + 1) k n d h.3 (omega arith) is)

pub names-at_place : (es : List (ℕ × Moment)) (b k : ℕ) (d : ℕ × Moment) → RiseFrom b es → k < length es → AreNamesWithin (get_or es k d).1.exits
names-at_place [] b k d h lt = absurd (omega arith)
names-at_place (e ∷ es) b zero d h lt = h.2
names-at_place (e ∷ es) b (suc k) d h lt = names-at_place es (e.0 + 1) k d h.3 (omega arith)

module _ (n : ℕ) (x : Moment) where
  pub moment-set : (es : List (ℕ × Moment)) (b k : ℕ) (d : ℕ × Moment) → RiseFrom b es → k < length es →
      (get_or es k d).0 ≡ n → (m : ℕ) → moment_at (set es k (n, x)) m ≡ cond (nat_eq m n) x (moment_at es m)
  moment-set [] b k d h lt is m = absurd (omega arith)
  moment-set (e ∷ es) b zero d h lt is m = elim (cases_eq m n) [
    | inl eq ↦
        let there : nat_eq m n ≡ true = grind (arith, nat_tests) in
        let here : nat_eq n m ≡ true = grind (arith, nat_tests) in
        rw (there, here) refl
    | inr ne ↦
        let there : nat_eq m n ≡ false = grind (arith, nat_tests) in
        let here : nat_eq n m ≡ false = grind (arith, nat_tests) in
        let old : nat_eq e.0 m ≡ false = grind (arith, nat_tests) in
        rw (there, here, old) refl
  ]
  moment-set (e ∷ es) b (suc k) d h lt is m =
      let above : e.0 + 1 ≤ (get_or es k d).0 = number-above es (e.0 + 1) k d h.3 (omega arith) in
      elim (cases_eq e.0 m) [
        | inl eq ↦
            let here : nat_eq e.0 m ≡ true = grind (arith, nat_tests) in
            let there : nat_eq m n ≡ false = grind (arith, nat_tests) in
            rw (here, there) refl
        | inr ne ↦
            let here : nat_eq e.0 m ≡ false = grind (arith, nat_tests) in
            rw here (moment-set es (e.0 + 1) k d h.3 (omega arith) is m)
      ]

  pub RiseFrom-set : (es : List (ℕ × Moment)) (b k : ℕ) (d : ℕ × Moment) → IsEvent x → AreNamesWithin x.exits →
      RiseFrom b es → k < length es → (get_or es k d).0 ≡ n → RiseFrom b (set es k (n, x))
  RiseFrom-set [] b k d event within h lt is = absurd (omega arith)
  RiseFrom-set (e ∷ es) b zero d event within h lt is =
      let over : b ≤ e.0 = h.0 in
      let here : e.0 ≡ n = is in
      (omega arith, event, within, rw (← here) h.3)
  RiseFrom-set (e ∷ es) b (suc k) d event within h lt is =
      (h.0, h.1, h.2, RiseFrom-set es (e.0 + 1) k d event within h.3 (omega arith) is)

---- A moment put at its place

-- the place has no moment of that number
abbrev pub IsAbsent : ℕ → List (ℕ × Moment) → Type 0
IsAbsent n es = (d : ℕ × Moment) → place n es < length es → (get_or es (place n es) d).0 ≡ n → ⊥

later : (n : ℕ) (e : ℕ × Moment) (es : List (ℕ × Moment)) → nat_le n e.0 ≡ false → place n (e ∷ es) ≡ suc (place n es)
later n e es less = rw less (omega arith)

IsAbsent-tail : (n : ℕ) (e : ℕ × Moment) (es : List (ℕ × Moment)) → nat_le n e.0 ≡ false → IsAbsent n (e ∷ es) → IsAbsent n es
IsAbsent-tail n e es less h d lt =
    let turned = rw (later n e es less) at (h d) in
    turned (omega arith)

module _ (n : ℕ) where
  pub moment-absent : (es : List (ℕ × Moment)) (b : ℕ) → RiseFrom b es → IsAbsent n es → moment_at es n ≡ quiet
  moment-absent [] b h absent = refl
  moment-absent (e ∷ es) b h absent = elim (cases_lt e.0 n) [
    | inl less ↦
        let passed : nat_le n e.0 ≡ false = grind (arith, nat_tests) in
        let other : nat_eq e.0 n ≡ false = grind (arith, nat_tests) in
        rw other (moment-absent es (e.0 + 1) h.3 (IsAbsent-tail n e es passed absent))
    | inr over ↦
        let reached : nat_le n e.0 ≡ true = grind (arith, nat_tests) in
        let ne : e.0 ≡ n → ⊥ = (rw reached at (absent e)) (omega arith) in
        quiet-below (e ∷ es) e.0 n (omega arith, h.1, h.2, h.3) (omega arith)
  ]

  module _ (x : Moment) where
    pub moment-insert : (es : List (ℕ × Moment)) (b : ℕ) → RiseFrom b es → IsAbsent n es → (m : ℕ) →
        moment_at (insert es (place n es) (n, x)) m ≡ cond (nat_eq m n) x (moment_at es m)
    moment-insert [] b h absent m = ap (λ t. cond t x quiet) (nat_eq-turned n m)
    moment-insert (e ∷ es) b h absent m = elim (cases_lt e.0 n) [
      | inl less ↦
          let passed : nat_le n e.0 ≡ false = grind (arith, nat_tests) in
          rw (later n e es passed) (elim (cases_eq e.0 m) [
            | inl eq ↦
                let here : nat_eq e.0 m ≡ true = grind (arith, nat_tests) in
                let there : nat_eq m n ≡ false = grind (arith, nat_tests) in
                rw (here, there) refl
            | inr ne ↦
                let here : nat_eq e.0 m ≡ false = grind (arith, nat_tests) in
                rw here (moment-insert es (e.0 + 1) h.3 (IsAbsent-tail n e es passed absent) m)
          ])
      | inr over ↦
          let reached : nat_le n e.0 ≡ true = grind (arith, nat_tests) in
          rw reached (ap (λ t. cond t x (moment_at (e ∷ es) m)) (nat_eq-turned n m))
    ]

    pub RiseFrom-insert : (es : List (ℕ × Moment)) (b : ℕ) → b ≤ n → IsEvent x → AreNamesWithin x.exits →
        RiseFrom b es → IsAbsent n es → RiseFrom b (insert es (place n es) (n, x))
    RiseFrom-insert [] b le event within h absent = (le, event, within, tt)
    RiseFrom-insert (e ∷ es) b le event within h absent = elim (cases_lt e.0 n) [
      | inl less ↦
          let passed : nat_le n e.0 ≡ false = grind (arith, nat_tests) in
          rw (later n e es passed) (h.0, h.1, h.2, RiseFrom-insert es (e.0 + 1) (omega arith) event within h.3 (IsAbsent-tail n e es passed absent))
      | inr over ↦
          let reached : nat_le n e.0 ≡ true = grind (arith, nat_tests) in
          let ne : e.0 ≡ n → ⊥ = (rw reached at (absent e)) (omega arith) in
          rw reached (le, event, within, (omega arith, h.1, h.2, h.3))
    ]

---- The same of events, as the vector has them

-- the numbers rise
pub rising-from : (es : List PatternEvent) (b : ℕ) → RiseFrom b (map seen_event es) → IsNonDecreasingBy (λ e. e.number) es
rising-from [] b h i j d le lt = absurd (omega arith)
rising-from (e ∷ es) b h zero zero d le lt = omega arith
rising-from (e ∷ es) b h zero (suc j) d le lt =
    let k : j < length es = omega arith in
    let within : j < length (map seen_event es) = rw length-map k in
    let above = number-above (map seen_event es) (e.number + 1) j (seen_event d) h.3 within in
    let rest : e.number + 1 ≤ (get_or es j d).number = (rw (get_or-map seen_event es j d) at above) in
    omega arith
rising-from (e ∷ es) b h (suc i) zero d le lt = absurd (omega arith)
rising-from (e ∷ es) b h (suc i) (suc j) d le lt = rising-from es (e.number + 1) h.3 i j d (omega arith) (omega arith)

module _ (n : ℕ) where
  place-map : (es : List PatternEvent) → place n (map seen_event es) ≡ position_or_len (λ e. nat_le n e.number) es
  place-map [] = refl
  place-map (e ∷ es) = ap (λ k. cond (not (nat_le n e.number)) (1 + k) 0) (place-map es)

  -- where the numbers turn from lower ones to no lower ones
  pub place_is : (es : List PatternEvent) (k : ℕ) → k ≤ length es →
      IsPartitionPoint (λ e. ltb e.number n ≡ true) (λ e. ltb e.number n ≡ false) es k →
      k ≡ position_or_len (λ e. nat_le n e.number) es
  place_is [] k le h = omega arith
  place_is (e ∷ es) k le h =
      sym (position_or_len_is (λ d. nat_le n d.number) (e ∷ es) k e le
      (λ i lt. let low = h.0 i e (omega arith) lt in grind (arith, nat_tests))
      (λ lt. let high = h.1 k e (omega arith) lt in grind (arith, nat_tests)))

-- An event of a pattern, at its place.
module _ (es : List PatternEvent) (n k : ℕ) (pattern : IsPattern (map seen_event es)) (h : IsListed es n k) (e : PatternEvent) (there : e ≡ get_or es k e) where
  pub number-listed : e.number ≡ n
  number-listed = ap (λ (d : PatternEvent). d.number) there ∙ h.number e

  inside : k < length (map seen_event es)
  inside = rw length-map h.within

  entry : get_or (map seen_event es) k (seen_event e) ≡ seen_event e
  entry = get_or-map seen_event es k e ∙ ap seen_event (sym there)

  numbered : (get_or (map seen_event es) k (seen_event e)).0 ≡ n
  numbered = ap (λ x. x.0) entry ∙ number-listed

  pub moment-listed : moment_at (map seen_event es) n ≡ (seen_event e).1
  moment-listed = moment-at_place (map seen_event es) 1 k n (seen_event e) pattern inside numbered ∙ ap (λ x. x.1) entry

  pub names-listed : AreNamesWithin e.exits.items
  names-listed = rw entry at (names-at_place (map seen_event es) 1 k (seen_event e) pattern inside)

  module _ (new : PatternEvent) (same : new.number ≡ n) where
    pub moment-replaced : (m : ℕ) → moment_at (map seen_event (set es k new)) m ≡ cond (nat_eq m n) (seen_event new).1 (moment_at (map seen_event es) m)
    moment-replaced m = rw (map-set, same) (moment-set n (seen_event new).1 (map seen_event es) 1 k (seen_event e) pattern inside numbered m)

    pub pattern-replaced : IsEvent (seen_event new).1 → AreNamesWithin new.exits.items → IsPattern (map seen_event (set es k new))
    pattern-replaced event names = rw (map-set, same) (RiseFrom-set n (seen_event new).1 (map seen_event es) 1 k (seen_event e) event names pattern inside numbered)

-- A number that no event of a pattern has, and its place.
module _ (es : List PatternEvent) (n k : ℕ) (pattern : IsPattern (map seen_event es)) (h : IsUnlisted es n k) where
  at_place : place n (map seen_event es) ≡ k
  at_place = place-map n es ∙ sym h.first

  absent : IsAbsent n (map seen_event es)
  absent = at es h
    where
      at : (es : List PatternEvent) → IsUnlisted es n k → IsAbsent n (map seen_event es)
      at [] u d lt = absurd (omega arith)
      at (e ∷ es) u d lt =
          let all = map seen_event (e ∷ es) in
          let turned : place n all ≡ k = place-map n (e ∷ es) ∙ sym u.first in
          let moved : k < length all = rw turned at lt in
          let held : k < length (e ∷ es) = rw length-map at moved in
          let entry : get_or all (place n all) d ≡ seen_event (get_or (e ∷ es) k e) = ap (λ j. get_or all j d) turned ∙ get_or_default all k d (seen_event e) moved ∙ get_or-map seen_event (e ∷ es) k e in
          λ same. u.other e held (ap (λ x. x.0) (sym entry) ∙ same)

  pub moment-unlisted : moment_at (map seen_event es) n ≡ quiet
  moment-unlisted = moment-absent n (map seen_event es) 1 pattern absent

  map-insert : (new : PatternEvent) → map seen_event (insert es k new) ≡ insert (map seen_event es) (place n (map seen_event es)) (seen_event new)
  map-insert new = rw at_place (simp (map-append, take-map, drop-map))

  module _ (new : PatternEvent) (same : new.number ≡ n) where
    pub moment-added : (m : ℕ) → moment_at (map seen_event (insert es k new)) m ≡ cond (nat_eq m n) (seen_event new).1 (moment_at (map seen_event es) m)
    moment-added m = rw (map-insert new, same) (moment-insert n (seen_event new).1 (map seen_event es) 1 pattern absent m)

    pub pattern-added : 1 ≤ n → IsEvent (seen_event new).1 → AreNamesWithin new.exits.items → IsPattern (map seen_event (insert es k new))
    pattern-added le event names = rw (map-insert new, same) (RiseFrom-insert n (seen_event new).1 (map seen_event es) 1 le event names pattern absent)

---- Masters

-- they are named by the events as by what is seen of them
pub any_seen : (es : List PatternEvent) → list_any (λ e. list_any is_masters (seen_event e).1.exits) es ≡ names_master (map seen_event es)
any_seen [] = refl
any_seen (e ∷ es) = ap (λ b. list_any is_masters (seen_event e).1.exits || b) (any_seen es)
