-- Workers in ascending numbers are known by what a look-up gives.
use Rattle.std.proofs.Common.{◌≡◌, ℕ, ◌+◌, ◌<◌, ◌≤◌, Bool, true, false, cond, nat_eq, nat_lt, List, [], ◌∷◌, filter, Option, Some, None, is_some, refl, sym, ◌∙◌, ap, inl, inr, ◌⊎◌, arith}
use Rattle.std.proofs.lemmas.Bool.{cases_lt, cases_eq, true≢false}
use Rattle.std.proofs.lemmas.Bool.Decides.{nat_tests}
use Rattle.std.specs.Option.{option_flatten}
use Rattle.listener_set.specs.Numbers.{is_in, RisesFrom, AreBelow}
use Rattle.worker_table.specs.Beats.{Workers, numbers_in, beat_of, has_worker, with_worker, without_worker, is_overdue, overdue_numbers, last_beat, kept_beat, followed}

abbrev pub Rise : ℕ → Workers → Type 0
Rise bound ws = RisesFrom bound (numbers_in ws)

-- ---- what a look-up gives after a change
pub beat_of-with_worker : (ws : Workers) (nr : ℕ) (beat : Option ℕ) (q : ℕ) → beat_of (with_worker ws nr beat) q ≡ cond (nat_eq nr q) (Some beat) (beat_of ws q)
beat_of-with_worker [] nr beat q = grind (arith, nat_tests)
beat_of-with_worker (w ∷ ws) nr beat q =
    let rest = beat_of-with_worker ws nr beat q in
    grind (arith, nat_tests, rest)

pub beat_of-without_worker : (ws : Workers) (nr q : ℕ) → beat_of (without_worker ws nr) q ≡ cond (nat_eq nr q) None (beat_of ws q)
beat_of-without_worker [] nr q = grind (arith, nat_tests)
beat_of-without_worker (w ∷ ws) nr q =
    let rest = beat_of-without_worker ws nr q in
    grind (arith, nat_tests, rest)

beat_of-below : (ws : Workers) (bound q : ℕ) → Rise bound ws → q < bound → beat_of ws q ≡ None
beat_of-below [] bound q h lt = refl
beat_of-below (w ∷ ws) bound q h lt =
    let over : bound ≤ w.0 = h.0 in
    let other : nat_eq q w.0 ≡ false = grind (arith, nat_tests) in
    rw other (beat_of-below ws (w.0 + 1) q h.1 (omega arith))

-- ---- the order stays
pub Rise-with_worker : (ws : Workers) (nr bound : ℕ) (beat : Option ℕ) → bound ≤ nr → Rise bound ws → Rise bound (with_worker ws nr beat)
Rise-with_worker [] nr bound beat le h = (le, tt)
Rise-with_worker (w ∷ ws) nr bound beat le h = elim (cases_lt nr w.0) [
  | inl less ↦ (let yes : nat_lt nr w.0 ≡ true = grind (arith, nat_tests) in rw yes (le, (omega arith, h.1)))
  | inr over ↦
      let no : nat_lt nr w.0 ≡ false = grind (arith, nat_tests) in
      rw no (elim (cases_eq nr w.0) [
        | inl e ↦ (let same : nat_eq nr w.0 ≡ true = grind (arith, nat_tests) in rw (same, e) h)
        | inr ne ↦
            let other : nat_eq nr w.0 ≡ false = grind (arith, nat_tests) in
            let above : w.0 + 1 ≤ nr = omega (arith, ne) in
            rw other (h.0, Rise-with_worker ws nr (w.0 + 1) beat above h.1)
      ])
]

Rise-lower : (ws : Workers) (a b : ℕ) → a ≤ b → Rise b ws → Rise a ws
Rise-lower [] a b le h = tt
Rise-lower (w ∷ ws) a b le h = (omega (arith, h.0), h.1)

pub Rise-filter : (p : ℕ × Option ℕ → Bool) (ws : Workers) (bound : ℕ) → Rise bound ws → Rise bound (filter p ws)
Rise-filter p [] bound h = tt
Rise-filter p (w ∷ ws) bound h = at (p w) (Rise-filter p ws (w.0 + 1) h.1)
  where
    at : (b : Bool) → Rise (w.0 + 1) (filter p ws) → Rise bound (cond b (w ∷ filter p ws) (filter p ws))
    at true rest = (h.0, rest)
    at false rest = Rise-lower (filter p ws) bound (w.0 + 1) (omega (arith, h.0)) rest

-- ---- workers with the same beats are the same
beat_of-head : (w : ℕ × Option ℕ) (ws : Workers) → beat_of (w ∷ ws) w.0 ≡ Some w.1
beat_of-head w ws = let same : nat_eq w.0 w.0 ≡ true = grind (arith, nat_tests) in rw same refl

none_some : {A : Type 0} (a : A) → None ≡ Some a → ⊥
none_some a e = cc

apart : (v w : ℕ × Option ℕ) (vs ws : Workers) → v.0 < w.0 → Rise w.0 (w ∷ ws) → ((q : ℕ) → beat_of (v ∷ vs) q ≡ beat_of (w ∷ ws) q) → ⊥
apart v w vs ws lt h same = none_some v.1 (sym (beat_of-below (w ∷ ws) w.0 v.0 h lt) ∙ sym (same v.0) ∙ beat_of-head v vs)

some_same : {A : Type 0} (a b : A) → Some a ≡ Some b → a ≡ b
some_same a b e = cc

pub same_workers : (vs ws : Workers) (bound : ℕ) → Rise bound vs → Rise bound ws → ((q : ℕ) → beat_of vs q ≡ beat_of ws q) → vs ≡ ws
same_workers [] [] bound g h same = refl
same_workers [] (w ∷ ws) bound g h same = absurd (none_some w.1 (same w.0 ∙ beat_of-head w ws))
same_workers (v ∷ vs) [] bound g h same = absurd (none_some v.1 (sym (same v.0) ∙ beat_of-head v vs))
same_workers (v ∷ vs) (w ∷ ws) bound g h same = elim (cases_lt v.0 w.0) [
  | inl less ↦ absurd (apart v w vs ws less (omega arith, h.1) same)
  | inr over ↦ elim (cases_lt w.0 v.0) [
    | inl less ↦ absurd (apart w v ws vs less (omega arith, g.1) (λ q. sym (same q)))
    | inr under ↦
        let e : v.0 ≡ w.0 = omega arith in
        let beats : v.1 ≡ w.1 = some_same v.1 w.1 (sym (beat_of-head v vs) ∙ same v.0 ∙ ap (λ n. beat_of (w ∷ ws) n) e ∙ beat_of-head w ws) in
        let rest : vs ≡ ws = same_workers vs ws (v.0 + 1) g.1 (rw e h.1) (λ q. tails q e (cases_lt q (v.0 + 1))) in
        (λ i. (e i, beats i) ∷ rest i)
  ]
]
  where
    behind : (u : ℕ × Option ℕ) (us : Workers) (q : ℕ) → u.0 + 1 ≤ q → beat_of (u ∷ us) q ≡ beat_of us q
    behind u us q above = let other : nat_eq q u.0 ≡ false = grind (arith, nat_tests) in rw other refl

    tails : (q : ℕ) → v.0 ≡ w.0 → (q < v.0 + 1) ⊎ (v.0 + 1 ≤ q) → beat_of vs q ≡ beat_of ws q
    tails q e (inl low) = beat_of-below vs (v.0 + 1) q g.1 low ∙ sym (beat_of-below ws (w.0 + 1) q h.1 (omega arith))
    tails q e (inr high) = sym (behind v vs q high) ∙ same q ∙ behind w ws q (omega arith)

-- ---- the numbers that a look-up finds
pub is_in-numbers_in : (ws : Workers) (q : ℕ) → is_in (numbers_in ws) q ≡ has_worker ws q
is_in-numbers_in [] q = refl
is_in-numbers_in (w ∷ ws) q =
    let rest = is_in-numbers_in ws q in
    grind (arith, nat_tests, rest)

pub AreBelow-numbers_in : (ws : Workers) (bound limit : ℕ) → Rise bound ws → ((q : ℕ) → has_worker ws q ≡ true → q < limit) → AreBelow limit (numbers_in ws)
AreBelow-numbers_in [] bound limit h below = tt
AreBelow-numbers_in (w ∷ ws) bound limit h below =
    (below w.0 (ap is_some (beat_of-head w ws)), AreBelow-numbers_in ws (w.0 + 1) limit h.1 (λ q. later q (cases_lt q (w.0 + 1))))
  where
    later : (q : ℕ) → (q < w.0 + 1) ⊎ (w.0 + 1 ≤ q) → has_worker ws q ≡ true → q < limit
    later q (inl low) e = absurd (true≢false (sym e ∙ ap is_some (beat_of-below ws (w.0 + 1) q h.1 low)))
    later q (inr high) e = let other : nat_eq q w.0 ≡ false = grind (arith, nat_tests) in below q (rw other e)

-- ---- the late ones
pub is_in-overdue_numbers : (ws : Workers) (now timeout bound q : ℕ) → Rise bound ws → is_in (overdue_numbers ws now timeout) q ≡ is_overdue now timeout (last_beat ws q)
is_in-overdue_numbers [] now timeout bound q h = refl
is_in-overdue_numbers (w ∷ ws) now timeout bound q h =
    let rest = is_in-overdue_numbers ws now timeout (w.0 + 1) q h.1 in
    elim (cases_eq q w.0) [
      | inl e ↦ (let same : nat_eq q w.0 ≡ true = grind (arith, nat_tests) in rw same (here rest e (is_overdue now timeout w.1)))
      | inr ne ↦ (let other : nat_eq q w.0 ≡ false = grind (arith, nat_tests) in rw other (there rest ne (is_overdue now timeout w.1)))
    ]
  where
    here : is_in (overdue_numbers ws now timeout) q ≡ is_overdue now timeout (last_beat ws q) → q ≡ w.0 → (b : Bool) → is_in (numbers_in (cond b (w ∷ filter (λ u. is_overdue now timeout u.1) ws) (filter (λ u. is_overdue now timeout u.1) ws))) q ≡ b
    here rest e true = let same : nat_eq w.0 q ≡ true = grind (arith, nat_tests) in rw same refl
    here rest e false = rest ∙ ap (λ o. is_overdue now timeout (option_flatten o)) (beat_of-below ws (w.0 + 1) q h.1 (omega arith))

    there : is_in (overdue_numbers ws now timeout) q ≡ is_overdue now timeout (last_beat ws q) → (q ≡ w.0 → ⊥) → (b : Bool) → is_in (numbers_in (cond b (w ∷ filter (λ u. is_overdue now timeout u.1) ws) (filter (λ u. is_overdue now timeout u.1) ws))) q ≡ is_overdue now timeout (last_beat ws q)
    there rest ne true = let other : nat_eq w.0 q ≡ false = grind (arith, nat_tests) in rw other rest
    there rest ne false = rest

-- ---- what stands after a plan
pub beat_of-followed : (old : Workers) (ready started : List ℕ) (q : ℕ) → beat_of (followed old ready started) q ≡ cond (is_in ready q) (Some (kept_beat old started q)) None
beat_of-followed old [] started q = refl
beat_of-followed old (n ∷ ns) started q = elim (cases_eq q n) [
  | inl e ↦
      let same : nat_eq q n ≡ true = grind (arith, nat_tests) in
      let there : nat_eq n q ≡ true = grind (arith, nat_tests) in
      rw (same, there) (ap (λ k. Some (kept_beat old started k)) (sym e))
  | inr ne ↦
      let other : nat_eq q n ≡ false = grind (arith, nat_tests) in
      let away : nat_eq n q ≡ false = grind (arith, nat_tests) in
      rw (other, away) (beat_of-followed old ns started q)
]

pub Rise-followed : (old : Workers) (ready started : List ℕ) (bound : ℕ) → RisesFrom bound ready → Rise bound (followed old ready started)
Rise-followed old [] started bound h = tt
Rise-followed old (n ∷ ns) started bound h = (h.0, Rise-followed old ns started (n + 1) h.1)

numbers_in-followed : (old : Workers) (ready started : List ℕ) → numbers_in (followed old ready started) ≡ ready
numbers_in-followed old [] started = refl
numbers_in-followed old (n ∷ ns) started = ap (λ ms. n ∷ ms) (numbers_in-followed old ns started)

pub AreBelow-followed : (old : Workers) (ready started : List ℕ) (limit : ℕ) → AreBelow limit ready → AreBelow limit (numbers_in (followed old ready started))
AreBelow-followed old ready started limit h = rw (numbers_in-followed old ready started) h

pub beat_of-above : (ws : Workers) (limit q : ℕ) → AreBelow limit (numbers_in ws) → limit ≤ q → beat_of ws q ≡ None
beat_of-above [] limit q h le = refl
beat_of-above (w ∷ ws) limit q h le =
    let under : w.0 < limit = h.0 in
    let other : nat_eq q w.0 ≡ false = grind (arith, nat_tests) in
    rw other (beat_of-above ws limit q h.1 le)
