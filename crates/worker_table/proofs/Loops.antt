-- What the loops over the numbers keep.
use Rattle.std.proofs.Common.{◌≡◌, ℕ, ◌+◌, ◌<◌, ◌≤◌, true, false, cond, ◌&&◌, ◌||◌, nat_eq, nat_lt, List, [], Option, Some, None, refl, sym, ◌∙◌, ap, inl, inr, ◌⊎◌, arith}
use Rattle.std.proofs.lemmas.Bool.{cases_lt, cases_eq}
use Rattle.std.proofs.lemmas.Bool.Decides.{nat_tests}
use Rattle.std.specs.Option.{option_flatten}
use Rattle.listener_set.specs.Numbers.{is_in, with_number, RisesFrom, AreNumbers}
use Rattle.listener_set.proofs.Rising.{is_in-with_number, RisesFrom-with_number, same_rising}
use Rattle.worker_table.specs.Beats.{Workers, numbers_in, beat_of, last_beat, with_beat, is_overdue, overdue_numbers, kept_beat, followed}
use Rattle.worker_table.proofs.Orders.{Rise, Rise-filter, is_in-overdue_numbers, beat_of-followed, Rise-followed, AreBelow-followed, beat_of-above, same_workers}
use Rattle.worker_table.proofs.PlaceLemmas.{Rise-with_beat, beat_of-with_beat}

-- ---- gathering the late ones

-- the late ones below n
pub record Gathers (ws : Workers) (now timeout n : ℕ) (late : List ℕ) : Type 0 where
  pub rises : RisesFrom 0 late
  pub gathered : (q : ℕ) → is_in late q ≡ (nat_lt q n && is_overdue now timeout (last_beat ws q))

pub Gathers-none : (ws : Workers) (now timeout : ℕ) → Gathers ws now timeout 0 []
Gathers-none ws now timeout = record { rises = tt; gathered = λ q. grind (arith, nat_tests) }

pub Gathers-one : (ws : Workers) (now timeout n : ℕ) (late : List ℕ) → Gathers ws now timeout n late → is_overdue now timeout (last_beat ws n) ≡ true → Gathers ws now timeout (n + 1) (with_number late n)
Gathers-one ws now timeout n late h overdue = record {
  rises = RisesFrom-with_number late n 0 (omega arith) h.rises;
  gathered = λ q. is_in-with_number late n q ∙ ap (λ b. nat_eq n q || b) (h.gathered q) ∙ at q (cases_eq q n);
}
  where
    at : (q : ℕ) → (q ≡ n) ⊎ (q ≡ n → ⊥) → (nat_eq n q || (nat_lt q n && is_overdue now timeout (last_beat ws q))) ≡ (nat_lt q (n + 1) && is_overdue now timeout (last_beat ws q))
    at q (inl e) =
        let same : nat_eq n q ≡ true = grind (arith, nat_tests) in
        let below : nat_lt q (n + 1) ≡ true = grind (arith, nat_tests) in
        rw (same, below) (sym overdue ∙ ap (λ k. is_overdue now timeout (last_beat ws k)) (sym e))
    at q (inr ne) =
        let other : nat_eq n q ≡ false = grind (arith, nat_tests) in
        let below : nat_lt q (n + 1) ≡ nat_lt q n = grind (arith, nat_tests) in
        rw (other, below) refl

pub Gathers-pass : (ws : Workers) (now timeout n : ℕ) (late : List ℕ) → Gathers ws now timeout n late → is_overdue now timeout (last_beat ws n) ≡ false → Gathers ws now timeout (n + 1) late
Gathers-pass ws now timeout n late h early = record {
  rises = h.rises;
  gathered = λ q. h.gathered q ∙ at q (cases_eq q n);
}
  where
    at : (q : ℕ) → (q ≡ n) ⊎ (q ≡ n → ⊥) → (nat_lt q n && is_overdue now timeout (last_beat ws q)) ≡ (nat_lt q (n + 1) && is_overdue now timeout (last_beat ws q))
    at q (inl e) =
        let under : nat_lt q n ≡ false = grind (arith, nat_tests) in
        let below : nat_lt q (n + 1) ≡ true = grind (arith, nat_tests) in
        rw (under, below) (sym early ∙ ap (λ k. is_overdue now timeout (last_beat ws k)) (sym e))
    at q (inr ne) =
        let below : nat_lt q (n + 1) ≡ nat_lt q n = grind (arith, nat_tests) in
        rw below refl

pub Gathers-all : (ws : Workers) (now timeout n : ℕ) (late : List ℕ) → AreNumbers 1024 (numbers_in ws) → 1024 ≤ n → Gathers ws now timeout n late → late ≡ overdue_numbers ws now timeout
Gathers-all ws now timeout n late numbers le h =
    same_rising late (overdue_numbers ws now timeout) 0 h.rises (Rise-filter (λ w. is_overdue now timeout w.1) ws 0 numbers.rising)
    (λ q. h.gathered q ∙ at q (cases_lt q n) ∙ sym (is_in-overdue_numbers ws now timeout 0 q numbers.rising))
  where
    at : (q : ℕ) → (q < n) ⊎ (n ≤ q) → (nat_lt q n && is_overdue now timeout (last_beat ws q)) ≡ is_overdue now timeout (last_beat ws q)
    at q (inl low) = let yes : nat_lt q n ≡ true = grind (arith, nat_tests) in rw yes refl
    at q (inr high) =
        let no : nat_lt q n ≡ false = grind (arith, nat_tests) in
        rw no (sym (ap (λ o. is_overdue now timeout (option_flatten o)) (beat_of-above ws 1024 q numbers.below (omega arith))))

-- ---- following a plan

-- the numbers below n are as after the plan, and the others as before
pub record Follows (old : Workers) (ready started : List ℕ) (n : ℕ) (ws : Workers) : Type 0 where
  pub rises : Rise 0 ws
  pub done : (q : ℕ) → q < n → beat_of ws q ≡ beat_of (followed old ready started) q
  pub left : (q : ℕ) → n ≤ q → beat_of ws q ≡ beat_of old q

pub Follows-none : (old : Workers) (ready started : List ℕ) → Rise 0 old → Follows old ready started 0 old
Follows-none old ready started h = record { rises = h; done = λ q lt. absurd (omega arith); left = λ q le. refl }

pub Follows-more : (old : Workers) (ready started : List ℕ) (n : ℕ) (ws next : Workers) (beat : Option ℕ) (place : Option (Option ℕ)) → Follows old ready started n ws → beat ≡ kept_beat ws started n → place ≡ cond (is_in ready n) (Some beat) None → next ≡ with_beat ws n place → Follows old ready started (n + 1) next
Follows-more old ready started n ws next beat place h kept put is = record {
  rises = rw is (Rise-with_beat ws n place h.rises);
  done = λ q lt. after q ∙ at q lt (cases_eq q n);
  left = λ q le. after q ∙ (let other : nat_eq n q ≡ false = grind (arith, nat_tests) in rw other (h.left q (omega arith)));
}
  where
    after : (q : ℕ) → beat_of next q ≡ cond (nat_eq n q) place (beat_of ws q)
    after q = ap (λ us. beat_of us q) is ∙ beat_of-with_beat ws n place q

    same_beat : beat ≡ kept_beat old started n
    same_beat = kept ∙ ap (λ o. cond (is_in started n) None (option_flatten o)) (h.left n (omega arith))

    here : place ≡ beat_of (followed old ready started) n
    here = put ∙ ap (λ b. cond (is_in ready n) (Some b) None) same_beat ∙ sym (beat_of-followed old ready started n)

    at : (q : ℕ) → q < n + 1 → (q ≡ n) ⊎ (q ≡ n → ⊥) → cond (nat_eq n q) place (beat_of ws q) ≡ beat_of (followed old ready started) q
    at q lt (inl e) =
        let same : nat_eq n q ≡ true = grind (arith, nat_tests) in
        rw same (here ∙ ap (λ k. beat_of (followed old ready started) k) (sym e))
    at q lt (inr ne) =
        let other : nat_eq n q ≡ false = grind (arith, nat_tests) in
        rw other (h.done q (omega (arith, ne)))

pub Follows-all : (old : Workers) (ready started : List ℕ) (n : ℕ) (ws : Workers) → AreNumbers 1024 (numbers_in old) → AreNumbers 1024 ready → 1024 ≤ n → Follows old ready started n ws → ws ≡ followed old ready started
Follows-all old ready started n ws numbers are le h =
    same_workers ws (followed old ready started) 0 h.rises (Rise-followed old ready started 0 are.rising) (λ q. at q (cases_lt q n))
  where
    at : (q : ℕ) → (q < n) ⊎ (n ≤ q) → beat_of ws q ≡ beat_of (followed old ready started) q
    at q (inl low) = h.done q low
    at q (inr high) = h.left q high ∙ beat_of-above old 1024 q numbers.below (omega arith) ∙ sym (beat_of-above (followed old ready started) 1024 q (AreBelow-followed old ready started 1024 are.below) (omega arith))
