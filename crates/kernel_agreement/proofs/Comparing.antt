-- Numbers and sockets compared one by one.
use Rattle.std.proofs.Common.{◌≡◌, ℕ, ◌+◌, ◌<◌, ◌≤◌, Bool, true, false, not, ◌&&◌, ◌||◌, nat_eq, nat_le, List, [], ◌∷◌}
use Rattle.std.proofs.Common.{Some, None, refl, sym, ap, ◌∙◌, inl, inr, arith}
use Rattle.std.specs.List.{list_any}
use Rattle.std.specs.Option.{option_eq}
use Rattle.std.proofs.lemmas.Bool.{cases_lt, cases_eq, true≢false}
use Rattle.std.proofs.lemmas.Bool.Decides.{nat_tests}
use Rattle.listener_set.specs.Numbers.{is_in, first_from, without_number, RisesFrom, AreBelow}
use Rattle.listener_set.specs.Descriptors.{descriptors_of, socket_of}
use Rattle.listener_set.proofs.Rising.{is_in-below}
use Rattle.definitions.specs.Table.{Address, Hold, Process, Caller, Table, live_master}
use Rattle.definitions.specs.Master.{Agrees}
use Rattle.kernel_rows.specs.declared.process.Holder.{Holder}
use Rattle.kernel_rows.specs.Holds.{seen_hold, seen_holds}
use Rattle.kernel_agreement.specs.declared.agreement.Running.{Running}
use Rattle.kernel_rows.specs.Seen.{seen_holder, seen_rows}
use Rattle.kernel_agreement.specs.Agreement.{running, MasterAgrees, WorkersAgree}

---- Numbers

-- a number is in a set where it is the lowest from itself on
pub first_from-itself : (ns : List ℕ) (b n : ℕ) → RisesFrom b ns → option_eq nat_eq (first_from n ns) (Some n) ≡ is_in ns n
first_from-itself [] b n h = refl
first_from-itself (x ∷ xs) b n h = elim (cases_lt x n) [
  | inl less ↦
      let no : nat_le n x ≡ false = grind (arith, nat_tests) in
      let other : nat_eq x n ≡ false = grind (arith, nat_tests) in
      rw (no, other) (first_from-itself xs (x + 1) n h.1)
  | inr over ↦
      let yes : nat_le n x ≡ true = grind (arith, nat_tests) in
      rw yes (elim (cases_eq x n) [
        | inl e ↦ (let same : nat_eq x n ≡ true = grind (arith, nat_tests) in rw same refl)
        | inr ne ↦
            let other : nat_eq x n ≡ false = grind (arith, nat_tests) in
            let above : n < x + 1 = omega arith in
            rw other (sym (is_in-below xs (x + 1) n h.1 above))
      ])
]

-- a number taken out
pub is_in-without : (ns : List ℕ) (n k : ℕ) → is_in (without_number ns n) k ≡ (is_in ns k && not (nat_eq n k))
is_in-without [] n k = refl
is_in-without (x ∷ xs) n k = elim (cases_eq x n) [
  | inl e ↦
      let same : nat_eq x n ≡ true = grind (arith, nat_tests) in
      let alike : nat_eq x k ≡ nat_eq n k = ap (λ m. nat_eq m k) e in
      rw (same, alike) (is_in-without xs n k ∙ at (nat_eq n k) (is_in xs k))
  | inr ne ↦
      let other : nat_eq x n ≡ false = grind (arith, nat_tests) in
      rw (other, is_in-without xs n k) (apart (nat_eq x k) (nat_eq n k) (is_in xs k) (λ p q. ne (grind (arith, nat_tests))))
]
  where
    at : (a b : Bool) → (b && not a) ≡ ((a || b) && not a)
    at true true = refl
    at true false = refl
    at false b = refl

    apart : (a c b : Bool) → (a ≡ true → c ≡ true → ⊥) → (a || (b && not c)) ≡ ((a || b) && not c)
    apart true true b h = absurd (h refl refl)
    apart true false b h = refl
    apart false c b h = refl

---- Sockets

-- no pair is below the first
socket_of-below : (pairs : List (ℕ × ℕ)) (b d : ℕ) → RisesFrom b (descriptors_of pairs) → d < b → socket_of pairs d ≡ None
socket_of-below [] b d h lt = refl
socket_of-below (p ∷ ps) b d h lt =
    let over : b ≤ p.0 = h.0 in
    let other : nat_eq p.0 d ≡ false = grind (arith, nat_tests) in
    rw other (socket_of-below ps (p.0 + 1) d h.1 (omega arith))

socket_of-first : (p : ℕ × ℕ) (ps : List (ℕ × ℕ)) → socket_of (p ∷ ps) p.0 ≡ Some p.1
socket_of-first p ps = let same : nat_eq p.0 p.0 ≡ true = grind (arith, nat_tests) in rw same refl

-- the same sockets under all descriptors
pub same_pairs : (ps qs : List (ℕ × ℕ)) (b limit : ℕ) → RisesFrom b (descriptors_of ps) →
    RisesFrom b (descriptors_of qs) → AreBelow limit (descriptors_of ps) → AreBelow limit (descriptors_of qs) →
    ((d : ℕ) → b ≤ d → d < limit → socket_of ps d ≡ socket_of qs d) → ps ≡ qs
same_pairs [] [] b limit g h k l same = refl
same_pairs [] (q ∷ qs) b limit g h k l same = let e = same q.0 h.0 l.0 ∙ socket_of-first q qs in cc
same_pairs (p ∷ ps) [] b limit g h k l same = let e = sym (socket_of-first p ps) ∙ same p.0 g.0 k.0 in cc
same_pairs (p ∷ ps) (q ∷ qs) b limit g h k l same = elim (cases_lt p.0 q.0) [
  | inl less ↦
      let e : Some p.1 ≡ None = sym (socket_of-first p ps) ∙ same p.0 g.0 k.0 ∙ socket_of-below (q ∷ qs) q.0 p.0 (omega arith, h.1) less in
      cc
  | inr over ↦ elim (cases_lt q.0 p.0) [
    | inl less ↦
        let e : Some q.1 ≡ None = sym (socket_of-first q qs) ∙ sym (same q.0 h.0 l.0) ∙ socket_of-below (p ∷ ps) p.0 q.0 (omega arith, g.1) less in
        cc
    | inr under ↦
        let e : p.0 ≡ q.0 = omega arith in
        let first : Some p.1 ≡ Some q.1 = sym (socket_of-first p ps) ∙ same p.0 g.0 k.0 ∙ ap (socket_of (q ∷ qs)) e ∙ socket_of-first q qs in
        let s : p.1 ≡ q.1 = cc in
        let rest : ps ≡ qs = same_pairs ps qs (p.0 + 1) limit g.1 (rw e h.1) k.1 l.1 (λ d above below. sym (behind p ps d above) ∙ same d (omega (arith, g.0)) below ∙ behind q qs d (omega arith)) in
        (λ i. (e i, s i) ∷ rest i)
  ]
]
  where
    behind : (p : ℕ × ℕ) (ps : List (ℕ × ℕ)) (d : ℕ) → p.0 + 1 ≤ d → socket_of (p ∷ ps) d ≡ socket_of ps d
    behind p ps d above = let other : nat_eq p.0 d ≡ false = grind (arith, nat_tests) in rw other refl

-- holds tell their sockets
pub same_sockets : (addresses : List Address) (ps qs : List (ℕ × ℕ)) → seen_holds addresses ps ≡ seen_holds addresses qs → ps ≡ qs
same_sockets addresses [] [] e = refl
same_sockets addresses [] (q ∷ qs) e = cc
same_sockets addresses (p ∷ ps) [] e = cc
same_sockets addresses (p ∷ ps) (q ∷ qs) e =
    let first : seen_hold addresses p ≡ seen_hold addresses q = cc in
    let rest : seen_holds addresses ps ≡ seen_holds addresses qs = cc in
    let fd : p.0 ≡ q.0 = ap (λ (h : Hold). h.fd) first in
    let socket : p.1 ≡ q.1 = ap (λ (h : Hold). h.socket) first in
    let others = same_sockets addresses ps qs rest in
    (λ i. (fd i, socket i) ∷ others i)

---- Rows that are still to come

-- a test of the rows, of which one is the first
pub any_next : (test : Process → Bool) (addresses : List Address) (left rest : List Holder) (h : Holder) → left ≡ h
    ∷ rest → list_any test (seen_rows addresses left)
    ≡ (test (seen_holder addresses h) || list_any test (seen_rows addresses rest))
any_next test addresses left rest h turn = ap (λ hs. list_any test (seen_rows addresses hs)) turn

pub found_first : (test : Process → Bool) (addresses : List Address) (all left rest : List Holder) (h : Holder)
    (gone : Bool) → left ≡ h ∷ rest →
    list_any test (seen_rows addresses all) ≡ (list_any test (seen_rows addresses left) || gone) →
    list_any test (seen_rows addresses all)
    ≡ ((test (seen_holder addresses h) || list_any test (seen_rows addresses rest)) || gone)
found_first test addresses all left rest h gone turn found = found ∙ ap (λ b. b || gone) (any_next test addresses left rest h turn)

---- Numbers that are missing

-- a number that was found is missing no longer
pub found_next : (whole here later listed missing now same : Bool) →
    whole ≡ ((here || later) || (listed && not missing)) → here ≡ same → now ≡ (missing && not same) →
    (same ≡ true → listed ≡ true) → whole ≡ (later || (listed && not now))
found_next whole here later listed missing now same found is left known =
    found ∙ ap (λ b. (b || later) || (listed && not missing)) is ∙ turn same later listed missing known
    ∙ ap (λ b. later || (listed && not b)) (sym left)
  where
    turn : (e a r m : Bool) → (e ≡ true → r ≡ true) → ((e || a) || (r && not m)) ≡ (a || (r && not (m && not e)))
    turn true true r m h = refl
    turn true false r true h = sym (ap (λ b. b && true) (h refl))
    turn true false r false h = sym (ap (λ b. b && true) (h refl))
    turn false a r true h = refl
    turn false a r false h = refl

-- where the workers are those that are listed, none is missing
pub none_missing : (whole listed missing : Bool) → whole ≡ (listed && not missing) → whole ≡ listed → (missing ≡ true → listed ≡ true) → missing ≡ false
none_missing whole listed false found same within = refl
none_missing whole true true found same within = sym same ∙ found
none_missing whole false true found same within = sym (within refl)

pub none_in : (ns : List ℕ) → ((k : ℕ) → is_in ns k ≡ false) → ns ≡ []
none_in [] none = refl
none_in (n ∷ ns) none =
    let same : nat_eq n n ≡ true = grind (arith, nat_tests) in
    let at : (nat_eq n n || is_in ns n) ≡ false = none n in
    absurd (true≢false (sym (rw same refl) ∙ at))

---- The record and the table

-- what a record says of the live master of its image
pub agreed : (t : Table) (m : Caller) (c : Running) (wanted retries timeout : ℕ) →
    Some m ≡ live_master c.crew.generation.image t.rows → Agrees t (running c wanted retries timeout) →
    MasterAgrees t.rows m c × WorkersAgree t.rows m c
agreed t m c wanted retries timeout found a =
    let lives : Some m ≡ Some (record { number = c.pid; holds = a.holds }) = found ∙ a.lives in
    let is : m ≡ record { number = c.pid; holds = a.holds } = cc in
    rw is (
      record { number = refl; alone = a.alone; listeners = a.listeners },
      record { running = a.running; ready = a.ready },
    )
