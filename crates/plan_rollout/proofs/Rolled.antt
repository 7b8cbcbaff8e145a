-- One step more of a rollout.
use Rattle.std.proofs.Common.{◌≡◌, ℕ, zero, suc, ◌+◌, ◌-◌, ◌≤◌, ◌<◌, ◌&&◌, Bool, true, false, nat_lt, List, [], ◌∷◌}
use Rattle.std.proofs.Common.{◌++◌, length, take, drop, reverse, get_or, EachIndex, refl, sym, ◌∙◌, ap, arith}
use Rattle.std.proofs.Common.{append_assoc, append-nil}
use Rattle.std.specs.List.{range_with_len}
use Rattle.std.proofs.lemmas.List.{reverse-append, length-append}
use Rattle.std.proofs.lemmas.List.FromFn.{length-range_with_len}
use Rattle.listener_set.specs.Numbers.{lacks, numbers_below}
use Rattle.worker_groups.specs.declared.groups.Group.{Group}
use Rattle.vocabulary.specs.Settings.{Settings}
use Rattle.definitions.specs.Master.{Record, addresses_of, layout_in, group_of}
use Rattle.definitions.specs.Plans.{Step, Rollout, rolled, staying}
use Rattle.plan_rollout.specs.Spots.{all_spots, serving_at}
use Rattle.plan_rollout.specs.Counts.{AreServed, before, address_at}
use Rattle.plan_rollout.proofs.Lists.{count-append, count-reverse, below-range, take-range, drop-range, range-append}
use Rattle.plan_rollout.proofs.Serving.{serving-is}

pub before-before : (xs ys : List Step) (rest : Rollout) → before xs (before ys rest) ≡ before (xs ++ ys) rest
before-before xs ys rest = λ i. record {
  steps = sym (append_assoc xs ys rest.steps) i;
  last = rest.last;
  left = rest.left;
}

pub before-none : (xs : List Step) (rest : Rollout) → rest.steps ≡ [] →
    before xs rest ≡ record { steps = xs; last = rest.last; left = rest.left }
before-none xs rest none = λ i. record {
  steps = (ap (λ ys. xs ++ ys) none ∙ append-nil xs) i;
  last = rest.last;
  left = rest.left;
}

pub rolled-more : (enough : List ℕ → List ℕ → Bool) (tries fewer surge : ℕ) (started todo left stay : List ℕ) →
    tries ≡ fewer + 1 →
    (nat_lt 0 surge && nat_lt surge (length todo)) ≡ true →
    stay ≡ staying (enough (reverse (take surge todo) ++ started)) left (reverse left) →
    rolled enough tries surge started todo left
    ≡ before (record { starts = take surge todo; quits = lacks left stay } ∷ [])
    (rolled enough fewer surge (reverse (take surge todo) ++ started) (drop surge todo) stay)
rolled-more enough zero fewer surge started todo left stay e on is = absurd (omega (arith, e))
rolled-more enough (suc tries) fewer surge started todo left stay e on is =
    let same : tries ≡ fewer = omega (arith, e) in
    let now = reverse (take surge todo) ++ started in
    rw on (λ i. before (record { starts = take surge todo; quits = lacks left (sym is i) } ∷ [])
    (rolled enough (same i) surge now (drop surge todo) (sym is i)))

pub rolled-done : (enough : List ℕ → List ℕ → Bool) (tries surge : ℕ) (started todo left : List ℕ) →
    (nat_lt 0 surge && nat_lt surge (length todo)) ≡ false →
    rolled enough tries surge started todo left ≡ record { steps = []; last = todo; left = left }
rolled-done enough zero surge started todo left off = refl
rolled-done enough (suc tries) surge started todo left off = rw off refl

-- new ones serve, too
pub served-more : (r : Record) (s : Settings) (started left more counts now : List ℕ) (gs : List Group)
    (spots : List (List ℕ)) → AreServed r s started left counts →
    length now ≡ length counts → gs ≡ s.groups → 1 ≤ length gs → spots ≡
    all_spots (layout_in s.groups s.listeners) (addresses_of r) →
    EachIndex now (λ i. get_or now i 0 ≡ get_or counts i 0 + serving_at gs spots more i) →
    AreServed r s (reverse more ++ started) left now
served-more r s started left more counts now gs spots was same groups some is each =
    record {
      count = omega (arith, same, was.count);
      each = λ i lt.
          let a = address_at r i in
          let layout = layout_in s.groups s.listeners in
          let test = λ (k : ℕ). layout.listens (group_of s.groups k) a in
          let come = (λ j. serving_at (groups j) (is j) more i) ∙
          serving-is layout (addresses_of r) more i (omega (arith, some, ap length groups)) lt in
          omega (
            arith,
            each i (omega (arith, same, was.count, lt)),
            was.each i lt,
            come,
            count-append test (reverse more) started,
            count-reverse test more,
          );
    }

---- The loop

pub begins : (enough : List ℕ → List ℕ → Bool) (g n w : ℕ) (ready left : List ℕ) → w ≡ n → left ≡ ready →
    rolled enough n g [] (numbers_below n) ready
    ≡ before [] (rolled enough (w - 0) g (reverse (range_with_len 0 0)) (range_with_len 0 (w - 0)) left)
begins enough g n w ready left same is =
    let all : n ≡ w - 0 = omega (arith, same) in
    λ i. rolled enough (all i) g [] ((below-range n ∙ ap (range_with_len 0) all) i) (sym is i)

pub goes-on : (enough : List ℕ → List ℕ → Bool) (g n m : ℕ) (steps after : List Step)
    (left stay starts quits : List ℕ) (whole : Rollout) →
    length steps ≤ m → (nat_lt 0 g && nat_lt g (n - m)) ≡ true → m + g < n → starts ≡ range_with_len m g → quits ≡
    lacks left stay →
    after ≡ steps ++ record { starts = starts; quits = quits } ∷ [] →
    stay ≡ staying (enough (reverse starts ++ reverse (range_with_len 0 m))) left (reverse left) →
    whole ≡ before steps (rolled enough (n - length steps) g (reverse (range_with_len 0 m))
    (range_with_len m (n - m)) left) →
    whole ≡ before after (rolled enough (n - length after) g (reverse (range_with_len 0 (m + g)))
    (range_with_len (m + g) (n - (m + g))) stay)
goes-on enough g n m steps after left stay starts quits whole few on low is quit push stays so =
    let todo = range_with_len m (n - m) in
    let begun = reverse (range_with_len 0 m) in
    let taken : take g todo ≡ starts = take-range m g (n - m) (omega (arith, low)) ∙ sym is in
    let longer = ap length push ∙ length-append steps (record { starts = starts; quits = quits } ∷ []) in
    let test = ap (λ l. nat_lt 0 g && nat_lt g l) (length-range_with_len m (n - m)) ∙ on in
    let more = rolled-more enough (n - length steps) (n - (length steps + 1)) g begun todo left stay
    (omega (arith, few, low)) test
    (stays ∙ ap (λ xs. staying (enough (reverse xs ++ begun)) left (reverse left)) (sym taken)) in
    let one : List Step = record { starts = take g todo; quits = lacks left stay } ∷ [] in
    let all : steps ++ one ≡ after = (λ i. steps ++ record { starts = taken i; quits = sym quit i } ∷ []) ∙ sym push in
    let tries : n - (length steps + 1) ≡ n - length after = omega (arith, longer) in
    let now : reverse (take g todo) ++ begun ≡ reverse (range_with_len 0 (m + g)) =
    ap (λ xs. reverse xs ++ begun) (taken ∙ is)
    ∙ (sym (reverse-append (range_with_len 0 m) (range_with_len m g)) ∙
    ap reverse (range-append 0 m g m (m + g) (omega arith) refl)) in
    let rest : drop g todo ≡ range_with_len (m + g) (n - (m + g)) = drop-range m g (n - m) (n - (m + g)) (m + g)
    (omega (arith, low)) refl in
    so ∙ (ap (before steps) more
    ∙ (before-before steps one (rolled enough (n - (length steps + 1)) g (reverse (take g todo) ++ begun)
    (drop g todo) stay)
    ∙ (λ i. before (all i) (rolled enough (tries i) g (now i) (rest i) stay))))

pub ends : (enough : List ℕ → List ℕ → Bool) (g n m : ℕ) (steps : List Step) (left last : List ℕ) (whole : Rollout) →
    (nat_lt 0 g && nat_lt g (n - m)) ≡ false → last ≡ range_with_len m (n - m) →
    whole ≡ before steps (rolled enough (n - length steps) g (reverse (range_with_len 0 m))
    (range_with_len m (n - m)) left) →
    record { steps = steps; last = last; left = left } ≡ whole
ends enough g n m steps left last whole off is so =
    let todo = range_with_len m (n - m) in
    let test = ap (λ l. nat_lt 0 g && nat_lt g l) (length-range_with_len m (n - m)) ∙ off in
    let done = rolled-done enough (n - length steps) g (reverse (range_with_len 0 m)) todo left test in
    sym (so ∙ (ap (before steps) done ∙ (λ i. record { steps = append-nil steps i; last = sym is i; left = left })))
