-- Where there is one group on each side, as many quit in a step as came: the fullest step is a step more than all.
use Rattle.std.proofs.Common.{◌≡◌, ℕ, zero, suc, ◌+◌, ◌<◌, ◌≤◌, Bool, true, false, not, List, [], ◌∷◌, ◌++◌, length, refl, sym, ap, ◌∙◌, subst, arith, ◌⊎◌, inl, inr, ⊎_elim}
use Rattle.std.specs.Prelude.{◌&&◌, ◌||◌, ◌==◌, ◌-◌, reverse, min, max, take, drop, nat_lt, nat_le, if◌then◌else◌}
use Rattle.std.proofs.lemmas.Bool.Decides.{nat_tests}
use Rattle.std.proofs.lemmas.List.{length-append, take-append-drop, length-reverse}
use Rattle.listener_set.specs.Numbers.{is_in, lacks, numbers_below}
use Rattle.worker_groups.specs.declared.groups.Group.{Group}
use Rattle.vocabulary.specs.Settings.{Settings}
use Rattle.definitions.specs.Table.{Address}
use Rattle.definitions.specs.Master.{Record, Layout, addresses_of, layout_of, layout_in, served, group_of}
use Rattle.call_laws.proofs.Choices.{and-left, and-right}
use Rattle.table_laws.proofs.Rows.{one, weigh, count-weigh}
use Rattle.table_laws.proofs.Views.{eqb-refl, eqb-is}
use Rattle.table_laws.proofs.Counts.{Distinct, filter-distinct}
use Rattle.table_laws.proofs.Sets.{in-filter-on, in-filter-of, in-here, in-there, shorter, below-length}
use Rattle.table_laws.proofs.Small.{in-reverse, not-is, true-false}
use Rattle.table_laws.proofs.Begins.{rising-distinct}
use Rattle.definitions.specs.Plans.{Rollout, without, staying, rolled, every, is_enough, rollout_of}
use Rattle.stepped_reloads.specs.Steps.{most_of, ceiling_of, CeilingIsLow}
use Rattle.table_laws.proofs.Rolling.{stays, parted}

---- Enough, in one group

all-or-none : (b : Bool) (test : ℕ → Bool) → ((k : ℕ) → test k ≡ b) → (ks : List ℕ) → weigh (λ k. one (test k)) ks ≡ (if b then length ks else 0)
all-or-none true test h [] = refl
all-or-none true test h (x ∷ ks) = omega (arith, ap one (h x), all-or-none true test h ks)
all-or-none false test h [] = refl
all-or-none false test h (x ∷ ks) = omega (arith, ap one (h x), all-or-none false test h ks)

sole-group : (gs : List Group) → length gs ≡ 1 → (k : ℕ) → group_of gs k ≡ 0
sole-group [] e k = absurd (cc e)
sole-group (g ∷ []) e k = refl
sole-group (g ∷ f ∷ gs) e k = absurd (omega (arith, e))

served-is : (layout : Layout) → length layout.groups ≡ 1 → (ks : List ℕ) (a : Address) → served layout ks a ≡ (if layout.listens 0 a then length ks else 0)
served-is layout sole ks a =
    count-weigh (λ k. layout.listens (group_of layout.groups k) a) ks
    ∙ all-or-none (layout.listens 0 a) (λ k. layout.listens (group_of layout.groups k) a) (λ k. ap (λ z. layout.listens z a) (sole-group layout.groups sole k)) ks

not-every : (test : Address → Bool) (l : List Address) → every test l ≡ false → (a : Address) × (test a ≡ false)
not-every test [] e = absurd (cc e)
not-every test (a ∷ l) e = go (test a) refl e (not-every test l)
  where
    go : (b : Bool) → test a ≡ b → (b && every test l) ≡ false → (every test l ≡ false → (a : Address) × (test a ≡ false)) → (a : Address) × (test a ≡ false)
    go true is e rest = rest e
    go false is e rest = (a, is)

few-there : (old new : Bool) (ready all left started : ℕ) → nat_le (min (if old then ready else 0) (if new then all else 0)) ((if old then left else 0) + (if new then started else 0)) ≡ false → left + started + 1 ≤ all
few-there true true ready all left started e =
    let lt : left + started < min ready all = grind (arith, nat_tests) in
    omega (arith, lt)
few-there true false ready all left started e =
    let lt : left + 0 < min ready 0 = grind (arith, nat_tests) in
    absurd (omega (arith, lt))
few-there false new ready all left started e = go new e
  where
    go : (b : Bool) → nat_le (min 0 (if b then all else 0)) (0 + (if b then started else 0)) ≡ false → left + started + 1 ≤ all
    go true e =
        let lt : 0 + started < min 0 all = grind (arith, nat_tests) in
        absurd (omega (arith, lt))
    go false e = absurd (cc e)

-- Where these are not enough they are fewer than are wanted.
not-enough :
    (r : Record) (s : Settings) → length r.posts.groups ≡ 1 → length s.groups ≡ 1 → (started left : List ℕ) →
    is_enough r s started left ≡ false → length left + length started + 1 ≤ s.workers
not-enough r s old new started left e =
    let (a, off) = not-every _ (addresses_of r) e in
    let lr = layout_of r in
    let ls = layout_in s.groups s.listeners in
    let all = numbers_below s.workers in
    let few =
    few-there (lr.listens 0 a) (ls.listens 0 a) (length r.ready) (length all) (length left) (length started)
    (ap (λ z. nat_le z ((if lr.listens 0 a then length left else 0) + (if ls.listens 0 a then length started else 0))) (ap (λ z. min z (if ls.listens 0 a then length all else 0)) (sym (served-is lr old r.ready a)) ∙ ap (λ z. min (served lr r.ready a) z) (sym (served-is ls new all a)))
    ∙ ap (λ z. nat_le (min (served lr r.ready a) (served ls all a)) (z + (if ls.listens 0 a then length started else 0))) (sym (served-is lr old left a))
    ∙ ap (λ z. nat_le (min (served lr r.ready a) (served ls all a)) (served lr left a + z)) (sym (served-is ls new started a))
    ∙ off) in
    omega (arith, few, below-length s.workers)

---- Who stays

module _ (enough : List ℕ → Bool) (most size : ℕ) (few : (l : List ℕ) → enough l ≡ false → length l + size + 1 ≤ most) where
  without-one : (k : ℕ) (left : List ℕ) → Distinct left → length left ≤ length (without k left) + 1
  without-one k left d =
      omega (arith, shorter left (k ∷ without k left) d (λ j e. go j (j == k) refl e))
    where
      go : (j : ℕ) (b : Bool) → (j == k) ≡ b → is_in left j ≡ true → is_in (k ∷ without k left) j ≡ true
      go j true is e = in-here k j (without k left) (sym (eqb-is j k is))
      go j false is e = in-there k j (without k left) (in-filter-on (λ i. not (i == k)) left j e (ap not is))

  few-stay :
      (left ks : List ℕ) → Distinct left →
      (length (staying enough left ks) + size ≤ most) ⊎ ((j : ℕ) → is_in (staying enough left ks) j ≡ true → is_in ks j ≡ false)
  few-stay left [] d = inr (λ j e. refl)
  few-stay left (k ∷ ks) d =
      let d' = filter-distinct (λ j. not (j == k)) left d in
      elim (enough (without k left)) as
      (λ b. enough (without k left) ≡ b →
      (length (if b then staying enough (without k left) ks else staying enough left ks) + size ≤ most)
      ⊎ ((j : ℕ) → is_in (if b then staying enough (without k left) ks else staying enough left ks) j ≡ true → (k == j || is_in ks j) ≡ false)) [
        | true ↦ λ is.
            let s = stays enough (without k left) ks d' in
            ⊎_elim (λ a. inl a)
            (λ h. inr (λ j e. neither j (k == j) refl (in-filter-of (λ i. not (i == k)) left j (s.within j e)).1 (h j e)))
            (few-stay (without k left) ks d')
        | false ↦ λ is.
            let s = stays enough left ks d in
            inl (omega (arith, few (without k left) is, without-one k left d, shorter (staying enough left ks) left s.distinct s.within))
      ] refl
    where
      neither : (j : ℕ) (b : Bool) → (k == j) ≡ b → not (j == k) ≡ true → is_in ks j ≡ false → (b || is_in ks j) ≡ false
      neither j true is off e = let on = eqb-refl j k (sym (eqb-is k j is)) in absurd (cc (on, not-is (j == k) off))
      neither j false is off e = e

  all-few : (left : List ℕ) → Distinct left → size ≤ most → length (staying enough left (reverse left)) + size ≤ most
  all-few left d le =
      let s = stays enough left (reverse left) d in
      ⊎_elim (λ a. a)
      (λ h. omega (arith, le, shorter (staying enough left (reverse left)) [] s.distinct (λ k e. absurd (true-false (is_in left k) (s.within k e) (sym (in-reverse left k) ∙ h k e)))))
      (few-stay left (reverse left) d)

---- All steps

take-few : (n : ℕ) (l : List ℕ) → length (take n l) ≤ n
take-few zero l = omega arith
take-few (suc n) [] = omega arith
take-few (suc n) (x ∷ l) = omega (arith, take-few n l)

take-some : (n : ℕ) (l : List ℕ) → 1 ≤ n → 1 ≤ length l → 1 ≤ length (take n l)
take-some zero l e f = absurd (omega (arith, e))
take-some (suc n) [] e f = absurd (omega (arith, f))
take-some (suc n) (x ∷ l) e f = omega arith

module _ (enough : List ℕ → List ℕ → Bool) (most wanted surge : ℕ) (some : 1 ≤ surge) (le : wanted ≤ most)
    (few : (started l : List ℕ) → enough started l ≡ false → length l + length started + 1 ≤ wanted) where
  steps-few :
      (tries : ℕ) (base todo left : List ℕ) → Distinct left → length todo ≤ tries → length base + length todo ≤ wanted →
      length left + length base ≤ most →
      (let ro = rolled enough tries surge base todo left in most_of (length left + length base) ro.steps ro.last) ≤ most + surge
  steps-few zero base todo left d short all now = omega (arith, short, now)
  steps-few (suc tries) base todo left d short all now =
      let chunk = take surge todo in
      let later = drop surge todo in
      let base1 = reverse chunk ++ base in
      let stay = staying (enough base1) left (reverse left) in
      let quit = lacks left stay in
      let more = rolled enough tries surge base1 later stay in
      let both = ap length (take-append-drop surge todo) in
      elim (nat_lt 0 surge && nat_lt surge (length todo)) as
      (λ z. (nat_lt 0 surge && nat_lt surge (length todo)) ≡ z →
      (let ro : Rollout = if z then record { steps = record { starts = chunk; quits = quit } ∷ more.steps; last = more.last; left = more.left } else record { steps = []; last = todo; left = left } in
      most_of (length left + length base) ro.steps ro.last) ≤ most + surge) [
        | true ↦ λ is.
            let lt : surge < length todo = lt-of surge (length todo) (and-right (nat_lt 0 surge) _ is) in
            let s = stays (enough base1) left (reverse left) d in
            let p = parted left stay d s.distinct s.within in
            let size : length base1 ≡ length chunk + length base = length-append (reverse chunk) base ∙ ap (λ z. z + length base) (length-reverse chunk) in
            let parts : length chunk + length later ≡ length todo = sym (length-append chunk later) ∙ both in
            let got = take-some surge todo some (omega (arith, lt)) in
            let within : length base1 ≤ wanted = omega (arith, size, parts, all) in
            let stay_few = all-few (enough base1) wanted (length base1) (few base1) left d within in
            let rest = steps-few tries base1 later stay s.distinct (omega (arith, short, parts, got)) (omega (arith, size, parts, all)) (omega (arith, stay_few, le)) in
            let same : length stay + length base1 ≡ length left + length base + length chunk - length quit = omega (arith, size, p.sum) in
            omega (arith, take-few surge todo, now, subst (λ z. most_of z more.steps more.last ≤ most + surge) same rest)
        | false ↦ λ is. omega (arith, now, not-lt surge (length todo) some is)
      ] refl
    where
      lt-of : (a b : ℕ) → nat_lt a b ≡ true → a < b
      lt-of a b e = grind (arith, nat_tests)

      not-lt : (a b : ℕ) → 1 ≤ a → (nat_lt 0 a && nat_lt a b) ≡ false → b ≤ a
      not-lt a b e f =
          let first : nat_lt 0 a ≡ true = grind (arith, nat_tests) in
          let off : nat_lt a b ≡ false = ap (λ z. z && nat_lt a b) (sym first) ∙ f in
          grind (arith, nat_tests)

-- One step starts all.
at-once : (enough : List ℕ → List ℕ → Bool) (tries surge : ℕ) (todo left : List ℕ) → (nat_lt 0 surge && nat_lt surge (length todo)) ≡ false →
    (let ro = rolled enough tries surge [] todo left in most_of (length left) ro.steps ro.last) ≡ length left + length todo
at-once enough zero surge todo left e = refl
at-once enough (suc tries) surge todo left e = rw e refl

pub ceiling-is-low : CeilingIsLow
ceiling-is-low surge t r s start old new =
    let all = numbers_below s.workers in
    elim (nat_lt 0 surge && nat_lt surge (length all)) as
    (λ z. (nat_lt 0 surge && nat_lt surge (length all)) ≡ z → ceiling_of r s surge ≤ (if z then max (length r.ready) s.workers + surge else length r.ready + s.workers)) [
      | true ↦ λ is.
          let steps = steps-few (is_enough r s) (max (length r.ready) s.workers) s.workers surge (some-of surge (and-left (nat_lt 0 surge) _ is)) (omega arith)
          (λ started l e. not-enough r s old new started l e) s.workers [] all r.ready (rising-distinct r.ready start.rising)
          (omega (arith, below-length s.workers)) (omega (arith, below-length s.workers)) (omega arith) in
          subst (λ z. most_of z (rollout_of r s surge).steps (rollout_of r s surge).last ≤ max (length r.ready) s.workers + surge) (none-more (length r.ready)) steps
      | false ↦ λ is. omega (arith, at-once (is_enough r s) s.workers surge all r.ready is, below-length s.workers)
    ] refl
  where
    some-of : (n : ℕ) → nat_lt 0 n ≡ true → 1 ≤ n
    some-of n e = grind (arith, nat_tests)

    none-more : (n : ℕ) → n + 0 ≡ n
    none-more n = omega arith
