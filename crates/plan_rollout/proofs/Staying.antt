-- Who stays.
use Rattle.std.proofs.Common.{◌≡◌, ℕ, zero, suc, ◌+◌, ◌≤◌, ◌<◌, ◌||◌, ◌↔◌, Bool, true, false, cond, not, nat_eq}
use Rattle.std.proofs.Common.{filter, List, [], ◌∷◌, length, min, get_or, reverse, refl, sym, ◌∙◌, ap, arith, Some}
use Rattle.std.proofs.Common.{IsTrue, EachIndex}
use Rattle.std.specs.Prelude.{if◌then◌else◌, ◌==◌, nat_le}
use Rattle.std.specs.Cmp.{both_ways}
use Rattle.std.proofs.lemmas.Bool.{leb-true, le-leb, and_parts, and_from, eq-eqb}
use Rattle.std.proofs.lemmas.List.{reverse-append}
use Rattle.listener_set.specs.Numbers.{numbers_below, is_in, lacks, without_number, last, RisesFrom}
use Rattle.listener_set.proofs.Rising.{last_out}
use Rattle.worker_groups.specs.Groups.{group_of}
use Rattle.vocabulary.specs.Settings.{Settings}
use Rattle.definitions.specs.Table.{Address}
use Rattle.definitions.specs.Master.{Record, Layout, addresses_of, layout_of, layout_in, served}
use Rattle.table_laws.proofs.Small.{in-reverse}
use Rattle.definitions.specs.Plans.{without, staying, every, is_enough}
use Rattle.table_laws.proofs.Rolling.{every-more}
use Rattle.plan_rollout.specs.Spots.{spots_of, one_at}
use Rattle.plan_rollout.specs.Counts.{AreServed, AreLeast, address_at}
use Rattle.plan_rollout.proofs.Lists.{filters-turned, filter-reverse, count-fewer}
use Rattle.plan_rollout.proofs.Serving.{spot-is, count-without}

---- Those of whom none may quit are passed over

-- fewer are not enough where more are not
abbrev pub Falls : (List ℕ → Bool) → Type 0
Falls enough = (p : ℕ → Bool) (xs : List ℕ) → enough xs ≡ false → enough (filter p xs) ≡ false

or-on : (a b : Bool) → b ≡ true → (a || b) ≡ true
or-on true b e = refl
or-on false b e = e

pub passed-over : (enough : List ℕ → Bool) (out : ℕ → Bool) → Falls enough → (stay ks : List ℕ) →
    ((k : ℕ) → is_in ks k ≡ true → out k ≡ true → enough (without k stay) ≡ false) →
    staying enough stay ks ≡ staying enough stay (filter (λ k. not (out k)) ks)
passed-over enough out falls stay [] h = refl
passed-over enough out falls stay (k ∷ ks) h =
    go (out k) (enough (without k stay)) refl refl (passed-over enough out falls stay ks tail)
    (λ few. passed-over enough out falls (without k stay) ks few)
  where
    here : is_in (k ∷ ks) k ≡ true
    here = ap (λ b. b || is_in ks k) (eq-eqb k k refl)

    tail : (j : ℕ) → is_in ks j ≡ true → out j ≡ true → enough (without j stay) ≡ false
    tail j on is = h j (or-on (nat_eq k j) (is_in ks j) on) is

    fewer : (j : ℕ) → is_in ks j ≡ true → out j ≡ true → enough (without j (without k stay)) ≡ false
    fewer j on is =
        ap enough (filters-turned (λ x. not (x == j)) (λ x. not (x == k)) stay)
        ∙ falls (λ x. not (x == k)) (without j stay) (tail j on is)

    go : (b e : Bool) → out k ≡ b → enough (without k stay) ≡ e →
        staying enough stay ks ≡ staying enough stay (filter (λ j. not (out j)) ks) →
        (((j : ℕ) → is_in ks j ≡ true → out j ≡ true → enough (without j (without k stay)) ≡ false) →
        staying enough (without k stay) ks ≡ staying enough (without k stay) (filter (λ j. not (out j)) ks)) →
        (if e then staying enough (without k stay) ks else staying enough stay ks)
        ≡ staying enough stay (cond (not b) (k ∷ filter (λ j. not (out j)) ks) (filter (λ j. not (out j)) ks))
    go true true is was same less = absurd (let no = h k here is in cc)
    go true false is was same less = same
    go false true is was same less = rw was (less fewer)
    go false false is was same less = rw was same

-- none of these may quit
pub group-stays : (enough : List ℕ → Bool) → Falls enough → (stay rest members : List ℕ) →
    ((k : ℕ) → is_in rest k ≡ true → is_in members k ≡ true → enough (without k stay) ≡ false) →
    staying enough stay (reverse rest) ≡ staying enough stay (reverse (lacks rest members))
group-stays enough falls stay rest members h =
    passed-over enough (is_in members) falls stay (reverse rest) (λ k on is. h k (sym (in-reverse rest k) ∙ on) is)
    ∙ ap (staying enough stay) (filter-reverse (λ k. not (is_in members k)) rest)

-- the highest quits
pub one-quits : (enough : List ℕ → Bool) (stay rest : List ℕ) (k : ℕ) → RisesFrom 0 rest → last rest ≡ Some k →
    enough (without k stay) ≡ true →
    staying enough stay (reverse rest) ≡ staying enough (without_number stay k) (reverse (without_number rest k))
one-quits enough stay rest k rises is may =
    ap (λ ks. staying enough stay (reverse ks)) (last_out rest k 0 rises is)
    ∙ (ap (staying enough stay) (reverse-append (without_number rest k) (k ∷ [])) ∙ rw may refl)

---- Enough

every-from : (test : Address → Bool) (l : List Address) → ((i : ℕ) → i < length l → test (get_or l i []) ≡ true) →
    every test l ≡ true
every-from test [] h = refl
every-from test (a ∷ l) h =
    and_from (test a) (every test l) (h 0 (omega arith)) (every-from test l (λ i lt. h (suc i) (omega (arith, lt))))

every-to : (test : Address → Bool) (l : List Address) → every test l ≡ true → (i : ℕ) → i < length l →
    test (get_or l i []) ≡ true
every-to test [] e i lt = absurd (let none : i < 0 = lt in omega arith)
every-to test (a ∷ l) e zero lt = (and_parts (test a) (every test l) e).0
every-to test (a ∷ l) e (suc i) lt = every-to test l (and_parts (test a) (every test l) e).1 i (omega (arith, lt))

not-true : (b : Bool) → (b ≡ true → ⊥) → b ≡ false
not-true true h = absurd (h refl)
not-true false h = refl

pub enough-falls : (r : Record) (s : Settings) (started : List ℕ) → Falls (is_enough r s started)
enough-falls r s started p xs off =
    not-true (is_enough r s started (filter p xs)) (λ on. let more = every-more _ _ (addresses_of r)
    (λ a is. up a is) on in cc)
  where
    lr : Layout
    lr = layout_of r

    ls : Layout
    ls = layout_in s.groups s.listeners

    up : (a : Address) →
        nat_le (min (served lr r.ready a) (served ls (numbers_below s.workers) a))
        (served lr (filter p xs) a + served ls started a) ≡ true →
        nat_le (min (served lr r.ready a) (served ls (numbers_below s.workers) a))
        (served lr xs a + served ls started a) ≡ true
    up a is =
        let fewer = count-fewer (λ k. lr.listens (group_of lr.groups k) a) p xs in
        let least = min (served lr r.ready a) (served ls (numbers_below s.workers) a) in
        le-leb least (served lr xs a + served ls started a)
        (omega (arith, fewer, leb-true least (served lr (filter p xs) a + served ls started a) is))

one-is : (layout : Layout) (addresses : List Address) (place i : ℕ) → i < length addresses →
    one_at (spots_of layout addresses place) i ≡ cond (layout.listens place (get_or addresses i [])) 1 0
one-is layout addresses place i lt = ap (λ b. cond b 1 0) (spot-is layout addresses place i lt)

module _ (r : Record) (s : Settings) (started stay counts least spots : List ℕ) (k : ℕ) (rises : RisesFrom 0 stay)
    (on : is_in stay k ≡ true)
    (now : AreServed r s started stay counts) (floor : AreLeast r s least)
    (is : spots ≡ spots_of (layout_of r) (addresses_of r) (group_of r.posts.groups k)) where
  -- one less serves where it listens
  less : (i : ℕ) → i < length (addresses_of r) →
      served (layout_of r) (without k stay) (address_at r i) + one_at spots i ≡
      served (layout_of r) stay (address_at r i)
  less i lt =
      let one = ap (λ xs. one_at xs i) is ∙ one-is (layout_of r) (addresses_of r) (group_of r.posts.groups k) i lt in
      omega (
        arith,
        one,
        count-without (λ j. (layout_of r).listens (group_of r.posts.groups j) (address_at r i)) k 0
            stay rises on,
      )

  pub spare-is : (b : Bool) → (IsTrue b ↔ EachIndex counts
      (λ i. get_or least i 0 + one_at spots i ≤ get_or counts i 0)) →
      is_enough r s started (without k stay) ≡ b
  spare-is b told =
      both_ways (is_enough r s started (without k stay)) b
      (λ e. told.1 (λ i low.
      let lt : i < length (addresses_of r) = omega (arith, now.count, low) in
      let here = leb-true _ _ (every-to _ (addresses_of r) e i lt) in
      omega (arith, here, less i lt, now.each i lt, floor.each i lt)))
      (λ e. every-from _ (addresses_of r) (λ i lt.
      let here = told.0 e i (omega (arith, now.count, lt)) in
      le-leb _ _ (omega (arith, here, less i lt, now.each i lt, floor.each i lt))))

  pub served-less : (fewer : List ℕ) → length fewer ≡ length counts →
      EachIndex fewer (λ i. get_or fewer i 0 + one_at spots i ≡ get_or counts i 0) →
      AreServed r s started (without k stay) fewer
  served-less fewer same each =
      record {
        count = omega (arith, same, now.count);
        each = λ i lt. omega (arith, each i (omega (arith, same, now.count, lt)), less i lt, now.each i lt);
      }
