-- Masters listen as their configurations lay out.
use Rattle.std.proofs.Common.{◌≡◌, ℕ, zero, suc, ◌+◌, ◌<◌, ◌≤◌, nat_lt, Bool, true, false, cond, not, List, [], ◌∷◌}
use Rattle.std.proofs.Common.{length, Option, None, Some, get_or, take, drop, refl, sym, ap, ◌∙◌, subst, arith}
use Rattle.std.specs.Prelude.{filter, map, option_map, unwrap_or, ◌&&◌, ◌||◌, ◌==◌, bytes_eq, if◌then◌else◌}
use Rattle.std.specs.List.{AllByRecursion, range_with_len}
use Rattle.std.proofs.lemmas.Bool.Decides.{nat_tests}
use Rattle.std.proofs.lemmas.Option.{same_Some, none-some}
use Rattle.listener_set.specs.declared.generation.Generation.{Generation}
use Rattle.listener_set.specs.AddressList.{has}
use Rattle.worker_groups.specs.Groups.{addresses_in}
use Rattle.listener_set.specs.Numbers.{RisesFrom, is_in}
use Rattle.vocabulary.specs.Settings.{Settings, listeners_from}
use Rattle.vocabulary.specs.declared.table.Listener.{Listener}
use Rattle.vocabulary.specs.declared.plans.Side.TheVariants as side
use Rattle.vocabulary.specs.declared.reports.Outcome.TheVariants as outcome
use Rattle.worker_groups.specs.Crews.{descriptors_first}
use Rattle.definitions.specs.Table.{Address, Hold, has_address}
use Rattle.call_laws.specs.Pieces.{is_at, listener_of}
use Rattle.definitions.specs.Calls.{lowest_free, put_hold}
use Rattle.definitions.specs.Master.{Group, Layout, fds_in, layout_in, listeners_under, addresses_of_group, Record}
use Rattle.definitions.specs.Master.{layout_of, Target, Workers, Mend, Reopen, Reload, Upgrade, Attended, Stop}
use Rattle.definitions.specs.Master.{layout_wanted}
use Rattle.definitions.specs.Run.{Report, Outcome}
use Rattle.definitions.specs.After.{next_config, next_image, listens_on, opened_from, all_opened, added, still_wanted}
use Rattle.definitions.specs.After.{with_added, upgraded, renewed, target_record, old_record, named_record, keeps_rules}
use Rattle.definitions.specs.After.{reported, record_from, posts_of}
use Rattle.std.specs.Bool.{then_some}
use Rattle.theorems.specs.Layouts.{IsSameLayout, StartsLaidOut, CanBeLaidOut, RecordsLaidOut, layout_told}
use Rattle.table_laws.proofs.Rows.{or-right}
use Rattle.table_laws.proofs.Views.{eqb-is, eqb-off}
use Rattle.table_laws.proofs.Addresses.{any-put, stands-filter}
use Rattle.table_laws.proofs.Listeners.{fds, put-from, kept-is, rises-filter}
use Rattle.table_laws.proofs.Shares.{held-under, layout_at}
use Rattle.table_laws.proofs.Layouts.{Told, told, has-at, sole-whole, group-listens}

-- where there is one group there is one place
only-place : (gs : List Group) (place : ℕ) → place < length gs → (length gs == 1) ≡ true → place ≡ 0
only-place gs place lt one = let same = eqb-is (length gs) 1 one in omega (arith, lt, same)

---- At a start

listed : (fd : ℕ) (l : List Address) → map (λ (x : Listener). x.address) (listeners_from fd l) ≡ l
listed fd [] = refl
listed fd (a ∷ l) = ap (λ r. a ∷ r) (listed (fd + 1) l)

-- the listeners whose descriptors pass a test
abbrev picked : (ℕ → Bool) → List Listener → List Listener
picked p ls = filter (λ (x : Listener). p x.descriptor) ls

pick-none : (p : ℕ → Bool) (fd : ℕ) (l : List Address) → ((k : ℕ) → fd ≤ k → p k ≡ false) → picked p (listeners_from fd l) ≡ []
pick-none p fd [] off = refl
pick-none p fd (a ∷ l) off = rw (off fd (omega arith)) (pick-none p (fd + 1) l (λ k le. off k (omega (arith, le))))

-- they are the first n, or none of these
pick-first :
    (p : ℕ → Bool) (fd n : ℕ) (l : List Address) → ((k : ℕ) → fd ≤ k → p k ≡ nat_lt k (fd + n)) →
    picked p (listeners_from fd l) ≡ listeners_from fd (take n l)
pick-first p fd zero l is = pick-none p fd l (λ k le. is k le ∙ none fd k le)
  where
    none : (fd k : ℕ) → fd ≤ k → nat_lt k (fd + 0) ≡ false
    none fd k le = grind (arith, nat_tests)
pick-first p fd (suc n) [] is = refl
pick-first p fd (suc n) (a ∷ l) is =
    rw (is fd (omega arith) ∙ here fd n)
    (ap (λ ls. (record { descriptor = fd; address = a }) ∷ ls) (pick-first p (fd + 1) n l (λ k le. is k (omega (arith, le)) ∙ ap (nat_lt k) (omega arith))))
  where
    here : (fd n : ℕ) → nat_lt fd (fd + suc n) ≡ true
    here fd n = grind (arith, nat_tests)

pick-later :
    (p : ℕ → Bool) (fd n : ℕ) (l : List Address) → ((k : ℕ) → k < fd + n → p k ≡ false) →
    picked p (listeners_from fd l) ≡ picked p (listeners_from (fd + n) (drop n l))
pick-later p fd zero l off = ap (λ k. picked p (listeners_from k l)) (omega arith)
pick-later p fd (suc n) [] off = refl
pick-later p fd (suc n) (a ∷ l) off =
    rw (off fd (omega arith))
    (pick-later p (fd + 1) n l (λ k lt. off k (omega (arith, lt))) ∙ ap (λ k. picked p (listeners_from k (drop n l))) (omega arith))

in-range : (fd n k : ℕ) → fd ≤ k → is_in (range_with_len fd n) k ≡ nat_lt k (fd + n)
in-range fd zero k le = grind (arith, nat_tests)
in-range fd (suc n) k le = go (fd == k) refl (λ more. in-range (fd + 1) n k more)
  where
    go :
        (b : Bool) → (fd == k) ≡ b → (fd + 1 ≤ k → is_in (range_with_len (fd + 1) n) k ≡ nat_lt k (fd + 1 + n)) →
        (b || is_in (range_with_len (fd + 1) n) k) ≡ nat_lt k (fd + suc n)
    go true e ih = let same = eqb-is fd k e in let on : nat_lt k (fd + suc n) ≡ true = grind (arith, nat_tests) in sym on
    go false e ih = let more : fd + 1 ≤ k = grind (arith, nat_tests) in ih more ∙ ap (nat_lt k) (omega arith)

below-range : (fd n k : ℕ) → k < fd → is_in (range_with_len fd n) k ≡ false
below-range fd zero k lt = refl
below-range fd (suc n) k lt = rw (eqb-off fd k (λ e. absurd (omega (arith, e)))) (below-range (fd + 1) n k (omega arith))

before : (gs : List Group) (fd place k : ℕ) → k < fd → is_in (get_or (descriptors_first fd gs) place []) k ≡ false
before [] fd zero k lt = refl
before [] fd (suc place) k lt = refl
before (g ∷ gs) fd zero k lt = below-range fd g.addresses k lt
before (g ∷ gs) fd (suc place) k lt = before gs (fd + g.addresses) place k (omega arith)

-- each group's descriptors are those of the next so many addresses
first-laid :
    (gs : List Group) (fd : ℕ) (l : List Address) (place : ℕ) → map (λ (x : Listener). x.address)
    (picked (is_in (get_or (descriptors_first fd gs) place [])) (listeners_from fd l)) ≡ addresses_of_group gs l place
first-laid [] fd l zero = ap (map (λ (x : Listener). x.address)) (pick-none (λ k. false) fd l (λ k le. refl))
first-laid [] fd l (suc place) = ap (map (λ (x : Listener). x.address)) (pick-none (λ k. false) fd l (λ k le. refl))
first-laid (g ∷ gs) fd l zero =
    ap (map (λ (x : Listener). x.address))
    (pick-first (is_in (range_with_len fd g.addresses)) fd g.addresses l (λ k le. in-range fd g.addresses k le)) ∙
    listed fd (take g.addresses l)
first-laid (g ∷ gs) fd l (suc place) =
    ap (map (λ (x : Listener). x.address))
    (pick-later (is_in (get_or (descriptors_first (fd + g.addresses) gs) place [])) fd g.addresses l (λ k lt. before gs (fd + g.addresses) place k lt))
    ∙ first-laid gs (fd + g.addresses) (drop g.addresses l) place

pub starts-laid-out : StartsLaidOut
starts-laid-out s wanted ready pid sum = (refl, λ place a lt. go place a lt (length s.groups == 1) refl)
  where
    go :
        (place : ℕ) (a : Address) → place < length s.groups → (b : Bool) → (length s.groups == 1) ≡ b → has
        (map (λ (x : Listener). x.address) (listeners_under (if b then None else Some (get_or (descriptors_first 3 s.groups) place [])) (listeners_from 3 s.listeners)))
        a ≡ has (addresses_of_group s.groups s.listeners place) a
    go place a lt true one = ap (λ l. has l a) (listed 3 s.listeners ∙ sym (sole-whole s.groups s.listeners place one (only-place s.groups place lt one) sum))
    go place a lt false many = ap (λ l. has l a) (first-laid s.groups 3 s.listeners place)

---- The listeners of new settings

-- a hold on each listener, on any socket
abbrev hold_on : Listener → Hold
hold_on l = record { fd = l.descriptor; socket = 0; address = l.address }

holds-listed : (ls : List Listener) → map listener_of (map hold_on ls) ≡ ls
holds-listed [] = refl
holds-listed (l ∷ ls) = ap (λ r. l ∷ r) (holds-listed ls)

rises-held : (ls : List Listener) → RisesFrom 3 (map (λ (l : Listener). l.descriptor) ls) → RisesFrom 3 (fds (map hold_on ls))
rises-held ls rises = subst (RisesFrom 3) (same ls) rises
  where
    same : (ls : List Listener) → map (λ (l : Listener). l.descriptor) ls ≡ fds (map hold_on ls)
    same [] = refl
    same (l ∷ ls) = ap (λ r. l.descriptor ∷ r) (same ls)

listens-held : (a : Address) (hs : List Hold) → listens_on (map listener_of hs) a ≡ has_address a hs
listens-held a [] = refl
listens-held a (h ∷ hs) = ap (λ b. bytes_eq h.address a || b) (listens-held a hs)

-- what is held when some addresses are opened
record HasOpened (more : List Address) (hs : List Hold) (ls : List Listener) : Type 0 where
  holds : List Hold
  are : map listener_of holds ≡ ls
  rises : RisesFrom 3 (fds holds)
  both : (a : Address) → has_address a holds ≡ (has more a || has_address a hs)

has-opened :
    (more : List Address) (hs : List Hold) (ls : List Listener) → RisesFrom 3 (fds hs) →
    all_opened more (map listener_of hs) ≡ Some ls → HasOpened more hs ls
has-opened [] hs ls rises e = record { holds = hs; are = same_Some (map listener_of hs) ls e; rises = rises; both = λ a. refl }
has-opened (x ∷ more) hs ls rises e = go (nat_lt (length (map listener_of hs)) 64) e (λ r f. has-opened more (put_hold new hs) ls r f)
  where
    new : Hold
    new = record { fd = lowest_free hs; socket = 0; address = x }

    order : (x m h : Bool) → (m || (x || h)) ≡ ((x || m) || h)
    order true true h = refl
    order true false h = refl
    order false m h = refl

    go :
        (b : Bool) → (if b then all_opened more (opened_from 3 x (map listener_of hs)) else None) ≡ Some ls →
        (RisesFrom 3 (fds (put_hold new hs)) → all_opened more (map listener_of (put_hold new hs)) ≡ Some ls → HasOpened more (put_hold new hs) ls)
        → HasOpened (x ∷ more) hs ls
    go false e ih = absurd (none-some ls e)
    go true e ih =
        let put = put-from 3 new hs rises refl in
        let rest = ih put.1 (ap (all_opened more) put.0 ∙ e) in
        record {
          holds = rest.holds;
          are = rest.are;
          rises = rest.rises;
          both = λ a. rest.both a ∙ ap (λ z. has more a || z) (any-put (is_at a) new hs) ∙ order (bytes_eq x a) (has more a) (has_address a hs);
        }

-- What is held and what a service lacks: the addresses of the service are held then.
added-held :
    (l : List Address) (hs : List Hold) (ls : List Listener) (o : HasOpened (added l (map listener_of hs)) hs ls)
    (a : Address) → has_address a o.holds ≡ ((has l a && not (has_address a hs)) || has_address a hs)
added-held l hs ls o a =
    o.both a ∙ ap (λ z. z || has_address a hs)
    (stands-filter (λ b. not (listens_on (map listener_of hs) b)) l a ∙ ap (λ z. has l a && not z) (listens-held a hs))

---- Where the groups of new settings listen

has-take : (n : ℕ) (l : List Address) (a : Address) → has (take n l) a ≡ true → has l a ≡ true
has-take zero l a e = absurd (cc e)
has-take (suc n) [] a e = e
has-take (suc n) (x ∷ l) a e = go (bytes_eq x a) e (has-take n l a)
  where
    go : (b : Bool) → (b || has (take n l) a) ≡ true → (has (take n l) a ≡ true → has l a ≡ true) → (b || has l a) ≡ true
    go true e ih = refl
    go false e ih = ih e

has-drop : (n : ℕ) (l : List Address) (a : Address) → has (drop n l) a ≡ true → has l a ≡ true
has-drop zero l a e = e
has-drop (suc n) [] a e = e
has-drop (suc n) (x ∷ l) a e = or-right (bytes_eq x a) (has l a) (has-drop n l a e)

-- a group's addresses are the service's
group-part : (gs : List Group) (l : List Address) (place : ℕ) (a : Address) → has (addresses_of_group gs l place) a ≡ true → has l a ≡ true
group-part [] l place a e = absurd (cc e)
group-part (g ∷ gs) l zero a e = has-take g.addresses l a e
group-part (g ∷ gs) l (suc place) a e = has-drop g.addresses l a (group-part gs (drop g.addresses l) place a e)

-- what all have, those that pass a test have
every-kept : (P : Hold → Type 0) (test : Hold → Bool) (hs : List Hold) → AllByRecursion P hs → AllByRecursion P (filter test hs)
every-kept P test [] all = tt
every-kept P test (h ∷ hs) all = go (test h) (every-kept P test hs all.1)
  where
    go : (b : Bool) → AllByRecursion P (filter test hs) → AllByRecursion P (cond b (h ∷ filter test hs) (filter test hs))
    go true ih = (all.0, ih)
    go false ih = ih

module _ (gs : List Group) (l : List Address) (sum : addresses_in gs ≡ length l) where
  -- Where just the service's addresses are held, its groups listen as it lays them out.
  held-laid :
      (ls : List Listener) (hs : List Hold) → Told ls hs → ((a : Address) → has_address a hs ≡ has l a) →
      IsSameLayout (layout_at (posts_of gs l ls) (map listener_of hs)) (layout_in gs l)
  held-laid ls hs at keys = (
    refl,
    λ place a lt.
        sym (held-under (fds_in (posts_of gs l ls) place) hs a)
        ∙ group-listens gs l sum ls hs at place a (only-place gs place lt) (λ held. sym (keys a) ∙ held)
        ∙ ap (λ z. z && has (addresses_of_group gs l place) a) (keys a)
        ∙ part (has l a) (has (addresses_of_group gs l place) a) (group-part gs l place a),
  )
    where
      part : (x y : Bool) → (y ≡ true → x ≡ true) → (x && y) ≡ y
      part true y h = refl
      part false true h = h refl
      part false false h = refl

  kept : (hs : List Hold) → map listener_of (filter (λ h. has l h.address) hs) ≡ still_wanted l (map listener_of hs)
  kept hs = kept-is (λ h. has l h.address) l hs (same hs)
    where
      same : (hs : List Hold) → AllByRecursion (λ h. has l h.address ≡ has l h.address) hs
      same [] = tt
      same (h ∷ hs) = (refl, same hs)

  -- what a reload leaves
  reload-laid :
      (r : List Listener) (ls : List Listener) → RisesFrom 3 (map (λ (x : Listener). x.descriptor) r) →
      with_added l r ≡ Some ls → IsSameLayout (layout_at (posts_of gs l ls) (still_wanted l ls)) (layout_in gs l)
  reload-laid r ls rises e =
      subst (λ k. IsSameLayout (layout_at (posts_of gs l k) (still_wanted l k)) (layout_in gs l)) o.are
      (subst (λ k. IsSameLayout (layout_at (posts_of gs l (map listener_of o.holds)) k) (layout_in gs l)) (kept o.holds) laid)
    where
      hs : List Hold
      hs = map hold_on r

      o : HasOpened (added l (map listener_of hs)) hs ls
      o = has-opened (added l (map listener_of hs)) hs ls (rises-held r rises) (ap (with_added l) (holds-listed r) ∙ e)

      table : (w x : Bool) → (((w && not x) || x) && w) ≡ w
      table true true = refl
      table true false = refl
      table false true = refl
      table false false = refl

      laid : IsSameLayout (layout_at (posts_of gs l (map listener_of o.holds)) (map listener_of (filter (λ h. has l h.address) o.holds))) (layout_in gs l)
      laid = held-laid (map listener_of o.holds) (filter (λ h. has l h.address) o.holds) (every-kept _ (λ h. has l h.address) o.holds (told 3 o.holds o.rises))
          (λ a. has-at l o.holds a ∙ ap (λ z. z && has l a) (added-held l hs ls o a) ∙ table (has l a) (has_address a hs))

  -- and an upgrade
  upgrade-laid :
      (r : List Listener) (ls : List Listener) → RisesFrom 3 (map (λ (x : Listener). x.descriptor) r) →
      upgraded l r ≡ Some ls → IsSameLayout (layout_at (posts_of gs l ls) ls) (layout_in gs l)
  upgrade-laid r ls rises e =
      subst (λ k. IsSameLayout (layout_at (posts_of gs l k) k) (layout_in gs l)) o.are
      (held-laid (map listener_of o.holds) o.holds (told 3 o.holds o.rises)
      (λ a. added-held l hs ls o a ∙ ap (λ z. (has l a && not z) || z) (has-at l (map hold_on r) a) ∙ table (has l a) (has_address a (map hold_on r))))
    where
      hs : List Hold
      hs = filter (λ h. has l h.address) (map hold_on r)

      o : HasOpened (added l (map listener_of hs)) hs ls
      o =
          has-opened (added l (map listener_of hs)) hs ls
          (rises-filter 3 (λ h. has l h.address) (map hold_on r) (rises-held r rises))
          (ap (with_added l) (kept (map hold_on r) ∙ ap (still_wanted l) (holds-listed r)) ∙ e)

      table : (w y : Bool) → ((w && not (y && w)) || (y && w)) ≡ w
      table true true = refl
      table true false = refl
      table false true = refl
      table false false = refl

---- After a plan

same-layout : (m : Layout) → IsSameLayout m m
same-layout m = (refl, λ place a lt. refl)

-- A service is laid out so, if there is one.
abbrev IsLaid : Option Record → Layout → Type 0
IsLaid s m = (x : Record) → s ≡ Some x → IsSameLayout (layout_of x) m

some-laid : (x : Record) (m : Layout) → IsSameLayout (layout_of x) m → IsLaid (Some x) m
some-laid x m laid y e = subst (λ (z : Record). IsSameLayout (layout_of z) m) (same_Some x y e) laid

none-laid : (m : Layout) → IsLaid None m
none-laid m x e = absurd (none-some x e)

left-laid :
    (s : Option Record) (report : Report) (pid : ℕ) (left : Record) (m : Layout) → IsLaid s m →
    record_from s report pid ≡ Some left → IsSameLayout (layout_of left) m
left-laid None report pid left m laid e = absurd (none-some left e)
left-laid (Some x) report pid left m laid e = go (keeps_rules (reported x report pid)) e
  where
    go : (b : Bool) → then_some b (reported x report pid) ≡ Some left → IsSameLayout (layout_of left) m
    go true e = subst (λ r. IsSameLayout (layout_of r) m) (same_Some (reported x report pid) left e) (laid x refl)
    go false e = absurd (none-some left e)

renewed-laid :
    (old : Record) (s : Settings) (r : List Listener) (close : List Listener → List Listener) (w : Option (List Listener))
    (g : Option Generation) (m : Layout) →
    ((ls : List Listener) → w ≡ Some ls → IsSameLayout (layout_at (posts_of s.groups s.listeners ls) (close ls)) m) →
    IsLaid (renewed old s (posts_of s.groups s.listeners (unwrap_or w r)) (option_map close w) g) m
renewed-laid old s r close None g m laid = none-laid m
renewed-laid old s r close (Some ls) None m laid = none-laid m
renewed-laid old s r close (Some ls) (Some g) m laid = some-laid _ m (laid ls refl)

upgraded-laid : (r : Record) (s : Settings) → CanBeLaidOut r (Upgrade s) → IsLaid (target_record r (Upgrade s)) (layout_wanted r (Upgrade s))
upgraded-laid r s can = go (upgraded s.listeners r.listeners) refl (next_image r.generation)
  where
    go :
        (w : Option (List Listener)) → upgraded s.listeners r.listeners ≡ w → (g : Option Generation) → IsLaid
        (renewed r s (posts_of s.groups s.listeners (unwrap_or w r.listeners)) w g) (layout_in s.groups s.listeners)
    go None e g = none-laid (layout_in s.groups s.listeners)
    go (Some ls) e None = none-laid (layout_in s.groups s.listeners)
    go (Some ls) e (Some g) = some-laid _ (layout_in s.groups s.listeners) (upgrade-laid s.groups s.listeners can.0 r.listeners ls can.1 e)

target-laid : (r : Record) (t : Target) → CanBeLaidOut r t → IsLaid (target_record r t) (layout_wanted r t)
target-laid r (Workers n) can = some-laid _ (layout_of r) (same-layout (layout_of r))
target-laid r (Mend overdue) can = some-laid _ (layout_of r) (same-layout (layout_of r))
target-laid r Reopen can = some-laid _ (layout_of r) (same-layout (layout_of r))
target-laid r (Reload s) can =
    renewed-laid r s r.listeners (still_wanted s.listeners) (with_added s.listeners r.listeners)
    (next_config r.generation) (layout_in s.groups s.listeners)
    (λ ls e. reload-laid s.groups s.listeners can.0 r.listeners ls can.1 e)
target-laid r (Upgrade s) can = upgraded-laid r s can
target-laid r (Attended s) can = upgraded-laid r s can
target-laid r (Stop quick) can = none-laid (layout_of r)

old-laid : (r : Record) (t : Target) → IsLaid (old_record r t) (layout_of r)
old-laid r (Workers n) = some-laid _ (layout_of r) (same-layout (layout_of r))
old-laid r (Mend overdue) = some-laid _ (layout_of r) (same-layout (layout_of r))
old-laid r Reopen = some-laid _ (layout_of r) (same-layout (layout_of r))
old-laid r (Reload s) = some-laid _ (layout_of r) (same-layout (layout_of r))
old-laid r (Upgrade s) = some-laid _ (layout_of r) (same-layout (layout_of r))
old-laid r (Attended s) = some-laid _ (layout_of r) (same-layout (layout_of r))
old-laid r (Stop quick) = none-laid (layout_of r)

told-laid : (r : Record) (t : Target) → CanBeLaidOut r t → (o : Outcome) → IsLaid (named_record o r t) (layout_told r t o)
told-laid r t can outcome.Done = target-laid r t can
told-laid r t can outcome.RolledBack = old-laid r t
told-laid r t can (outcome.Degraded side.Old shortfalls) = old-laid r t
told-laid r t can (outcome.Degraded side.Target shortfalls) = target-laid r t can
told-laid r t can outcome.Lost = none-laid (layout_of r)

pub records-laid-out : RecordsLaidOut
records-laid-out r target report pid left can e =
    left-laid (named_record report.outcome r target) report pid left (layout_told r target report.outcome)
    (told-laid r target can report.outcome) e
