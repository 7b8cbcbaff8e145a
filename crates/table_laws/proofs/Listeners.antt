-- The listeners of a master that opens and closes addresses, as its record lists them.
use Rattle.std.proofs.Common.{◌≡◌, ◌≢◌, ℕ, zero, suc, ◌+◌, ◌<◌, ◌≤◌, Bool, true, false, cond, not, List, [], ◌∷◌}
use Rattle.std.proofs.Common.{length, Option, None, refl, sym, ap, ◌∙◌, subst, arith}
use Rattle.std.specs.Prelude.{filter, map, ◌&&◌, ◌||◌, ◌==◌, nat_lt, if◌then◌else◌, bytes_eq}
use Rattle.std.specs.List.{list_any, AllByRecursion}
use Rattle.std.proofs.lemmas.List.{length-map}
use Rattle.std.proofs.lemmas.Bool.Decides.{nat_tests}
use Rattle.listener_set.specs.AddressList.{has}
use Rattle.listener_set.specs.Numbers.{RisesFrom}
use Rattle.vocabulary.specs.declared.table.Listener.{Listener}
use Rattle.definitions.specs.Table.{Address, Hold, has_address}
use Rattle.definitions.specs.Calls.{free_from, lowest_free, put_hold}
use Rattle.call_laws.specs.Pieces.{lacks_address, listener_of}
use Rattle.definitions.specs.Plans.{only_in}
use Rattle.definitions.specs.After.{listens_on, listener_at, opened_from, all_opened, added, still_wanted}
use Rattle.table_laws.proofs.Rows.{or-right, every-more}
use Rattle.call_laws.proofs.Choices.{pick}
use Rattle.table_laws.proofs.Counts.{filter-all}
use Rattle.table_laws.proofs.Addresses.{has-lacks, same-address, address-sym, address-refl, stands-filter}
use Rattle.table_laws.proofs.Views.{eqb-is, eqb-off}

abbrev pub fds : List Hold → List ℕ
fds hs = map (λ h. h.fd) hs

---- The lowest free descriptor

-- a hold below is never met
skip : (n b : ℕ) (x : Hold) (hs : List Hold) → x.fd < b → free_from n b (x ∷ hs) ≡ free_from n b hs
skip zero b x hs lt = refl
skip (suc n) b x hs lt =
    let off : (x.fd == b) ≡ false = eqb-off x.fd b (λ e. absurd (omega arith)) in
    let more = skip n (b + 1) x hs (omega arith) in
    rw off (ap (λ f. if list_any (λ h. h.fd == b) hs then f else b) more)

at-least : (n b : ℕ) (hs : List Hold) → b ≤ free_from n b hs
at-least zero b hs = omega arith
at-least (suc n) b hs =
    pick (λ f. b ≤ f) (list_any (λ h. h.fd == b) hs) (free_from n (b + 1) hs) b
    (λ e. omega (arith, at-least n (b + 1) hs)) (λ e. omega arith)

none-at : (b c : ℕ) (hs : List Hold) → b < c → RisesFrom c (fds hs) → list_any (λ h. h.fd == b) hs ≡ false
none-at b c [] lt rises = refl
none-at b c (x ∷ hs) lt rises =
    let off : (x.fd == b) ≡ false = eqb-off x.fd b (λ e. absurd (omega (arith, rises.0))) in
    rw off (none-at b (x.fd + 1) hs (omega (arith, rises.0)) rises.1)

-- A hold that is put at the lowest free descriptor is a listener that opens there.
abbrev pub Put : ℕ → Hold → List Hold → Type 0
Put b h hs = (map listener_of (put_hold h hs) ≡ opened_from b h.address (map listener_of hs)) × RisesFrom b (fds (put_hold h hs))

pub put-from : (b : ℕ) (h : Hold) (hs : List Hold) → RisesFrom b (fds hs) → h.fd ≡ free_from (length hs) b hs → Put b h hs
put-from b h [] rises is = (ap (λ fd. listener_at fd h.address ∷ []) is, (omega (arith, is), tt))
put-from b h (x ∷ hs) rises is = go (x.fd == b) refl (λ r e. put-from (b + 1) h hs r e)
  where
    found : (c : Bool) → (x.fd == b) ≡ c → h.fd ≡ (if c || list_any (λ y. y.fd == b) hs then free_from (length hs) (b + 1) (x ∷ hs) else b)
    found c e = is ∙ ap (λ z. if z || list_any (λ y. y.fd == b) hs then free_from (length hs) (b + 1) (x ∷ hs) else b) e

    go : (c : Bool) → (x.fd == b) ≡ c → (RisesFrom (b + 1) (fds hs) → h.fd ≡ free_from (length hs) (b + 1) hs → Put (b + 1) h hs) → Put b h (x ∷ hs)
    go true e ih =
        let same : x.fd ≡ b = eqb-is x.fd b e in
        let at : h.fd ≡ free_from (length hs) (b + 1) hs = found true e ∙ skip (length hs) (b + 1) x hs (omega (arith, same)) in
        let above = at-least (length hs) (b + 1) hs in
        let off : nat_lt h.fd x.fd ≡ false = grind (arith, nat_tests) in
        let rest = ih (subst (λ k. RisesFrom (k + 1) (fds hs)) same rises.1) at in
        rw (off, e) (ap (λ ls. listener_of x ∷ ls) rest.0, (rises.0, subst (λ k. RisesFrom (k + 1) (fds (put_hold h hs))) (sym same) rest.1))
    go false e ih =
        let ne : x.fd ≢ b = grind (arith, nat_tests) in
        let above : b < x.fd = omega (arith, rises.0, ne) in
        let at : h.fd ≡ b =
        found false e ∙ ap (λ z. if z then free_from (length hs) (b + 1) (x ∷ hs) else b)
        (none-at b (x.fd + 1) hs (omega (arith, above)) rises.1) in
        let on : nat_lt h.fd x.fd ≡ true = grind (arith, nat_tests) in
        rw (on, e) (ap (λ fd. listener_at fd h.address ∷ listener_of x ∷ map listener_of hs) at, (omega (arith, at), (omega (arith, at, above), rises.1)))

-- One address more is open, and the rest of a list can still be.
pub opens-on :
    (limit : ℕ) (h : Hold) (hs : List Hold) (more : List Address) (goal : Option (List Listener)) → limit ≤ 64 →
    RisesFrom 3 (fds hs) → h.fd ≡ lowest_free hs → nat_lt (length hs) limit ≡ true →
    all_opened (h.address ∷ more) (map listener_of hs) ≡ goal →
    (all_opened more (map listener_of (put_hold h hs)) ≡ goal) × RisesFrom 3 (fds (put_hold h hs))
opens-on limit h hs more goal most rises is room e =
    let put = put-from 3 h hs rises is in
    let few : nat_lt (length (map listener_of hs)) 64 ≡ true = lt-by (length (map listener_of hs)) (length hs) limit (length-map hs listener_of) most room in
    (ap (λ ls. all_opened more ls) put.0 ∙ sym (ap (λ b. if b then all_opened more (opened_from 3 h.address (map listener_of hs)) else None) few) ∙ e, put.1)
  where
    lt-by : (m n limit : ℕ) → m ≡ n → limit ≤ 64 → nat_lt n limit ≡ true → nat_lt m 64 ≡ true
    lt-by m n limit same most lt = grind (arith, nat_tests)

---- What is kept

-- addresses that are closed one after another
abbrev pub all_closed : List Address → List Hold → List Hold
all_closed [] hs = hs
all_closed (a ∷ more) hs = all_closed more (lacks_address a hs)

filter-filter : (f g : Hold → Bool) (hs : List Hold) → filter f (filter g hs) ≡ filter (λ h. g h && f h) hs
filter-filter f g [] = refl
filter-filter f g (x ∷ hs) = go (g x) refl (f x) refl (filter-filter f g hs)
  where
    go :
        (b : Bool) → g x ≡ b → (c : Bool) → f x ≡ c → filter f (filter g hs) ≡ filter (λ h. g h && f h) hs → filter f
        (cond b (x ∷ filter g hs) (filter g hs)) ≡ cond (b && f x) (x ∷ filter (λ h. g h && f h) hs)
        (filter (λ h. g h && f h) hs)
    go true e true d ih = rw d (ap (λ l. x ∷ l) ih)
    go true e false d ih = rw d ih
    go false e c d ih = ih

filter-same : (f g : Hold → Bool) → ((h : Hold) → f h ≡ g h) → (hs : List Hold) → filter f hs ≡ filter g hs
filter-same f g e [] = refl
filter-same f g e (x ∷ hs) = ap (λ b. cond b (x ∷ filter f hs) (filter f hs)) (e x) ∙ ap (λ l. cond (g x) (x ∷ l) l) (filter-same f g e hs)

pub all-closed-is : (dropped : List Address) (hs : List Hold) → all_closed dropped hs ≡ filter (λ h. not (has dropped h.address)) hs
all-closed-is [] hs = sym (filter-all hs)
all-closed-is (a ∷ more) hs =
    all-closed-is more (lacks_address a hs) ∙ filter-filter (λ h. not (has more h.address)) (λ h. not (bytes_eq h.address a)) hs
    ∙ filter-same (λ h. not (bytes_eq h.address a) && not (has more h.address)) (λ h. not (has (a ∷ more) h.address))
    (λ h. ap (λ b. not b && not (has more h.address)) (address-sym h.address a) ∙ both (bytes_eq a h.address) (has more h.address))
    hs
  where
    both : (x y : Bool) → (not x && not y) ≡ not (x || y)
    both true y = refl
    both false y = refl

pub kept-is :
    (f : Hold → Bool) (wanted : List Address) (hs : List Hold) → AllByRecursion (λ h. f h ≡ has wanted h.address) hs →
    map listener_of (filter f hs) ≡ still_wanted wanted (map listener_of hs)
kept-is f wanted [] all = refl
kept-is f wanted (x ∷ hs) all = go (f x) (has wanted x.address) all.0 (kept-is f wanted hs all.1)
  where
    go :
        (b c : Bool) → b ≡ c → map listener_of (filter f hs) ≡ still_wanted wanted (map listener_of hs) → map
        listener_of (cond b (x ∷ filter f hs) (filter f hs)) ≡ cond c
        (listener_of x ∷ still_wanted wanted (map listener_of hs)) (still_wanted wanted (map listener_of hs))
    go true true e ih = ap (λ l. listener_of x ∷ l) ih
    go true false e ih = absurd (cc)
    go false true e ih = absurd (cc)
    go false false e ih = ih

every-hold : (P : Address → Type 0) (hs : List Hold) → ((a : Address) → has_address a hs ≡ true → P a) → AllByRecursion (λ h. P h.address) hs
every-hold P [] h = tt
every-hold P (x ∷ hs) h =
    (h x.address (on (bytes_eq x.address x.address) (has_address x.address hs) (address-refl x.address)), every-hold P hs (λ a e. h a (or-on (bytes_eq x.address a) (has_address a hs) e)))
  where
    on : (b c : Bool) → b ≡ true → (b || c) ≡ true
    on true c e = refl
    on false c e = absurd (cc)

    or-on : (b c : Bool) → c ≡ true → (b || c) ≡ true
    or-on true c e = refl
    or-on false c e = e

-- When all that is dropped is closed, what is wanted is kept.
pub closed-kept :
    (old wanted : List Address) (hs : List Hold) →
    ((a : Address) → has_address a hs ≡ (has (only_in wanted old) a || has old a)) →
    map listener_of (all_closed (only_in old wanted) hs) ≡ still_wanted wanted (map listener_of hs)
closed-kept old wanted hs has_it =
    ap (map listener_of) (all-closed-is (only_in old wanted) hs)
    ∙ kept-is (λ h. not (has (only_in old wanted) h.address)) wanted hs (every-hold (λ a. not (has (only_in old wanted) a) ≡ has wanted a) hs (λ a e.
    ap not (stands-filter (λ b. not (has wanted b)) old a) ∙ table (has wanted a) (has old a)
    (ap (λ z. z || has old a) (sym (stands-filter (λ b. not (has old b)) wanted a)) ∙ sym (has_it a) ∙ e)))
  where
    table : (w o : Bool) → ((w && not o) || o) ≡ true → not (o && not w) ≡ w
    table true true e = refl
    table true false e = refl
    table false true e = refl
    table false false e = absurd (cc)

-- The plan opens what the record's listeners lack.
pub added-is : (addresses : List Address) (ls : List Listener) → added addresses ls ≡ only_in addresses (map (λ (l : Listener). l.address) ls)
added-is [] ls = refl
added-is (a ∷ rest) ls = go (listens_on ls a) (has (map (λ (l : Listener). l.address) ls) a) (listens ls) (added-is rest ls)
  where
    listens : (ls : List Listener) → listens_on ls a ≡ has (map (λ (l : Listener). l.address) ls) a
    listens [] = refl
    listens (l ∷ ls) = ap (λ b. bytes_eq l.address a || b) (listens ls)

    go :
        (b c : Bool) → b ≡ c → added rest ls ≡ only_in rest (map (λ (l : Listener). l.address) ls) → cond (not b)
        (a ∷ added rest ls) (added rest ls) ≡ cond (not c) (a ∷ only_in rest (map (λ (l : Listener). l.address) ls))
        (only_in rest (map (λ (l : Listener). l.address) ls))
    go true true e ih = ih
    go true false e ih = absurd (cc)
    go false true e ih = absurd (cc)
    go false false e ih = ap (λ l. a ∷ l) ih

pub fds-listed : (hs : List Hold) → fds hs ≡ map (λ (l : Listener). l.descriptor) (map listener_of hs)
fds-listed [] = refl
fds-listed (h ∷ hs) = ap (λ l. h.fd ∷ l) (fds-listed hs)

-- Who is asked to listen holds something.
pub some-held :
    (hs : List Hold) (wanted : List Address) → ((a : Address) → has_address a hs ≡ has wanted a) → 1 ≤ length wanted →
    1 ≤ length (map listener_of hs)
some-held hs [] keys le = absurd (omega arith)
some-held (h ∷ hs) (a ∷ wanted) keys le = omega arith
some-held [] (a ∷ wanted) keys le = absurd (no (bytes_eq a a) (has wanted a) (address-refl a) (keys a))
  where
    no : (b c : Bool) → b ≡ true → false ≡ (b || c) → ⊥
    no true c e f = cc
    no false c e f = cc

-- When what is dropped is closed first, what is wanted of the rest is kept.
pub closed-first :
    (old wanted : List Address) (hs : List Hold) → ((a : Address) → has_address a hs ≡ has old a) →
    map listener_of (all_closed (only_in old wanted) hs) ≡ still_wanted wanted (map listener_of hs)
closed-first old wanted hs has_it =
    ap (map listener_of) (all-closed-is (only_in old wanted) hs)
    ∙ kept-is (λ h. not (has (only_in old wanted) h.address)) wanted hs (every-hold (λ a. not (has (only_in old wanted) a) ≡ has wanted a) hs (λ a e.
    ap not (stands-filter (λ b. not (has wanted b)) old a) ∙ table (has wanted a) (has old a) (sym (has_it a) ∙ e)))
  where
    table : (w o : Bool) → o ≡ true → not (o && not w) ≡ w
    table true true e = refl
    table false true e = refl
    table w false e = absurd (cc)

-- What is held when some are closed.
pub has-closed : (a : Address) (l : List Address) (hs : List Hold) → has_address a (all_closed l hs) ≡ (has_address a hs && not (has l a))
has-closed a [] hs = sym (and-true (has_address a hs))
  where
    and-true : (z : Bool) → (z && true) ≡ z
    and-true true = refl
    and-true false = refl
has-closed a (x ∷ l) hs =
    has-closed a l (lacks_address x hs) ∙ ap (λ z. z && not (has l a)) (has-lacks a x hs) ∙ move (has_address a hs)
    (bytes_eq x a) (has l a)
  where
    move : (h e r : Bool) → ((h && not e) && not r) ≡ (h && not (e || r))
    move true true r = refl
    move true false r = refl
    move false e r = refl

-- Descriptors that are left still rise.
rises-later : (b b' : ℕ) (ks : List ℕ) → b ≤ b' → RisesFrom b' ks → RisesFrom b ks
rises-later b b' [] le rises = tt
rises-later b b' (k ∷ ks) le rises = (omega (arith, rises.0), rises.1)

pub rises-filter : (b : ℕ) (test : Hold → Bool) (hs : List Hold) → RisesFrom b (fds hs) → RisesFrom b (fds (filter test hs))
rises-filter b test [] rises = tt
rises-filter b test (x ∷ hs) rises = go (test x) (rises-filter (x.fd + 1) test hs rises.1)
  where
    go : (t : Bool) → RisesFrom (x.fd + 1) (fds (filter test hs)) → RisesFrom b (fds (cond t (x ∷ filter test hs) (filter test hs)))
    go true ih = (rises.0, ih)
    go false ih = rises-later b (x.fd + 1) (fds (filter test hs)) (omega (arith, rises.0)) ih

pub rises-closed : (l : List Address) (hs : List Hold) → RisesFrom 3 (fds hs) → RisesFrom 3 (fds (all_closed l hs))
rises-closed l hs rises = subst (λ k. RisesFrom 3 (fds k)) (sym (all-closed-is l hs)) (rises-filter 3 (λ h. not (has l h.address)) hs rises)

-- What an upgrade opens is what its kept listeners lack.
listens-kept :
    (wanted : List Address) (a : Address) (ls : List Listener) → has wanted a ≡ true →
    listens_on (still_wanted wanted ls) a ≡ has (map (λ (l : Listener). l.address) ls) a
listens-kept wanted a [] on = refl
listens-kept wanted a (l ∷ ls) on = go (has wanted l.address) refl (bytes_eq l.address a) refl (listens-kept wanted a ls on)
  where
    go :
        (b : Bool) → has wanted l.address ≡ b → (e : Bool) → bytes_eq l.address a ≡ e → listens_on
        (still_wanted wanted ls) a ≡ has (map (λ (l : Listener). l.address) ls) a → listens_on
        (cond b (l ∷ still_wanted wanted ls) (still_wanted wanted ls)) a ≡
        (e || has (map (λ (l : Listener). l.address) ls) a)
    go true is e same ih = rw same (ap (λ z. e || z) ih)
    go false is true same ih = absurd (let off : has wanted a ≡ false = subst (λ z. has wanted z ≡ false) (same-address l.address a same) is in cc)
    go false is false same ih = ih

filter-here : (t t' : Address → Bool) (l : List Address) → AllByRecursion (λ a. t a ≡ t' a) l → filter t l ≡ filter t' l
filter-here t t' [] all = refl
filter-here t t' (x ∷ l) all = ap (λ b. cond b (x ∷ filter t l) (filter t l)) all.0 ∙ ap (λ k. cond (t' x) (x ∷ k) k) (filter-here t t' l all.1)

all-stand : (l : List Address) → AllByRecursion (λ a. has l a ≡ true) l
all-stand [] = tt
all-stand (x ∷ l) =
    (rw (address-refl x) refl, every-more (λ a. has l a ≡ true) (λ a. has (x ∷ l) a ≡ true) (λ a e. or-right (bytes_eq x a) (has l a) e) l (all-stand l))

pub upgrade-added : (wanted : List Address) (ls : List Listener) → only_in wanted (map (λ (l : Listener). l.address) ls) ≡ added wanted (still_wanted wanted ls)
upgrade-added wanted ls =
    filter-here (λ a. not (has (map (λ (l : Listener). l.address) ls) a)) (λ a. not (listens_on (still_wanted wanted ls) a)) wanted
    (every-more (λ a. has wanted a ≡ true) (λ a. not (has (map (λ (l : Listener). l.address) ls) a) ≡ not (listens_on (still_wanted wanted ls) a)) (λ a e. sym (ap not (listens-kept wanted a ls e))) wanted (all-stand wanted))
