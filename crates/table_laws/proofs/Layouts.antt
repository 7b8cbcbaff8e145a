-- Where the workers of new settings listen, by what their master holds.
use Rattle.std.proofs.Common.{◌≡◌, ℕ, zero, suc, ◌+◌, ◌<◌, ◌≤◌, Bool, true, false, cond, List, [], ◌∷◌, length, Some}
use Rattle.std.proofs.Common.{None, get_or, take, drop, refl, sym, ap, ◌∙◌, arith}
use Rattle.std.specs.Prelude.{filter, map, ◌&&◌, ◌||◌, ◌==◌, bytes_eq, if◌then◌else◌}
use Rattle.std.specs.List.{AllByRecursion}
use Rattle.std.proofs.Math.Seq.{take-length}
use Rattle.std.proofs.lemmas.Bool.Decides.{nat_tests}
use Rattle.listener_set.specs.AddressList.{has}
use Rattle.worker_groups.specs.Groups.{addresses_in}
use Rattle.listener_set.specs.Numbers.{RisesFrom, is_in}
use Rattle.vocabulary.specs.declared.table.Listener.{Listener}
use Rattle.definitions.specs.Table.{Address, Hold, has_address}
use Rattle.definitions.specs.Calls.{shared}
use Rattle.call_laws.specs.Pieces.{lacks_address, share, listener_of}
use Rattle.definitions.specs.After.{descriptors_at, descriptors_by, posts_of}
use Rattle.definitions.specs.Master.{Posts, Group, group_of, fds_in, layout_in, addresses_of_group}
use Rattle.table_laws.proofs.Rows.{every-both, every-more}
use Rattle.table_laws.proofs.Views.{eqb-refl, eqb-off}
use Rattle.table_laws.proofs.Shares.{share-lacks}
use Rattle.table_laws.proofs.Addresses.{same-address, lacks-none}
use Rattle.table_laws.proofs.Listeners.{fds}

---- The addresses of a group

none-at : (ls : List Listener) → descriptors_at ls [] ≡ []
none-at [] = refl
none-at (x ∷ ls) = none-at ls

-- the descriptors of a group are those at its addresses
descriptors-are :
    (gs : List Group) (l : List Address) (ls : List Listener) (place : ℕ) →
    get_or (descriptors_by gs l ls) place [] ≡ descriptors_at ls (addresses_of_group gs l place)
descriptors-are [] l ls zero = sym (none-at ls)
descriptors-are [] l ls (suc place) = sym (none-at ls)
descriptors-are (g ∷ gs) l ls zero = refl
descriptors-are (g ∷ gs) l ls (suc place) = descriptors-are gs (drop g.addresses l) ls place

-- one group alone is the first, and has all addresses
sole-group : (gs : List Group) (k : ℕ) → (length gs == 1) ≡ true → group_of gs k ≡ 0
sole-group [] k one = refl
sole-group (g ∷ []) k one = refl
sole-group (g ∷ h ∷ gs) k one = absurd (let n : length gs + 2 ≡ 1 = grind (arith, nat_tests) in omega (arith, n))

pub sole-whole :
    (gs : List Group) (l : List Address) (place : ℕ) → (length gs == 1) ≡ true → place ≡ 0 →
    addresses_in gs ≡ length l → addresses_of_group gs l place ≡ l
sole-whole gs l place one first sum = ap (addresses_of_group gs l) first ∙ whole gs one sum
  where
    whole : (gs : List Group) → (length gs == 1) ≡ true → addresses_in gs ≡ length l → addresses_of_group gs l 0 ≡ l
    whole [] one sum = absurd (cc one)
    whole (g ∷ []) one sum = ap (λ n. take n l) (omega (arith, sum)) ∙ take-length l
    whole (g ∷ h ∷ gs) one sum = absurd (let n : length gs + 2 ≡ 1 = grind (arith, nat_tests) in omega (arith, n))

---- Descriptors and addresses

-- What is held at the descriptors of some addresses is what is held at these.
abbrev pub Told : List Listener → List Hold → Type 0
Told ls hs = AllByRecursion (λ h. (l : List Address) → is_in (descriptors_at ls l) h.fd ≡ has l h.address) hs

below-out : (b fd : ℕ) (hs : List Hold) (l : List Address) → fd < b → RisesFrom b (fds hs) → is_in (descriptors_at (map listener_of hs) l) fd ≡ false
below-out b fd [] l lt rises = refl
below-out b fd (x ∷ hs) l lt rises =
    go (has l x.address) (below-out (x.fd + 1) fd hs l (omega (arith, rises.0)) rises.1)
    (eqb-off x.fd fd (λ e. absurd (omega (arith, e, rises.0))))
  where
    ls : List ℕ
    ls = descriptors_at (map listener_of hs) l

    go : (c : Bool) → is_in (descriptors_at (map listener_of hs) l) fd ≡ false → (x.fd == fd) ≡ false
        → is_in
        (map (λ (l : Listener). l.descriptor)
        (cond c (listener_of x ∷ filter (λ (y : Listener). has l y.address) (map listener_of hs))
        (filter (λ (y : Listener). has l y.address) (map listener_of hs))))
        fd ≡ false
    go true ih off = rw off ih
    go false ih off = ih

at-least : (b : ℕ) (hs : List Hold) → RisesFrom b (fds hs) → AllByRecursion (λ h. b ≤ h.fd) hs
at-least b [] rises = tt
at-least b (x ∷ hs) rises =
    (rises.0, every-more (λ h. x.fd + 1 ≤ h.fd) (λ h. b ≤ h.fd) (λ h le. omega (arith, le, rises.0)) hs (at-least (x.fd + 1) hs rises.1))

pub told : (b : ℕ) (hs : List Hold) → RisesFrom b (fds hs) → Told (map listener_of hs) hs
told b [] rises = tt
told b (x ∷ hs) rises = (
  λ l. here l (has l x.address) refl (below-out (x.fd + 1) x.fd hs l (omega arith) rises.1),
  every-more
      (λ h. (x.fd + 1 ≤ h.fd) × ((l : List Address) → is_in (descriptors_at (map listener_of hs) l) h.fd ≡ has l h.address))
      (λ h. (l : List Address) → is_in (descriptors_at (map listener_of (x ∷ hs)) l) h.fd ≡ has l h.address)
      (λ h both l. there h l (has l x.address) (eqb-off x.fd h.fd (λ e. absurd (omega (arith, e, both.0)))) (both.1 l))
      hs (every-both _ _ hs (at-least (x.fd + 1) hs rises.1) (told (x.fd + 1) hs rises.1)),
)
  where
    rest : List Address → List Listener
    rest l = filter (λ (y : Listener). has l y.address) (map listener_of hs)

    here :
        (l : List Address) (c : Bool) → has l x.address ≡ c → is_in (descriptors_at (map listener_of hs) l) x.fd ≡ false
        → is_in
        (map (λ (y : Listener). y.descriptor) (cond (has l x.address) (listener_of x ∷ filter (λ (y : Listener). has l y.address) (map listener_of hs)) (filter (λ (y : Listener). has l y.address) (map listener_of hs))))
        x.fd ≡ has l x.address
    here l true e off = rw (e, eqb-refl x.fd x.fd refl) refl
    here l false e off = rw e off

    there :
        (h : Hold) (l : List Address) (c : Bool) → (x.fd == h.fd) ≡ false → is_in
        (descriptors_at (map listener_of hs) l) h.fd ≡ has l h.address → is_in
        (map (λ (y : Listener). y.descriptor) (cond c (listener_of x ∷ filter (λ (y : Listener). has l y.address) (map listener_of hs)) (filter (λ (y : Listener). has l y.address) (map listener_of hs))))
        h.fd ≡ has l h.address
    there h l true off ih = rw off ih
    there h l false off ih = ih

filter-at :
    (ls : List Listener) (l : List Address) (hs : List Hold) → Told ls hs →
    filter (λ h. is_in (descriptors_at ls l) h.fd) hs ≡ filter (λ h. has l h.address) hs
filter-at ls l [] all = refl
filter-at ls l (x ∷ hs) all =
    ap (λ b. cond b (x ∷ filter (λ h. is_in (descriptors_at ls l) h.fd) hs) (filter (λ h. is_in (descriptors_at ls l) h.fd) hs)) (all.0 l)
    ∙ ap (λ k. cond (has l x.address) (x ∷ k) k) (filter-at ls l hs all.1)

pub has-at : (l : List Address) (hs : List Hold) (a : Address) → has_address a (filter (λ h. has l h.address) hs) ≡ (has_address a hs && has l a)
has-at l [] a = refl
has-at l (x ∷ hs) a = go (bytes_eq x.address a) refl (has l x.address) refl (has-at l hs a)
  where
    rest : List Hold
    rest = filter (λ h. has l h.address) hs

    go :
        (b : Bool) → bytes_eq x.address a ≡ b → (c : Bool) → has l x.address ≡ c → has_address a
        (filter (λ h. has l h.address) hs) ≡ (has_address a hs && has l a) → has_address a
        (cond c (x ∷ filter (λ h. has l h.address) hs) (filter (λ h. has l h.address) hs)) ≡
        ((b || has_address a hs) && has l a)
    go true e true f ih = rw e (sym (ap (has l) (sym (same-address x.address a e)) ∙ f))
    go true e false f ih =
        let off : has l a ≡ false = ap (has l) (sym (same-address x.address a e)) ∙ f in ih ∙ ap
        (λ z. has_address a hs && z) off ∙ and-false (has_address a hs) ∙ sym off
      where
        and-false : (z : Bool) → (z && false) ≡ false
        and-false true = refl
        and-false false = refl
    go false e true f ih = rw e ih
    go false e false f ih = ih

---- Shares

-- What nobody holds is no part of a share.
pub share-lacks-none : (posts : Posts) (k : ℕ) (a : Address) (hs : List Hold) → has_address a hs ≡ false → lacks_address a (share posts k hs) ≡ share posts k hs
share-lacks-none posts k a hs off = share-lacks posts k a hs ∙ ap (share posts k) (lacks-none a hs off)

-- The workers of new settings, by the listeners that their descriptors were told from.
module _ (gs : List Group) (l : List Address) (sum : addresses_in gs ≡ length l) (ls : List Listener) (hs : List Hold) (at : Told ls hs) where
  -- of what is held the workers of a group hold the addresses where it listens
  pub group-listens :
      (place : ℕ) (a : Address) → ((length gs == 1) ≡ true → place ≡ 0) → (has_address a hs ≡ true → has l a ≡ true) →
      has_address a (shared (fds_in (posts_of gs l ls) place) hs) ≡
      (has_address a hs && (layout_in gs l).listens place a)
  group-listens place a first wanted = go (length gs == 1) refl
    where
      and-true : (z w : Bool) → (z ≡ true → w ≡ true) → z ≡ (z && w)
      and-true true w e = sym (e refl)
      and-true false w e = refl

      go :
          (b : Bool) → (length gs == 1) ≡ b → has_address a
          (shared (if b then None else Some (get_or (descriptors_by gs l ls) place [])) hs) ≡
          (has_address a hs && has (addresses_of_group gs l place) a)
      go true one = and-true (has_address a hs) _ (λ held. ap (λ part. has part a) (sole-whole gs l place one (first one) sum) ∙ wanted held)
      go false many =
          ap (λ fds. has_address a (filter (λ h. is_in fds h.fd) hs)) (descriptors-are gs l ls place)
          ∙ ap (has_address a) (filter-at ls (addresses_of_group gs l place) hs at) ∙ has-at (addresses_of_group gs l place) hs a

  -- at an address of the service a worker holds what its master does, if its group listens there
  pub share-listens :
      (k : ℕ) (a : Address) → has l a ≡ true →
      has_address a (share (posts_of gs l ls) k hs) ≡ (has_address a hs && (layout_in gs l).listens (group_of gs k) a)
  share-listens k a on = group-listens (group_of gs k) a (sole-group gs k) (λ held. on)
