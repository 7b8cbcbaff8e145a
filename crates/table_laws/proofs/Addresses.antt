-- What is held after addresses are opened and closed.
use Rattle.std.proofs.Common.{◌≡◌, ℕ, Bool, true, false, cond, not, List, [], ◌∷◌, refl, sym, ap, ◌∙◌, subst}
use Rattle.std.specs.Prelude.{◌||◌, filter, ◌&&◌, ◌||◌, ◌==◌, nat_lt, bytes_eq}
use Rattle.std.proofs.lemmas.Slice.Eq.{bytes_eq-Decides}
use Rattle.definitions.specs.Table.{Address, Hold, has_address}
use Rattle.call_laws.specs.Pieces.{is_at, lacks_address, has_socket}
use Rattle.std.specs.List.{list_any}
use Rattle.definitions.specs.Calls.{put_hold}
use Rattle.listener_set.specs.AddressList.{has}
use Rattle.table_laws.proofs.Rows.{both-true, or-right}
use Rattle.call_laws.proofs.Choices.{pick}

pub same-address : (a b : Address) → bytes_eq a b ≡ true → a ≡ b
same-address a b e = (bytes_eq-Decides a b).0 e

pub address-refl : (a : Address) → bytes_eq a a ≡ true
address-refl a = (bytes_eq-Decides a a).1 refl

pub address-sym : (a b : Address) → bytes_eq a b ≡ bytes_eq b a
address-sym a b = go (bytes_eq a b) refl (bytes_eq b a) refl
  where
    go : (x : Bool) → bytes_eq a b ≡ x → (y : Bool) → bytes_eq b a ≡ y → x ≡ y
    go true e true f = refl
    go false e false f = refl
    go true e false f = absurd (let g = (bytes_eq-Decides b a).1 (sym (same-address a b e)) in cc)
    go false e true f = absurd (let g = (bytes_eq-Decides a b).1 (sym (same-address b a f)) in cc)

-- a test on holds that any of them passes, after a hold is put among them
on-address : (a : Address) (h : Hold) → h.address ≡ a → bytes_eq h.address a ≡ true
on-address a h e = subst (λ z. bytes_eq h.address z ≡ true) e (address-refl h.address)

pub any-put : (test : Hold → Bool) (h : Hold) (hs : List Hold) → list_any test (put_hold h hs) ≡ (test h || list_any test hs)
any-put test h [] = go (test h)
  where
    go : (b : Bool) → (b || false) ≡ (b || false)
    go true = refl
    go false = refl
any-put test h (x ∷ hs) =
    pick (λ l. list_any test l ≡ (test h || list_any test (x ∷ hs))) (nat_lt h.fd x.fd) (h ∷ x ∷ hs) (x ∷ put_hold h hs)
    (λ e. if-or (test h) (list_any test (x ∷ hs)))
    (λ e. ap (λ b. test x || b) (any-put test h hs) ∙ swap (test x) (test h) (list_any test hs))
  where
    if-or : (b c : Bool) → (b || c) ≡ (b || c)
    if-or true c = refl
    if-or false c = refl

    swap : (a b c : Bool) → (a || (b || c)) ≡ (b || (a || c))
    swap true true c = refl
    swap true false c = refl
    swap false b c = refl

-- and after those with an address are taken away
pub any-lacks :
    (test : Hold → Bool) (b : Address) (hs : List Hold) →
    list_any test (lacks_address b hs) ≡ list_any (λ h. test h && not (bytes_eq h.address b)) hs
any-lacks test b [] = refl
any-lacks test b (x ∷ hs) = go (bytes_eq x.address b) (test x) (any-lacks test b hs)
  where
    go :
        (s t : Bool) → list_any test (lacks_address b hs) ≡ list_any (λ h. test h && not (bytes_eq h.address b)) hs →
        list_any test (cond (not s) (x ∷ lacks_address b hs) (lacks_address b hs)) ≡
        ((test x && not s) || (list_any (λ h. test h && not (bytes_eq h.address b)) hs))
    go true t ih = ih ∙ ap (λ z. z || (list_any (λ h. test h && not (bytes_eq h.address b)) hs)) (sym (and-false (test x)))
      where
        and-false : (z : Bool) → (z && false) ≡ false
        and-false true = refl
        and-false false = refl
    go false t ih = ap (λ z. test x || z) ih ∙ ap (λ z. z || (list_any (λ h. test h && not (bytes_eq h.address b)) hs)) (sym (and-true (test x)))
      where
        and-true : (z : Bool) → (z && true) ≡ z
        and-true true = refl
        and-true false = refl

any-same : (test other : Hold → Bool) → ((h : Hold) → test h ≡ other h) → (hs : List Hold) → list_any test hs ≡ list_any other hs
any-same test other e [] = refl
any-same test other e (x ∷ hs) = ap (λ z. z || list_any test hs) (e x) ∙ ap (λ z. other x || z) (any-same test other e hs)

-- one address or another
pub has-lacks : (a b : Address) (hs : List Hold) → has_address a (lacks_address b hs) ≡ (has_address a hs && not (bytes_eq b a))
has-lacks a b hs = any-lacks (is_at a) b hs ∙ go (bytes_eq b a) refl
  where
    none-of : (hs : List Hold) → list_any (λ (h : Hold). false) hs ≡ false
    none-of [] = refl
    none-of (x ∷ hs) = none-of hs

    and-not : (x y : Bool) → (x ≡ true → y ≡ true) → (x && not y) ≡ false
    and-not true y h = ap not (h refl)
    and-not false y h = refl

    and-on : (x y : Bool) → (x ≡ true → y ≡ false) → (x && not y) ≡ x
    and-on true y h = ap not (h refl)
    and-on false y h = refl

    and-false : (z : Bool) → (z && false) ≡ false
    and-false true = refl
    and-false false = refl

    and-true : (z : Bool) → (z && true) ≡ z
    and-true true = refl
    and-true false = refl

    go : (s : Bool) → bytes_eq b a ≡ s → list_any (λ h. is_at a h && not (bytes_eq h.address b)) hs ≡ (has_address a hs && not s)
    go true e =
        any-same (λ h. is_at a h && not (bytes_eq h.address b)) (λ h. false)
        (λ h. and-not (bytes_eq h.address a) (bytes_eq h.address b) (λ f. let x = same-address h.address a f in let y = same-address b a e in subst (λ z. bytes_eq h.address z ≡ true) (sym y) f))
        hs ∙ none-of hs ∙ sym (and-false (has_address a hs))
    go false e =
        any-same (λ h. is_at a h && not (bytes_eq h.address b)) (is_at a)
        (λ h. and-on (bytes_eq h.address a) (bytes_eq h.address b) (λ f. let x = same-address h.address a f in subst (λ z. bytes_eq z b ≡ false) (sym x) (address-sym a b ∙ e)))
        hs ∙ sym (and-true (has_address a hs))

pub socket-lacks : (a b : Address) (s : ℕ) (hs : List Hold) → bytes_eq b a ≡ false → has_socket a s hs ≡ true → has_socket a s (lacks_address b hs) ≡ true
socket-lacks a b s hs e on =
    any-lacks (λ h. bytes_eq h.address a && (h.socket == s)) b hs ∙ any-same
    (λ h. (bytes_eq h.address a && (h.socket == s)) && not (bytes_eq h.address b))
    (λ h. bytes_eq h.address a && (h.socket == s))
    (λ h. go (bytes_eq h.address a) (h.socket == s) (bytes_eq h.address b) (λ f. subst (λ z. bytes_eq z b ≡ false) (sym (same-address h.address a f)) (address-sym a b ∙ e)))
    hs ∙ on
  where
    go : (x y z : Bool) → (x ≡ true → z ≡ false) → ((x && y) && not z) ≡ (x && y)
    go true true z h = ap not (h refl)
    go true false z h = refl
    go false y z h = refl

-- nothing is taken away where the address is not there
pub lacks-none : (a : Address) (hs : List Hold) → has_address a hs ≡ false → lacks_address a hs ≡ hs
lacks-none a [] e = refl
lacks-none a (x ∷ hs) e = go (bytes_eq x.address a) e (lacks-none a hs)
  where
    go :
        (b : Bool) → (b || has_address a hs) ≡ false → (has_address a hs ≡ false → lacks_address a hs ≡ hs) →
        cond (not b) (x ∷ lacks_address a hs) (lacks_address a hs) ≡ x ∷ hs
    go true e ih = absurd (cc)
    go false e ih = ap (λ l. x ∷ l) (ih e)

-- what was put among them is taken away again
pub lacks-put : (a : Address) (h : Hold) (hs : List Hold) → h.address ≡ a → has_address a hs ≡ false → lacks_address a (put_hold h hs) ≡ hs
lacks-put a h [] e off = gone (bytes_eq h.address a) (on-address a h e) []
  where
    gone : (b : Bool) → b ≡ true → (l : List Hold) → cond (not b) (h ∷ l) l ≡ l
    gone true f l = refl
    gone false f l = cc
lacks-put a h (x ∷ hs) e off =
    pick (λ l. lacks_address a l ≡ x ∷ hs) (nat_lt h.fd x.fd) (h ∷ x ∷ hs) (x ∷ put_hold h hs)
    (λ c. gone (bytes_eq h.address a) (on-address a h e) (lacks_address a (x ∷ hs)) ∙ lacks-none a (x ∷ hs) off)
    (λ c. go (bytes_eq x.address a) off (lacks-put a h hs e))
  where
    gone : (b : Bool) → b ≡ true → (l : List Hold) → cond (not b) (h ∷ l) l ≡ l
    gone true f l = refl
    gone false f l = cc

    go :
        (b : Bool) → (b || has_address a hs) ≡ false →
        (has_address a hs ≡ false → lacks_address a (put_hold h hs) ≡ hs) →
        cond (not b) (x ∷ lacks_address a (put_hold h hs)) (lacks_address a (put_hold h hs)) ≡ x ∷ hs
    go true e ih = absurd (cc)
    go false e ih = ap (λ l. x ∷ l) (ih e)

-- standing in a list of addresses
pub stands-filter : (t : Address → Bool) (l : List Address) (a : Address) → has (filter t l) a ≡ (has l a && t a)
stands-filter t [] a = refl
stands-filter t (x ∷ l) a = go (bytes_eq x a) refl (t x) refl (stands-filter t l a)
  where
    go :
        (b : Bool) → bytes_eq x a ≡ b → (c : Bool) → t x ≡ c → has (filter t l) a ≡ (has l a && t a) →
        has (cond c (x ∷ filter t l) (filter t l)) a ≡ ((b || has l a) && t a)
    go true e true f ih = rw e (sym (ap t (sym (same-address x a e)) ∙ f))
    go true e false f ih = let off : t a ≡ false = ap t (sym (same-address x a e)) ∙ f in ih ∙ ap (λ z. has l a && z) off ∙ and-false (has l a) ∙ sym off
      where
        and-false : (z : Bool) → (z && false) ≡ false
        and-false true = refl
        and-false false = refl
    go false e true f ih = rw e ih
    go false e false f ih = ih

-- An address that is held, on each socket that it had first.
abbrev pub StaysHeld : Address → List Hold → List Hold → Type 0
StaysHeld a first hs = (has_address a hs ≡ true) × ((k : ℕ) → has_socket a k first ≡ true → has_socket a k hs ≡ true)

-- It stays so where one is closed that is not wanted, or another is opened.
pub stays-lacks :
    (wanted : List Address) (a b : Address) (first hs : List Hold) → has wanted b ≡ false → has wanted a ≡ true →
    StaysHeld a first hs → StaysHeld a first (lacks_address b hs)
stays-lacks wanted a b first hs off on held =
    let ne : bytes_eq b a ≡ false = apart (bytes_eq b a) refl in
    (has-lacks a b hs ∙ both-true (has_address a hs) (not (bytes_eq b a)) held.0 (ap not ne), λ k e. socket-lacks a b k hs ne (held.1 k e))
  where
    apart : (x : Bool) → bytes_eq b a ≡ x → bytes_eq b a ≡ false
    apart true e = absurd (let same : has wanted b ≡ true = subst (λ z. has wanted z ≡ true) (sym (same-address b a e)) on in cc)
    apart false e = e

pub stays-put : (h : Hold) (a : Address) (first hs : List Hold) → StaysHeld a first hs → StaysHeld a first (put_hold h hs)
stays-put h a first hs held =
    (any-put (is_at a) h hs ∙ or-right (is_at a h) (has_address a hs) held.0, λ k e. any-put (λ x. bytes_eq x.address a && (x.socket == k)) h hs ∙ or-right (bytes_eq h.address a && (h.socket == k)) (has_socket a k hs) (held.1 k e))
