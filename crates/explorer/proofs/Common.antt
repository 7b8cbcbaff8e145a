-- The addresses of both services.
use Rattle.std.proofs.Common.{◌≡◌, ◌≤◌, ℕ, Bool, true, false, cond, ◌||◌, List, [], ◌∷◌, ◌++◌, map, Option, Some, None, is_some, refl, sym, ap, subst, ◌∙◌}
use Rattle.std.specs.Prelude.{◌&&◌, bytes_eq, Contains}
use Rattle.std.specs.List.{list_any, AllByRecursion}
use Rattle.std.specs.Option.{option_map}
use Rattle.std.specs.Ordering.{is_eq}
use Rattle.std.specs.FinMap.{find}
use Rattle.std.proofs.lemmas.Bool.{false≢true}
use Rattle.std.proofs.lemmas.List.Folds.{list_any-append}
use Rattle.std.proofs.lemmas.List.Elements.{All-contains, All-from_recursion}
use Rattle.std.proofs.lemmas.Map.Text.{is_eq-slice_cmp}
use Rattle.listener_set.specs.AddressList.{has}
use Rattle.vocabulary.specs.declared.targets.Target.{Target}
use Rattle.definitions.specs.Table.{Address, Service, Table, IsSame, service}
use Rattle.definitions.specs.Master.{Record, want}
use Rattle.kernel_service.specs.declared.service.Served.{Served}
use Rattle.kernel_service.specs.Services.{Counts, Services, address_cmp, at, count_at}
use Rattle.kernel_service.specs.Served.{seen_served}
use Rattle.table_laws.proofs.Addresses.{address-refl, address-sym, same-address}
use Rattle.explorer.specs.Readiness.{ready_at, HaveAtLeast, AreShared, AreCommon}

---- A list of addresses

has-from : (xs : List Address) → AllByRecursion (λ a. has xs a ≡ true) xs
has-from xs = all xs (λ a is. is)
  where
    all : (ys : List Address) → ((a : Address) → has ys a ≡ true → has xs a ≡ true) → AllByRecursion (λ a. has xs a ≡ true) ys
    all [] up = tt
    all (y ∷ ys) up = (up y (ap (λ b. b || has ys y) (address-refl y)), all ys (λ a is. up a (behind (bytes_eq y a) (has ys a) is)))
      where
        behind : (b c : Bool) → c ≡ true → (b || c) ≡ true
        behind true c e = refl
        behind false c e = e

pub has-contained : (xs : List Address) (a : Address) → Contains xs a → has xs a ≡ true
has-contained xs a there = All-contains (λ x. has xs x ≡ true) xs a (All-from_recursion (λ x. has xs x ≡ true) xs (has-from xs)) there

-- Each address that the list has, has at least so many.
pub has-at-least : (t : Table) (low : ℕ) (xs : List Address) → HaveAtLeast xs t low → (a : Address) → has xs a ≡ true → low ≤ ready_at t a
has-at-least t low [] all a is = absurd (false≢true is)
has-at-least t low (x ∷ xs) all a is = here (bytes_eq x a) refl is (has-at-least t low xs all.1 a)
  where
    here : (b : Bool) → bytes_eq x a ≡ b → (b || has xs a) ≡ true → (has xs a ≡ true → low ≤ ready_at t a) → low ≤ ready_at t a
    here true same e rest = subst (λ y. low ≤ ready_at t y) (same-address x a same) all.0
    here false same e rest = rest e

---- Those of a service that pass a test

module _ (wanted : Address → Bool) where
  abbrev pub is_kept : Address → Served → Bool
  is_kept a e = bytes_eq e.address a && wanted e.address

  abbrev pub kept : List Served → Address → Bool
  kept es a = list_any (is_kept a) es

  both : (w b f k : Bool) → k ≡ (f && w) → ((b && w) || k) ≡ (cond b true f && w)
  both true true f k e = refl
  both false true true k e = e
  both false true false k e = e
  both true false f k e = e
  both false false f k e = e

  at-address : (e : Served) (a : Address) (k : Bool) (f : Bool) → k ≡ (f && wanted a) →
      (is_kept a e || k) ≡ (cond (bytes_eq e.address a) true f && wanted a)
  at-address e a k f is = here (bytes_eq e.address a) refl
    where
      here : (b : Bool) → bytes_eq e.address a ≡ b → ((b && wanted e.address) || k) ≡ (cond b true f && wanted a)
      here true same = ap (λ x. (true && wanted x) || k) (same-address e.address a same) ∙ both (wanted a) true f k is
      here false same = is

  some-cond : (b : Bool) (c : Counts) (o : Option Counts) → is_some (cond b (Some c) o) ≡ cond b true (is_some o)
  some-cond true c o = refl
  some-cond false c o = refl

  pub kept-found : (es : List Served) (a : Address) → kept es a ≡ (is_some (find address_cmp a (map seen_served es)) && wanted a)
  kept-found [] a = refl
  kept-found (e ∷ es) a =
      at-address e a (kept es a) (is_some (find address_cmp a (map seen_served es))) (kept-found es a)
      ∙ ap (λ b. cond b true (is_some (find address_cmp a (map seen_served es))) && wanted a) (address-sym e.address a ∙ sym (is_eq-slice_cmp a e.address))
      ∙ ap (λ b. b && wanted a) (sym (some-cond (is_eq (address_cmp a e.address)) (seen_served e).1 (find address_cmp a (map seen_served es))))

  -- one entry more
  pub kept-added : (b : Bool) (done : List Address) (e : Served) (rest all : Bool) (a : Address) → wanted e.address ≡ b →
      (has done a || (is_kept a e || rest)) ≡ all → (has (cond b (done ++ e.address ∷ []) done) a || rest) ≡ all
  kept-added true done e rest all a is same =
      ap (λ b. b || rest) (list_any-append (λ y. bytes_eq y a) done (e.address ∷ []))
      ∙ joined (has done a) (bytes_eq e.address a) (wanted e.address) rest is
      ∙ same
    where
      joined : (h b w r : Bool) → w ≡ true → ((h || (b || false)) || r) ≡ (h || ((b && w) || r))
      joined true b w r e = refl
      joined false true true r e = refl
      joined false false true r e = refl
      joined false b false r e = absurd (false≢true e)
  kept-added false done e rest all a is same = dropped (has done a) (bytes_eq e.address a) (wanted e.address) rest is ∙ same
    where
      dropped : (h b w r : Bool) → w ≡ false → (h || r) ≡ (h || ((b && w) || r))
      dropped true b w r e = refl
      dropped false true false r e = refl
      dropped false true true r e = absurd (false≢true (sym e))
      dropped false false w r e = refl

is_some-map : {X Y : Type 0} (f : X → Y) (o : Option X) → is_some (option_map f o) ≡ is_some o
is_some-map f None = refl
is_some-map f (Some x) = refl

some-at : (s : Services) (x : Service) → IsSame (at s) x → (a : Address) → is_some (find address_cmp a s) ≡ is_some (x a)
some-at s x same a = sym (is_some-map count_at (find address_cmp a s)) ∙ ap is_some (same a)

pub kept-over : (b : Bool) {k : Bool} → k ≡ false → b ≡ (b || k)
kept-over true e = refl
kept-over false e = sym e

pub both-some : (s w : Services) (t : Table) (r : Record) (to : Target) → IsSame (at s) (service t) → IsSame (at w) (want r to) → (xs : List Address) →
    AreShared s w xs → AreCommon t r to xs
both-some s w t r to same wanted xs shared a = shared a ∙ (λ i. some-at s (service t) same a i && some-at w (want r to) wanted a i)
