-- Lists of keys with values, in the order of the keys.
use Rattle.std.proofs.Common.{◌≡◌, ℕ, suc, ◌+◌, ◌<◌, Bool, true, false, cond, not, ◌&&◌, ◌||◌, is_some, Some, None}
use Rattle.std.proofs.Common.{List, [], ◌∷◌, map, length, get_or, set, refl, sym, ap, subst, ◌∙◌, arith}
use Rattle.std.specs.Prelude.{T}
use Rattle.std.proofs.Math.ListN.{get_or-map}
use Rattle.std.proofs.lemmas.Bool.{false≢true}
use Rattle.std.proofs.lemmas.List.{length-map, map-set, map-append, take-map, drop-map, get_or_default}
use Rattle.std.specs.declared.cmp.Ordering.{Ordering}
use Rattle.std.specs.declared.cmp.Ordering.TheVariants.{Less, Equal, Greater}
use Rattle.std.specs.Ordering.{is_le, is_lt, is_eq, eq_by_cmp}
use Rattle.std.specs.Cmp.{IsTotalOrder}
use Rattle.std.specs.List.{position_or_len, insert, list_any, AllByRecursion}
use Rattle.std.specs.FinMap.{find, put, is_sorted}
use Rattle.std.specs.FinMap.Entries.{below_all, by_order, is_sorted-put}

T-from : (b : Bool) → b ≡ true → T b
T-from true h = tt
T-from false h = absurd (false≢true h)

true-from : (b : Bool) → T b → b ≡ true
true-from true h = refl
true-from false h = absurd h

both : (a b : Bool) → (a && b) ≡ true → (a ≡ true) × (b ≡ true)
both true b h = (refl, h)
both false b h = absurd (false≢true h)

less : (r : Ordering) → is_lt r ≡ true → r ≡ Less
less Less h = refl
less Equal h = absurd (false≢true h)
less Greater h = absurd (false≢true h)

pub map-insert : {X Y : Type 0} (f : X → Y) (xs : List X) (i : ℕ) (x : X) → map f (insert xs i x) ≡ insert (map f xs) i (f x)
map-insert f xs i x = simp (map-append, take-map, drop-map)

module _ {K X : Type 0} (R : K → K → Ordering) where
  -- the place of the first key that is no lower
  abbrev pub place : K → List (K × X) → ℕ
  place k es = position_or_len (λ e. is_le (R k e.0)) es

  -- the key at the place is another
  abbrev pub IsAbsent : K → List (K × X) → Type 0
  IsAbsent k es = (d : K × X) → place k es < length es → is_eq (R k (get_or es (place k es) d).0) ≡ false

  pub sorted-put : IsTotalOrder R → (k : K) (v : X) (es : List (K × X)) → is_sorted R es ≡ true → is_sorted R (put R k v es) ≡ true
  sorted-put o k v es h = true-from _ (is_sorted-put R o k v es (T-from _ h))

  module _ (P : X → Type 0) (k : K) where
    pub All-put : (v : X) (es : List (K × X)) → AllByRecursion (λ e. P e.1) es → P v → AllByRecursion (λ e. P e.1) (put R k v es)
    All-put v [] h new = (new, tt)
    All-put v (e ∷ es) h new = elim (R k e.0) as (λ r. AllByRecursion (λ e. P e.1) (by_order r ((k, v) ∷ e ∷ es) ((e.0, v) ∷ es) (e ∷ put R k v es))) [
      | Less ↦ (new, h)
      | Equal ↦ (new, h.1)
      | Greater ↦ (h.0, All-put v es h.1 new)
    ]

    pub All-find : (x : X) (es : List (K × X)) → AllByRecursion (λ e. P e.1) es → find R k es ≡ Some x → P x
    All-find x [] h found = let none : ⊥ = cc in absurd none
    All-find x (e ∷ es) h found = (elim (eq_by_cmp R k e.0) as (λ b. cond b (Some e.1) (find R k es) ≡ Some x → P x) [
      | true ↦ λ is. let same : e.1 ≡ x = cc in subst P same h.0
      | false ↦ λ is. All-find x es h.1 is
    ]) found

  module _ (k : K) where
    later : (e : K × X) (es : List (K × X)) → R k e.0 ≡ Greater → place k (e ∷ es) ≡ suc (place k es)
    later e es p = rw p (omega arith)

    first : (e : K × X) (es : List (K × X)) (r : Ordering) → is_le r ≡ true → R k e.0 ≡ r → place k (e ∷ es) ≡ 0
    first e es r le p = rw (p, le) refl

    IsAbsent-tail : (e : K × X) (es : List (K × X)) → R k e.0 ≡ Greater → IsAbsent k (e ∷ es) → IsAbsent k es
    IsAbsent-tail e es p absent d lt = (rw (later e es p) at (absent d)) (omega arith)

    -- a new value for the key that is there
    pub put-set : (v : X) (d : K × X) (es : List (K × X)) → place k es < length es →
        is_eq (R k (get_or es (place k es) d).0) ≡ true →
        set es (place k es) ((get_or es (place k es) d).0, v) ≡ put R k v es
    put-set v d [] lt there = absurd (omega arith)
    put-set v d (e ∷ es) lt there = (elim (R k e.0) as (λ r. R k e.0 ≡ r → set (e ∷ es) (place k (e ∷ es)) ((get_or (e ∷ es) (place k (e ∷ es)) d).0, v) ≡ put R k v (e ∷ es)) [
      | Less ↦ λ p. let tied = rw p at (rw (first e es Less refl p) at there) in absurd (false≢true tied)
      | Equal ↦ λ p. rw p refl
      | Greater ↦ λ p.
          let within = rw (later e es p) at lt in
          rw (later e es p, p) (ap (λ xs. e ∷ xs) (put-set v d es (omega arith) (rw (later e es p) at there)))
    ]) refl

    -- a new key
    pub put-insert : (v : X) (es : List (K × X)) → IsAbsent k es → insert es (place k es) (k, v) ≡ put R k v es
    put-insert v [] absent = refl
    put-insert v (e ∷ es) absent = (elim (R k e.0) as (λ r. R k e.0 ≡ r → insert (e ∷ es) (place k (e ∷ es)) (k, v) ≡ put R k v (e ∷ es)) [
      | Less ↦ λ p. rw p refl
      | Equal ↦ λ p.
          let here = rw (first e es Equal refl p) at (absent e) in
          let apart = rw p at (here (omega arith)) in
          absurd (false≢true (sym apart))
      | Greater ↦ λ p. rw (later e es p, p) (ap (λ xs. e ∷ xs) (put-insert v es (IsAbsent-tail e es p absent)))
    ]) refl

    pub find-there : (d : K × X) (es : List (K × X)) → place k es < length es →
        is_eq (R k (get_or es (place k es) d).0) ≡ true → find R k es ≡ Some (get_or es (place k es) d).1
    find-there d [] lt there = absurd (omega arith)
    find-there d (e ∷ es) lt there = (elim (R k e.0) as (λ r. R k e.0 ≡ r → find R k (e ∷ es) ≡ Some (get_or (e ∷ es) (place k (e ∷ es)) d).1) [
      | Less ↦ λ p. let tied = rw p at (rw (first e es Less refl p) at there) in absurd (false≢true tied)
      | Equal ↦ λ p. rw p refl
      | Greater ↦ λ p.
          let within = rw (later e es p) at lt in
          rw (later e es p, p) (find-there d es (omega arith) (rw (later e es p) at there))
    ]) refl

    pub absent-from_find : (es : List (K × X)) → find R k es ≡ None → IsAbsent k es
    absent-from_find es none d lt = at (is_eq (R k (get_or es (place k es) d).0)) refl
      where
        at : (b : Bool) → is_eq (R k (get_or es (place k es) d).0) ≡ b → b ≡ false
        at false p = refl
        at true p = let found = find-there d es lt p in cc

    module _ (o : IsTotalOrder R) where
      find-below : (x : K) (es : List (K × X)) → R k x ≡ Less → below_all R x es ≡ true → find R k es ≡ None
      find-below x [] p below = refl
      find-below x (e ∷ es) p below =
          let parts = both (is_lt (R x e.0)) (below_all R x es) below in
          let lower : R k e.0 ≡ Less = o.trans k x e.0 p (less (R x e.0) parts.0) in
          rw lower (find-below x es p parts.1)

      pub find-absent : (es : List (K × X)) → is_sorted R es ≡ true → IsAbsent k es → find R k es ≡ None
      find-absent [] sorted absent = refl
      find-absent (e ∷ es) sorted absent = (elim (R k e.0) as (λ r. R k e.0 ≡ r → find R k (e ∷ es) ≡ None) [
        | Less ↦ λ p. rw p (find-below e.0 es p (both _ _ sorted).0)
        | Equal ↦ λ p.
            let here = rw (first e es Equal refl p) at (absent e) in
            let apart = rw p at (here (omega arith)) in
            absurd (false≢true (sym apart))
        | Greater ↦ λ p. rw p (find-absent es (both _ _ sorted).1 (IsAbsent-tail e es p absent))
      ]) refl

  ---- The same of a list that stands for the entries
  pub found-any : {Y : Type 0} (f : Y → K × X) (k : K) (ys : List Y) → list_any (λ y. is_eq (R k (f y).0)) ys ≡ is_some (find R k (map f ys))
  found-any f k [] = refl
  found-any f k (y ∷ ys) = elim (is_eq (R k (f y).0)) as (λ b. (b || list_any (λ z. is_eq (R k (f z).0)) ys) ≡ is_some (cond b (Some (f y).1) (find R k (map f ys)))) [
    | true ↦ refl
    | false ↦ found-any f k ys
  ]

  module _ {Y : Type 0} (f : Y → K × X) (k : K) (ys : List Y) (j : ℕ) (is : j ≡ position_or_len (λ y. is_le (R k (f y).0)) ys) where
    place-map : (zs : List Y) → place k (map f zs) ≡ position_or_len (λ y. is_le (R k (f y).0)) zs
    place-map [] = refl
    place-map (z ∷ zs) = ap (λ n. cond (not (is_le (R k (f z).0))) (1 + n) 0) (place-map zs)

    turned : place k (map f ys) ≡ j
    turned = place-map ys ∙ sym is

    module _ (y : Y) (lt : j < length ys) (there : y ≡ get_or ys j y) (tied : is_eq (R k (f y).0) ≡ true) where
      entry : get_or (map f ys) j (f y) ≡ f y
      entry = get_or-map f ys j y ∙ ap f (sym there)

      within : place k (map f ys) < length (map f ys)
      within = rw (turned, length-map) lt

      key : is_eq (R k (get_or (map f ys) (place k (map f ys)) (f y)).0) ≡ true
      key = rw (turned, entry) tied

      pub put-there : (v : X) (new : Y) → f new ≡ ((f y).0, v) → map f (set ys j new) ≡ put R k v (map f ys)
      put-there v new same =
          let changed = rw (turned, entry) at (put-set k v (f y) (map f ys) within key) in
          map-set f ys j new ∙ ap (λ e. set (map f ys) j e) same ∙ changed

      pub find-listed : find R k (map f ys) ≡ Some (f y).1
      find-listed = rw (turned, entry) at (find-there k (f y) (map f ys) within key)

    pub put-new : (v : X) (new : Y) → IsAbsent k (map f ys) → f new ≡ (k, v) → map f (insert ys j new) ≡ put R k v (map f ys)
    put-new v new absent same =
        let added = rw turned at (put-insert k v (map f ys) absent) in
        map-insert f ys j new ∙ ap (λ e. insert (map f ys) j e) same ∙ added

  pub absent-from : {Y : Type 0} (f : Y → K × X) (k : K) (ys : List Y) (j : ℕ) →
      j ≡ position_or_len (λ y. is_le (R k (f y).0)) ys →
      ((d : Y) → j < length ys → is_eq (R k (f (get_or ys j d)).0) ≡ false) → IsAbsent k (map f ys)
  absent-from f k [] j is other d lt = absurd (omega arith)
  absent-from f k (y ∷ ys) j is other d lt =
      let all = map f (y ∷ ys) in
      let there = turned f k (y ∷ ys) j is in
      let moved : j < length all = rw there at lt in
      let held : j < length (y ∷ ys) = rw length-map at moved in
      let entry : get_or all (place k all) d ≡ f (get_or (y ∷ ys) j y) = ap (λ i. get_or all i d) there ∙ get_or_default all j d (f y) moved ∙ get_or-map f (y ∷ ys) j y in
      ap (λ (e : K × X). is_eq (R k e.0)) entry ∙ other y held
