-- That the orders are all lists with so many turns of each, and each is there once.
use Rattle.std.proofs.Common.{◌≡◌, ◌≢◌, ◌<◌, ◌+◌, ℕ, zero, suc, List, [], ◌∷◌, ◌++◌, map, length, get_or, refl, ap, arith}
use Rattle.std.specs.Prelude.{⊤}
use Rattle.std.specs.List.{All, AllPairs, AllByRecursion, Contains}
use Rattle.std.proofs.lemmas.List.Elements.{Contains-append_left, Contains-append_right}
use Rattle.std.proofs.lemmas.List.Kept.{AllPairs-cons}
use Rattle.definitions.specs.Plans.{Turn, New, Old}
use Rattle.turn_orders.specs.Orders.{orders, olds_in, news_in, HasTurns, AreAllOrders}

---- Lists in general

weaken : {X : Type 0} (P Q : X → Type 0) → ((x : X) → P x → Q x) → (xs : List X) → AllByRecursion P xs → AllByRecursion Q xs
weaken P Q up [] h = tt
weaken P Q up (x ∷ xs) h = (up x h.0, weaken P Q up xs h.1)

all-map : {X Y : Type 0} (P : Y → Type 0) (f : X → Y) (xs : List X) → AllByRecursion (λ x. P (f x)) xs → AllByRecursion P (map f xs)
all-map P f [] h = tt
all-map P f (x ∷ xs) h = (h.0, all-map P f xs h.1)

all-append : {X : Type 0} (P : X → Type 0) (xs ys : List X) → AllByRecursion P xs → AllByRecursion P ys → AllByRecursion P (xs ++ ys)
all-append P [] ys h g = g
all-append P (x ∷ xs) ys h g = (h.0, all-append P xs ys h.1 g)

all-at : {X : Type 0} (P : X → Type 0) (xs : List X) → AllByRecursion P xs → All P xs
all-at P [] h k d lt = absurd (omega (arith, lt))
all-at P (x ∷ xs) h zero d lt = h.0
all-at P (x ∷ xs) h (suc k) d lt = all-at P xs h.1 k d (omega (arith, lt))

contains-map : {X Y : Type 0} (f : X → Y) (xs : List X) (x : X) (k : ℕ) → k < length xs → get_or xs k x ≡ x → Contains (map f xs) (f x)
contains-map f [] x k lt is = absurd (omega (arith, lt))
contains-map f (y ∷ ys) x zero lt is = (0, omega arith, ap f is)
contains-map f (y ∷ ys) x (suc k) lt is = let h = contains-map f ys x k (omega (arith, lt)) is in let lower = h.1 in (suc h.0, omega (arith, lower), h.2)

contained : {X Y : Type 0} (f : X → Y) (xs : List X) (x : X) → Contains xs x → Contains (map f xs) (f x)
contained f xs x h = contains-map f xs x h.0 h.1 h.2

-- each from all after it
abbrev Differ : {X : Type 0} → List X → Type 0
Differ [] = ⊤
Differ (x ∷ xs) = AllByRecursion (λ y. x ≢ y) xs × Differ xs

differ-map : {X Y : Type 0} (f : X → Y) → ((x y : X) → f x ≡ f y → x ≡ y) → (xs : List X) → Differ xs → Differ (map f xs)
differ-map f back [] h = tt
differ-map f back (x ∷ xs) h =
    (all-map (λ y. f x ≢ y) f xs (weaken (λ y. x ≢ y) (λ y. f x ≢ f y) (λ y not same. not (back x y same)) xs h.0), differ-map f back xs h.1)

differ-append : {X : Type 0} (xs ys : List X) → Differ xs → Differ ys → AllByRecursion (λ x. AllByRecursion (λ y. x ≢ y) ys) xs → Differ (xs ++ ys)
differ-append [] ys h g apart = g
differ-append (x ∷ xs) ys h g apart = (all-append (λ y. x ≢ y) xs ys h.0 apart.0, differ-append xs ys h.1 g apart.1)

all-pairs : {X : Type 0} (xs : List X) → Differ xs → AllPairs (λ x y. x ≢ y) xs
all-pairs [] h = λ i j d lt within. absurd (omega (arith, within))
all-pairs (x ∷ xs) h = AllPairs-cons (λ x y. x ≢ y) x xs (all-at (λ y. x ≢ y) xs h.0) (all-pairs xs h.1)

---- Turns

abbrev later : List Turn → List Turn
later [] = []
later (turn ∷ turns) = turns

abbrev first : List Turn → ℕ
first [] = 2
first (Old ∷ turns) = 1
first (New ∷ turns) = 0

abbrev with_new : List Turn → List Turn
with_new turns = New ∷ turns

abbrev with_old : List Turn → List Turn
with_old turns = Old ∷ turns

one-new : (olds news : ℕ) (turns : List Turn) → HasTurns olds news turns → HasTurns olds (suc news) (New ∷ turns)
one-new olds news turns h = let e = h.of_new in record { of_old = h.of_old; of_new = omega (arith, e) }

one-old : (olds news : ℕ) (turns : List Turn) → HasTurns olds news turns → HasTurns (suc olds) news (Old ∷ turns)
one-old olds news turns h = let e = h.of_old in record { of_old = omega (arith, e); of_new = h.of_new }

each-order : (olds news : ℕ) → AllByRecursion (HasTurns olds news) (orders olds news)
each-order zero zero = (record { of_old = refl; of_new = refl }, tt)
each-order zero (suc news) =
    all-map (HasTurns zero (suc news)) with_new (orders zero news) (weaken (HasTurns zero news) (λ turns. HasTurns zero (suc news) (New ∷ turns)) (one-new zero news) (orders zero news) (each-order zero news))
each-order (suc olds) zero =
    all-map (HasTurns (suc olds) zero) with_old (orders olds zero) (weaken (HasTurns olds zero) (λ turns. HasTurns (suc olds) zero (Old ∷ turns)) (one-old olds zero) (orders olds zero) (each-order olds zero))
each-order (suc olds) (suc news) =
    all-append (HasTurns (suc olds) (suc news)) (map with_new (orders (suc olds) news)) (map with_old (orders olds (suc news)))
    (all-map (HasTurns (suc olds) (suc news)) with_new (orders (suc olds) news)
    (weaken (HasTurns (suc olds) news) (λ turns. HasTurns (suc olds) (suc news) (New ∷ turns)) (one-new (suc olds) news) (orders (suc olds) news) (each-order (suc olds) news)))
    (all-map (HasTurns (suc olds) (suc news)) with_old (orders olds (suc news))
    (weaken (HasTurns olds (suc news)) (λ turns. HasTurns (suc olds) (suc news) (Old ∷ turns)) (one-old olds (suc news)) (orders olds (suc news)) (each-order olds (suc news))))

rest-new : (olds news : ℕ) (turns : List Turn) → HasTurns olds (suc news) (New ∷ turns) → HasTurns olds news turns
rest-new olds news turns h = let e = h.of_new in record { of_old = h.of_old; of_new = omega (arith, e) }

rest-old : (olds news : ℕ) (turns : List Turn) → HasTurns (suc olds) news (Old ∷ turns) → HasTurns olds news turns
rest-old olds news turns h = let e = h.of_old in record { of_old = omega (arith, e); of_new = h.of_new }

no-order-lacks : (olds news : ℕ) (turns : List Turn) → HasTurns olds news turns → Contains (orders olds news) turns
no-order-lacks zero zero [] h = (0, omega arith, refl)
no-order-lacks zero zero (Old ∷ turns) h = let e = h.of_old in absurd (omega (arith, e))
no-order-lacks zero zero (New ∷ turns) h = let e = h.of_new in absurd (omega (arith, e))
no-order-lacks zero (suc news) [] h = let e = h.of_new in absurd (omega (arith, e))
no-order-lacks zero (suc news) (Old ∷ turns) h = let e = h.of_old in absurd (omega (arith, e))
no-order-lacks zero (suc news) (New ∷ turns) h = contained with_new (orders zero news) turns (no-order-lacks zero news turns (rest-new zero news turns h))
no-order-lacks (suc olds) zero [] h = let e = h.of_old in absurd (omega (arith, e))
no-order-lacks (suc olds) zero (Old ∷ turns) h = contained with_old (orders olds zero) turns (no-order-lacks olds zero turns (rest-old olds zero turns h))
no-order-lacks (suc olds) zero (New ∷ turns) h = let e = h.of_new in absurd (omega (arith, e))
no-order-lacks (suc olds) (suc news) [] h = let e = h.of_old in absurd (omega (arith, e))
no-order-lacks (suc olds) (suc news) (New ∷ turns) h =
    Contains-append_left (map with_new (orders (suc olds) news)) (map with_old (orders olds (suc news))) (New ∷ turns)
    (contained with_new (orders (suc olds) news) turns (no-order-lacks (suc olds) news turns (rest-new (suc olds) news turns h)))
no-order-lacks (suc olds) (suc news) (Old ∷ turns) h =
    Contains-append_right (map with_new (orders (suc olds) news)) (map with_old (orders olds (suc news))) (Old ∷ turns)
    (contained with_old (orders olds (suc news)) turns (no-order-lacks olds (suc news) turns (rest-old olds (suc news) turns h)))

apart-from : (turns : List Turn) (ys : List (List Turn)) → AllByRecursion (λ y. (New ∷ turns) ≢ y) (map with_old ys)
apart-from turns [] = tt
apart-from turns (y ∷ ys) = ((λ same. let e = ap first same in omega (arith, e)), apart-from turns ys)

apart : (xs ys : List (List Turn)) → AllByRecursion (λ x. AllByRecursion (λ y. x ≢ y) (map with_old ys)) (map with_new xs)
apart [] ys = tt
apart (x ∷ xs) ys = (apart-from x ys, apart xs ys)

orders-differ : (olds news : ℕ) → Differ (orders olds news)
orders-differ zero zero = (tt, tt)
orders-differ zero (suc news) = differ-map with_new (λ x y same. ap later same) (orders zero news) (orders-differ zero news)
orders-differ (suc olds) zero = differ-map with_old (λ x y same. ap later same) (orders olds zero) (orders-differ olds zero)
orders-differ (suc olds) (suc news) =
    differ-append (map with_new (orders (suc olds) news)) (map with_old (orders olds (suc news)))
    (differ-map with_new (λ x y same. ap later same) (orders (suc olds) news) (orders-differ (suc olds) news))
    (differ-map with_old (λ x y same. ap later same) (orders olds (suc news)) (orders-differ olds (suc news)))
    (apart (orders (suc olds) news) (orders olds (suc news)))

pub all_orders : (olds news : ℕ) → AreAllOrders olds news (orders olds news)
all_orders olds news = record {
  each = each-order olds news;
  all = no-order-lacks olds news;
  distinct = all-pairs (orders olds news) (orders-differ olds news);
}
