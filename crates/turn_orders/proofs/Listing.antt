-- Orders, added one stretch after another.
use Rattle.std.proofs.Common.{◌≡◌, ◌<◌, ◌+◌, ◌-◌, ℕ, zero, suc, List, [], ◌∷◌, ◌++◌, map, length, refl, ap, sym, ◌∙◌, arith}
use Rattle.std.proofs.lemmas.List.{append_assoc}
use Rattle.definitions.specs.Plans.{Turn, New, Old}
use Rattle.turn_orders.specs.Orders.{orders, begun_with}

begun-more : (begun : List Turn) (turn : Turn) (lists : List (List Turn)) →
    begun_with (begun ++ turn ∷ []) lists ≡ begun_with begun (map (λ turns. turn ∷ turns) lists)
begun-more begun turn [] = refl
begun-more begun turn (x ∷ xs) = λ i. append_assoc begun (turn ∷ []) x i ∷ begun-more begun turn xs i

begun-append : (begun : List Turn) (xs ys : List (List Turn)) → begun_with begun (xs ++ ys) ≡ begun_with begun xs ++ begun_with begun ys
begun-append begun [] ys = refl
begun-append begun (x ∷ xs) ys = ap (λ zs. (begun ++ x) ∷ zs) (begun-append begun xs ys)

length-both : {X : Type 0} (xs ys : List X) → length (xs ++ ys) ≡ length xs + length ys
length-both [] ys = omega arith
length-both (x ∷ xs) ys = let h = length-both xs ys in omega (arith, h)

pub length_each : {X Y : Type 0} (f : X → Y) (xs : List X) → length (map f xs) ≡ length xs
length_each f [] = refl
length_each f (x ∷ xs) = let h = length_each f xs in omega (arith, h)

-- the orders of both, of the old master alone and of the new one alone
split : (olds news : ℕ) → 0 < olds → 0 < news →
    orders olds news ≡ map (λ turns. New ∷ turns) (orders olds (news - 1)) ++ map (λ turns. Old ∷ turns)
    (orders (olds - 1) news)
split zero news p q = absurd (omega (arith, p))
split (suc olds) zero p q = absurd (omega (arith, q))
split (suc olds) (suc news) p q =
    let e : news ≡ suc news - 1 = omega arith in
    let f : olds ≡ suc olds - 1 = omega arith in
    λ i. map (λ turns. New ∷ turns) (orders (suc olds) (e i)) ++ map (λ turns. Old ∷ turns) (orders (f i) (suc news))

olds-only : (olds : ℕ) → 0 < olds → orders olds 0 ≡ map (λ turns. Old ∷ turns) (orders (olds - 1) 0)
olds-only zero p = absurd (omega (arith, p))
olds-only (suc olds) p = let f : olds ≡ suc olds - 1 = omega arith in λ i. map (λ turns. Old ∷ turns) (orders (f i) 0)

news-only : (news : ℕ) → 0 < news → orders 0 news ≡ map (λ turns. New ∷ turns) (orders 0 (news - 1))
news-only zero p = absurd (omega (arith, p))
news-only (suc news) p = let e : news ≡ suc news - 1 = omega arith in λ i. map (λ turns. New ∷ turns) (orders 0 (e i))

---- What is added

pub none_left : (list : List (List Turn)) (begun : List Turn) → list ++ begun ∷ [] ≡ list ++ begun_with begun (orders 0 0)
none_left list begun = ap (λ x. list ++ x ∷ []) (sym (append-none begun))
  where
    append-none : (xs : List Turn) → xs ++ [] ≡ xs
    append-none [] = refl
    append-none (x ∷ xs) = ap (λ ys. x ∷ ys) (append-none xs)

pub old_alone : (begun : List Turn) (olds : ℕ) → 0 < olds →
    (begun_with (begun ++ Old ∷ []) (orders (olds - 1) 0) ≡ begun_with begun (orders olds 0)) × (length (orders (olds - 1) 0) ≡ length (orders olds 0))
old_alone begun olds p = (
  begun-more begun Old (orders (olds - 1) 0) ∙ ap (begun_with begun) (sym (olds-only olds p)),
  sym (length_each (λ turns. Old ∷ turns) (orders (olds - 1) 0)) ∙ ap (λ (xs : List (List Turn)). length xs) (sym (olds-only olds p)),
)

pub new_alone : (begun : List Turn) (news : ℕ) → 0 < news →
    (begun_with (begun ++ New ∷ []) (orders 0 (news - 1)) ≡ begun_with begun (orders 0 news)) × (length (orders 0 (news - 1)) ≡ length (orders 0 news))
new_alone begun news p = (
  begun-more begun New (orders 0 (news - 1)) ∙ ap (begun_with begun) (sym (news-only news p)),
  sym (length_each (λ turns. New ∷ turns) (orders 0 (news - 1))) ∙ ap (λ (xs : List (List Turn)). length xs) (sym (news-only news p)),
)

pub both_go_on : (list : List (List Turn)) (begun : List Turn) (olds news : ℕ) → 0 < olds → 0 < news →
    (((list ++ begun_with (begun ++ New ∷ []) (orders olds (news - 1))) ++ begun_with (begun ++ Old ∷ [])
    (orders (olds - 1) news)) ≡ list ++ begun_with begun (orders olds news))
    × (length (list ++ begun_with (begun ++ New ∷ []) (orders olds (news - 1))) + length (orders (olds - 1) news) ≡ length list + length (orders olds news))
    × (length (orders olds (news - 1)) + length (orders (olds - 1) news) ≡ length (orders olds news))
both_go_on list begun olds news p q =
    let firsts = orders olds (news - 1) in
    let seconds = orders (olds - 1) news in
    let whole = split olds news p q in
    let counts : length firsts + length seconds ≡ length (orders olds news) =
    (let a = length_each (λ (turns : List Turn). New ∷ turns) firsts in
    let b = length_each (λ (turns : List Turn). Old ∷ turns) seconds in
    let c = length-both (map (λ (turns : List Turn). New ∷ turns) firsts) (map (λ (turns : List Turn). Old ∷ turns) seconds) in
    let d = ap (λ (xs : List (List Turn)). length xs) whole in
    omega (arith, a, b, c, d)) in (
      append_assoc list (begun_with (begun ++ New ∷ []) firsts) (begun_with (begun ++ Old ∷ []) seconds)
          ∙ ap (λ xs. list ++ xs)
          ((λ i. begun-more begun New firsts i ++ begun-more begun Old seconds i)
          ∙ sym (begun-append begun (map (λ turns. New ∷ turns) firsts) (map (λ turns. Old ∷ turns) seconds))
          ∙ ap (begun_with begun) (sym whole)),
      (let e = length-both list (begun_with (begun ++ New ∷ []) firsts) in
          let f = length_each (λ (turns : List Turn). (begun ++ New ∷ []) ++ turns) firsts in
          omega (arith, e, f, counts)),
      counts,
    )

pub none_begun : (lists : List (List Turn)) → begun_with [] lists ≡ lists
none_begun [] = refl
none_begun (x ∷ xs) = ap (λ ys. x ∷ ys) (none_begun xs)
