-- How many orders there are.
use Rattle.std.proofs.Common.{◌≡◌, ◌<◌, ◌+◌, ◌-◌, ℕ, zero, suc, List, [], ◌∷◌, ◌++◌, map, length, refl, ap, sym, ◌∙◌, arith}
use Rattle.definitions.specs.Plans.{Turn, New, Old}
use Rattle.turn_orders.specs.Orders.{orders}
use Rattle.turn_orders.proofs.Listing.{length_each, both_go_on}

-- Where one master has no turn, there is one order.
pub no_olds : (news : ℕ) → length (orders 0 news) ≡ 1
no_olds zero = refl
no_olds (suc news) = length_each (λ turns. New ∷ turns) (orders 0 news) ∙ no_olds news

pub no_news : (olds : ℕ) → length (orders olds 0) ≡ 1
no_news zero = refl
no_news (suc olds) = length_each (λ turns. Old ∷ turns) (orders olds 0) ∙ no_news olds

-- Where both have turns, one of them is first.
pub both_together : (olds news : ℕ) → 0 < olds → 0 < news → length (orders olds (news - 1)) + length (orders (olds - 1) news) ≡ length (orders olds news)
both_together olds news p q = (both_go_on [] [] olds news p q).2
