-- The orders of turns that two masters can take.
use Rattle.std.specs.Prelude.{ℕ, zero, suc, ◌≡◌, ◌≢◌, ◌+◌, List, [], ◌∷◌, ◌++◌, map}
use Rattle.std.specs.List.{AllPairs, AllByRecursion, Contains}
use Rattle.definitions.specs.Plans.{Turn, New, Old}

-- All lists of so many turns of the old master and so many of the new one, those first in which the new one goes on.
abbrev pub orders : ℕ → ℕ → List (List Turn)
orders zero zero = [] ∷ []
orders zero (suc news) = map (λ turns. New ∷ turns) (orders zero news)
orders (suc olds) zero = map (λ turns. Old ∷ turns) (orders olds zero)
orders (suc olds) (suc news) = map (λ turns. New ∷ turns) (orders (suc olds) news) ++ map (λ turns. Old ∷ turns) (orders olds (suc news))

-- each of these after the turns that are taken
abbrev pub begun_with : List Turn → List (List Turn) → List (List Turn)
begun_with begun = map (λ turns. begun ++ turns)

---- That they are all, and each is there once

abbrev pub olds_in : List Turn → ℕ
olds_in [] = 0
olds_in (Old ∷ turns) = olds_in turns + 1
olds_in (New ∷ turns) = olds_in turns

abbrev pub news_in : List Turn → ℕ
news_in [] = 0
news_in (Old ∷ turns) = news_in turns
news_in (New ∷ turns) = news_in turns + 1

-- so many turns of the old master, and so many of the new one
pub record HasTurns (olds news : ℕ) (turns : List Turn) : Type 0 where
  pub of_old : olds_in turns ≡ olds
  pub of_new : news_in turns ≡ news

pub record AreAllOrders (olds news : ℕ) (lists : List (List Turn)) : Type 0 where
  pub each : AllByRecursion (HasTurns olds news) lists
  pub all : (turns : List Turn) → HasTurns olds news turns → Contains lists turns
  pub distinct : AllPairs (λ a b. a ≢ b) lists
