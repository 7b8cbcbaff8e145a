-- Lists that are kept in a fixed number of places, with blanks behind them.
use Rattle.std.specs.Prelude.{◌≡◌, ℕ, ◌-◌, ◌≤◌, List, length, drop, replicate}

-- in n places the first ones are the list, and the others are blank
pub record IsPadded {A : Type 0} (n : ℕ) (blank : A) (items : List A) (len : ℕ) : Type 0 where
  pub size : length items ≡ n
  pub fits : len ≤ n
  pub blanks : drop len items ≡ replicate (n - len) blank
