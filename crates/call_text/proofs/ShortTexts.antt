-- The text of a set of numbers below 1024 is short: seven bytes for each two numbers are enough.
use Rattle.std.proofs.Common.{◌≡◌, ℕ, ◌+◌, ◌*◌, ◌≤◌, ◌<◌, ◌==◌, Bool, true, false, List, [], ◌∷◌, length, refl, arith, length-append, lit<}
use Rattle.std.specs.Fmt.{decimal}
use Rattle.std.proofs.lemmas.Bool.Decides.{nat_tests}
use Rattle.std.proofs.lemmas.Fmt.{length-decimal-le}
use Rattle.listener_set.specs.Numbers.{RisesFrom, AreBelow, AreNumbers}
use Rattle.call_text.specs.SetText.{run_text, runs_text, set_text}

four_digits : (n : ℕ) → n < 1024 → length (decimal n) ≤ 4
four_digits n small = length-decimal-le 4 n (lit< tt) (omega (arith, small)) (omega (arith, small))

-- with the comma behind it
run_short : (first last : ℕ) → first ≤ last → last < 1024 → 2 * (length (run_text first last) + 1) + 7 * first ≤ 7 * (last + 2)
run_short first last up below = at (first == last) refl
  where
    at : (b : Bool) → (first == last) ≡ b → 2 * (length (run_text first last) + 1) + 7 * first ≤ 7 * (last + 2)
    at true e = rw e (omega (arith, four_digits first (omega (arith, up, below)), up))
    at false e =
        let less : first < last = grind (arith, nat_tests, e, up) in
        rw (e, length-append (decimal first) (45 ∷ decimal last)) (omega (arith, four_digits first (omega (arith, less, below)), four_digits last below, less))

runs_short : (first last : ℕ) (ns : List ℕ) → first ≤ last → last < 1024 → RisesFrom (last + 1) ns → AreBelow 1024 ns →
    2 * length (runs_text first last ns) + 7 * first ≤ 7175
runs_short first last [] up below rising under = omega (arith, run_short first last up below, below)
runs_short first last (n ∷ ns) up below rising under =
    at (n == last + 1) refl (runs_short first n ns (omega (arith, up, rising.0)) under.0 rising.1 under.1) (runs_short n n ns (omega arith) under.0 rising.1 under.1)
  where
    at :
        (b : Bool) → (n == last + 1) ≡ b → 2 * length (runs_text first n ns) + 7 * first ≤ 7175 → 2 * length (runs_text n n ns) + 7 * n ≤ 7175
        → 2 * length (runs_text first last (n ∷ ns)) + 7 * first ≤ 7175
    at true e on more = rw e on
    at false e on more =
        let gap : last + 2 ≤ n = grind (arith, nat_tests, e, rising.0) in
        rw (e, length-append (run_text first last) (44 ∷ runs_text n n ns)) (omega (arith, run_short first last up below, more, gap))

pub set_short : (ns : List ℕ) → AreNumbers 1024 ns → length (set_text ns) ≤ 3588
set_short [] h = omega arith
set_short (n ∷ ns) h = omega (arith, runs_short n n ns (omega arith) h.below.0 h.rising.1 h.below.1)
