-- The worked life, by computation.
use Rattle.std.proofs.Common.{◌≡◌, true, false, refl}
use Rattle.definitions.specs.Calls.{census_of}
use Rattle.lives.specs.WorkedLives.{WorkedLives}

no : false ≡ true → ⊥
no e = cc

pub worked_lives : WorkedLives
unfolding census_of
worked_lives = record {
  degraded = refl;
  left = refl;
  lacks_one = refl;
  owes_one = refl;
  reopened = refl;
  still = refl;
  healed = refl;
  full = refl;
  dead_rows = refl;
  served = refl;
  unkept = λ h. no h.0;
}
