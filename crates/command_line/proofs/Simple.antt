-- The command line is one whose matches `clap` states exactly.
use Rattle.std.proofs.Common.{◌≡◌, refl, true}
use Rattle.clap.specs.Simple.{is_simple}
use Rattle.clap.specs.Faults.{is_simple_and_free}
use Rattle.clap.proofs.OnLiterals.{clap_on_literals}
use Rattle.command_line.specs.Arguments.{prefork_app}

pub has_exact_matches : is_simple prefork_app ≡ true
unfolding clap_on_literals
has_exact_matches = refl

pub has_exact_faults : is_simple_and_free prefork_app ≡ true
unfolding clap_on_literals
has_exact_faults = refl
