-- What is said to children, and what their answers mean.
use Rattle.std.specs.Prelude.{ℕ, Bool, true, false, List, [], ◌∷◌, ◌++◌, Option, None, bytes_eq, codes, option_and_then}
use Rattle.std.specs.Fmt.{decimal}
use Rattle.listener_set.specs.declared.generation.Generation.{Generation}
use Rattle.listener_set.specs.GenerationText.{generation_text}
use Rattle.plain_text.specs.Cuts.{after_prefix}
use Rattle.plain_text.specs.NumberText.{number_in}
use Rattle.child_family.specs.Told.{Hearing, line, too_long, ended}

abbrev pub worker_line : Generation → ℕ → ℕ → List ℕ
worker_line g nr start = codes "worker " ++ (generation_text g ++ 32 ∷ decimal nr) ++ 32 ∷ decimal start

abbrev pub listener_line : List ℕ → List ℕ
listener_line a = codes "listener " ++ a

abbrev pub close_line : List ℕ → List ℕ
close_line a = codes "close " ++ a

abbrev pub tick_line : ℕ → List ℕ
tick_line now = codes "tick " ++ decimal now

-- whether a child was heard to say just this
abbrev pub is_line : List ℕ → Hearing → Bool
is_line text (line said) = bytes_eq said text
is_line text too_long = false
is_line text ended = false

-- whether a child that was told to quit has ended, or says that it does
abbrev pub is_going : Hearing → Bool
is_going (line said) = bytes_eq said (codes "gone")
is_going too_long = false
is_going ended = true

-- the start that a beat at this moment names: `beat NOW START`
abbrev pub beat_start : ℕ → List ℕ → Option ℕ
beat_start now said = option_and_then number_in (after_prefix (codes "beat " ++ decimal now ++ 32 ∷ []) said)

abbrev pub beat_of : ℕ → Hearing → Option ℕ
beat_of now (line said) = beat_start now said
beat_of now too_long = None
beat_of now ended = None

-- a process number as it stands in a file
abbrev pub pid_text : ℕ → List ℕ
pid_text pid = decimal pid ++ 10 ∷ []
