-- Control words: how they are written and read, and what each asks for.
use Rattle.std.specs.Prelude.{⊤, ℕ, ◌+◌, ◌<◌, ◌^◌, ◌==◌, zero, suc, nat_lt, Bool, true, false, List, [], ◌∷◌, ◌++◌}
use Rattle.std.specs.Prelude.{Option, Some, None, Result, Ok, Err, find, bytes_eq, codes, if◌then◌else◌}
use Rattle.std.specs.Fmt.{decimal}
use Rattle.std.specs.List.{before_first, after_first}
use Rattle.plain_text.specs.NumberText.{number_in, number64_of}
use Rattle.vocabulary.specs.Settings.{Settings}
use Rattle.definitions.specs.Master.{Record}
use Rattle.vocabulary.specs.declared.targets.Target.{Target}
use Rattle.vocabulary.specs.declared.targets.Target.TheVariants as target
use Rattle.control_words.specs.declared.words.Word.{Word}
use Rattle.control_words.specs.declared.words.Word.TheVariants.{Hup, Quit, Int, Term, Usr1, Usr2, Usr2Attended, Winch, Ttin, Ttou, Beat, Tick}
use Rattle.control_words.specs.declared.refusal.WordRefusal.{WordRefusal}
use Rattle.control_words.specs.declared.refusal.WordRefusal.TheVariants.{Unknown, BadNumber, AtMost, NoConfig, PidChanged}

---- How words are written

abbrev pub word_name : Word → List ℕ
word_name Hup = codes "HUP"
word_name Quit = codes "QUIT"
word_name Int = codes "INT"
word_name Term = codes "TERM"
word_name Usr1 = codes "USR1"
word_name Usr2 = codes "USR2"
word_name Usr2Attended = codes "USR2 attended"
word_name Winch = codes "WINCH"
word_name Ttin = codes "TTIN"
word_name Ttou = codes "TTOU"
word_name (Beat nr now) = codes "beat"
word_name (Tick now) = codes "tick"

-- the name, and the numbers behind it, each after a space
abbrev pub word_text : Word → List ℕ
word_text (Beat nr now) = codes "beat" ++ 32 ∷ (decimal nr ++ 32 ∷ decimal now)
word_text (Tick now) = codes "tick" ++ 32 ∷ decimal now
word_text word = word_name word

-- A worker's number is below 1024, and a moment of the clock has 64 bits.
abbrev pub IsWord : Word → Type 0
IsWord (Beat nr now) = (nr < 1024) × (now < 2 ^ 64)
IsWord (Tick now) = now < 2 ^ 64
IsWord word = ⊤

---- How lines are read

-- the words that are a name alone
abbrev pub signals : List Word
signals = Hup ∷ Quit ∷ Int ∷ Term ∷ Usr1 ∷ Usr2 ∷ Usr2Attended ∷ Winch ∷ Ttin ∷ Ttou ∷ []

abbrev pub signal_of : List ℕ → Option Word
signal_of line = find (λ word. bytes_eq (word_name word) line) signals

abbrev pub is_space : ℕ → Bool
is_space c = c == 32

abbrev pub beat_of : Option ℕ → Option ℕ → Option Word
beat_of (Some nr) (Some now) = if nat_lt nr 1024 then Some (Beat nr now) else None
beat_of (Some nr) None = None
beat_of None now = None

-- a beat by its two numbers, which a space parts
abbrev pub beat_in : List ℕ → Option Word
beat_in numbers = beat_of (number_in (before_first is_space numbers)) (number64_of (after_first is_space numbers))

abbrev pub tick_of : Option ℕ → Option Word
tick_of (Some now) = Some (Tick now)
tick_of None = None

-- a tick by its number
abbrev pub tick_in : List ℕ → Option Word
tick_in number = tick_of (number64_of number)

abbrev pub or_refused : WordRefusal → Option Word → Result Word WordRefusal
or_refused refusal (Some word) = Ok word
or_refused refusal None = Err refusal

-- A line without its newline. Its name ends at the first space.
abbrev pub reading : List ℕ → Result Word WordRefusal
reading line =
    if bytes_eq (before_first is_space line) (codes "beat") then or_refused BadNumber (beat_in (after_first is_space line))
    else if bytes_eq (before_first is_space line) (codes "tick") then or_refused BadNumber (tick_in (after_first is_space line))
    else or_refused Unknown (signal_of line)

abbrev pub refusal_code : WordRefusal → List ℕ
refusal_code Unknown = codes "W1"
refusal_code BadNumber = codes "W2"
refusal_code AtMost = codes "W3"
refusal_code NoConfig = codes "W4"
refusal_code PidChanged = codes "W5"

---- What words ask for

abbrev pub is_same_path : Option (List ℕ) → Option (List ℕ) → Bool
is_same_path (Some path) (Some other) = bytes_eq path other
is_same_path None None = true
is_same_path (Some path) None = false
is_same_path None (Some other) = false

-- The settings that a master can take up: some, with the pid file that it has.
abbrev pub settings_for : Record → Option Settings → Result Settings WordRefusal
settings_for r None = Err NoConfig
settings_for r (Some s) = if is_same_path s.pid r.pid_path then Ok s else Err PidChanged

-- the target that is made of the settings
abbrev pub taken_up : (Settings → Target) → Result Settings WordRefusal → Result (Option Target) WordRefusal
taken_up target_for (Ok s) = Ok (Some (target_for s))
taken_up target_for (Err refusal) = Err refusal

-- one worker more, of at most 1024
abbrev pub one_more : ℕ → Result (Option Target) WordRefusal
one_more wanted = if nat_lt wanted 1024 then Ok (Some (target.Workers (wanted + 1))) else Err AtMost

-- one worker less; where none is wanted there is nothing to do
abbrev pub one_less : ℕ → Result (Option Target) WordRefusal
one_less zero = Ok None
one_less (suc n) = Ok (Some (target.Workers n))

-- What a word asks of a master with a record, where the workers of some numbers are overdue and settings may be at hand.
-- A beat is for the table of workers.
abbrev pub target_of : Word → Record → List ℕ → Option Settings → Result (Option Target) WordRefusal
target_of Hup r overdue settings = taken_up target.Reload (settings_for r settings)
target_of Quit r overdue settings = Ok (Some (target.Stop false))
target_of Int r overdue settings = Ok (Some (target.Stop true))
target_of Term r overdue settings = Ok (Some (target.Stop true))
target_of Usr1 r overdue settings = Ok (Some target.Reopen)
target_of Usr2 r overdue settings = taken_up target.Upgrade (settings_for r settings)
target_of Usr2Attended r overdue settings = taken_up target.Attended (settings_for r settings)
target_of Winch r overdue settings = Ok (Some (target.Workers 0))
target_of Ttin r overdue settings = one_more r.wanted
target_of Ttou r overdue settings = one_less r.wanted
target_of (Beat nr now) r overdue settings = Ok None
target_of (Tick now) r overdue settings = Ok (Some (target.Mend overdue))
