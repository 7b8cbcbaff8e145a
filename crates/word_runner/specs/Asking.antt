-- What words ask of a running master.
use Rattle.std.specs.Prelude.{⊤, ℕ, ◌≡◌, List, [], Option, Some, None, Result, Ok, Err}
use Rattle.vocabulary.specs.Settings.{Settings}
use Rattle.definitions.specs.Master.{Record}
use Rattle.service_state.specs.Targets.{IsTarget}
use Rattle.vocabulary.specs.declared.targets.Target.{Target}
use Rattle.worker_table.specs.Beats.{Workers, overdue_numbers, with_worker}
use Rattle.worker_table.specs.Codes.{table_code}
use Rattle.worker_table.specs.declared.refusal.TableRefusal.{TableRefusal}
use Rattle.control_words.specs.declared.words.Word.{Word}
use Rattle.control_words.specs.declared.words.Word.TheVariants.{Beat, Tick}
use Rattle.control_words.specs.declared.refusal.WordRefusal.{WordRefusal}
use Rattle.control_words.specs.Words.{target_of, refusal_code}
use Rattle.word_runner.specs.declared.asking.Asked.{Asked}
use Rattle.word_runner.specs.declared.asking.Asked.TheVariants as asks
use Rattle.word_runner.specs.declared.asking.HeardBeat.{HeardBeat}
use Rattle.word_runner.specs.declared.block.Body.{Body}
use Rattle.word_runner.specs.declared.block.Body.TheVariants.{Nothing, Refused}

-- the workers that are overdue at a tick
abbrev pub overdue_at : Word → Record → Workers → List ℕ
overdue_at (Tick now) r workers = overdue_numbers workers now r.timeout
overdue_at _ r workers = []

abbrev pub beat_in : Word → Option HeardBeat
beat_in (Beat nr now) = Some (record { nr = nr; now = now })
beat_in _ = None

-- a target, nothing, or a refusal with its code
abbrev pub asked_of : Result (Option Target) WordRefusal → Asked
asked_of (Ok (Some target)) = asks.Act target
asked_of (Ok None) = asks.Nothing
asked_of (Err refusal) = asks.Refused (refusal_code refusal)

-- a beat asks to be noted, whatever else
abbrev pub asked_in : Option HeardBeat → Result (Option Target) WordRefusal → Asked
asked_in (Some beat) answer = asks.Beat beat
asked_in None answer = asked_of answer

-- what a word asks of a master with a record and a table of workers, where settings may be at hand
abbrev pub asked_by : Word → Record → Workers → Option Settings → Asked
asked_by word r workers settings = asked_in (beat_in word) (target_of word r (overdue_at word r workers) settings)

-- what is asked for can be asked for
abbrev pub IsPossible : Asked → Type 0
IsPossible asks.Nothing = ⊤
IsPossible (asks.Beat beat) = ⊤
IsPossible (asks.Act target) = IsTarget target
IsPossible (asks.Refused code) = ⊤

-- A beat is noted, or it is refused by the table of workers.
abbrev pub IsNoted : Result (Unit {0}) TableRefusal → ℕ → ℕ → Workers → Body → Workers → Type 0
IsNoted (Ok u) nr now old body new = (body ≡ Nothing) × (new ≡ with_worker old nr (Some now))
IsNoted (Err refusal) nr now old body new = (body ≡ Refused (table_code refusal)) × (new ≡ old)

-- a target is asked for, and this is so of it
abbrev pub IsActOn : (Target → Type 0) → Asked → Type 0
IsActOn says asks.Nothing = ⊥
IsActOn says (asks.Beat beat) = ⊥
IsActOn says (asks.Act target) = says target
IsActOn says (asks.Refused code) = ⊥

-- there is a master, a word asks it for a target, and this is so of its record and the target
abbrev pub AsksTarget : (Record → Target → Type 0) → Option Record → Option Settings → Word → Workers → Type 0
AsksTarget says None settings word workers = ⊥
AsksTarget says (Some r) settings word workers = IsActOn (says r) (asked_by word r workers settings)
