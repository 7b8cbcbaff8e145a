-- What can go wrong at the calls of a run.
use Rattle.std.specs.Prelude.{ℕ, ◌==◌, ◌+◌, nat_lt, Bool, ◌&&◌, not, List, [], ◌∷◌, ◌++◌, map, Option, Some, None, if◌then◌else◌}
use Rattle.std.specs.List.{filter, filter_map}
use Rattle.listener_set.specs.Numbers.{is_in}
use Rattle.vocabulary.specs.declared.names.Name.TheVariants as name
use Rattle.definitions.specs.Table.{Table, is_active}
use Rattle.definitions.specs.Calls.{after_exits, Call, Fate, step_with, Handed}
use Rattle.vocabulary.specs.Fates.{all_fates}
use Rattle.definitions.specs.Run.{Entry, Moment, Pattern, reply_of, same_reply}
use Rattle.call_laws.specs.Pieces.{quiet}
use Rattle.definitions.specs.Claims.{is_leave_call}
use Rattle.kernel_pattern.specs.Pattern.{with_exit, with_fate}
use Rattle.kernel_model.specs.Readers.{row_of}
use Rattle.kernel_rows.specs.declared.process.Row.{Row}
use Rattle.kernel_rows.specs.declared.process.Row.TheVariants as row
use Rattle.explorer.specs.declared.events.Mishap.{Mishap}
use Rattle.explorer.specs.declared.events.Mishap.TheVariants.{Exit, Fail}
use Rattle.explorer.specs.declared.events.Event.{Event}
use Rattle.explorer.specs.declared.events.Tried.{Tried}
use Rattle.explorer.specs.declared.events.Tried.TheVariants.{Nothing, One, Two}

---- Patterns of what goes wrong

abbrev pub with_mishap : Mishap → Moment → Moment
with_mishap (Exit n q) m = with_exit n m
with_mishap (Fail f) m = with_fate f m

-- This goes wrong too.
abbrev pub with_event : Event → Pattern → Pattern
with_event e p n = if n == e.number then with_mishap e.mishap (p n) else p n

-- The pattern in which this goes wrong and nothing else.
abbrev pub pattern_of : Tried → Pattern
pattern_of Nothing = λ n. quiet
pattern_of (One e) = with_event e (λ n. quiet)
pattern_of (Two e f) = with_event f (with_event e (λ n. quiet))

abbrev pub events_in : Tried → ℕ
events_in Nothing = 0
events_in (One e) = 1
events_in (Two e f) = 2

---- What can go wrong at a call

-- A fate takes effect where the call is answered otherwise than by itself.
abbrev pub takes_effect : Handed → ℕ → Call → Table → Fate → Bool
takes_effect handed by call t f =
    not (same_reply (reply_of [] (step_with handed by call (Some f) t).answer)
    (reply_of [] (step_with handed by call None t).answer))

-- Whose exit matters, of processes with a higher number than this: a Starting or Ready worker's, and that of a live master of
-- one of these images.
abbrev pub exit_of : List ℕ → ℕ → Row → Option Mishap
exit_of heirs above (row.Worker n q g k s) = if is_active s && nat_lt k 1024 && nat_lt above n then Some (Exit (name.Worker g k) n) else None
exit_of heirs above (row.Master n q i live) = if live && is_in heirs i && nat_lt above n then Some (Exit (name.Master i) n) else None
exit_of heirs above (row.Foreign n) = None

-- The exits before a call that matter, and the fates of the call that take effect.
abbrev pub mishaps_at : Handed → ℕ → Call → List ℕ → ℕ → Table → List Mishap
mishaps_at handed by call heirs above t = filter_map (exit_of heirs above) (map row_of t.rows) ++ map Fail (filter (takes_effect handed by call t) all_fates)

-- What more can go wrong at the call of a mishap, where the table is the one after it: of two exits before one call the process
-- with the lower number exits first, and a call fails in one way.
abbrev pub beside : Handed → ℕ → Call → List ℕ → Mishap → Table → List Mishap
beside handed by call heirs (Exit n q) t = mishaps_at handed by call heirs q t
beside handed by call heirs (Fail f) t = []

-- What can go wrong at call number n, behind an event where there is one.
abbrev pub open_at : Handed → ℕ → Call → List ℕ → Option Event → ℕ → Table → List Mishap
open_at handed by call heirs None n t = mishaps_at handed by call heirs 0 t
open_at handed by call heirs (Some e) n t =
    if nat_lt n e.number then [] else if n == e.number then beside handed by call heirs e.mishap t else mishaps_at handed by call heirs 0 t

-- Who has yet to take over, at a call and after it: nobody from the old master's Leave on.
abbrev pub waiting : Call → List ℕ → List ℕ
waiting call heirs = if is_leave_call call then [] else heirs

abbrev pub event_at : ℕ → Mishap → Event
event_at n m = record { number = n; mishap = m }

-- The events that these calls meet under a pattern, behind an event where there is one: the first call is number n + 1, and this
-- is the table before it.
abbrev pub met : Handed → Option Event → Pattern → List ℕ → ℕ → Table → List Entry → List Event
met handed last pattern heirs n t [] = []
met handed last pattern heirs n t (e ∷ entries) =
    let moment = pattern (n + 1) in
    let middle = after_exits moment.exits t in
    map (event_at (n + 1)) (open_at handed e.by e.call (waiting e.call heirs) last (n + 1) middle)
    ++ met handed last pattern (waiting e.call heirs) (n + 1) (step_with handed e.by e.call moment.fate middle).table entries
