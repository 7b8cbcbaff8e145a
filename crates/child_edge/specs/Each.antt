-- What is asked of several children, or by several lines.
use Rattle.std.specs.Prelude.{ℕ, Bool, true, false, List, [], ◌∷◌, ◌++◌, Option, Some, None, codes, if◌then◌else◌}
use Rattle.child_family.specs.Talk.{Talk, says, hears, stops_child, awaits_child}
use Rattle.child_workers.specs.declared.worker.Worker.{Worker}
use Rattle.child_workers.specs.declared.who.Who.{Who}
use Rattle.child_workers.specs.Workers.{means, with_number_of}
use Rattle.child_workers.specs.declared.who.Who.TheVariants.{IsReady}
use Rattle.child_family.specs.Lines.{is_line, is_going, beat_of}

-- a line to each worker that is meant, in order, whatever becomes of it
abbrev pub says_each : {A : Type 0} → Who → List ℕ → List Worker → Talk A → Talk A
says_each who text [] rest = rest
says_each who text (w ∷ ws) rest = if means who w then says w.id text (λ ok. says_each who text ws rest) else says_each who text ws rest

-- lines to one child, whatever becomes of them
abbrev pub says_lines : {A : Type 0} → ℕ → List (List ℕ) → Talk A → Talk A
says_lines id [] rest = rest
says_lines id (text ∷ texts) rest = says id text (λ ok. says_lines id texts rest)

-- lines to one child, up to the first that cannot be said
abbrev pub says_unless : {A : Type 0} → ℕ → List (List ℕ) → Talk A → Talk A → Talk A
says_unless id [] otherwise rest = rest
says_unless id (text ∷ texts) otherwise rest = says id text (λ ok. if ok then says_unless id texts otherwise rest else otherwise)

-- each worker that is meant is stopped, in order
abbrev pub stops_each : {A : Type 0} → Who → List Worker → Talk A → Talk A
stops_each who [] rest = rest
stops_each who (w ∷ ws) rest = if means who w then stops_child w.id (stops_each who ws rest) else stops_each who ws rest

-- Each worker that is meant is heard, in order. One that says `pong` stays; any other is stopped at once, and is no worker any
-- more. What follows is told who is left; `before` is who is left of those before.
abbrev pub counts_each : {A : Type 0} → Who → List Worker → List Worker → (List Worker → Talk A) → Talk A
counts_each who before [] rest = rest before
counts_each who before (w ∷ ws) rest =
    if means who w
    then hears w.id (λ h. if is_line (codes "pong") h then counts_each who (before ++ w ∷ []) ws rest else stops_child w.id (counts_each who before ws rest))
    else counts_each who (before ++ w ∷ []) ws rest

-- Each worker that is meant is heard, in order. One that says `gone`, or nothing more, is waited for, and is no worker any more.
-- With the first that says something else it ends. What follows is told who is left, and whether somebody was late.
abbrev pub awaits_each : {A : Type 0} → Who → List Worker → List Worker → (List Worker → Bool → Talk A) → Talk A
awaits_each who before [] rest = rest before false
awaits_each who before (w ∷ ws) rest =
    if means who w
    then hears w.id (λ h. if is_going h then awaits_child w.id (λ ok. awaits_each who before ws rest) else rest (before ++ w ∷ ws) true)
    else awaits_each who (before ++ w ∷ []) ws rest

-- a worker with the start that it named in its last beat, if it beat now
abbrev pub beaten : Option ℕ → Worker → Worker
beaten None w = w
beaten (Some start) w = record w { beat = Some start }

-- the numbers with that of a worker that beat now
abbrev pub with_beat : Option ℕ → Worker → List ℕ → List ℕ
with_beat None w numbers = numbers
with_beat (Some start) w numbers = with_number_of w numbers

-- Each ready worker is heard, in order. What follows is told the workers with their beats, and the numbers of those that beat now.
abbrev pub beats_each : {A : Type 0} → ℕ → List Worker → List ℕ → List Worker → (List Worker → List ℕ → Talk A) → Talk A
beats_each now before numbers [] rest = rest before numbers
beats_each now before numbers (w ∷ ws) rest =
    if means IsReady w
    then hears w.id (λ h. beats_each now (before ++ beaten (beat_of now h) w ∷ []) (with_beat (beat_of now h) w numbers) ws rest)
    else beats_each now (before ++ w ∷ []) numbers ws rest
