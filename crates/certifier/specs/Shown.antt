-- What the entries of a transcript show of the moments before their calls.
use Rattle.std.specs.Prelude.{ℕ, zero, suc, nat_lt, Bool, true, false, List, [], ◌∷◌, map, Option, Some, None, unwrap_or, slice_get, if◌then◌else◌}
use Rattle.listener_set.specs.Numbers.{lacks}
use Rattle.definitions.specs.Table.{Table}
use Rattle.definitions.specs.Calls.{Name, after_exits, Call, Answer, AwaitReady, Alive, Census, Fate, Stepped}
use Rattle.definitions.specs.Calls.{step_with, Handed}
use Rattle.vocabulary.specs.declared.names.Name.TheVariants as name
use Rattle.vocabulary.specs.declared.calls.Answer.TheVariants as answer
use Rattle.vocabulary.specs.declared.calls.Fate.TheVariants as fate
use Rattle.definitions.specs.Run.{reply_of, same_reply, Entry, Moment, Pattern}
use Rattle.call_laws.specs.Pieces.{quiet}

-- The fate that makes a call fail so; other answers are no faults.
abbrev pub fate_of : Answer → Option Fate
fate_of answer.InUse = Some fate.InUse
fate_of answer.TooMany = Some fate.TooMany
fate_of answer.Denied = Some fate.Denied
fate_of answer.NoMemory = Some fate.NoMemory
fate_of answer.Again = Some fate.Again
fate_of answer.Late = Some fate.Late
fate_of answer.NoImage = Some fate.NoImage
fate_of answer.Refused = Some fate.Refused
fate_of answer.IoFault = Some fate.IoFault
fate_of answer.Back = Some fate.Back
fate_of _ = None

-- who is found gone: the worker that is waited for, whose number is below 1024, or the master that is asked about
abbrev pub awaited_one : Call → List Name
awaited_one (Alive image) = name.Master image ∷ []
awaited_one (AwaitReady g k) = if nat_lt k 1024 then name.Worker g k ∷ [] else []
awaited_one _ = []

-- the name, where there is one
abbrev pub named : Option Name → List Name
named None = []
named (Some one) = one ∷ []

-- Who is found gone by an answer.
abbrev pub found_gone : ℕ → Call → Answer → List Name
found_gone by call answer.MasterGone = name.Master by ∷ []
found_gone by call answer.Gone = awaited_one call
found_gone by call _ = []

-- the workers of the generation that a census counts
abbrev pub workers_named : Call → List ℕ → List Name
workers_named (Census g) ks = map (name.Worker g) ks
workers_named _ ks = []

-- Who was Ready, and is not counted.
abbrev pub uncounted : Call → Answer → Answer → List Name
uncounted call (answer.Counted counted) (answer.Counted ready) = workers_named call (lacks ready counted)
uncounted call _ _ = []

-- an answer that counts workers
abbrev pub is_count : Answer → Bool
is_count (answer.Counted counted) = true
is_count _ = false

-- What an answer shows of the moment before its call: nothing, where the call is answered so by itself, but the exits of the
-- workers that a census does not count; else who is found gone, and the fault.
abbrev pub moment_by : Answer → Entry → Moment
moment_by own e =
    if same_reply (reply_of [] own) (reply_of [] e.answer)
    then record { exits = uncounted e.call e.answer own; fate = None }
    else record { exits = found_gone e.by e.call e.answer; fate = fate_of e.answer }

-- The moment that an entry shows on the table before it.
abbrev pub moment_shown : Handed → Table → Entry → Moment
moment_shown handed t e = moment_by (step_with handed e.by e.call None t).answer e

-- what an entry's call gives at a moment
abbrev pub stepped_at : Handed → Table → Moment → Entry → Stepped
stepped_at handed t m e = step_with handed e.by e.call m.fate (after_exits m.exits t)

-- The moments that entries show, each on the table that those before it lead to.
abbrev pub moments_shown : Handed → Table → List Entry → List Moment
moments_shown handed t [] = []
moments_shown handed t (e ∷ entries) =
    let m = moment_shown handed t e in m ∷ moments_shown handed (stepped_at handed t m e).table entries

-- The pattern of some moments, the first being number 1. All others are quiet.
abbrev pub pattern_of : List Moment → Pattern
pattern_of moments zero = quiet
pattern_of moments (suc n) = unwrap_or (slice_get moments n) quiet
