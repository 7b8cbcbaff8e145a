-- What a new master does at each line.
use Rattle.std.specs.Prelude.{◌≡◌, ℕ, List, [], Option, Some, None, codes}
use Rattle.definitions.specs.Calls.{Call, SpawnMaster, Answer}
use Rattle.vocabulary.specs.declared.calls.Answer.TheVariants.{Counted}
use Rattle.call_text.specs.CallText.{answer_text}
use Rattle.child_programs.specs.declared.master.Spawn.{Spawn}
use Rattle.child_programs.specs.Requests.{MasterRequest, IsAlive, Tick, Make, request_of, Part, More, Whole, Other, part_of, with_line}
use Rattle.child_programs.specs.Response.{Response, quiet, says, fails}

-- What it waits for: a line that asks something, or the next line of the handover of a master that it is to start. That one has
-- who starts it, its image, and the text so far.
pub data Waits : Type 0 where
  for_requests : Waits
  for_handover : ℕ → ℕ → List ℕ → Waits

abbrev pub waits_of : Option Spawn → List ℕ → Waits
waits_of None text = for_requests
waits_of (Some s) text = for_handover s.by s.image text

-- What a line asks of it: nothing yet; to say that it is alive; to tick its workers; a call, with the text of a handover; or it is
-- a line that it cannot be told then.
pub data Asked : Type 0 where
  nothing : Asked
  alive : Asked
  ticks : ℕ → Asked
  calls : ℕ → Call → List ℕ → Asked
  other : Asked

-- A call that starts a master waits for the handover that follows it; each other one is made at once.
abbrev pub called : ℕ → Call → Asked × Waits
called by (SpawnMaster image) = (nothing, for_handover by image [])
called by call = (calls by call [], for_requests)

abbrev pub requested : Option MasterRequest → Asked × Waits
requested None = (other, for_requests)
requested (Some IsAlive) = (alive, for_requests)
requested (Some (Tick now)) = (ticks now, for_requests)
requested (Some (Make made)) = called made.by made.call

abbrev pub handed : ℕ → ℕ → List ℕ → List ℕ → Part → Asked × Waits
handed by image text line More = (nothing, for_handover by image (with_line text line))
handed by image text line Whole = (calls by (SpawnMaster image) (with_line text line), for_requests)
handed by image text line Other = (other, for_handover by image text)

abbrev pub asked : Waits → List ℕ → Asked × Waits
asked for_requests line = requested (request_of line)
asked (for_handover by image text) line = handed by image text line (part_of line)

-- What comes of a line: a call is made by who answers, and its answer is said; at a tick those that beat are counted; nothing else
-- changes who answers.
abbrev pub IsHeard : {M : Type 0} → (M → ℕ → Call → List ℕ → M → Answer → Type 0) → (M → ℕ → M → List ℕ → Type 0) → Asked → M → M → Response → Type 0
IsHeard answers beats nothing old new r = (r ≡ quiet) × (new ≡ old)
IsHeard answers beats alive old new r = (r ≡ says (codes "alive")) × (new ≡ old)
IsHeard answers beats (ticks now) old new r = (numbers : List ℕ) × (r ≡ says (answer_text (Counted numbers))) × beats old now new numbers
IsHeard answers beats (calls by call text) old new r = (a : Answer) × (r ≡ says (answer_text a)) × answers old by call text new a
IsHeard answers beats other old new r = (r ≡ fails) × (new ≡ old)
