-- What the lines of a new master are.
use Rattle.std.specs.Prelude.{ℕ, List, [], ◌∷◌, ◌++◌, Option, Some, None, option_map, option_and_then, is_some, bytes_eq, codes, if◌then◌else◌}
use Rattle.plain_text.specs.Cuts.{after_prefix}
use Rattle.plain_text.specs.NumberText.{number64_of}
use Rattle.definitions.specs.Calls.{Call, Adopt, Answer}
use Rattle.vocabulary.specs.declared.calls.Answer.TheVariants.{Refused, MasterGone}
use Rattle.call_text.specs.CallReading.{line_of}
pub use Rattle.child_programs.specs.declared.requests.MasterRequest.{MasterRequest}
pub use Rattle.child_programs.specs.declared.requests.MasterRequest.TheVariants.{IsAlive, Tick, Make}
pub use Rattle.child_programs.specs.declared.handover_lines.Part.{Part}
pub use Rattle.child_programs.specs.declared.handover_lines.Part.TheVariants.{More, Whole, Other}

-- the moment of a tick: `tick NOW`
abbrev pub moment_of : List ℕ → Option ℕ
moment_of line = option_and_then number64_of (after_prefix (codes "tick ") line)

-- a line that asks for an answer: whether the master is alive, a tick, or a call
abbrev pub made_by : ℕ × Call → MasterRequest
made_by c = Make (record { by = c.0; call = c.1 })

abbrev pub tick_or : Option MasterRequest → Option ℕ → Option MasterRequest
tick_or otherwise None = otherwise
tick_or otherwise (Some now) = Some (Tick now)

abbrev pub request_of : List ℕ → Option MasterRequest
request_of line = if bytes_eq line (codes "alive") then Some IsAlive else tick_or (option_map made_by (line_of line)) (moment_of line)

-- what a line is to a handover that is read: its last one, none of it where it asks for an answer, or one more
abbrev pub part_of : List ℕ → Part
part_of line = if bytes_eq line (codes "end") then Whole else if is_some (request_of line) then Other else More

-- a text with a line behind it
abbrev pub with_line : List ℕ → List ℕ → List ℕ
with_line text line = text ++ line ++ 10 ∷ []

-- the text of a handover after a line
abbrev pub text_after : Part → List ℕ → List ℕ → List ℕ
text_after More text line = with_line text line
text_after Whole text line = with_line text line
text_after Other text line = text

-- the answers of a master whose handover was faulty: it took nothing over
abbrev pub refused : Call → Answer
refused Adopt = Refused
refused _ = MasterGone
