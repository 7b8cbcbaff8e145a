-- What is told as JSON.
use Rattle.std.specs.Prelude.{Bool, false}
use Rattle.command_line.specs.declared.Request.{Request}
use Rattle.command_line.specs.declared.Request.TheVariants.{Enact, Plan, Explore, Certify, Check}
use Rattle.faults.specs.declared.fault.Fault.{Fault}
use Rattle.faults.specs.declared.fault.Fault.TheVariants.{Usage, Memory}

abbrev pub asks_json : Request → Bool
asks_json (Enact options) = options.start.json
asks_json (Plan options) = options.start.json
asks_json (Explore options) = options.start.json
asks_json (Certify options) = options.start.json
asks_json (Check options) = options.json
asks_json request = false

-- An invalid command line has no answer, and without memory none can be made.
abbrev pub is_told_as_json : Request → Fault → Bool
is_told_as_json request Usage = false
is_told_as_json request Memory = false
is_told_as_json request fault = asks_json request
