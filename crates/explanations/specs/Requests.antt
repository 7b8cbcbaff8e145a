-- Which requests ask for more than the line of a fault.
use Rattle.std.specs.Prelude.{Bool, false}
use Rattle.command_line.specs.declared.Request.{Request}
use Rattle.command_line.specs.declared.Request.TheVariants.{Enact, Plan, Explore, Certify, Supervise}

abbrev pub asks_why : Request → Bool
asks_why (Enact options) = options.start.why
asks_why (Plan options) = options.start.why
asks_why (Explore options) = options.start.why
asks_why (Certify options) = options.start.why
asks_why (Supervise options) = options.why
asks_why request = false
