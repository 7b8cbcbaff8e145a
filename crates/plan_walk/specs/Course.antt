-- What a contract sees of a course.
use Rattle.std.specs.Prelude.{List, drop}
use Rattle.definitions.specs.Plans.{Turn}
use Rattle.definitions.specs.Master.{Sides}
use Rattle.plan_walk.specs.Path.{Trail}
use Rattle.plan_walk.specs.declared.course.Course.{Course}
use Rattle.plan_walk.specs.Walk.{trail_under, sides_in}

-- the turns that are given
abbrev pub turns_of : Course → List Turn
turns_of c = c.turns.now

-- those that are left
abbrev pub turns_left : Course → List Turn
turns_left c = drop c.used c.turns.now

-- its trail
abbrev pub trail_on : Course → Trail
trail_on c = trail_under c.walk (turns_left c)

-- the groups of both sides
abbrev pub sides_on : Course → Sides
sides_on c = sides_in c.walk
