-- How long a child may keep its master waiting, by the options.
use Rattle.std.specs.Prelude.{ℕ, ◌*◌, min, unwrap_or}
use Rattle.command_line.specs.declared.options.LimitOptions.{LimitOptions}
use Rattle.child_processes.specs.declared.limits.ChildLimits.{ChildLimits}

-- without a limit of its own a child has eight times as long to be ready as for an answer
abbrev pub limits_of : LimitOptions → ChildLimits
limits_of options =
    let answer : ℕ = unwrap_or options.answer_within 0 in
    record {
      answer = answer;
      ready = unwrap_or options.ready_within (min (answer * 8) 4294967295);
    }
