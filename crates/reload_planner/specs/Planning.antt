-- What a planner promises of a plan's size, and when there is none.
use Rattle.std.specs.Prelude.{ℕ, ◌+◌, ◌*◌, Bool, false, length, is_some}
use Rattle.definitions.specs.Master.{Record, numbers_wanted, addresses_wanted}
use Rattle.vocabulary.specs.declared.targets.Target.{Target}
use Rattle.vocabulary.specs.declared.targets.Target.TheVariants.{Workers, Mend, Reopen, Reload, Upgrade, Attended, Stop}
use Rattle.definitions.specs.After.{next_image}

-- how many steps a plan has at most, by the workers that are ready and those that are wanted, the addresses before and after,
-- and the rounds of a settle
abbrev pub most_steps : Record → Target → ℕ
most_steps r t =
    9 * (length r.ready + length (numbers_wanted r t)) + 3 * (length r.listeners + length (addresses_wanted r t)) + 16 * r.retries + 48

-- an upgrade that has a generation: it is planned apart
abbrev pub is_apart : Record → Target → Bool
is_apart r (Workers n) = false
is_apart r (Mend overdue) = false
is_apart r Reopen = false
is_apart r (Reload s) = false
is_apart r (Upgrade s) = is_some (next_image r.generation)
is_apart r (Attended s) = is_some (next_image r.generation)
is_apart r (Stop quick) = false
