-- What the calls on a table answer.
use Rattle.std.specs.Prelude.{ℕ, nat_lt, Option, Some, None, Result, Ok, Err, if◌then◌else◌}
use Rattle.worker_table.specs.Beats.{Workers, has_worker, beat_of}
use Rattle.worker_table.specs.declared.refusal.TableRefusal.{TableRefusal}
use Rattle.worker_table.specs.declared.refusal.TableRefusal.TheVariants.{Taken, TooHigh, NoSuch, Backwards}

abbrev pub Answer : Type 0
Answer = Result (Unit {0}) TableRefusal

-- whether a number may be put in
abbrev pub adding : Workers → ℕ → Answer
adding workers nr = if nat_lt nr 1024 then (if has_worker workers nr then Err Taken else Ok tt) else Err TooHigh

-- whether a worker may be taken out
abbrev pub removing : Workers → ℕ → Answer
removing workers nr = if has_worker workers nr then Ok tt else Err NoSuch

-- whether a worker with this last beat may beat
abbrev pub beating_after : Option (Option ℕ) → ℕ → Answer
beating_after None now = Err NoSuch
beating_after (Some None) now = Ok tt
beating_after (Some (Some last)) now = if nat_lt now last then Err Backwards else Ok tt

-- whether a worker may beat at a moment
abbrev pub beating : Workers → ℕ → ℕ → Answer
beating workers nr now = beating_after (beat_of workers nr) now
