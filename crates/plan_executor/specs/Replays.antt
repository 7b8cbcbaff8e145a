-- Calls under a pattern, from one table to another.
use Rattle.std.specs.Prelude.{◌≡◌, ℕ, ◌+◌, List, [], ◌∷◌}
use Rattle.vocabulary.specs.declared.reports.Entry.{Entry}
use Rattle.definitions.specs.Table.{Table}
use Rattle.definitions.specs.Calls.{after_exits, step_with, Handed}
use Rattle.definitions.specs.Run.{Pattern}

-- From one table to another by these calls, each of which is handed the same, the first being number n + 1 of the
-- pattern: before each the exits of its moment, and each with the one answer that it can have there.
abbrev pub Replays : Handed → Pattern → ℕ → Table → List Entry → Table → Type 0
Replays handed pattern n t [] last = t ≡ last
Replays handed pattern n t (e ∷ entries) last =
    let moment = pattern (n + 1) in
    let s = step_with handed e.by e.call moment.fate (after_exits moment.exits t) in
    (s.answer ≡ e.answer) × Replays handed pattern (n + 1) s.table entries last
