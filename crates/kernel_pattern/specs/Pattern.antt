-- Patterns by the moments that are not quiet.
use Rattle.std.specs.Prelude.{ℕ, Bool, true, false, ◌≡◌, ◌≤◌, ◌<◌, ◌+◌, ◌==◌, List, [], ◌∷◌, ◌++◌, Some, if◌then◌else◌}
use Rattle.std.specs.List.{list_any}
use Rattle.vocabulary.specs.declared.names.Name.{Name}
use Rattle.vocabulary.specs.declared.names.Name.TheVariants.{Worker, Draining, Master}
use Rattle.vocabulary.specs.declared.calls.Fate.{Fate}
use Rattle.definitions.specs.Run.{Moment, Pattern}
use Rattle.call_laws.specs.Pieces.{quiet}
use Rattle.kernel_pattern.specs.declared.moments.Moment.{Moment as Lent}

-- The pattern that these moments make: one that is not listed is quiet.
abbrev pub moment_at : List (ℕ × Moment) → Pattern
moment_at [] n = quiet
moment_at (e ∷ es) n = if e.0 == n then e.1 else moment_at es n

abbrev pub with_exit : Name → Moment → Moment
with_exit name m = record { exits = m.exits ++ name ∷ []; fate = m.fate }

abbrev pub with_fate : Fate → Moment → Moment
with_fate f m = record { exits = m.exits; fate = Some f }

abbrev pub seen_moment : Lent → Moment
seen_moment m = record { exits = m.exits.now; fate = m.fate }

abbrev pub seen_entry : ℕ × Lent → ℕ × Moment
seen_entry e = (e.0, seen_moment e.1)

abbrev pub is_masters : Name → Bool
is_masters (Master i) = true
is_masters (Worker g k) = false
is_masters (Draining g k) = false

-- A master exits at some moment.
abbrev pub names_master : List (ℕ × Moment) → Bool
names_master es = list_any (λ e. list_any is_masters e.1.exits) es

-- a worker's number is at most 1023
abbrev pub IsNameWithin : Name → Type 0
IsNameWithin (Worker g k) = k < 1024
IsNameWithin (Draining g k) = k < 1024
IsNameWithin (Master i) = Unit {0}

abbrev pub AreNamesWithin : List Name → Type 0
AreNamesWithin [] = Unit {0}
AreNamesWithin (name ∷ names) = IsNameWithin name × AreNamesWithin names

-- somebody exits, or the call is made to fail
abbrev pub IsEvent : Moment → Type 0
IsEvent m = m ≡ quiet → ⊥

-- Numbers rise from a number on; no moment is quiet.
abbrev pub RiseFrom : ℕ → List (ℕ × Moment) → Type 0
RiseFrom n [] = Unit {0}
RiseFrom n (e ∷ es) = (n ≤ e.0) × IsEvent e.1 × AreNamesWithin e.1.exits × RiseFrom (e.0 + 1) es

-- From 1 on.
abbrev pub IsPattern : List (ℕ × Moment) → Type 0
IsPattern es = RiseFrom 1 es
