-- What settings keep by themselves.
use Rattle.std.specs.Prelude.{⊤}
use Rattle.vocabulary.specs.Settings.{IsInRange}
use Rattle.vocabulary.specs.declared.targets.Target.{Target}
use Rattle.vocabulary.specs.declared.targets.Target.TheVariants.{Workers, Mend, Reopen, Reload, Upgrade, Attended, Stop}

-- what a target's settings say is in range
abbrev pub HasRange : Target → Type 0
HasRange (Workers n) = ⊤
HasRange (Mend overdue) = ⊤
HasRange Reopen = ⊤
HasRange (Reload s) = IsInRange s
HasRange (Upgrade s) = IsInRange s
HasRange (Attended s) = IsInRange s
HasRange (Stop quick) = ⊤
