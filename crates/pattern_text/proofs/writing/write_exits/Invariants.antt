use Rattle.std.proofs.Common.{◌≡◌, ◌++◌, drop}
use Rattle.std.specs.List.{AllByRecursion}
use Rattle.call_text.specs.Ranges.{IsName}
use Rattle.kernel_pattern.specs.Pattern.{AreNamesWithin}
use Rattle.pattern_text.specs.PatternsWriting.{exits_text}
use Rattle.pattern_text.proofs.writing.write_exits.Given as goal

abbrev pub invariant-loop-name : goal.invariant-loop-name
invariant-loop-name l = record {
  written : l.out.items ++ exits_text l.number (drop l.name-index l.exits) ≡ l.fn.out.items ++ exits_text l.number l.exits;
  within : AreNamesWithin (drop l.name-index l.exits);
  names : AllByRecursion IsName (drop l.name-index l.exits) → AllByRecursion IsName l.exits;
}
