use Rattle.std.proofs.Common.{◌≡◌, ◌+◌, length, map, drop}
use Rattle.toml.specs.View.{view}
use Rattle.master_config.specs.Values.{text_of}
use Rattle.master_config.specs.Listening.{listeners_after}
use Rattle.master_config.proofs.listening.read_all.Given as goal

-- what is left leads to what all lead to
abbrev pub invariant-loop-index : goal.invariant-loop-index
invariant-loop-index l =
    let texts = map (λ v. text_of (view v)) l.items.items in
    record {
      count : length l.listeners ≡ length l.before + l.index;
      leads : listeners_after l.listeners l.index (drop l.index texts) ≡ listeners_after l.before 0 texts;
    }
