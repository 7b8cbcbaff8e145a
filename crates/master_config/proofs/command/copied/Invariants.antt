use Rattle.std.proofs.Common.{◌≡◌, map, take, string_bytes}
use Rattle.toml.specs.View.{view}
use Rattle.master_config.specs.Values.{text_of}
use Rattle.master_config.proofs.command.copied.Given as goal

abbrev pub invariant-loop-item : goal.invariant-loop-item
invariant-loop-item l = map string_bytes l.texts.items ≡ map (λ v. text_of (view v)) (take l.item-index l.items.items)
