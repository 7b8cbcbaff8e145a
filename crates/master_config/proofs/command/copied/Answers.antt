use Rattle.std.proofs.Common.{◌∙◌, sym, ap, map, arith}
use Rattle.std.proofs.lemmas.List.{take_all}
use Rattle.toml.specs.View.{view}
use Rattle.master_config.specs.Values.{text_of}
use Rattle.master_config.proofs.Trees.{texts_of-items_view}
use Rattle.master_config.proofs.command.copied.Goals as goal

pub returns : goal.returns
returns c =
    let vs = c.args.items.now.items in
    c.loop-item.invariant ∙ ap (map (λ v. text_of (view v))) (take_all c.loop-item.item-index vs (omega (arith, c.deref-item-items.ensures.len, c.args.items.now.ok))) ∙ sym (texts_of-items_view vs)
