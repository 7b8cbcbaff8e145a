use Rattle.std.proofs.Common.{sym, ◌∙◌}
use Rattle.std.proofs.lemmas.Iterator.Consumers.{YieldsList-from_first, nth_from_yields_List}
use Rattle.kernel_model.proofs.Reading.{option_map-same}
use Rattle.kernel_model.proofs.readers.pair_at.Goals as goal

pub returns : goal.returns
returns c =
    sym (option_map-same c.nth.result)
    ∙ nth_from_yields_List c.nth.result _ c.args.i c.nth.ensures.ran (YieldsList-from_first (λ x. x) (λ s. s) c.args.holds.now c.iter.ensures.pairs)
