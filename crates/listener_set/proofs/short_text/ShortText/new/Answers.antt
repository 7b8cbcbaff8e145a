use Rattle.listener_set.proofs.ShortTexts.{padded}
use Rattle.listener_set.proofs.short_text.ShortText.new.Goals as goal

pub invariant_of-result : goal.invariant_of-result
invariant_of-result c = rw c.copy_from_slice.ensures.after (padded c.args.text.now c.requires)
