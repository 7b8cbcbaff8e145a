use Rattle.std.proofs.Common.{◌≡◌, [], get_or, cond, ◌∙◌, ap, sym}
use Rattle.std.proofs.lemmas.List.{get_or_read}
use Rattle.listener_set.specs.AddressList.{has}
use Rattle.listener_set.specs.Numbers.{with_number}
use Rattle.listener_set.proofs.NumberSets.{filter_below-more}
use Rattle.plan_rollout.proofs.spots.places_of.Goals as goal

pub loop-place-preserved : goal.loop-place-preserved
loop-place-preserved c =
    let own = c.args.own.now in
    let addresses = c.args.addresses.now in
    let i = c.loop-place.place in
    let b = c.is_among-is_own.result in
    let here = get_or_read addresses i c.index-addresses-place.result c.loop-place-test.true
    c.index-addresses-place.is [] in
    let there : has own (get_or addresses i []) ≡ b = ap (has own) (sym here) ∙ sym c.is_among-is_own.ensures in
    c.with_number_if-places.ensures ∙ (ap (λ ns. cond b (with_number ns i) ns) c.loop-place.invariant ∙
    sym (filter_below-more (λ j. has own (get_or addresses j [])) i b there))
