use Rattle.std.proofs.Common.{◌+◌, ◌++◌, ◌∷◌, [], ◌≤◌, length, take, ap, sym, subst, ◌∙◌, arith}
use Rattle.std.proofs.lemmas.List.{length-take}
use Rattle.listener_set.specs.AddressList.{AreDistinct}
use Rattle.master_listeners.specs.Listeners.{AreListed}
use Rattle.master_listeners.proofs.Listed.{AreListedFrom-listeners_from, AreDistinct-take, length-listeners_from_take, listeners_from_more}
use Rattle.master_listeners.proofs.listeners.Listeners.from_set.Goals as goal

pub push-requires-clause-room : goal.push-requires-clause-room
push-requires-clause-room c =
    let most : length c.as_slice-all.result.now ≤ 64 = rw (← c.as_slice-all.ensures.items) at c.as_slice-all.ensures.most in
    let n = ap length c.loop-place.invariant ∙ length-listeners_from_take c.as_slice-all.result.now c.loop-place.place c.index-all-place.result c.loop-place-test.true c.index-all-place.is in
    omega (arith, n)

pub push-requires-clause-listed : goal.push-requires-clause-listed
push-requires-clause-listed c =
    let all = c.as_slice-all.result.now in
    let i = c.loop-place.place in
    let most : length all ≤ 64 = rw (← c.as_slice-all.ensures.items) at c.as_slice-all.ensures.most in
    let distinct : AreDistinct all = rw (← c.as_slice-all.ensures.items) at c.as_slice-all.ensures.distinct in
    let more =
    (λ j. c.loop-place.invariant j ++ c.nth.ensures j ∷ [])
    ∙ listeners_from_more all i c.index-all-place.result c.loop-place-test.true c.index-all-place.is in
    subst AreListed (sym more) (AreListedFrom-listeners_from 3 (take (i + 1) all) (AreDistinct-take (i + 1) all distinct) (omega (arith, length-take (i + 1) all)))

pub loop-place-preserved : goal.loop-place-preserved
loop-place-preserved c =
    c.push.ensures
    ∙ (λ j. c.loop-place.invariant j ++ c.nth.ensures j ∷ [])
    ∙ listeners_from_more c.as_slice-all.result.now c.loop-place.place c.index-all-place.result c.loop-place-test.true c.index-all-place.is
