use Rattle.std.proofs.Common.{◌≡◌, ◌<◌, length, vec_len, slice_get, sym, ◌∙◌, ap, arith}
use Rattle.std.proofs.lemmas.List.{length-map}
use Rattle.plan_walk.specs.Log.{Told}
use Rattle.plan_walk.specs.Slots.{entry_in}
use Rattle.plan_walk.proofs.Kept.{whole-at}
use Rattle.plan_walk.proofs.call_log.Transcript.get.Goals as goal

pub returns-in-Whole : goal.returns-in-Whole
returns-in-Whole c =
    let whole = c.self.inside.whole in
    let slots = c.self.inside.slots.items in
    let count : vec_len whole ≡ length whole.items = omega arith in
    let same = ap (λ (t : Told). length t.entries) c.self.view_is in
    let within : c.args.place < length slots = omega (arith, c.requires, same, length-map slots (entry_in whole.items)) in
    ap (λ (t : Told). slice_get t.entries c.args.place) (sym c.self.view_is)
    ∙ whole-at whole.items slots (vec_len whole) c.args.place c.in-Whole.at c.index.result.now c.index-in-Whole.result.now within c.index.ensures c.in-Whole.is c.self.invariant.kept count c.index-in-Whole.ensures
