use Rattle.std.proofs.Common.{◌≡◌, ◌++◌, ◌∷◌, [], length, vec_len, true, ◌∙◌, ap, subst, arith}
use Rattle.plan_walk.specs.Log.{Told}
use Rattle.plan_walk.specs.Slots.{are_kept}
use Rattle.plan_walk.proofs.Kept.{kept-pushed, pushed-whole}
use Rattle.plan_walk.proofs.call_log.Transcript.push.Goals as goal

pub invariant_of-self-in-None : goal.invariant_of-self-in-None
invariant_of-self-in-None c =
    let was = c.self.invariant in
    let room = ap (λ (t : Told). t.room) c.self.view_is in
    record {
      slots = omega (arith, was.slots, c.requires, room, c.push_reserved-in-None-2.ensures.len, c.push_reserved-in-None-2.ensures.capacity);
      whole = omega (arith, was.whole, c.requires, room, c.push_reserved-in-None.ensures.len, c.push_reserved-in-None.ensures.capacity);
      few = omega (arith, was.few, c.requires, room, c.push_reserved-in-None-2.ensures.len);
      fewer = omega (arith, was.fewer, c.push_reserved-in-None.ensures.len, c.push_reserved-in-None-2.ensures.len);
      kept = kept-pushed _ _ _ _ _ c.len-place.ensures c.push_reserved-in-None.ensures.len c.push_reserved-in-None-2.ensures.items was.kept;
    }

pub returns-in-None-clause-entries : goal.returns-in-None-clause-entries
returns-in-None-clause-entries c =
    let count : vec_len c.self.inside.whole ≡ length c.self.inside.whole.items = omega arith in
    pushed-whole c.self.inside.whole.items _ c.args.entry.now c.self.inside.slots.items _ _ (c.len-place.ensures ∙ count) c.push_reserved-in-None.ensures.items c.push_reserved-in-None-2.ensures.items (subst (λ n. are_kept n c.self.inside.slots.items ≡ true) count c.self.invariant.kept)
    ∙ ap (λ (t : Told). t.entries ++ c.args.entry.now ∷ []) c.self.view_is
