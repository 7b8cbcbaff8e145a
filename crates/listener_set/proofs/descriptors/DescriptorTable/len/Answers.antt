use Rattle.std.proofs.Common.{◌≡◌, suc, ◌+◌, Bool, true, false, cond, None, get_or, sym, ap, ◌∙◌, arith, length, take}
use Rattle.std.specs.Prelude.{is_some}
use Rattle.listener_set.proofs.DescriptorSlots.{used, used-more, length-of-used, length-most, are_descriptors}
use Rattle.listener_set.proofs.descriptors.DescriptorTable.len.Goals as goal
use Rattle.listener_set.proofs.descriptors.DescriptorTable.len.Goals.{then-is_some, else-is_some}

pub returns-clause-count : goal.returns-clause-count
returns-clause-count c =
    let all : c.loop-place.place ≡ length c.self.inside.slots = omega (arith, c.self.invariant, c.loop-place.auto.place-end, c.loop-place-test.false) in
    c.loop-place.invariant.0
    ∙ ap (λ k. used (take k c.self.inside.slots)) all
    ∙ length-of-used 3 c.self.inside.slots ∙ ap length c.self.view_is

pub returns-clause-most : goal.returns-clause-most
returns-clause-most c = omega (arith, length-most 3 c.self.inside.slots, ap length c.self.view_is)

pub returns-clause-descriptors : goal.returns-clause-descriptors
returns-clause-descriptors c = rw c.self.view_is at (are_descriptors c.self.inside.slots c.self.invariant)

-- whether one slot more has a socket
more : (c : goal.Joined-is_some) (b : Bool) → c.is_some.result ≡ b → used (take (c.loop-place.place + 1) c.self.inside.slots) ≡ c.loop-place.count + cond b 1 0
more c b is =
    let slots = c.self.inside.slots in
    let here : is_some (get_or slots c.loop-place.place None) ≡ b = ap is_some (sym c.get.ensures.socket) ∙ sym c.is_some.ensures ∙ is in
    let step : used (take (suc c.loop-place.place) slots) ≡ used (take c.loop-place.place slots) + cond (is_some (get_or slots c.loop-place.place None)) 1 0 =
    used-more slots c.loop-place.place (omega (arith, c.self.invariant, c.loop-place-test.true)) in
    let next : c.loop-place.place + 1 ≡ suc c.loop-place.place = omega arith in
    ap (λ k. used (take k slots)) next ∙ step ∙ ap (λ d. used (take c.loop-place.place slots) + cond d 1 0) here ∙ ap (λ n. n + cond b 1 0) (sym c.loop-place.invariant.0)

pub loop-place-preserved : goal.loop-place-preserved
loop-place-preserved c = elim c.if-is_some.branch [
  | then-is_some w ↦ (w.count-is ∙ sym (more c true w.if-is_some.true), omega (arith, w.count-is, c.loop-place.invariant.1))
  | else-is_some w ↦ (let same = more c false w.if-is_some.false in omega (arith, w.count-is, same), omega (arith, w.count-is, c.loop-place.invariant.1))
]
