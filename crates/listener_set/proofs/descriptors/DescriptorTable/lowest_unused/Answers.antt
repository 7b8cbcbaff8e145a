use Rattle.std.proofs.Common.{refl, ◌+◌, ◌<◌, ◌≤◌, ap, sym, ◌∙◌, length, arith, true≢false}
use Rattle.std.specs.Prelude.{is_some}
use Rattle.listener_set.specs.Descriptors.{socket_of, lowest_unused, descriptors_of, pairs_of}
use Rattle.listener_set.specs.DescriptorLemmas.{socket_of-pairs_of}
use Rattle.listener_set.specs.Slots.{IsFirstFree}
use Rattle.listener_set.proofs.DescriptorSlots.{lowest_unused_is, length-free, length-front, length-most}
use Rattle.listener_set.proofs.descriptors.DescriptorTable.lowest_unused.Goals as goal

first : (c : goal.In_ok-place) → IsFirstFree c.self.inside.slots c.in_ok-place.place
first c = rw c.in_ok-place.was at c.first_empty.ensures.some

pub returns-clause-lowest : goal.returns-clause-lowest
returns-clause-lowest c =
    let f = first c in
    lowest_unused_is c.self.inside.slots c.in_ok-place.place f.within f.free f.taken ∙ ap (λ ps. lowest_unused (descriptors_of ps)) c.self.view_is

pub returns-clause-free : goal.returns-clause-free
returns-clause-free c =
    ap (λ ps. socket_of ps (3 + c.in_ok-place.place)) (sym c.self.view_is) ∙ socket_of-pairs_of 3 c.self.inside.slots c.in_ok-place.place ∙ (first c).free

pub returns-clause-full : goal.returns-clause-full
returns-clause-full c =
    let f = first c in
    let less : length (pairs_of 3 c.self.inside.slots) < length c.self.inside.slots = length-free 3 c.self.inside.slots c.in_ok-place.place f.within f.free in
    (λ no. absurd (true≢false no), λ full. absurd (omega (arith, less, c.self.invariant, ap length c.self.view_is)))

pub returns-in_err-place-clause-full : goal.returns-in_err-place-clause-full
returns-in_err-place-clause-full c =
    let slots = c.self.inside.slots in
    let all : 64 ≤ length (pairs_of 3 slots) = length-front 3 slots 64 (omega (arith, c.self.invariant)) (rw c.in_err-place.was at c.first_empty.ensures.none refl) in
    let most : length (pairs_of 3 slots) ≤ length slots = length-most 3 slots in
    (λ _. omega (arith, all, most, c.self.invariant, ap length c.self.view_is), λ _. ap is_some c.from_residual.ensures)
