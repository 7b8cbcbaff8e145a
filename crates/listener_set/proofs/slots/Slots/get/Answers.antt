use Rattle.std.proofs.Common.{refl, ◌≢◌, ◌≡◌, ◌<◌, ◌≤◌, ◌==◌, ℕ, true, false, None, Some, get_or, ltb, length, ap, sym, ◌∙◌, arith}
use Rattle.std.proofs.lemmas.Bool.Decides.{nat_tests}
use Rattle.std.proofs.lemmas.List.{get_or_past}
use Rattle.std.proofs.lemmas.Nat.Bits.{shr_and_one}
use Rattle.std.specs.Int.{bit_at}
use Rattle.listener_set.specs.SlotLemmas.{length-slots_in, get_or-slots_in}
use Rattle.listener_set.proofs.slots.Slots.get.Goals as goal

pub returns-in_err-socket-clause-socket : goal.returns-in_err-socket-clause-socket
returns-in_err-socket-clause-socket c =
    let slots = c.args.self.now in
    let long : length slots ≡ 64 = sym (ap length c.self.view_is) ∙ length-slots_in c.self.inside.taken c.self.inside.sockets in
    let off : ltb c.args.place (length c.self.inside.sockets) ≡ false = sym c.in_err-socket.ensures.lookup.0 in
    let past : length slots ≤ c.args.place = (let over : length c.self.inside.sockets ≤ c.args.place = grind (arith, nat_tests) in omega (arith, long, c.self.invariant.count)) in
    c.from_residual.ensures ∙ sym (get_or_past slots c.args.place None past)

small : (place count : ℕ) → count ≡ 64 → true ≡ ltb place count → place < 64
small place count e on = let less : place < count = grind (arith, nat_tests) in omega (arith, less)

pub returns-then-self-place-eq1-clause-socket : goal.returns-then-self-place-eq1-clause-socket
returns-then-self-place-eq1-clause-socket c =
    let lt : c.args.place < 64 = small c.args.place (length c.self.inside.sockets) c.self.invariant.count c.in_ok-socket.ensures.lookup.0 in
    let one : bit_at c.self.inside.taken c.args.place ≡ 1 = sym (shr_and_one c.self.inside.taken c.args.place) ∙ c.if-self-place-eq1.true in
    sym (sym (ap (λ slots. get_or slots c.args.place None) c.self.view_is) ∙ get_or-slots_in c.self.inside.taken c.self.inside.sockets c.args.place lt ∙ rw one (ap Some (sym (c.in_ok-socket.ensures.lookup.4 (omega (arith, lt, c.self.invariant.count)) 0))))

pub returns-else-self-place-eq1-clause-socket : goal.returns-else-self-place-eq1-clause-socket
returns-else-self-place-eq1-clause-socket c =
    let lt : c.args.place < 64 = small c.args.place (length c.self.inside.sockets) c.self.invariant.count c.in_ok-socket.ensures.lookup.0 in
    let off : (bit_at c.self.inside.taken c.args.place == 1) ≡ false = (let none : bit_at c.self.inside.taken c.args.place ≢ 1 = (λ e. c.if-self-place-eq1.false (shr_and_one c.self.inside.taken c.args.place ∙ e)) in grind (arith, nat_tests)) in
    sym (sym (ap (λ slots. get_or slots c.args.place None) c.self.view_is) ∙ get_or-slots_in c.self.inside.taken c.self.inside.sockets c.args.place lt ∙ rw off refl)

pub returns-in_err-socket-clause-count : goal.returns-in_err-socket-clause-count
returns-in_err-socket-clause-count c = sym (ap length c.self.view_is) ∙ length-slots_in c.self.inside.taken c.self.inside.sockets

pub returns-then-self-place-eq1-clause-count : goal.returns-then-self-place-eq1-clause-count
returns-then-self-place-eq1-clause-count c = sym (ap length c.self.view_is) ∙ length-slots_in c.self.inside.taken c.self.inside.sockets

pub returns-else-self-place-eq1-clause-count : goal.returns-else-self-place-eq1-clause-count
returns-else-self-place-eq1-clause-count c = sym (ap length c.self.view_is) ∙ length-slots_in c.self.inside.taken c.self.inside.sockets
