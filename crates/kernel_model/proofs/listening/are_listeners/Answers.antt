use Rattle.std.proofs.Common.{◌≡◌, ℕ, ap, sym, ◌∙◌}
use Rattle.std.proofs.lemmas.Bool.{true≢false, false≢true}
use Rattle.std.proofs.lemmas.Slice.Eq.{bytes_eq-Decides}
use Rattle.vocabulary.specs.declared.table.Listener.{Listener}
use Rattle.call_laws.specs.Pieces.{listener_of}
use Rattle.kernel_rows.specs.Holds.{address_of, seen_hold}
use Rattle.kernel_model.proofs.HeldListeners.{next_listeners, all_listeners}
use Rattle.kernel_model.proofs.listening.are_listeners.Goals as goal
use Rattle.kernel_model.proofs.listening.are_listeners.Goals.{then-descriptor-listener-via-then-descriptor-listener}
use Rattle.kernel_model.proofs.listening.are_listeners.Goals.{then-descriptor-listener-via-else-descriptor-listener+then-not-is_socket_at}

pub returns-then-descriptor-listener : goal.returns-then-descriptor-listener
returns-then-descriptor-listener c =
    let addresses = c.args.addresses.now in
    let loop = c.loop-listener in
    let p : ℕ × ℕ = (c.in-Some.descriptor, c.in-Some.socket) in
    let l = c.listener-item.result in (
      (λ t. absurd (false≢true t)),
      (λ e.
          let left = next_listeners addresses c.args.listeners.now loop.pairs c.next.new.self p loop.listener-index l c.in-Some.ensures.steps c.loop-listener-test.true c.listener-item.is (loop.invariant.1 e) in
          let fd : c.in-Some.descriptor ≡ l.descriptor = ap (λ (x : Listener). x.descriptor) left.0 in
          let address : address_of addresses c.in-Some.socket ≡ l.address = ap (λ (x : Listener). x.address) left.0 in
          elim c.then-descriptor-listener.branch [
            | then-descriptor-listener-via-then-descriptor-listener w ↦ absurd (w.if-descriptor-listener.true fd)
            | then-descriptor-listener-via-else-descriptor-listener+then-not-is_socket_at w ↦
                absurd (true≢false (sym ((bytes_eq-Decides (address_of addresses c.in-Some.socket) l.address).1 address) ∙ sym w.is_socket_at.ensures ∙ w.if-not-is_socket_at.true))
          ]),
    )

pub loop-listener-preserved : goal.loop-listener-preserved
loop-listener-preserved c =
    let addresses = c.args.addresses.now in
    let loop = c.loop-listener in
    let p : ℕ × ℕ = (c.in-Some.descriptor, c.in-Some.socket) in
    let l = c.listener-item.result in
    let address = (bytes_eq-Decides (address_of addresses c.in-Some.socket) l.address).0 (sym c.is_socket_at.ensures ∙ c.if-not-is_socket_at.false) in
    let fd = c.if-descriptor-listener.false in
    let first : listener_of (seen_hold addresses p) ≡ l = (λ i. record { descriptor = fd i; address = address i }) in (
      (λ e. loop.invariant.0 (all_listeners addresses c.args.listeners.now loop.pairs c.next.new.self p loop.listener-index l c.in-Some.ensures.steps c.loop-listener-test.true c.listener-item.is first e)),
      (λ e. (next_listeners addresses c.args.listeners.now loop.pairs c.next.new.self p loop.listener-index l c.in-Some.ensures.steps c.loop-listener-test.true c.listener-item.is (loop.invariant.1 e)).1),
    )
