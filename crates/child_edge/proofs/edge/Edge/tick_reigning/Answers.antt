use Rattle.std.proofs.Common.{ℕ, List, [], ◌∙◌, sym, ap, subst, ◌≡◌, length, arith, Bool, if◌then◌else◌}
use Rattle.std.proofs.lemmas.List.{with_items_is}
use Rattle.vocabulary.specs.declared.calls.Answer.TheVariants.{Counted}
use Rattle.child_family.specs.Talk.{Held}
use Rattle.child_family.proofs.Talking.{held-end}
use Rattle.child_edge.specs.State.{state_of}
use Rattle.child_workers.specs.declared.worker.Worker.{Worker}
use Rattle.child_workers.specs.declared.who.Who.TheVariants.{IsReady}
use Rattle.child_edge.specs.Each.{says_each, beats_each}
use Rattle.child_edge.specs.Table.{answers, with_workers, passing_tick, tick_turn}
use Rattle.child_edge.proofs.Turning.{goes-both, goes-from, goes-into}
use Rattle.child_edge.proofs.edge.Edge.tick_reigning.Goals as goal

pub returns-clause-turn : goal.returns-clause-turn
returns-clause-turn g c =
    let state = c.args.self.now.state in
    let s = state_of state in
    let next = λ (p : List Worker × List ℕ). answers (with_workers s p.0) (Counted p.1) in
    let beats = beats_each c.args.now [] [] state.workers.items (λ ws numbers. next (ws, numbers)) in
    let said = c.say_each.ensures beats in
    let heard = c.beat_each.ensures next in
    let line = c.bytes.ensures.text ∙ c.tick_line-line.ensures in
    let sized : length c.beat_each.new.workers ≡ state.workers.len = omega (arith, c.beat_each.auto.workers, c.deref_mut.ensures.len, state.workers.ok.0) in
    let kept = with_items_is state.workers c.beat_each.new.workers sized in
    let goes =
    goes-into _ _ _ _ _ (ap (λ ws. next (ws, c.beat_each.result)) (sym kept))
    (goes-from _ _ _ _ _
    (ap (λ t. says_each IsReady t state.workers.items beats) (sym line)
    ∙ ap (λ ws. says_each IsReady c.bytes.result.now ws beats) (sym c.deref.ensures.value))
    (goes-both _ _ _ _ _ _ said
    (goes-from _ _ _ _ _ (ap (λ ws. beats_each c.args.now [] [] ws (λ left numbers. next (left, numbers))) (sym c.deref_mut.ensures.value)) heard)))
    in
    goes-from _ _ _ _ _
    (ap (λ (left : Bool). if left then passing_tick s c.args.now s.child else tick_turn s c.args.now) c.if-self.false) goes _ _
    (held-end _ _)
