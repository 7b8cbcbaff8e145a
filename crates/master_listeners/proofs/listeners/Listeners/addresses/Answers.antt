use Rattle.std.proofs.Common.{◌≡◌, ◌++◌, ◌∷◌, [], ◌≤◌, length, map, take, get_or, ap, sym, subst, ◌∙◌, arith}
use Rattle.std.specs.Prelude.{Contains}
use Rattle.std.proofs.lemmas.List.{length-take-le, length-map, map_more}
use Rattle.vocabulary.specs.declared.table.Listener.{Listener}
use Rattle.master_listeners.specs.Listeners.{AreListed}
use Rattle.master_listeners.proofs.Additions.{is_added}
use Rattle.master_listeners.proofs.Listed.{absent_before}
use Rattle.master_listeners.proofs.listeners.Listeners.addresses.Goals as goal

pub loop-listener-preserved : goal.loop-listener-preserved
loop-listener-preserved c =
    let all = c.as_slice-all.result.now in
    let i = c.loop-listener.listener-index in
    let l = c.listener-item.result in
    let most : length all ≤ 64 = rw (← c.as_slice-all.ensures.items) at c.as_slice-all.ensures.most in
    let listed : AreListed all = rw (← c.as_slice-all.ensures.items) at c.as_slice-all.ensures.listed in
    let n = ap length c.loop-listener.invariant ∙ length-map (take i all) (λ (m : Listener). m.address) ∙ length-take-le i all (omega (arith, c.loop-listener-test.true)) in
    let address : l.address ≡ (get_or all i l).address = ap (λ (m : Listener). m.address) c.listener-item.is in
    is_added c.add.result _ c.add.ensures.ok
    (λ e. absent_before 3 all i l listed c.loop-listener-test.true (subst (Contains (map (λ (m : Listener). m.address) (take i all))) address (rw c.loop-listener.invariant at (c.add.ensures.doubled.0 e))))
    (λ e. let full = (c.add.ensures.too_many.0 e).0 in omega (arith, n, full, c.loop-listener-test.true, most))
    ∙ ap (λ bs. bs ++ l.address ∷ []) c.loop-listener.invariant
    ∙ ap (λ a. map (λ (m : Listener). m.address) (take i all) ++ a ∷ []) address
    ∙ sym (map_more (λ (m : Listener). m.address) all i l c.loop-listener-test.true)
