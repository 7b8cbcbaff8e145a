use Rattle.std.proofs.Common.{rules, ◌≡◌, ◌∙◌, false, not, length}
use Rattle.std.proofs.Common.{sym, ap, subst, arith}
use Rattle.std.proofs.lemmas.List.{length-map}
use Rattle.listener_set.specs.AddressList.{has}
use Rattle.listener_set.specs.Numbers.{numbers_below, AreNumbers}
use Rattle.listener_set.proofs.NumberSets.{length-numbers}
use Rattle.vocabulary.specs.declared.table.Listener.{Listener}
use Rattle.vocabulary.specs.Settings.{Settings}
use Rattle.definitions.specs.Master.{Record, addresses_of}
use Rattle.definitions.specs.After.{next_config, posts_wanted}
use Rattle.vocabulary.specs.declared.targets.Target.TheVariants.{Reload}
use Rattle.definitions.specs.Plans.{only_in}
use Rattle.plan_steps.specs.Fit.{is_fit}
use Rattle.reload_planner.proofs.Reloads.{next_is}
use Rattle.reload_planner.proofs.Sets.{filter_few}
use Rattle.definitions.specs.Plans.{Rollout, rollout_of}
use Rattle.reload_planner.proofs.Fit.{renewed-fit}
use Rattle.reload_planner.proofs.Planned.{planned-is}
use Rattle.reload_planner.proofs.Moved.{rollout-moved, within-most, never-large}
use Rattle.reload_planner.specs.Trees.{moved}
use Rattle.reload_planner.proofs.reloading.plan_reload.Goals as goal

pub finish-requires-clause-fit : goal.finish-requires-clause-fit
finish-requires-clause-fit c =
    ap (is_fit false) c.in_ok-first.ensures.made.is
    ∙ renewed-fit c.args.asked c.state.inside.generation.image c.crew.result
    (record { generation = c.in-Some.generation; posts = c.posts_wanted.result })
    c.state.inside.ready c.state.inside.retries c.as_slice-2.result.now c.as_slice.result.now c.below.result
    c.deref-3.result.now c.deref.result.now c.deref-2.result.now

pub returns-clause-tree : goal.returns-clause-tree
returns-clause-tree c =
    let r = c.args.state.now in
    let s = c.args.settings.now in
    let ro = rollout_of r s c.args.surge in
    let rolled = c.rollout.view_is ∙ c.in_ok-rollout.ensures in
    let held : c.addresses-held.result ≡ addresses_of r = c.addresses-held.ensures ∙ ap addresses_of c.state.view_is in
    let listed = ap (λ (t : Settings). t.listeners) c.settings.view_is in
    let is = planned-is c.args.asked c.args.surge r s c.state.inside.generation.image c.crew.result
    c.in-Some.generation c.posts_wanted.result
    c.state.inside.ready c.state.inside.retries c.as_slice-2.result.now c.as_slice.result.now c.below.result
    c.deref-3.result.now c.deref.result.now c.deref-2.result.now
    (ap (λ (k : Record). k.generation.image) c.state.view_is)
    c.crew.ensures
    (next_is r.generation c.in-Some.generation (sym (c.in-Some.ensures ∙
    ap (λ (k : Record). next_config k.generation) c.state.view_is)))
    (c.posts_wanted.ensures ∙ ap (λ (t : Settings). posts_wanted r (Reload t)) c.settings.view_is)
    (ap (λ (k : Record). k.ready) c.state.view_is)
    (ap (λ (k : Record). k.retries) c.state.view_is)
    (c.as_slice-2.ensures.items ∙ (c.only_in-added.ensures ∙ (λ i. only_in (listed i) (held i))))
    (c.as_slice.ensures.items ∙ (c.only_in-dropped.ensures ∙ (λ i. only_in (held i) (listed i))))
    (c.below.ensures ∙ ap (λ (t : Settings). numbers_below t.workers) c.settings.view_is)
    (c.deref-3.ensures.value ∙ ap (λ (o : Rollout). o.steps) rolled)
    (c.deref.ensures.value ∙ (c.in_ok-last.ensures.items ∙ ap (λ (o : Rollout). o.last) rolled))
    (c.deref-2.ensures.value ∙ (c.in_ok-left.ensures.items ∙ ap (λ (o : Rollout). o.left) rolled)) in
    λ turns. c.in_ok-finish.ensures.tree turns ∙ (c.in_ok-first.ensures.made.is ∙ is)

pub returns-clause-few : goal.returns-clause-few
returns-clause-few c =
    let r = c.args.state.now in
    let s = c.args.settings.now in
    let rolled = c.rollout.view_is ∙ c.in_ok-rollout.ensures in
    let ready = ap (λ (k : Record). k.ready) c.state.view_is in
    let all = rollout-moved r s c.args.surge (subst (AreNumbers 1024) ready c.len.ensures.numbers) in
    let steps = ap moved (c.deref-3.ensures.value ∙ ap (λ (o : Rollout). o.steps) rolled) in
    let last = ap length (c.deref.ensures.value ∙ (c.in_ok-last.ensures.items ∙ ap (λ (o : Rollout). o.last) rolled)) in
    let left = ap length (c.deref-2.ensures.value ∙ (c.in_ok-left.ensures.items ∙
    ap (λ (o : Rollout). o.left) rolled)) in
    let held : length c.addresses-held.result ≡ length r.listeners =
    ap length (c.addresses-held.ensures ∙ ap addresses_of c.state.view_is) ∙
    length-map r.listeners (λ (l : Listener). l.address) in
    let wanted = ap (λ (t : Settings). length t.listeners) c.settings.view_is in
    let added = ap length (c.as_slice-2.ensures.items ∙ c.only_in-added.ensures) in
    let dropped = ap length (c.as_slice.ensures.items ∙ c.only_in-dropped.ensures) in
    let rounds = ap (λ (k : Record). k.retries) c.state.view_is in
    let most = within-most (moved c.deref-3.result.now) (length c.deref.result.now) (length c.deref-2.result.now)
    c.state.inside.retries
    (length c.as_slice-2.result.now) (length c.as_slice.result.now) (length r.ready) s.workers (length r.listeners)
    (length s.listeners)
    (omega (arith, all, steps, last, left))
    (omega (arith, added, wanted, filter_few (λ a. not (has c.addresses-held.result a)) c.settings.inside.listeners))
    (omega (arith, dropped, held, filter_few (λ a. not (has c.settings.inside.listeners a)) c.addresses-held.result)) in
    omega (
      arith,
      most,
      rounds,
      c.in_ok-finish.ensures.few,
      c.in_ok-first.ensures.count,
      ap length c.new-draft.ensures.none,
    )

pub returns-in_err-first-clause-not_large : goal.returns-in_err-first-clause-not_large
returns-in_err-first-clause-not_large c =
    let r = c.args.state.now in
    let s = c.args.settings.now in
    let rolled = c.rollout.view_is ∙ c.in_ok-rollout.ensures in
    let ready = ap (λ (k : Record). k.ready) c.state.view_is in
    let numbers = c.len.ensures.numbers in
    let all = rollout-moved r s c.args.surge (subst (AreNumbers 1024) ready numbers) in
    let steps = ap moved (c.deref-3.ensures.value ∙ ap (λ (o : Rollout). o.steps) rolled) in
    let last = ap length (c.deref.ensures.value ∙ (c.in_ok-last.ensures.items ∙ ap (λ (o : Rollout). o.last) rolled)) in
    let left = ap length (c.deref-2.ensures.value ∙ (c.in_ok-left.ensures.items ∙
    ap (λ (o : Rollout). o.left) rolled)) in
    let workers = ap (λ (t : Settings). t.workers) c.settings.view_is in
    let low = never-large (moved c.deref-3.result.now) (length c.deref.result.now) (length c.deref-2.result.now)
    c.state.inside.retries
    (length c.as_slice-2.result.now) (length c.as_slice.result.now) (length r.ready) s.workers
    (omega (arith, all, steps, last, left))
    (omega (arith, workers, c.settings.invariant.workers))
    (omega (arith, ap length ready, length-numbers c.state.inside.ready 1024 numbers))
    c.state.invariant.retries (omega (arith, c.as_slice-2.ensures.most, ap length c.as_slice-2.ensures.items))
    (omega (arith, c.as_slice.ensures.most, ap length c.as_slice.ensures.items)) in
    let none = ap length c.new-draft.ensures.none in
    search rules
