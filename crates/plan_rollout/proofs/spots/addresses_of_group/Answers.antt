use Rattle.std.proofs.Common.{◌≡◌, ◌+◌, ◌-◌, ◌∙◌, suc, ap, sym, length, drop, get_or, arith}
use Rattle.std.proofs.lemmas.List.{drop_all, length-drop}
use Rattle.std.proofs.lemmas.List.Sums.{sum_by-drop_more}
use Rattle.worker_groups.specs.declared.groups.Group.{Group}
use Rattle.worker_groups.specs.Groups.{no_group}
use Rattle.definitions.specs.Master.{addresses_of_group}
use Rattle.service_state.proofs.Grouped.{own-addresses, later-addresses}
use Rattle.plan_rollout.proofs.spots.addresses_of_group.Goals as goal

pub returns-then-index-place : goal.returns-then-index-place
returns-then-index-place c =
    let s = c.args.settings.now in
    let loop = c.loop-index in
    c.split_at.ensures.front
    ∙ sym (own-addresses c.as_slice-groups.result.now loop.index no_group c.loop-index-test.true loop.rest.now)
    ∙ sym (loop.invariant.left 0)
    ∙ ap (addresses_of_group s.groups s.listeners) (omega (arith, c.if-index-place.true))

pub loop-index-preserved : goal.loop-index-preserved
loop-index-preserved c =
    let s = c.args.settings.now in
    let gs = c.as_slice-groups.result.now in
    let loop = c.loop-index in
    let rest = loop.rest.now in
    let own = (get_or gs loop.index no_group).addresses in
    record {
      before = omega (arith, loop.invariant.before, c.if-index-place.false);
      left = λ k.
          ap (addresses_of_group s.groups s.listeners) (let later : loop.index + 1 + k ≡
          loop.index + suc k = omega arith in later)
          ∙ loop.invariant.left (suc k)
          ∙ later-addresses gs loop.index no_group c.loop-index-test.true rest k
          ∙ ap (λ bs. addresses_of_group (drop (loop.index + 1) gs) bs k) (sym c.split_at.ensures.back);
      room = omega (
        arith,
        ap length c.split_at.ensures.back,
        length-drop own rest,
        loop.invariant.room,
        sum_by-drop_more (λ (g : Group). g.addresses) gs loop.index no_group c.loop-index-test.true,
      );
    }

pub returns : goal.returns
returns c =
    let s = c.args.settings.now in
    let loop = c.loop-index in
    let k = c.args.place - loop.index in
    sym (ap (addresses_of_group s.groups s.listeners) (let there : c.args.place ≡
    loop.index + k = omega (arith, loop.invariant.before) in there)
    ∙ loop.invariant.left k
    ∙ ap (λ gs. addresses_of_group gs loop.rest.now k) (drop_all loop.index c.as_slice-groups.result.now
    c.loop-index-test.false))
