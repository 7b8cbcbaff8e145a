use Rattle.std.proofs.Common.{◌≡◌, ◌<◌, ◌≤◌, ℕ, length, get_or, ◌∙◌, ap, arith}
use Rattle.std.proofs.lemmas.Result.{IfOk-weaker}
use Rattle.listener_set.specs.Numbers.{numbers_below}
use Rattle.vocabulary.specs.Settings.{Settings}
use Rattle.definitions.specs.Master.{Record, addresses_of, layout_of, layout_in, served}
use Rattle.plan_rollout.specs.Spots.{spots_of, all_spots, members_of}
use Rattle.plan_rollout.specs.Counts.{address_at}
use Rattle.plan_rollout.proofs.Serving.{tally-is}
use Rattle.plan_rollout.proofs.Sides.{each-group}
use Rattle.plan_rollout.proofs.rolling.roll_out.Goals as goal

pub tallied-requires-clause-each_group : goal.tallied-requires-clause-each_group
tallied-requires-clause-each_group c =
    let r = c.args.state.now in
    let all = each-group (spots_of (layout_of r) c.addresses-addresses.result) (length r.posts.groups) in
    omega (
      arith,
      all,
      ap length (c.deref.ensures.value ∙ c.in_ok-spots.ensures),
      ap length c.groups-groups.ensures.groups,
      ap (λ (k : Record). length k.posts.groups) c.state.view_is,
    )

pub tallied-requires-2-clause-each_group : goal.tallied-requires-2-clause-each_group
tallied-requires-2-clause-each_group c =
    let s = c.args.settings.now in
    let all = each-group (spots_of (layout_in s.groups s.listeners) c.addresses-addresses.result) (length s.groups) in
    omega (
      arith,
      all,
      ap length (c.deref-2.ensures.value ∙ c.in_ok-new_spots.ensures),
      ap (λ (t : Settings). length t.groups) c.settings.view_is,
    )

pub steps_of-requires-clause-spots : goal.steps_of-requires-clause-spots
steps_of-requires-clause-spots c =
    let r = c.args.state.now in
    let all = each-group (spots_of (layout_of r) c.addresses-addresses.result) (length r.posts.groups) in
    omega (
      arith,
      all,
      ap length (c.deref-4.ensures.value ∙ c.in_ok-spots.ensures),
      ap length c.groups-groups.ensures.groups,
      ap (λ (k : Record). length k.posts.groups) c.state.view_is,
    )

pub steps_of-requires-clause-members : goal.steps_of-requires-clause-members
steps_of-requires-clause-members c =
    ap length (c.deref-5.ensures.value ∙ c.in_ok-members.ensures) ∙
    each-group (members_of c.groups-groups.result.now) (length c.groups-groups.result.now)

pub steps_of-requires-clause-new_spots : goal.steps_of-requires-clause-new_spots
steps_of-requires-clause-new_spots c =
    let s = c.args.settings.now in
    let all = each-group (spots_of (layout_in s.groups s.listeners) c.addresses-addresses.result) (length s.groups) in
    omega (
      arith,
      all,
      ap length (c.deref-7.ensures.value ∙ c.in_ok-new_spots.ensures),
      ap (λ (t : Settings). length t.groups) c.settings.view_is,
    )

pub returns : goal.returns
returns c =
    let r = c.args.state.now in
    let s = c.args.settings.now in
    let addr : c.addresses-addresses.result ≡ addresses_of r = c.addresses-addresses.ensures ∙
    ap addresses_of c.state.view_is in
    let old_groups = c.groups-groups.ensures.groups ∙ ap (λ (k : Record). k.posts.groups) c.state.view_is in
    let new_groups = ap (λ (t : Settings). t.groups) c.settings.view_is in
    let ready = ap (λ (k : Record). k.ready) c.state.view_is in
    let workers = ap (λ (t : Settings). t.workers) c.settings.view_is in
    let old_spots = c.in_ok-spots.ensures ∙ ap (all_spots (layout_of r)) addr in
    let new_spots = c.in_ok-new_spots.ensures ∙ ap (all_spots (layout_in s.groups s.listeners)) addr in
    let old_some : 1 ≤ length c.groups-groups.result.now = omega
    (arith, c.groups-groups.ensures.are.some, ap length c.groups-groups.ensures.groups) in
    let new_some : 1 ≤ length c.settings.inside.groups = omega (arith, c.settings.invariant.groups.some) in
    let places : length c.in_ok-counts.counts.items ≡ length (addresses_of r) =
    c.in_ok-counts.ensures.count ∙ (c.len-places.ensures.count ∙ ap length addr) in
    let more : length c.in_ok-wanted.wanted.items ≡ length (addresses_of r) =
    c.in_ok-wanted.ensures.count ∙ (c.len-places.ensures.count ∙ ap length addr) in
    let here : (i : ℕ) → i < length (addresses_of r) → get_or c.in_ok-counts.counts.items i 0 ≡
    served (layout_of r) c.state.inside.ready (address_at r i) =
    λ i lt.
    tally-is (layout_of r) (addresses_of r) c.groups-groups.result.now c.deref.result.now c.state.inside.ready i _
    old_groups (c.deref.ensures.value ∙ old_spots) old_some lt
    (c.in_ok-counts.ensures.each i (omega (arith, places, lt))) in
    let there : (i : ℕ) → i < length (addresses_of r) → get_or c.in_ok-wanted.wanted.items i 0 ≡
    served (layout_in s.groups s.listeners) c.below-all.result (address_at r i) =
    λ i lt.
    tally-is (layout_in s.groups s.listeners) (addresses_of r) c.settings.inside.groups c.deref-2.result.now
    c.below-all.result i _ new_groups (c.deref-2.ensures.value ∙ new_spots) new_some lt
    (c.in_ok-wanted.ensures.each i (omega (arith, more, lt))) in
    let all = c.below-all.ensures ∙ ap numbers_below workers in
    IfOk-weaker c.steps_of.result _ _
    (λ rollout told.
    told r s
    (record {
      groups = old_groups;
      spots = c.deref-4.ensures.value ∙ old_spots;
      least = record {
        count = ap length c.deref-6.ensures.value ∙ (c.lowered-least.ensures.same ∙ more);
        each = λ i lt.
            let low : i < length c.lowered-least.result.items = omega (arith, c.lowered-least.ensures.same, more, lt) in
            let wanted_there = there i lt ∙ ap (λ ks. served (layout_in s.groups s.listeners) ks (address_at r i))
            all in
            let ready_there = here i lt ∙ ap (λ ks. served (layout_of r) ks (address_at r i)) ready in
            omega (
              arith,
              ap (λ xs. get_or xs i 0) c.deref-6.ensures.value,
              c.lowered-least.ensures.each i low,
              ap (λ xs. get_or xs i 0) c.deref-3.ensures.value,
              wanted_there,
              ready_there,
            );
      };
    })
    (record { groups = new_groups; spots = c.deref-7.ensures.value ∙ new_spots; workers = workers })
    ready
    (record {
      count = ap length c.deref_mut.ensures.value ∙ places;
      each = λ i lt. ap (λ xs. get_or xs i 0) c.deref_mut.ensures.value ∙ omega (arith, here i lt);
    }))
    c.steps_of.ensures
