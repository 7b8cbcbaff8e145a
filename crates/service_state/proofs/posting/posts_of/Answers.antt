use Rattle.std.proofs.Common.{◌≡◌, ◌+◌, ◌∙◌, length, set, take, ap, arith}
use Rattle.std.proofs.lemmas.List.{length-set}
use Rattle.vocabulary.specs.Settings.{Settings}
use Rattle.worker_groups.specs.Crews.{Posts}
use Rattle.definitions.specs.After.{descriptors_at}
use Rattle.service_state.proofs.Grouped.{posted-more, posted-all}
use Rattle.service_state.proofs.posting.posts_of.Goals as goal

pub loop-place-preserved : goal.loop-place-preserved
loop-place-preserved c =
    let s = c.args.settings.now in
    let ls = c.args.listeners.now in
    let i = c.loop-place.place in
    let posts = c.loop-place.posts in
    let own = c.descriptors_at.result in
    let count : length c.as_slice-groups.result.now ≡ length s.groups = ap length c.as_slice-groups.ensures.items ∙ ap (λ (t : Settings). length t.groups) c.settings.view_is in
    let put : c.set_descriptors.new.self.descriptors ≡ set posts.descriptors i own = ap (λ (p : Posts). p.descriptors) c.set_descriptors.ensures in
    record {
      groups = ap (λ (p : Posts). p.groups) c.set_descriptors.ensures ∙ c.loop-place.invariant.groups;
      each = ap length put ∙ length-set posts.descriptors i own ∙ c.loop-place.invariant.each;
      set =
          ap (take (i + 1)) put
          ∙ posted-more s.groups s.listeners ls posts.descriptors i own (omega (arith, count, c.loop-place-test.true)) c.loop-place.invariant.each c.loop-place.invariant.set
          (c.descriptors_at.ensures ∙ ap (descriptors_at ls) c.addresses_of_group-own.ensures);
    }

pub returns : goal.returns
returns c =
    let s = c.args.settings.now in
    let count : length c.as_slice-groups.result.now ≡ length s.groups = ap length c.as_slice-groups.ensures.items ∙ ap (λ (t : Settings). length t.groups) c.settings.view_is in
    posted-all s.groups s.listeners c.args.listeners.now c.loop-place.posts c.loop-place.place
    c.loop-place.invariant.groups c.loop-place.invariant.each c.loop-place.invariant.set (omega (arith, count, c.loop-place-test.false))
