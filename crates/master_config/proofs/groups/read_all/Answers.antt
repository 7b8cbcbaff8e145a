use Rattle.std.proofs.Common.{◌<◌, ◌+◌, ◌∙◌, sym, ap, drop, length, get_or, map, arith}
use Rattle.std.proofs.lemmas.List.{drop_all, length-map}
use Rattle.std.proofs.lemmas.Result.{err_from_is_err_and}
use Rattle.toml.specs.View.{view}
use Rattle.master_config.specs.Values.{◌>>=◌}
use Rattle.master_config.specs.Groups.{groups_after, no_pools}
use Rattle.master_config.proofs.Trees.{data_of-items_of}
use Rattle.master_config.proofs.Rules.{groups_step}
use Rattle.master_config.proofs.groups.read_all.Goals as goal

pub returns-in_err-add-clause-pools : goal.returns-in_err-add-clause-pools
returns-in_err-add-clause-pools c =
    let vs = c.args.items.now.items in
    let index = c.loop-index.index in
    let is = c.item-item.is ∙ ap (λ l. get_or l index c.item-item.result) c.deref-item-items.ensures.value in
    let inside : index < length vs = omega (arith, c.loop-index-test.true, ap length c.deref-item-items.ensures.value) in
    let step = groups_step vs index c.item-item.result c.loop-index.pools inside is in
    let p = err_from_is_err_and c.from_residual.result c.from_residual.ensures.1 in
    let last = sym (step ∙ ap (λ r. r >>= (λ more. groups_after more (index + 1) (drop (index + 1) (map view vs)))) c.in_err-add.ensures.err) ∙ c.loop-index.invariant.leads ∙ ap (groups_after no_pools 0) (sym (data_of-items_of (map view vs))) in
    rw (p.1, p.2) last

pub loop-index-preserved : goal.loop-index-preserved
loop-index-preserved c =
    let vs = c.args.items.now.items in
    let index = c.loop-index.index in
    let is = c.item-item.is ∙ ap (λ l. get_or l index c.item-item.result) c.deref-item-items.ensures.value in
    let inside : index < length vs = omega (arith, c.loop-index-test.true, ap length c.deref-item-items.ensures.value) in
    let step = groups_step vs index c.item-item.result c.loop-index.pools inside is in
    record {
      count = c.in_ok-add.ensures.grown ∙ omega (arith, c.loop-index.invariant.count);
      leads = sym (step ∙ ap (λ r. r >>= (λ more. groups_after more (index + 1) (drop (index + 1) (map view vs)))) c.in_ok-add.ensures.ok) ∙ c.loop-index.invariant.leads;
    }

pub returns-clause-pools : goal.returns-clause-pools
returns-clause-pools c =
    let vs = c.args.items.now.items in
    let index = c.loop-index.index in
    let past = drop_all index (map view vs) (omega (arith, c.loop-index-test.false, ap length c.deref-item-items.ensures.value, length-map vs view)) in
    ap (groups_after c.loop-index.pools index) (sym past) ∙ c.loop-index.invariant.leads ∙ ap (groups_after no_pools 0) (sym (data_of-items_of (map view vs)))
