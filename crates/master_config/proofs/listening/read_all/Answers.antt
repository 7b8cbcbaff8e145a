use Rattle.std.proofs.Common.{◌<◌, ◌+◌, ◌∙◌, sym, ap, drop, length, get_or, arith}
use Rattle.std.proofs.lemmas.List.{drop_all, length-map}
use Rattle.std.proofs.lemmas.Result.{err_from_is_err_and}
use Rattle.toml.specs.View.{view}
use Rattle.master_config.specs.Values.{◌>>=◌, text_of}
use Rattle.master_config.specs.Listening.{listeners_after}
use Rattle.master_config.proofs.Trees.{texts_of-items_view}
use Rattle.master_config.proofs.Rules.{texts_in, listeners_step, length-listener_read}
use Rattle.master_config.proofs.listening.read_all.Goals as goal

pub returns-in_err-add : goal.returns-in_err-add
returns-in_err-add c =
    let vs = c.args.items.now.items in
    let index = c.loop-index.index in
    let is = c.item-item.is ∙ ap (λ l. get_or l index c.item-item.result) c.deref-item-items.ensures.value in
    let inside : index < length vs = omega (arith, c.loop-index-test.true, ap length c.deref-item-items.ensures.value) in
    let step = listeners_step vs index c.item-item.result c.as_bytes.result.now c.loop-index.listeners inside is (c.as_bytes.ensures.value ∙ c.text_of.ensures) in
    let p = err_from_is_err_and c.from_residual.result c.from_residual.ensures.1 in
    let last = sym (step ∙ ap (λ r. r >>= (λ more. listeners_after more (index + 1) (drop (index + 1) (texts_in vs)))) c.in_err-add.ensures.err) ∙ c.loop-index.invariant.leads ∙ ap (listeners_after c.args.before.now 0) (sym (texts_of-items_view vs)) in
    rw (p.1, p.2) last

pub loop-index-preserved : goal.loop-index-preserved
loop-index-preserved c =
    let vs = c.args.items.now.items in
    let index = c.loop-index.index in
    let is = c.item-item.is ∙ ap (λ l. get_or l index c.item-item.result) c.deref-item-items.ensures.value in
    let inside : index < length vs = omega (arith, c.loop-index-test.true, ap length c.deref-item-items.ensures.value) in
    let step = listeners_step vs index c.item-item.result c.as_bytes.result.now c.loop-index.listeners inside is (c.as_bytes.ensures.value ∙ c.text_of.ensures) in
    let read = c.in_ok-add.ensures.ok in
    record {
      count = length-listener_read index c.loop-index.listeners c.as_bytes.result.now c.add.new.listeners read ∙ omega (arith, c.loop-index.invariant.count);
      leads = sym (step ∙ ap (λ r. r >>= (λ more. listeners_after more (index + 1) (drop (index + 1) (texts_in vs)))) read) ∙ c.loop-index.invariant.leads;
    }

pub returns : goal.returns
returns c =
    let vs = c.args.items.now.items in
    let index = c.loop-index.index in
    let past = drop_all index (texts_in vs) (omega (arith, c.loop-index-test.false, ap length c.deref-item-items.ensures.value, length-map vs (λ v. text_of (view v)))) in
    ap (listeners_after c.loop-index.listeners index) (sym past) ∙ c.loop-index.invariant.leads ∙ ap (listeners_after c.args.before.now 0) (sym (texts_of-items_view vs))
