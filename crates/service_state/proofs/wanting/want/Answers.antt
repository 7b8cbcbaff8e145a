use Rattle.definitions.specs.Master.{wanted_at}
use Rattle.service_state.proofs.Serving.{serving-more}
use Rattle.service_state.proofs.wanting.want.Goals as goal

pub loop-address-preserved : goal.loop-address-preserved
loop-address-preserved c =
    let count = wanted_at c.args.state.now c.args.target.now in
    let i = c.loop-address.address-index in
    let x = c.address-item.result in
    rw (c.in_ok-add.ensures.ok, c.kept_count.ensures, c.wanted_at-workers.ensures)
    (serving-more c.generation_wanted-generation.result count c.as_slice-all.result.now i x c.loop-address-test.true c.address-item.is c.loop-address.service c.loop-address.invariant)
