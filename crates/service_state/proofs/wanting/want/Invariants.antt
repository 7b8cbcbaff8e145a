use Rattle.service_state.proofs.Serving.{IsServingTo}
use Rattle.definitions.specs.Master.{wanted_at}
use Rattle.service_state.proofs.wanting.want.Given as goal

abbrev pub invariant-loop-address : goal.invariant-loop-address
invariant-loop-address l = IsServingTo l.generation (wanted_at l.state l.target) l.all l.address-index l.service
