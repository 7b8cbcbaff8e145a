use Rattle.std.proofs.Common.{◌≡◌, Ok}
use Rattle.listener_set.specs.AddressText.{reading}
use Rattle.listener_set.proofs.AddressGrammar.{graphic_from_reading}
use Rattle.listener_set.proofs.address.Address.bytes.Goals as goal

pub returns-clause-graphic : goal.returns-clause-graphic
returns-clause-graphic c =
    let read : reading c.args.self.now ≡ Ok c.args.self.now = rw c.self.view_is at c.self.invariant in
    graphic_from_reading c.args.self.now read
