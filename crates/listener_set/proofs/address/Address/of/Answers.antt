use Rattle.listener_set.proofs.AddressLaws.{fits_from_check}
use Rattle.listener_set.proofs.address.Address.of.Goals as goal

pub new-requires : goal.new-requires
new-requires c = fits_from_check c.args.text.now c.requires
