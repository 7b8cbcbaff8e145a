use Rattle.std.proofs.Common.{◌∙◌, ◌≡◌, ap}
use Rattle.std.specs.Prelude.{bytes_eq}
use Rattle.std.specs.List.{list_any}
use Rattle.listener_set.specs.AddressList.{has}
use Rattle.listener_set.proofs.AddressLists.{has_this_address}
use Rattle.listener_set.proofs.listeners.ListenerSet.holds.Goals as goal

value : (c : goal.After-contains) → c.contains.result ≡ has c.args.self.now c.args.address.now
value c = c.contains.ensures.value ∙ ap (list_any (λ y. bytes_eq y c.args.address.now)) c.as_slice.ensures.items

pub returns-clause-held : goal.returns-clause-held
returns-clause-held c = has_this_address c.args.self.now c.args.address.now c.contains.result (value c)

pub returns-clause-value : goal.returns-clause-value
returns-clause-value c = value c
