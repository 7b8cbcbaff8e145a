use Rattle.std.proofs.Common.{Ok, rules}
use Rattle.listener_set.proofs.AddressGrammar.{grammar}
use Rattle.listener_set.proofs.address.Address.read.Goals as goal

pub returns-in_err-check-clause-grammar : goal.returns-in_err-check-clause-grammar
returns-in_err-check-clause-grammar c = grammar c.args.text.now _ (search rules)

pub returns-clause-grammar : goal.returns-clause-grammar
returns-clause-grammar c = grammar c.args.text.now (Ok c.of.result) (search rules)
