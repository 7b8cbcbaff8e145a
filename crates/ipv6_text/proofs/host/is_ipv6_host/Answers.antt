use Rattle.std.proofs.Common.{refl, sym, ap}
use Rattle.std.specs.Net.Addr.{ipv6_segments}
use Rattle.ipv6_text.specs.Ipv6Text.{is_written}
use Rattle.ipv6_text.proofs.HostTexts.{read_of, unread, grammar}
use Rattle.ipv6_text.proofs.host.is_ipv6_host.Goals as goal

pub returns-then-not-is_mapped-clause-exact : goal.returns-then-not-is_mapped-clause-exact
returns-then-not-is_mapped-clause-exact c =
    let read = read_of c.args.text.now (ipv6_segments c.in-Ok.address) c.in-Ok.ensures in
    let own = c.if-not-is_mapped.true in
    rw (read, ← c.is_mapped.ensures, own) c.is_text_of.ensures

pub returns-else-not-is_mapped-clause-exact : goal.returns-else-not-is_mapped-clause-exact
returns-else-not-is_mapped-clause-exact c =
    let read = read_of c.args.text.now (ipv6_segments c.in-Ok.address) c.in-Ok.ensures in
    rw (read, ← c.is_mapped.ensures, c.if-not-is_mapped.false) refl

pub returns-in-Err-clause-exact : goal.returns-in-Err-clause-exact
returns-in-Err-clause-exact c = sym (ap (λ found. is_written c.args.text.now found) (unread c.args.text.now c.in-Err.ensures))

pub returns-then-not-is_mapped-clause-grammar : goal.returns-then-not-is_mapped-clause-grammar
returns-then-not-is_mapped-clause-grammar c = grammar c.args.text.now _ (returns-then-not-is_mapped-clause-exact c)

pub returns-else-not-is_mapped-clause-grammar : goal.returns-else-not-is_mapped-clause-grammar
returns-else-not-is_mapped-clause-grammar c = grammar c.args.text.now _ (returns-else-not-is_mapped-clause-exact c)

pub returns-in-Err-clause-grammar : goal.returns-in-Err-clause-grammar
returns-in-Err-clause-grammar c = grammar c.args.text.now _ (returns-in-Err-clause-exact c)
