use Rattle.std.proofs.Common.{◌↔◌, refl, subst}
use Rattle.std.specs.Prelude.{IsTrue}
use Rattle.kernel_rows.specs.Seen.{seen_rows}
use Rattle.kernel_agreement.specs.Agreement.{AreReady}
use Rattle.kernel_agreement.specs.declared.agreement.Running.{Running}
use Rattle.kernel_agreement.proofs.agreement.workers_agree.Goals as goal

pub returns-then-are_running : goal.returns-then-are_running
returns-then-are_running c =
    let addresses = c.args.store.now.addresses.items in
    let rows = seen_rows addresses c.args.store.now.holders.items in
    let runs = (c.if-are_running.ensures addresses).0 refl in
    let says = subst (λ (k : Running). IsTrue c.are_ready.result ↔ AreReady c.args.master.now.number k.crew.generation rows k.ready) c.claim.view_is (c.are_ready.ensures addresses) in
    ((λ t. record { running = runs; ready = says.0 t }), (λ so. says.1 so.ready))
