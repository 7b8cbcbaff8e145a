use Rattle.std.proofs.Common.{sym, ap, subst, ◌∙◌}
use Rattle.std.proofs.lemmas.Bool.{true≢false}
use Rattle.definitions.specs.Master.{Agrees}
use Rattle.definitions.specs.Table.{live_master}
use Rattle.kernel_agreement.specs.declared.agreement.Running.{Running}
use Rattle.kernel_rows.specs.Seen.{seen_caller}
use Rattle.kernel_table.specs.Seen.{seen}
use Rattle.kernel_agreement.specs.Agreement.{running}
use Rattle.kernel_agreement.proofs.Comparing.{agreed}
use Rattle.kernel_agreement.proofs.agreement.agrees_with.Goals as goal
use Rattle.kernel_agreement.proofs.agreement.agrees_with.Goals.{then-master_agrees, else-master_agrees}

pub returns-else-workers_agree : goal.returns-else-workers_agree
returns-else-workers_agree c = λ wanted retries timeout.
    let s = c.store-store.result.now in
    let claim = c.args.claim.now in
    let table = c.store-store.ensures in (
      (λ t. absurd (true≢false (sym t ∙ c.if-workers_agree.false))),
      (λ a.
          let so = agreed (seen s) (seen_caller s.addresses.items c.in-Some.master) claim wanted retries timeout (c.in-Some.ensures.caller ∙ ap (λ (k : Running). live_master k.crew.generation.image (seen s).rows) c.claim.view_is) (subst (λ t. Agrees t (running claim wanted retries timeout)) (sym table) a) in
          elim c.if-master_agrees.branch [
            | then-master_agrees w ↦ w.value-is ∙ w.workers_agree.ensures.1 so.1
            | else-master_agrees w ↦ w.value-is ∙ c.master_agrees.ensures.1 so.0
          ]),
    )
