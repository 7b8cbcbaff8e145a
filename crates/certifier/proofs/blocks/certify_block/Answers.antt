use Rattle.std.proofs.Common.{◌≡◌, ◌⊎◌, inr, Option, sym, ◌∙◌, ap, subst, option_copied, IsErrOf}
use Rattle.std.specs.Prelude.{⊤, ◌↔◌}
use Rattle.definitions.specs.Master.{Record}
use Rattle.word_runner.specs.declared.asking.Asked.{Asked}
use Rattle.word_runner.specs.declared.block.Block.{Block}
use Rattle.word_runner.specs.declared.block.Body.{Body}
use Rattle.word_runner.specs.Asking.{IsActOn}
use Rattle.mismatches.specs.declared.Mismatch.TheVariants as mismatch
use Rattle.certifier.specs.Blocks.{asked_at, IsBodyFault, IsFault}
use Rattle.certifier.proofs.blocks.certify_block.Goals as goal

pub returns-in-Nothing-clause-exact : goal.returns-in-Nothing-clause-exact
returns-in-Nothing-clause-exact c why =
    let s = c.args.standing.now in
    let settings = option_copied c.args.settings in
    let word = c.in-Heard.word in
    let there : option_copied c.as_ref.result ≡ c.args.standing.now.record = c.as_ref.ensures.value in
    let asked : c.asked_at-asked.result ≡ asked_at settings word c.args.standing.now.record c.args.standing.now.workers =
    c.asked_at-asked.ensures.exact ∙ ap (λ (state : Option Record). asked_at settings word state c.args.standing.now.workers) there in
    inr (subst (λ (b : Block). IsErrOf c.certify_nothing.result why ↔ IsFault settings b s why) (sym c.in-Heard.is)
    (subst (λ (b : Body). IsErrOf c.certify_nothing.result why ↔ IsBodyFault settings word b s why) (sym c.in-Nothing.is)
    (subst (λ (a : Asked). IsErrOf c.certify_nothing.result why ↔ ((why ≡ mismatch.Short) × IsActOn (λ _. ⊤) a)) asked (c.certify_nothing.ensures.err why))))

pub returns-in-Ran-clause-exact : goal.returns-in-Ran-clause-exact
returns-in-Ran-clause-exact c why =
    let s = c.args.standing.now in
    let settings = option_copied c.args.settings in
    subst (λ (b : Block). IsErrOf c.certify_run.result mismatch.Memory ⊎ (IsErrOf c.certify_run.result why ↔ IsFault settings b s why)) (sym c.in-Heard.is)
    (subst (λ (b : Body). IsErrOf c.certify_run.result mismatch.Memory ⊎ (IsErrOf c.certify_run.result why ↔ IsBodyFault settings c.in-Heard.word b s why)) (sym c.in-Ran.is) (c.certify_run.ensures.exact why))
