use Rattle.std.proofs.Common.{◌≡◌, ◌⊎◌, length, sym, ◌∙◌, ap, subst, Err, IfErr, option_copied}
use Rattle.std.proofs.lemmas.Result.{err_from_is_err_and}
use Rattle.handover_text.specs.Reading.{handed_by}
use Rattle.kernel_model.specs.Pattern.{moment_at}
use Rattle.kernel_pattern.specs.declared.section.Section.{Section}
use Rattle.word_runner.specs.declared.block.Block.{Block}
use Rattle.word_runner.specs.declared.block.Block.TheVariants.{Heard}
use Rattle.word_runner.specs.declared.block.Body.{Body}
use Rattle.word_runner.specs.declared.block.Body.TheVariants.{Ran}
use Rattle.mismatches.specs.declared.Mismatch.{Mismatch}
use Rattle.mismatches.specs.declared.Mismatch.TheVariants.{Memory}
use Rattle.certifier.specs.Blocks.{IsFault, IsTaken}
use Rattle.certifier.proofs.BlockRuns.{fault-by}
use Rattle.life_account.specs.declared.opened.TablePlace.{TablePlace}
use Rattle.life_account.specs.Account.{seen_life, stepped, after_run}
use Rattle.life_account.specs.Lived.{lived_block}
use Rattle.life_account.proofs.Living.{tables-followed}
use Rattle.life_account.proofs.certifying.certify_lived.Goals as goal

pub returns-in_err-section-clause-err : goal.returns-in_err-section-clause-err
returns-in_err-section-clause-err c =
    let s = c.args.standing.now in
    let settings = option_copied c.args.settings in
    let b = c.args.block.now in
    let p = err_from_is_err_and c.from_residual-in_err-section.result c.from_residual-in_err-section.ensures.1 in
    let why = c.in_err-section.field-0.0 in
    let same : p.0 ≡ why = cc in
    subst (λ x. IfErr x (λ (w : Mismatch). (w ≡ Memory) ⊎ IsFault settings b s w)) (sym (p.1 ∙ ap Err same))
    (fault-by settings b s why c.in_err-section.ensures.exact)

pub returns-clause-ok : goal.returns-clause-ok
returns-clause-ok c =
    let old = c.args.standing.now in
    let new = c.certify_block-2.new.standing in
    let settings = option_copied c.args.settings in
    let word = c.in-Heard.word in
    let log = c.in-Ran.log in
    let report = c.in-Ran.field-1 in
    let section : Section = c.in_ok-section.section in
    let state = c.in-Some.state in
    let pattern = moment_at section.pattern in
    let before = seen_life c.args.life.now in
    let place : TablePlace = record { word = c.args.number; call = length log.entries } in
    let block : c.args.block.now ≡ Heard word (Ran log report) = c.in-Heard.is ∙ ap (λ (body : Body). Heard word body) c.in-Ran.is in
    let taken = c.in_ok-section.ensures.ok in
    let followed = subst (λ (b : Block). IsTaken settings b old section new) block taken in
    let tables = tables-followed settings word log report old section new state c.in-Act.target c.in-Some.is (sym c.asked_by.ensures.exact ∙ c.in-Act.is) followed in
    let handed = ap handed_by c.text.ensures ∙ c.in_ok-plan.ensures in
    let passed = (λ i. stepped (handed i) pattern 0 (c.in_ok-kernel.ensures.table i) log.entries) ∙ tables in
    let own = c.in_ok-add_run.ensures ∙ (λ i. after_run place (passed i) new.record new.world.table before) in
    record {
      taken = taken;
      account = own ∙ ap (λ (b : Block). lived_block c.args.number settings b old section new before) (sym block);
    }
