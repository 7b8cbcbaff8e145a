use Rattle.std.proofs.Common.{◌≡◌, [], true, sym, ◌∙◌, ap}
use Rattle.definitions.specs.Run.{reply_of, same_reply}
use Rattle.definitions.specs.Calls.{step_with}
use Rattle.handover_text.specs.Reading.{handed_by}
use Rattle.std.specs.Prelude.{None}
use Rattle.certifier.proofs.Shows.{itself-quiet}
use Rattle.certifier.proofs.showing.fault_shown.Goals as goal

pub returns-then-eq-clause-shown : goal.returns-then-eq-clause-shown
returns-then-eq-clause-shown c =
    let e = c.args.entry.now in
    let own = (step_with (handed_by c.args.text.now) e.by e.call None c.args.kernel.now.table).answer in
    let replied = c.reply_to.ensures ∙ ap (λ set. reply_of set e.answer) c.none.ensures in
    let same : same_reply (reply_of [] own) (reply_of [] e.answer) ≡ true =
    (λ i. same_reply (sym c.own_reply-own.ensures i) (sym replied i)) ∙ (sym c.eq.ensures ∙ c.if-eq.true) in
    itself-quiet own e c.requires same
